-- Walks through chains from which no jump leads to those that differ between two tables.
use Rattle.std.proofs.Common.{◌≡◌, ℕ, zero, suc, Bool, true, false, List, [], ◌∷◌, Option, Some, None, refl, ap, ◌∙◌}
use Rattle.std.specs.List.{AllByRecursion}
use Rattle.kp_types.specs.declared.chain.TableName.{TableName}
use Rattle.kp_types.specs.declared.chain.ChainAt.{ChainAt}
use Rattle.kp_types.specs.declared.rule.Rule.{Rule}
use Rattle.kp_types.specs.declared.rule.Target.{Target}
use Rattle.kp_types.specs.declared.rule.Target.TheVariants as target
use Rattle.kp_table_defs.specs.Matching.{WalkState, Surroundings, try_all}
use Rattle.kp_table_defs.specs.Walk.{Outcome, and_then, chain_outcome, found_outcome, returned_from, rules_outcome, target_if}

-- a target isn't a jump to a chain that a test tells
abbrev pub avoids : (List ℕ → Bool) → Target → Type 0
avoids test (target.Jump chain) = test chain ≡ false
avoids test target.Return = Unit {0}
avoids test target.Accept = Unit {0}
avoids test target.Drop = Unit {0}
avoids test target.Reject = Unit {0}
avoids test target.SetMark = Unit {0}
avoids test target.FlipMark = Unit {0}
avoids test (target.Dnat endpoint) = Unit {0}
avoids test target.Masquerade = Unit {0}

-- no rule of a chain is such a jump
abbrev pub AllAvoid : (List ℕ → Bool) → List Rule → Type 0
AllAvoid test rules = AllByRecursion (λ r. avoids test r.target) rules

module _ (e : Surroundings) (test : List ℕ → Bool) (jump other : List ℕ → WalkState → Outcome)
    (same : (chain : List ℕ) → test chain ≡ false → (s : WalkState)
    → jump chain s ≡ other chain s) where
  target_alike : (b : Bool) (t : Target) → avoids test t → (s : WalkState)
      → target_if b jump t s ≡ target_if b other t s
  target_alike false t h s = refl
  target_alike true (target.Jump chain) h s = same chain h s
  target_alike true target.Return h s = refl
  target_alike true target.Accept h s = refl
  target_alike true target.Drop h s = refl
  target_alike true target.Reject h s = refl
  target_alike true target.SetMark h s = refl
  target_alike true target.FlipMark h s = refl
  target_alike true (target.Dnat endpoint) h s = refl
  target_alike true target.Masquerade h s = refl

  -- rules that avoid the chains do the same
  pub rules_alike : (rules : List Rule) → AllAvoid test rules → (s : WalkState)
      → rules_outcome e jump rules s ≡ rules_outcome e other rules s
  rules_alike [] h s = refl
  rules_alike (r ∷ rules) h s =
      λ i. and_then
      (target_alike (try_all e r.matches.items s).holds r.target h.0
      (try_all e r.matches.items s).state i)
      (λ t. rules_alike rules h.1 t i)

-- Two look-ups in a table find the same but at the chains that a test tells, and no rule of the
-- table jumps to these.
pub record AreApart (test : List ℕ → Bool) (table : TableName)
    (at other : ChainAt → Option (List Rule)) : Type 0 where
  pub same : (chain : List ℕ) → test chain ≡ false
      → at (record { table = table; chain = chain })
      ≡ other (record { table = table; chain = chain })
  pub avoided : (chain : List ℕ) (rules : List Rule)
      → other (record { table = table; chain = chain }) ≡ Some rules → AllAvoid test rules

module _ (e : Surroundings) (test : List ℕ → Bool) (table : TableName)
    (at other : ChainAt → Option (List Rule)) (apart : AreApart test table at other) where
  -- the other chains do the same
  pub chains_alike : (n : ℕ) (chain : List ℕ) → test chain ≡ false → (s : WalkState)
      → chain_outcome e at table n chain s ≡ chain_outcome e other table n chain s
  chains_alike zero chain h s = refl
  chains_alike (suc n) chain h s =
      ap (λ o. found_outcome e (chain_outcome e at table n) chain o s) (apart.same chain h)
      ∙ by (chains_alike n) (other (record { table = table; chain = chain })) refl
    where
      by : ((c : List ℕ) → test c ≡ false → (t : WalkState)
          → chain_outcome e at table n c t ≡ chain_outcome e other table n c t)
          → (o : Option (List Rule)) → other (record { table = table; chain = chain }) ≡ o
          → found_outcome e (chain_outcome e at table n) chain o s
          ≡ found_outcome e (chain_outcome e other table n) chain o s
      by jumps None k = refl
      by jumps (Some rules) k =
          ap (returned_from chain) (rules_alike e test (chain_outcome e at table n)
          (chain_outcome e other table n) jumps rules (apart.avoided chain rules k) s)

-- Look-ups that find the same in a table.
pub same_chains : (e : Surroundings) (table : TableName) (at other : ChainAt → Option (List Rule))
    → ((chain : List ℕ) → at (record { table = table; chain = chain })
    ≡ other (record { table = table; chain = chain })) → (n : ℕ) (chain : List ℕ) (s : WalkState)
    → chain_outcome e at table n chain s ≡ chain_outcome e other table n chain s
same_chains e table at other same zero chain s = refl
same_chains e table at other same (suc n) chain s =
    λ i. found_outcome e (λ c t. same_chains e table at other same n c t i) chain (same chain i) s
