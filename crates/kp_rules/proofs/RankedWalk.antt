-- On a ranked table each jump goes to a chain of greater rank, and there are no more ranks than chains may stand
-- on a way: so no walk gets stuck.
use Rattle.std.proofs.Common.{◌≡◌, ◌≢◌, ◌≤◌, ◌<◌, ◌+◌, ◌||◌, ℕ, suc, zero, Bool, true, false, cond, List, [], ◌∷◌, Option, Some, None, is_some, bytes_eq, nat_eq, inl, inr, refl, sym, ap, ◌∙◌, subst, arith}
use Rattle.std.specs.FinMap.{entries, get, get-entries}
use Rattle.std.specs.List.{list_all, starts_with, AllByRecursion}
use Rattle.std.specs.Map.{lookup}
use Rattle.std.specs.Option.{option_or}
use Rattle.std.proofs.lemmas.Bool.{false≢true, and_parts, ltb-true}
use Rattle.kp_types.specs.declared.chain.TableName.{TableName}
use Rattle.kp_types.specs.declared.chain.ChainAt.{ChainAt}
use Rattle.kp_types.specs.declared.rule.Rule.{Rule}
use Rattle.kp_types.specs.declared.rule.Target.{Target}
use Rattle.kp_types.specs.declared.rule.Target.TheVariants as target
use Rattle.kp_table_defs.specs.Matching.{WalkState, Surroundings, try_all}
use Rattle.kp_table_defs.specs.Ranks.{rank_of, shared_ranks, prefix_ranks, is_built_in, is_above, is_reached, goes_on, jumps_go_on, is_ranked, is_ranked_chain}
use Rattle.kp_table_defs.specs.RankedWalk.{RankedWalksEnd}
use Rattle.kp_table_defs.specs.Rebuild.{Chains}
use Rattle.kp_table_defs.specs.Walk.{Outcome, Next, Left, Ended, Stuck, and_then, returned_from, target_outcome, target_if, rule_outcome, rules_outcome, found_outcome, chain_outcome, most_chains}
use Rattle.kp_rules.proofs.ChangesLead.{Some_of, entry_of}

-- an outcome other than getting stuck
abbrev Ends : Outcome → Type 0
Ends (Next s) = Unit {0}
Ends (Left s) = Unit {0}
Ends (Ended end path s) = Unit {0}
Ends Stuck = ⊥

and_then_ends : (o : Outcome) (next : WalkState → Outcome) → Ends o → ((s : WalkState) → Ends (next s)) → Ends (and_then o next)
and_then_ends (Next s) next h f = f s
and_then_ends (Left s) next h f = tt
and_then_ends (Ended end path s) next h f = tt
and_then_ends Stuck next h f = absurd h

returned_ends : (chain : List ℕ) (o : Outcome) → Ends o → Ends (returned_from chain o)
returned_ends chain (Next s) h = tt
returned_ends chain (Left s) h = tt
returned_ends chain (Ended end path s) h = tt
returned_ends chain Stuck h = absurd h

-- ---- one rule, where jumps to chains of greater rank end

module _ (chains : Chains) (table : TableName) (rank : ℕ) (jump : List ℕ → WalkState → Outcome)
    (ends : (chain : List ℕ) → is_reached chains rank (record { table = table; chain = chain }) ≡ true → (s : WalkState) → Ends (jump chain s)) where
  target_ends : (t : Target) → goes_on chains table rank t ≡ true → (s : WalkState) → Ends (target_outcome jump t s)
  target_ends (target.Jump chain) h s = ends chain h s
  target_ends target.Return h s = tt
  target_ends target.Accept h s = tt
  target_ends target.Drop h s = tt
  target_ends target.Reject h s = tt
  target_ends target.SetMark h s = tt
  target_ends target.FlipMark h s = tt
  target_ends (target.Dnat endpoint) h s = tt
  target_ends target.Masquerade h s = tt

  tried_ends : (b : Bool) (t : Target) → goes_on chains table rank t ≡ true → (s : WalkState) → Ends (target_if b jump t s)
  tried_ends true t h s = target_ends t h s
  tried_ends false t h s = tt

  rules_end : (e : Surroundings) (rules : List Rule) → list_all (λ r. goes_on chains table rank r.target) rules ≡ true → (s : WalkState) → Ends (rules_outcome e jump rules s)
  rules_end e [] h s = tt
  rules_end e (r ∷ rules) h s =
      let p = and_parts _ _ h in
      and_then_ends (rule_outcome e jump r s) (rules_outcome e jump rules)
      (tried_ends (try_all e r.matches.items s).holds r.target p.0 (try_all e r.matches.items s).state) (rules_end e rules p.1)

-- ---- ranks

looked_up : {X : Type 0} (test : X → Bool) (es : List (X × ℕ)) (n : ℕ) → AllByRecursion (λ e. e.1 ≤ 7) es → lookup test es ≡ Some n → n ≤ 7
looked_up test [] n a h = absurd (cc)
looked_up test (e ∷ es) n a h = by (test e.0) h (looked_up test es n a.1)
  where
    by : (b : Bool) → cond b (Some e.1) (lookup test es) ≡ Some n → (lookup test es ≡ Some n → n ≤ 7) → n ≤ 7
    by true k rest = let same : e.1 ≡ n = cc in omega (arith, a.0)
    by false k rest = rest k

either : (o p : Option ℕ) (n : ℕ) → (o ≡ Some n → n ≤ 7) → (p ≡ Some n → n ≤ 7) → option_or o p ≡ Some n → n ≤ 7
either None p n f g h = g h
either (Some m) p n f g h = f h

-- there are eight ranks
ranks : (at : ChainAt) (n : ℕ) → rank_of at ≡ Some n → n ≤ 7
ranks at n h = by (is_built_in at.table at.chain) h
  where
    by : (b : Bool) → cond b (Some 0) (option_or (lookup (bytes_eq at.chain) shared_ranks) (lookup (starts_with nat_eq at.chain) prefix_ranks)) ≡ Some n → n ≤ 7
    by true k = let same : 0 ≡ n = cc in omega arith
    by false k =
        either (lookup (bytes_eq at.chain) shared_ranks) (lookup (starts_with nat_eq at.chain) prefix_ranks) n
        (looked_up (bytes_eq at.chain) shared_ranks n (omega arith, (omega arith, (omega arith, (omega arith, (omega arith, (omega arith, (omega arith, tt))))))))
        (looked_up (starts_with nat_eq at.chain) prefix_ranks n (omega arith, (omega arith, (omega arith, (omega arith, (omega arith, tt)))))) k

-- ---- one chain

all_of : (P : ChainAt × List Rule → Bool) (q : ChainAt) (v : List Rule) (es : List (ChainAt × List Rule)) → list_all P es ≡ true → Some_of (λ e. (e.0 ≡ q) × (e.1 ≡ v)) es → P (q, v) ≡ true
all_of P q v [] h s = absurd s
all_of P q v (e ∷ es) h (inl s) = let same : ◌≡◌ {A = ChainAt × List Rule} (q, v) e = λ i. (sym s.0 i, sym s.1 i) in ap P same ∙ (and_parts _ _ h).0
all_of P q v (e ∷ es) h (inr s) = all_of P q v es (and_parts _ _ h).1 s

-- a chain of a ranked table is ranked
ranked_there : (chains : Chains) (q : ChainAt) (rules : List Rule) → is_ranked chains ≡ true → get chains q ≡ Some rules → is_ranked_chain chains (q, rules) ≡ true
ranked_there chains q rules h g = all_of (is_ranked_chain chains) q rules (entries chains) h (entry_of q rules (entries chains) (sym (get-entries chains q) ∙ g))

has_value : {X : Type 0} (o : Option X) → is_some o ≡ true → (x : X) × (o ≡ Some x)
has_value None h = absurd (false≢true h)
has_value (Some x) h = (x, refl)

above : (rank : ℕ) (o : Option ℕ) → is_above rank o ≡ true → (n : ℕ) × ((o ≡ Some n) × (rank < n))
above rank None h = absurd (false≢true h)
above rank (Some n) h = (n, (refl, ltb-true rank n h))

-- with as many chains left as there are ranks behind its own, a chain ends
chain_ends : (chains : Chains) → is_ranked chains ≡ true → (e : Surroundings) (table : TableName) (n : ℕ) (chain : List ℕ) (rank : ℕ) (rules : List Rule)
    → 8 ≤ rank + n → rank_of (record { table = table; chain = chain }) ≡ Some rank → get chains (record { table = table; chain = chain }) ≡ Some rules
    → (s : WalkState) → Ends (chain_outcome e (get chains) table n chain s)
chain_ends chains h e table zero chain rank rules le r g s = absurd (omega (arith, ranks (record { table = table; chain = chain }) rank r))
chain_ends chains h e table (suc n) chain rank rules le r g s =
    subst (λ o. Ends (found_outcome e (chain_outcome e (get chains) table n) chain o s)) (sym g)
    (returned_ends chain _
    (rules_end chains table rank (chain_outcome e (get chains) table n)
    (λ to reached t.
    let p = and_parts _ _ reached in
    let found = has_value (get chains (record { table = table; chain = to })) p.0 in
    let higher = above rank (rank_of (record { table = table; chain = to })) p.1 in
    chain_ends chains h e table n to higher.0 found.0 (omega (arith, higher.1.1)) higher.1.0 found.1 t)
    e rules (subst (λ o. jumps_go_on chains table o rules ≡ true) r (ranked_there chains (record { table = table; chain = chain }) rules h g)) s))

-- ---- the chain of a hook

not_stuck : (o : Outcome) → Ends o → o ≢ Stuck
not_stuck o h e = subst Ends e h

pub ranked_walks_end : RankedWalksEnd
ranked_walks_end chains ranked table chain built there e s =
    let found = has_value (get chains (record { table = table; chain = chain })) there in
    not_stuck _ (chain_ends chains ranked e table most_chains chain 0 found.0 (omega arith)
    (ap (λ b. cond b (Some 0) (option_or (lookup (bytes_eq chain) shared_ranks) (lookup (starts_with nat_eq chain) prefix_ranks))) built) found.1 s)
