-- A walk that isn't stuck goes the same way where more jumps are allowed.
use Rattle.std.proofs.Common.{◌≡◌, ℕ, zero, suc, ◌+◌, Bool, true, false, List, [], ◌∷◌, Option, Some, None, refl, ap, subst, ◌∙◌, arith}
use Rattle.kp_types.specs.declared.chain.TableName.{TableName}
use Rattle.kp_types.specs.declared.chain.ChainAt.{ChainAt}
use Rattle.kp_types.specs.declared.rule.Rule.{Rule}
use Rattle.kp_types.specs.declared.rule.Target.{Target}
use Rattle.kp_types.specs.declared.rule.Target.TheVariants as target
use Rattle.kp_table_defs.specs.Matching.{WalkState, Surroundings, try_all}
use Rattle.kp_table_defs.specs.Walk.{Outcome, Next, Left, Ended, Stuck, and_then, returned_from, target_outcome, target_if, rule_outcome, rules_outcome, found_outcome, chain_outcome}
use Rattle.kp_table_laws.specs.Laws.{is_settled}

-- what isn't stuck in the end wasn't stuck before
pub settled_first : (o : Outcome) (next : WalkState → Outcome) → is_settled (and_then o next) ≡ true → is_settled o ≡ true
settled_first (Next s) next h = refl
settled_first (Left s) next h = refl
settled_first (Ended end path s) next h = refl
settled_first Stuck next h = h

pub settled_inside : (chain : List ℕ) (o : Outcome) → is_settled (returned_from chain o) ≡ true → is_settled o ≡ true
settled_inside chain (Next s) h = refl
settled_inside chain (Left s) h = refl
settled_inside chain (Ended end path s) h = refl
settled_inside chain Stuck h = h

module _ (e : Surroundings) where
  -- a jump that does what another does where that isn't stuck
  abbrev pub Extends : (List ℕ → WalkState → Outcome) → (List ℕ → WalkState → Outcome) → Type 0
  Extends f g = (chain : List ℕ) (s : WalkState) → is_settled (f chain s) ≡ true → g chain s ≡ f chain s

  target_extends : (f g : List ℕ → WalkState → Outcome) → Extends f g → (t : Target) (s : WalkState) → is_settled (target_outcome f t s) ≡ true → target_outcome g t s ≡ target_outcome f t s
  target_extends f g more (target.Jump chain) s h = more chain s h
  target_extends f g more t s h = refl

  if_extends : (f g : List ℕ → WalkState → Outcome) → Extends f g → (b : Bool) (t : Target) (s : WalkState) → is_settled (target_if b f t s) ≡ true → target_if b g t s ≡ target_if b f t s
  if_extends f g more true t s h = target_extends f g more t s h
  if_extends f g more false t s h = refl

  -- the rules behind a rule, by how that went
  behind : (f g : List ℕ → WalkState → Outcome) (rs : List Rule) → ((s : WalkState) → is_settled (rules_outcome e f rs s) ≡ true → rules_outcome e g rs s ≡ rules_outcome e f rs s) → (o : Outcome) → is_settled (and_then o (rules_outcome e f rs)) ≡ true → and_then o (rules_outcome e g rs) ≡ and_then o (rules_outcome e f rs)
  behind f g rs rest (Next s) h = rest s h
  behind f g rs rest o h = refl

  pub rules_extend : (f g : List ℕ → WalkState → Outcome) → Extends f g → (rs : List Rule) (s : WalkState) → is_settled (rules_outcome e f rs s) ≡ true → rules_outcome e g rs s ≡ rules_outcome e f rs s
  rules_extend f g more [] s h = refl
  rules_extend f g more (r ∷ rs) s h =
      let tried = try_all e r.matches.items s in
      ap (λ o. and_then o (rules_outcome e g rs))
      (if_extends f g more tried.holds r.target tried.state (settled_first (rule_outcome e f r s) (rules_outcome e f rs) h))
      ∙ behind f g rs (rules_extend f g more rs) (rule_outcome e f r s) h

  found_extends : (f g : List ℕ → WalkState → Outcome) → Extends f g → (chain : List ℕ) (o : Option (List Rule)) (s : WalkState) → is_settled (found_outcome e f chain o s) ≡ true → found_outcome e g chain o s ≡ found_outcome e f chain o s
  found_extends f g more chain None s h = refl
  found_extends f g more chain (Some rs) s h =
      ap (returned_from chain) (rules_extend f g more rs s (settled_inside chain (rules_outcome e f rs s) h))

  module _ (at : ChainAt → Option (List Rule)) (table : TableName) where
    pub one_deeper : (n : ℕ) → Extends (chain_outcome e at table n) (chain_outcome e at table (suc n))
    one_deeper zero chain s h = absurd (cc)
    one_deeper (suc n) chain s h =
        found_extends (chain_outcome e at table n) (chain_outcome e at table (suc n)) (one_deeper n) chain
        (at (record { table = table; chain = chain })) s h

    pub deeper : (k n : ℕ) (rs : List Rule) (s : WalkState) (o : Outcome) → rules_outcome e (chain_outcome e at table n) rs s ≡ o → is_settled o ≡ true → rules_outcome e (chain_outcome e at table (n + k)) rs s ≡ o
    deeper zero n rs s o is h =
        let none : n ≡ n + 0 = omega arith in
        subst (λ m. rules_outcome e (chain_outcome e at table m) rs s ≡ o) none is
    deeper (suc k) n rs s o is h =
        let before = deeper k n rs s o is h in
        let one_more : suc (n + k) ≡ n + suc k = omega arith in
        subst (λ m. rules_outcome e (chain_outcome e at table m) rs s ≡ o) one_more
        (rules_extend (chain_outcome e at table (n + k)) (chain_outcome e at table (suc (n + k))) (one_deeper (n + k)) rs s
        (ap is_settled before ∙ h) ∙ before)
