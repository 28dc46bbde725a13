-- A walk from a place of a chain is the walk from the next place of a rule that concerns the packet.
use Rattle.std.proofs.Common.{◌≡◌, ◌≤◌, ◌<◌, ◌-◌, ◌^◌, ◌/◌, ◌&&◌, ◌==◌, ℕ, zero, suc, Bool, true, false, cond, List, [], ◌∷◌, drop, length, Option, Some, None, option_map, option_and_then, refl, sym, ap, ◌∙◌, subst, arith}
use Rattle.std.proofs.lemmas.Bool.{true≢false, false≢true, and_parts, and_from, eqb-true, eq-eqb, false_from_ne_true}
use Rattle.kp_base.specs.Net.{AddressParts, RangeParts, width, range_contains, same_address}
use Rattle.kp_base.proofs.SameParts.{same_family_exact}
use Rattle.kp_types.specs.Ports.{same_proto}
use Rattle.kp_types.specs.declared.rule.Match.{Match}
use Rattle.kp_types.specs.declared.rule.Match.TheVariants.{Src, Dst, Proto, Port, SrcLocal, DstLocal, Marked, Statistic, Seen, SetSeen}
use Rattle.kp_types.specs.declared.rule.Rule.{Rule}
use Rattle.kp_table_defs.specs.Matching.{WalkState, Surroundings, Tried, try_all, tried_as, and_also}
use Rattle.kp_table_defs.specs.Walk.{Outcome, Next, and_then, rules_outcome, matched_outcome}
use Rattle.kp_rules.specs.Destinations.{destination_asked, destination_at, port_asked, is_asked, concerns, next_for}
use Rattle.kp_rules.specs.Skipped.{destination_in, outcome_from, SkippedRulesDoNothing}
use Rattle.kp_rules.specs.declared.destination.Destination.{Destination}

-- ---- a range of one address

whole : (a b w : ℕ) → (a / 2 ^ (w - w) == b / 2 ^ (w - w)) ≡ true → a ≡ b
whole a b w h =
    let none : w - w ≡ 0 = omega arith in
    let one : 2 ^ (w - w) ≡ 1 = ap (λ k. 2 ^ k) none in
    let same = eqb-true (a / 2 ^ (w - w)) (b / 2 ^ (w - w)) h in
    sym (by_one a) ∙ ap (λ n. a / n) (sym one) ∙ same ∙ ap (λ n. b / n) one ∙ by_one b
  where
    by_one : (n : ℕ) → n / 1 ≡ n
    by_one n = omega arith

single : (range : RangeParts) (a : AddressParts) → range.bits ≡ width range.base.family → range_contains range a ≡ true → same_address range.base a ≡ true
single range a whole_length h =
    let p = and_parts _ _ h in
    let family = same_family_exact range.base.family a.family p.0 in
    let bits : range.bits ≡ width a.family = whole_length ∙ ap width family in
    and_from _ _ p.0 (eq-eqb _ _ (sym (whole a.number range.base.number (width a.family) (subst (λ n. (a.number / 2 ^ (width a.family - n) == range.base.number / 2 ^ (width a.family - n)) ≡ true) bits p.1))))

-- ---- matches that ask for another destination

both_fail : (s : WalkState) (a b : Bool) (next : WalkState → Tried) → (a && b) ≡ false → and_also (tried_as s a) (λ s'. and_also (tried_as s' b) next) ≡ tried_as s false
both_fail s true true next h = absurd (true≢false h)
both_fail s true false next h = refl
both_fail s false b next h = refl

module _ (e : Surroundings) (s : WalkState) where
  -- where the packet goes
  abbrev going : Destination
  going = destination_in e s

  -- behind a match of one address
  after_address : (range : RangeParts) → range.bits ≡ width range.base.family → (n : Match) (ms : List Match) → is_asked going (option_map (destination_at range.base) (port_asked n)) ≡ false
      → try_all e (Dst range false ∷ n ∷ ms) s ≡ tried_as s false
  after_address range one (Src r negated) ms h = absurd (true≢false h)
  after_address range one (Dst r negated) ms h = absurd (true≢false h)
  after_address range one (Proto proto) ms h = absurd (true≢false h)
  after_address range one (Port proto port) ms h =
      both_fail s (range_contains range s.target) (same_proto proto e.proto && (port == s.port)) (try_all e ms)
      (false_from_ne_true _ (λ t. let p = and_parts _ _ t in absurd (false≢true (sym h ∙ and_from _ _ (single range s.target one p.0) p.1))))
  after_address range one SrcLocal ms h = absurd (true≢false h)
  after_address range one DstLocal ms h = absurd (true≢false h)
  after_address range one (Marked negated) ms h = absurd (true≢false h)
  after_address range one (Statistic p) ms h = absurd (true≢false h)
  after_address range one (Seen list seconds) ms h = absurd (true≢false h)
  after_address range one (SetSeen list) ms h = absurd (true≢false h)

  of_range : (range : RangeParts) (b : Bool) → (range.bits == width range.base.family) ≡ b → (n : Match) (ms : List Match)
      → is_asked going (option_and_then (λ a. option_map (destination_at a) (port_asked n)) (cond b (Some range.base) None)) ≡ false
      → try_all e (Dst range false ∷ n ∷ ms) s ≡ tried_as s false
  of_range range true one n ms h = after_address range (eqb-true range.bits (width range.base.family) one) n ms h
  of_range range false one n ms h = absurd (true≢false h)

  -- matches that ask for another destination fail, and change nothing
  pub asked_elsewhere : (ms : List Match) → is_asked going (destination_asked ms) ≡ false → try_all e ms s ≡ tried_as s false
  asked_elsewhere [] h = absurd (true≢false h)
  asked_elsewhere (m ∷ []) h = absurd (true≢false h)
  asked_elsewhere (Src range negated ∷ n ∷ ms) h = absurd (true≢false h)
  asked_elsewhere (Dst range true ∷ n ∷ ms) h = absurd (true≢false h)
  asked_elsewhere (Dst range false ∷ n ∷ ms) h = of_range range (range.bits == width range.base.family) refl n ms h
  asked_elsewhere (Proto proto ∷ n ∷ ms) h = absurd (true≢false h)
  asked_elsewhere (Port proto port ∷ n ∷ ms) h = absurd (true≢false h)
  asked_elsewhere (SrcLocal ∷ n ∷ ms) h = absurd (true≢false h)
  asked_elsewhere (DstLocal ∷ n ∷ ms) h = absurd (true≢false h)
  asked_elsewhere (Marked negated ∷ n ∷ ms) h = absurd (true≢false h)
  asked_elsewhere (Statistic p ∷ n ∷ ms) h = absurd (true≢false h)
  asked_elsewhere (Seen list seconds ∷ n ∷ ms) h = absurd (true≢false h)
  asked_elsewhere (SetSeen list ∷ n ∷ ms) h = absurd (true≢false h)

  module _ (jump : List ℕ → WalkState → Outcome) where
    -- a rule that doesn't concern the packet
    passed : (r : Rule) (rules : List Rule) → concerns going r ≡ false → rules_outcome e jump (r ∷ rules) s ≡ rules_outcome e jump rules s
    passed r rules h = ap (λ t. and_then (matched_outcome jump r.target t) (rules_outcome e jump rules)) (asked_elsewhere r.matches.items h)

    -- one rule more before them
    further : (r : Rule) (rules : List Rule) (o : Option ℕ) → outcome_from e jump rules s o ≡ outcome_from e jump (r ∷ rules) s (option_map suc o)
    further r rules None = refl
    further r rules (Some q) = refl

    none_left : (from : ℕ) → rules_outcome e jump (drop from []) s ≡ Next s
    none_left zero = refl
    none_left (suc from) = refl

    -- from the next rule that concerns the packet
    pub from_next : (rules : List Rule) (from : ℕ) → rules_outcome e jump (drop from rules) s ≡ outcome_from e jump rules s (next_for going rules from)
    from_next [] from = none_left from
    from_next (r ∷ rules) zero = by (concerns going r) refl (from_next rules zero)
      where
        by : (b : Bool) → concerns going r ≡ b → rules_outcome e jump rules s ≡ outcome_from e jump rules s (next_for going rules zero)
            → rules_outcome e jump (r ∷ rules) s ≡ outcome_from e jump (r ∷ rules) s (cond b (Some 0) (option_map suc (next_for going rules zero)))
        by true c rest = refl
        by false c rest = passed r rules c ∙ rest ∙ further r rules (next_for going rules zero)
    from_next (r ∷ rules) (suc from) = from_next rules from ∙ further r rules (next_for going rules from)

    -- the same, by what the next place is
    pub passed_over : (rules : List Rule) (from q : ℕ) → next_for going rules from ≡ Some q → rules_outcome e jump (drop from rules) s ≡ rules_outcome e jump (drop q rules) s
    passed_over rules from q h = from_next rules from ∙ ap (outcome_from e jump rules s) h

    pub passed_all : (rules : List Rule) (from : ℕ) → next_for going rules from ≡ None → rules_outcome e jump (drop from rules) s ≡ Next s
    passed_all rules from h = from_next rules from ∙ ap (outcome_from e jump rules s) h

-- ---- the next place stands in the chain

abbrev InChain : ℕ → ℕ → Option ℕ → Type 0
InChain from n None = Unit {0}
InChain from n (Some q) = (from ≤ q) × (q < n)

shifted : (from n : ℕ) (o : Option ℕ) → InChain from n o → InChain (suc from) (suc n) (option_map suc o)
shifted from n None h = tt
shifted from n (Some q) h = (omega (arith, h.0), omega (arith, h.1))

loosened : (n : ℕ) (o : Option ℕ) → InChain 1 n o → InChain 0 n o
loosened n None h = tt
loosened n (Some q) h = (omega arith, h.1)

in_chain : (to : Destination) (rules : List Rule) (from : ℕ) → InChain from (length rules) (next_for to rules from)
in_chain to [] from = tt
in_chain to (r ∷ rules) zero = by (concerns to r) (in_chain to rules zero)
  where
    by : (b : Bool) → InChain zero (length rules) (next_for to rules zero) → InChain zero (suc (length rules)) (cond b (Some 0) (option_map suc (next_for to rules zero)))
    by true rest = (omega arith, omega arith)
    by false rest = loosened (suc (length rules)) (option_map suc (next_for to rules zero)) (shifted zero (length rules) (next_for to rules zero) rest)
in_chain to (r ∷ rules) (suc from) = shifted from (length rules) (next_for to rules from) (in_chain to rules from)

pub next_below : (to : Destination) (rules : List Rule) (from q : ℕ) → next_for to rules from ≡ Some q → (from ≤ q) × (q < length rules)
next_below to rules from q h = subst (InChain from (length rules)) h (in_chain to rules from)

pub skipped_rules_do_nothing : SkippedRulesDoNothing
skipped_rules_do_nothing e s jump rules from = from_next e s jump rules from
