-- Rules that choose one of some endpoints, one after another.
use Rattle.std.proofs.Common.{◌≡◌, ℕ, ◌+◌, ◌<◌, ◌≤◌, ◌-◌, zero, suc, arith, List, [], ◌∷◌, ◌++◌, map, drop, length, get_or, refl, sym, ap, ◌∙◌, append_assoc, add-one}
use Rattle.std.proofs.lemmas.List.{length-drop, length-map}
use Rattle.std.proofs.Math.Seq.{drop-cons}
use Rattle.kp_base.specs.declared.key.Endpoint.{Endpoint}
use Rattle.kp_types.specs.Rules.{rule_of}
use Rattle.kp_types.specs.declared.rule.Match.TheVariants.{Statistic}
use Rattle.kp_types.specs.declared.rule.Target.TheVariants.{Jump}
use Rattle.kp_types.specs.declared.rule.Rule.{Rule}
use Rattle.kp_choice_defs.specs.Draws.{probability_of}
use Rattle.kp_table_defs.specs.Layout.{choice_rules}
use Rattle.kp_chains.specs.Named.{named_by, choice_of, choices}
use Rattle.kp_chains.specs.declared.named.NamedEndpoint.{NamedEndpoint}

more_left : (left : ℕ) (e : NamedEndpoint) → 1 < left → rule_of (Statistic (probability_of left) ∷ []) (Jump e.chain) ≡ choice_of left e
more_left zero e h = absurd (omega (arith, h))
more_left (suc zero) e h = absurd (omega (arith, h))
more_left (suc (suc n)) e h = refl

last_left : (left : ℕ) (e : NamedEndpoint) → left ≤ 1 → rule_of [] (Jump e.chain) ≡ choice_of left e
last_left zero e h = refl
last_left (suc zero) e h = refl
last_left (suc (suc n)) e h = absurd (omega (arith, h))

-- more than one endpoint is left
pub choice_of_some : (left : ℕ) (e : NamedEndpoint) (r : Rule) (p : ℕ) (name : List ℕ) → r ≡ rule_of (Statistic p ∷ []) (Jump name) → p ≡ probability_of left → name ≡ e.chain → 1 < left → r ≡ choice_of left e
choice_of_some left e r p name is n m more = is ∙ (λ i. rule_of (Statistic (n i) ∷ []) (Jump (m i))) ∙ more_left left e more

-- one is left
pub choice_of_last : (left : ℕ) (e : NamedEndpoint) (r : Rule) (name : List ℕ) → r ≡ rule_of [] (Jump name) → name ≡ e.chain → left ≤ 1 → r ≡ choice_of left e
choice_of_last left e r name is m last = is ∙ (λ i. rule_of [] (Jump (m i))) ∙ last_left left e last

-- the rules for endpoints are the rule for the first, where so many are left, and those for the others
first_of : (n : ℕ) (e : NamedEndpoint) (es : List NamedEndpoint) → n ≡ length (e ∷ es) → choices (e ∷ es) ≡ choice_of n e ∷ choices es
first_of n e es h = ap (λ m. choice_of m e ∷ choices es) (sym h)

-- one more rule
pub next_choice : (all : List Rule) (rules : List Rule) (left : ℕ) (es : List NamedEndpoint) (i : ℕ) (e : NamedEndpoint) (r : Rule) {new : List Rule} → new ≡ rules ++ r ∷ [] → rules ++ choices (drop i es) ≡ all → left ≡ length (drop i es) → i < length es → e ≡ get_or es i e → r ≡ choice_of left e
    → new ++ choices (drop (i + 1) es) ≡ all
next_choice all rules left es i e r pushed so_far count lt at is =
    let tail : List NamedEndpoint = drop (i + 1) es in
    let cut : drop i es ≡ e ∷ tail = drop-cons es i e lt ∙ (λ k. sym at k ∷ drop (sym (add-one i) k) es) in
    ap (λ rs. rs ++ choices tail) pushed
    ∙ append_assoc rules (r ∷ []) (choices tail)
    ∙ ap (λ q. rules ++ q ∷ choices tail) is
    ∙ ap (λ qs. rules ++ qs) (sym (first_of left e tail (count ∙ ap length cut)) ∙ ap choices (sym cut))
    ∙ so_far

-- how many are left
pub next_left : (left : ℕ) (es : List NamedEndpoint) (i : ℕ) → left ≡ length (drop i es) → i < length es → left - 1 ≡ length (drop (i + 1) es)
next_left left es i count lt = omega (arith, count, lt, length-drop i es, length-drop (i + 1) es)

-- ---- The rules by the endpoints' own names

more_than_one : (name : Endpoint → List ℕ) (e f : Endpoint) (es : List Endpoint)
    → choice_of (suc (length (map (named_by name) (f ∷ es)))) (named_by name e)
    ≡ rule_of (Statistic (probability_of (suc (suc (length es)))) ∷ []) (Jump (name e))
more_than_one name e f es =
    ap (λ n. rule_of (Statistic (probability_of (suc (suc n))) ∷ []) (Jump (name e))) (length-map es (named_by name))

pub choices_are : (name : Endpoint → List ℕ) (es : List Endpoint) → choices (map (named_by name) es) ≡ choice_rules name es
choices_are name [] = refl
choices_are name (e ∷ []) = refl
choices_are name (e ∷ f ∷ es) =
    (λ k. more_than_one name e f es k ∷ choices_are name (f ∷ es) k)
