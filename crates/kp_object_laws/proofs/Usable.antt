-- The list of the whole cluster is empty exactly where no endpoint is usable: hints never empty it.
use Rattle.std.proofs.Common.{◌≡◌, Bool, true, false, not, cond, ◌||◌, List, [], ◌∷◌, ℕ, filter, Option, Some, None, refl, sym, ap, ap₂, ◌∙◌}
use Rattle.std.specs.List.{list_any, list_all}
use Rattle.std.proofs.lemmas.Bool.{and_parts}
use Rattle.kp_types.specs.declared.lists.Candidate.{Candidate}
use Rattle.kp_object_defs.specs.Desired.{is_empty}
use Rattle.kp_object_defs.specs.Lists.{is_ready, is_serving_terminating, hints_zone, hints_apply, in_zone, or_else, cluster_endpoints, has_any_endpoint}

-- a list has an element
abbrev pub is_some_list : {X : Type 0} → List X → Bool
is_some_list xs = not (is_empty xs)

some_filtered_by : {X : Type 0} (x : X) (xs : List X) (b c : Bool) → is_some_list xs ≡ c → is_some_list (cond b (x ∷ xs) xs) ≡ (b || c)
some_filtered_by x xs true c h = refl
some_filtered_by x xs false c h = h

-- a filter leaves something where some element passes
pub some_filtered : {X : Type 0} (p : X → Bool) (xs : List X) → is_some_list (filter p xs) ≡ list_any p xs
some_filtered p [] = refl
some_filtered p (x ∷ xs) = some_filtered_by x _ (p x) _ (some_filtered p xs)

pub some_or_else : {X : Type 0} (xs ys : List X) → is_some_list (or_else xs ys) ≡ (is_some_list xs || is_some_list ys)
some_or_else [] ys = refl
some_or_else (x ∷ xs) ys = refl

or_turn : (a b c d : Bool) → ((a || b) || (c || d)) ≡ ((a || c) || (b || d))
or_turn true b c d = refl
or_turn false true true d = refl
or_turn false true false d = refl
or_turn false false true d = refl
or_turn false false false d = refl

-- some element passes one of two tests
pub any_or : {X : Type 0} (p q : X → Bool) (xs : List X) → list_any (λ x. p x || q x) xs ≡ (list_any p xs || list_any q xs)
any_or p q [] = refl
any_or p q (x ∷ xs) = ap (λ b. (p x || q x) || b) (any_or p q xs) ∙ or_turn (p x) (q x) _ _

any_some_by : {X : Type 0} (p : X → Bool) (xs : List X) → list_any p xs ≡ true → is_some_list xs ≡ true
any_some_by p [] h = absurd (cc)
any_some_by p (x ∷ xs) h = refl

hinted : (zone : Option (List ℕ)) (ready : List Candidate) (b : Bool) → hints_apply zone ready ≡ b → is_some_list (cond b (in_zone zone ready) ready) ≡ is_some_list ready
hinted place ready false h = refl
hinted None ready true h = absurd (cc)
hinted (Some z) ready true h =
    let some : list_any (hints_zone z) ready ≡ true = (and_parts (list_all (λ c. not (is_empty c.hints)) ready) (list_any (hints_zone z) ready) h).1 in
    some_filtered _ ready ∙ some ∙ sym (any_some_by _ ready some)

-- the list of the whole cluster has an endpoint where any is usable
pub has_any_is : (zone : Option (List ℕ)) (cs : List Candidate) → has_any_endpoint cs ≡ not (is_empty (cluster_endpoints zone cs))
has_any_is zone cs =
    any_or is_ready _ cs
    ∙ ap₂ (λ a b. a || b) (sym (some_filtered is_ready cs)) (sym (some_filtered _ cs))
    ∙ ap (λ a. a || is_some_list (filter is_serving_terminating cs)) (sym (hinted zone _ _ refl))
    ∙ sym (some_or_else _ _)
