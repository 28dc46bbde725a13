-- Each element of a list with all that stand behind it.
use Rattle.std.proofs.Common.{◌≡◌, Bool, true, false, cond, List, [], ◌∷◌, ◌++◌, filter, Option, Some, None, refl}
use Rattle.std.specs.List.{filter_map, cons_option, AllByRecursion}
use Rattle.kp_rules.proofs.ChangesLead.{In_option, all_filter_map}
use Rattle.kp_lemmas.proofs.ListFacts.{all_append, all_filter, all_weaker}

abbrev pub EachPair : {X : Type 0} → (X → X → Type 0) → List X → Type 0
EachPair R [] = Unit {0}
EachPair R (x ∷ xs) = AllByRecursion (R x) xs × EachPair R xs

pub pairs_append : {X : Type 0} (R : X → X → Type 0) (xs ys : List X) → EachPair R xs → EachPair R ys → AllByRecursion (λ x. AllByRecursion (R x) ys) xs → EachPair R (xs ++ ys)
pairs_append R [] ys p q a = q
pairs_append R (x ∷ xs) ys p q a = (all_append (R x) xs ys p.0 a.0, pairs_append R xs ys p.1 q a.1)

all_insert : {X : Type 0} (P : X → Type 0) (xs ys : List X) (z : X) → AllByRecursion P (xs ++ ys) → P z → AllByRecursion P (xs ++ z ∷ ys)
all_insert P [] ys z a h = (h, a)
all_insert P (x ∷ xs) ys z a h = (a.0, all_insert P xs ys z a.1 h)

-- one more element between the others
pub pairs_insert : {X : Type 0} (R : X → X → Type 0) (xs ys : List X) (z : X) → EachPair R (xs ++ ys) → AllByRecursion (λ x. R x z) xs → AllByRecursion (R z) ys → EachPair R (xs ++ z ∷ ys)
pairs_insert R [] ys z p a b = (b, p)
pairs_insert R (x ∷ xs) ys z p a b = (all_insert (R x) xs ys z p.0 a.0, pairs_insert R xs ys z p.1 a.1 b)

pub pairs_kept : {X : Type 0} (R : X → X → Type 0) (test : X → Bool) (xs : List X) → EachPair R xs → EachPair R (filter test xs)
pairs_kept R test [] p = tt
pairs_kept R test (x ∷ xs) p =
    elim (test x) as (λ b. EachPair R (cond b (x ∷ filter test xs) (filter test xs))) [
      | true ↦ (all_filter (R x) test xs p.0, pairs_kept R test xs p.1)
      | false ↦ pairs_kept R test xs p.1
    ]

pub pairs_given : {X Y : Type 0} (R : X → X → Type 0) (S : Y → Y → Type 0) (f : X → Option Y) → ((a b : X) → R a b → In_option (λ y. In_option (S y) (f b)) (f a)) → (xs : List X) → EachPair R xs → EachPair S (filter_map f xs)
pairs_given R S f h [] p = tt
pairs_given {X = X} R S f h (x ∷ xs) p =
    elim (f x) as (λ o. ((b : X) → R x b → In_option (λ y. In_option (S y) (f b)) o) → EachPair S (cons_option o (filter_map f xs))) [
      | None ↦ λ g. pairs_given R S f h xs p.1
      | Some y ↦ λ g. (all_filter_map (S y) f xs (all_weaker (R x) (λ b. In_option (S y) (f b)) g xs p.0), pairs_given R S f h xs p.1)
    ] (h x)

-- what passes a test, with the test
pub all_kept : {X : Type 0} (P : X → Type 0) (test : X → Bool) (xs : List X) → AllByRecursion P xs → AllByRecursion (λ x. P x × (test x ≡ true)) (filter test xs)
all_kept P test [] a = tt
all_kept P test (x ∷ xs) a =
    elim (test x) as (λ b. test x ≡ b → AllByRecursion (λ x. P x × (test x ≡ true)) (cond b (x ∷ filter test xs) (filter test xs))) [
      | true ↦ λ t. ((a.0, t), all_kept P test xs a.1)
      | false ↦ λ t. all_kept P test xs a.1
    ] refl
