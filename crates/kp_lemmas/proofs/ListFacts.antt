-- Lists: what holds of all elements, and lists that are made element by element. A map of a map is
-- std's `map-map` (lemmas.Simd); tests of joined and of mapped lists are its `list_all-append` and
-- `list_all-map`.
use mathlib.Core.List.{IsPrefix}
use Rattle.std.proofs.Common.{◌≡◌, ℕ, zero, suc, ◌+◌, ◌<◌, Bool, true, false, not, cond, List, [], ◌∷◌, ◌++◌, map, filter, take, length, get_or, Option, Some, None, refl, sym, ap, ◌∙◌, append_assoc}
use Rattle.std.specs.List.{list_all, filter_map, cons_option, AllByRecursion}
use Rattle.std.specs.Option.{option_to_list}
use Rattle.std.proofs.lemmas.Bool.{and_parts, and_from}
use Rattle.std.proofs.lemmas.List.{take_more}
use Rattle.std.proofs.lemmas.List.Elements.{filter_map-append}
use Rattle.std.proofs.lemmas.List.Folds.{list_all-append}
use Rattle.kp_lemmas.specs.Lists.{is_empty}

-- ---- what holds of all elements

-- a weaker fact holds of all
pub all_weaker : {X : Type 0} (P Q : X → Type 0) → ((x : X) → P x → Q x) → (xs : List X)
    → AllByRecursion P xs → AllByRecursion Q xs
all_weaker P Q f [] all = tt
all_weaker P Q f (x ∷ xs) all = (f x all.0, all_weaker P Q f xs all.1)

-- of two lists, one behind the other
pub all_append : {X : Type 0} (P : X → Type 0) (xs ys : List X) → AllByRecursion P xs
    → AllByRecursion P ys → AllByRecursion P (xs ++ ys)
all_append P [] ys a b = b
all_append P (x ∷ xs) ys a b = (a.0, all_append P xs ys a.1 b)

-- of the elements that pass a test
pub all_filter : {X : Type 0} (P : X → Type 0) (test : X → Bool) (xs : List X) → AllByRecursion P xs
    → AllByRecursion P (filter test xs)
all_filter P test [] all = tt
all_filter P test (x ∷ xs) all = kept (test x) (all_filter P test xs all.1)
  where
    kept : (b : Bool) → AllByRecursion P (filter test xs) → AllByRecursion P (cond b (x ∷ filter test xs) (filter test xs))
    kept true rest = (all.0, rest)
    kept false rest = rest

-- two facts hold together
pub all_both : {X : Type 0} (P Q : X → Type 0) (xs : List X) → AllByRecursion P xs
    → AllByRecursion Q xs → AllByRecursion (λ x. P x × Q x) xs
all_both P Q [] a b = tt
all_both P Q (x ∷ xs) a b = ((a.0, b.0), all_both P Q xs a.1 b.1)

-- ---- what a test says of all elements

-- a test that all elements pass holds of each
pub all_tested : {X : Type 0} (test : X → Bool) (xs : List X) → list_all test xs ≡ true
    → AllByRecursion (λ x. test x ≡ true) xs
all_tested test [] h = tt
all_tested test (x ∷ xs) h = let both = and_parts _ _ h in (both.0, all_tested test xs both.1)

-- a weaker test passes all
pub test_weaker : {X : Type 0} (p q : X → Bool) → ((x : X) → p x ≡ true → q x ≡ true)
    → (xs : List X) → list_all p xs ≡ true → list_all q xs ≡ true
test_weaker p q f [] h = refl
test_weaker p q f (x ∷ xs) h =
    let both = and_parts _ _ h in and_from _ _ (f x both.0) (test_weaker p q f xs both.1)

-- a test that all values pass
pub test_always : {X : Type 0} (p : X → Bool) → ((x : X) → p x ≡ true) → (xs : List X)
    → list_all p xs ≡ true
test_always p f [] = refl
test_always p f (x ∷ xs) = and_from _ _ (f x) (test_always p f xs)

-- the front of a list
pub test_take : {X : Type 0} (p : X → Bool) (n : ℕ) (xs : List X) → list_all p xs ≡ true
    → list_all p (take n xs) ≡ true
test_take p zero xs h = refl
test_take p (suc n) [] h = refl
test_take p (suc n) (x ∷ xs) h =
    let both = and_parts _ _ h in and_from _ _ both.0 (test_take p n xs both.1)

-- two lists, one behind the other
pub test_append : {X : Type 0} (p : X → Bool) (xs ys : List X) → list_all p xs ≡ true
    → list_all p ys ≡ true → list_all p (xs ++ ys) ≡ true
test_append p xs ys g h = list_all-append p xs ys ∙ and_from (list_all p xs) (list_all p ys) g h

-- ---- lists made element by element

-- a value that may be missing, before the empty list and before others
pub only_option : {X : Type 0} (o : Option X) → cons_option o [] ≡ option_to_list o
only_option None = refl
only_option (Some x) = refl

pub option_before : {X : Type 0} (o : Option X) (xs : List X)
    → cons_option o xs ≡ option_to_list o ++ xs
option_before None xs = refl
option_before (Some x) xs = refl

-- what was made of the first i elements, and what is made of the next one x
pub filter_map_step : {X Y : Type 0} (h : X → Option Y) (made : List Y) (xs : List X) (i : ℕ)
    (x : X) → i < length xs → x ≡ get_or xs i x
    → (made ++ filter_map h (take i xs)) ++ option_to_list (h x) ≡ made ++ filter_map h
    (take (i + 1) xs)
filter_map_step h made xs i x lt is =
    append_assoc made (filter_map h (take i xs)) (option_to_list (h x))
    ∙ ap (λ ys. made ++ ys)
    (ap (λ one. filter_map h (take i xs) ++ one) (sym (only_option (h x)))
    ∙ sym (filter_map-append h (take i xs) (x ∷ []))
    ∙ ap (λ next. filter_map h (take i xs ++ next ∷ [])) is
    ∙ ap (filter_map h) (sym (take_more xs i x lt)))

-- what is added to what was added
pub added_twice : {X : Type 0} (start first second more last : List X) → first ≡ start ++ more
    → second ≡ first ++ last → second ≡ start ++ (more ++ last)
added_twice start first second more last e f =
    f ∙ ap (λ xs. xs ++ last) e ∙ append_assoc start more last

-- a map keeps whether there are elements
pub map_some : {X Y : Type 0} (f : X → Y) (xs : List X)
    → not (is_empty xs) ≡ not (is_empty (map f xs))
map_some f [] = refl
map_some f (x ∷ xs) = refl

-- ---- lists that filters leave

-- a filter that all pass leaves the list
pub filter_all : {X : Type 0} (p : X → Bool) (xs : List X) → list_all p xs ≡ true → filter p xs ≡ xs
filter_all p [] h = refl
filter_all p (x ∷ xs) h =
    let k = and_parts (p x) (list_all p xs) h in
    ap (λ b. cond b (x ∷ filter p xs) (filter p xs)) k.0 ∙ ap (λ l. x ∷ l) (filter_all p xs k.1)

-- a weaker filter before a stronger one changes nothing
pub filter_within : {X : Type 0} (weak strong : X → Bool)
    → ((x : X) → strong x ≡ true → weak x ≡ true) → (xs : List X)
    → filter strong (filter weak xs) ≡ filter strong xs
filter_within weak strong follows [] = refl
filter_within {X} weak strong follows (x ∷ xs) =
    by (weak x) (strong x) refl refl (filter_within weak strong follows xs)
  where
    by : (w s : Bool) → weak x ≡ w → strong x ≡ s
        → filter strong (filter weak xs) ≡ filter strong xs
        → filter strong (cond w (x ∷ filter weak xs) (filter weak xs)) ≡ cond s (x ∷ filter strong xs) (filter strong xs)
    by true s is at rest =
        ap (λ b. cond b (x ∷ filter strong (filter weak xs)) (filter strong (filter weak xs))) at
        ∙ ap (λ ys. cond s (x ∷ ys) ys) rest
    by false true is at rest = let h : false ≡ true = sym is ∙ follows x at in absurd (cc)
    by false false is at rest = rest

-- what begins the beginning of a list begins the list
pub prefix_through : {A : Type 0} (xs ys zs : List A) → IsPrefix xs ys → IsPrefix ys zs
    → IsPrefix xs zs
prefix_through xs ys zs p q =
    (p.0 ++ q.0, sym (append_assoc xs p.0 q.0) ∙ ap (λ l. l ++ q.0) p.1 ∙ q.1)
