-- The least place, at or after one, of an element that passes a test.
use Rattle.std.proofs.Common.{◌≡◌, ◌≤◌, ◌<◌, ◌||◌, ℕ, zero, suc, Bool, true, false, cond, List, [], ◌∷◌, Option, Some, None, option_map, refl, ap, ◌∙◌, arith}
use Rattle.std.proofs.lemmas.Bool.{false≢true}
use Rattle.kp_rules.specs.Destinations.{next_place}
use Rattle.kp_rules.specs.Index.{earlier}

-- whether there is an element at a place that passes the test
abbrev pub passes_at : {X : Type 0} → (X → Bool) → List X → ℕ → Bool
passes_at test [] j = false
passes_at test (x ∷ xs) zero = test x
passes_at test (x ∷ xs) (suc j) = passes_at test xs j

-- a place that passes, where none before it does
pub least_is : {X : Type 0} (test : X → Bool) (xs : List X) (from q : ℕ) → from ≤ q → passes_at test xs q ≡ true
    → ((j : ℕ) → from ≤ j → j < q → passes_at test xs j ≡ false) → next_place test xs from ≡ Some q
least_is test [] from q le p h = absurd (false≢true p)
least_is test (x ∷ xs) zero zero le p h = ap (λ b. cond b (Some 0) (option_map suc (next_place test xs zero))) p
least_is test (x ∷ xs) zero (suc q) le p h =
    ap (λ b. cond b (Some 0) (option_map suc (next_place test xs zero))) (h zero (omega arith) (omega arith))
    ∙ ap (option_map suc) (least_is test xs zero q (omega arith) p (λ j _ lt. h (suc j) (omega arith) (omega (arith, lt))))
least_is test (x ∷ xs) (suc from) zero le p h = absurd (omega (arith, le))
least_is test (x ∷ xs) (suc from) (suc q) le p h =
    ap (option_map suc) (least_is test xs from q (omega (arith, le)) p (λ j ge lt. h (suc j) (omega (arith, ge)) (omega (arith, lt))))

-- no place passes
pub none_is : {X : Type 0} (test : X → Bool) (xs : List X) (from : ℕ) → ((j : ℕ) → from ≤ j → passes_at test xs j ≡ false) → next_place test xs from ≡ None
none_is test [] from h = refl
none_is test (x ∷ xs) zero h =
    ap (λ b. cond b (Some 0) (option_map suc (next_place test xs zero))) (h zero (omega arith))
    ∙ ap (option_map suc) (none_is test xs zero (λ j _. h (suc j) (omega arith)))
none_is test (x ∷ xs) (suc from) h = ap (option_map suc) (none_is test xs from (λ j ge. h (suc j) (omega (arith, ge))))

-- ---- a test of two parts

earlier_suc : (a b : Option ℕ) → option_map suc (earlier a b) ≡ earlier (option_map suc a) (option_map suc b)
earlier_suc None b = refl
earlier_suc (Some p) None = refl
earlier_suc (Some p) (Some q) = ap Some (omega arith)

earlier_zero : (b : Option ℕ) → Some 0 ≡ earlier (Some 0) (option_map suc b)
earlier_zero None = refl
earlier_zero (Some q) = ap Some (omega arith)

zero_earlier : (a : Option ℕ) → Some 0 ≡ earlier (option_map suc a) (Some 0)
zero_earlier None = refl
zero_earlier (Some q) = ap Some (omega arith)

head_of_two : (a b : Bool) (p q r : Option ℕ) → r ≡ earlier p q
    → cond (a || b) (Some 0) (option_map suc r) ≡ earlier (cond a (Some 0) (option_map suc p)) (cond b (Some 0) (option_map suc q))
head_of_two true true p q r h = ap Some (omega arith)
head_of_two true false p q r h = earlier_zero q
head_of_two false true p q r h = zero_earlier p
head_of_two false false p q r h = ap (option_map suc) h ∙ earlier_suc p q

pub next_of_two : {X : Type 0} (a b : X → Bool) (xs : List X) (from : ℕ)
    → next_place (λ x. a x || b x) xs from ≡ earlier (next_place a xs from) (next_place b xs from)
next_of_two a b [] from = refl
next_of_two a b (x ∷ xs) zero = head_of_two (a x) (b x) _ _ _ (next_of_two a b xs zero)
next_of_two a b (x ∷ xs) (suc from) = ap (option_map suc) (next_of_two a b xs from) ∙ earlier_suc (next_place a xs from) (next_place b xs from)

-- a test that gives the same
pub next_alike : {X : Type 0} (a b : X → Bool) → ((x : X) → a x ≡ b x) → (xs : List X) (from : ℕ) → next_place a xs from ≡ next_place b xs from
next_alike a b h [] from = refl
next_alike a b h (x ∷ xs) zero = λ i. cond (h x i) (Some 0) (option_map suc (next_alike a b h xs zero i))
next_alike a b h (x ∷ xs) (suc from) = ap (option_map suc) (next_alike a b h xs from)
