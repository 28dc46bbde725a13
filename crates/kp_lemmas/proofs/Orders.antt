-- Orders and their tests. That `is_eq` tells `Equal` is std's `Equal-is`; that `bytes_eq` tells
-- equal texts is std's `bytes_eq-Decides`.
use Rattle.std.proofs.Common.{◌≡◌, ℕ, true, false, List, bytes_eq, refl, sym, ap, ◌∙◌, T}
use Rattle.std.specs.declared.cmp.Ordering.{Ordering}
use Rattle.std.specs.declared.cmp.Ordering.TheVariants.{Less, Equal, Greater}
use Rattle.std.specs.Ordering.{eq_by_cmp, is_eq, is_lt, nat_cmp}
use Rattle.std.specs.Cmp.{IsTotalOrder, Equal-is, eq_by_cmp_equiv}
use Rattle.std.specs.Cmp.Lexicographic.{slice_cmp}
use Rattle.std.specs.FinMap.{IsAntisymmetric}
use Rattle.std.proofs.lemmas.Map.Text.{is_eq-slice_cmp}

-- what the test of `Equal` tells
pub equal_from_test : (o : Ordering) → is_eq o ≡ true → o ≡ Equal
equal_from_test o h = (Equal-is o).0 h

-- what the test of `Less` tells
pub less_from_test : (o : Ordering) → is_lt o ≡ true → o ≡ Less
less_from_test Less h = refl
less_from_test Equal h = absurd (cc)
less_from_test Greater h = absurd (cc)

-- the same from a fact
pub less_from_fact : (o : Ordering) → T (is_lt o) → o ≡ Less
less_from_fact Less h = refl
less_from_fact Equal h = absurd h
less_from_fact Greater h = absurd h

-- what is less isn't equal
pub less_is_other : (o : Ordering) → is_lt o ≡ true → is_eq o ≡ false
less_is_other Less h = refl
less_is_other Equal h = absurd (cc)
less_is_other Greater h = absurd (cc)

-- keys that tie in an exact order are one
pub one_from_tie : {K : Type 0} {R : K → K → Ordering} → IsAntisymmetric R → (a b : K)
    → eq_by_cmp R a b ≡ true → a ≡ b
one_from_tie exact a b h = exact a b (equal_from_test _ h)

-- a key ties with itself
pub tie_of_itself : {K : Type 0} {R : K → K → Ordering} → IsTotalOrder R → (a : K)
    → eq_by_cmp R a a ≡ true
tie_of_itself total a = (eq_by_cmp_equiv total).refl a

-- less than what is less
pub less_through : {K : Type 0} {R : K → K → Ordering} → IsTotalOrder R → (a b c : K)
    → is_lt (R a b) ≡ true → is_lt (R b c) ≡ true → is_lt (R a c) ≡ true
less_through {R} total a b c g h =
    ap is_lt (total.trans a b c (less_from_test (R a b) g) (less_from_test (R b c) h))

-- a text that is less than another is another
pub lesser_text_differs : (a b : List ℕ) → is_lt (slice_cmp nat_cmp a b) ≡ true
    → bytes_eq a b ≡ false
lesser_text_differs a b h = sym (is_eq-slice_cmp a b) ∙ less_is_other (slice_cmp nat_cmp a b) h
