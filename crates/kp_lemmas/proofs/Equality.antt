-- Exact tests of lists, of values that may be missing, of fields, and of enums.
use Rattle.std.proofs.Common.{◌≡◌, List, [], ◌∷◌, Bool, true, false, ◌&&◌, Some, None, refl, ap, inl, inr}
use Rattle.std.specs.Option.{option_eq}
use Rattle.std.proofs.lemmas.Bool.{false≢true, and_parts}
use lib.Pointwise.{pointwise}
use denote.Enum.Compared.{Each, by}
use denote.Enum.Declared.{Choice}
use denote.Struct.Field.{Field}
use Rattle.kp_lemmas.specs.Exact.{IsExact}

-- lists, element by element
pub lists_exact : {X : Type 0} (test : X → X → Bool) → IsExact test → IsExact (pointwise test)
lists_exact test e [] [] h = refl
lists_exact test e [] (y ∷ ys) h = absurd (false≢true h)
lists_exact test e (x ∷ xs) [] h = absurd (false≢true h)
lists_exact test e (x ∷ xs) (y ∷ ys) h =
    let p = and_parts _ _ h in λ i. e x y p.0 i ∷ lists_exact test e xs ys p.1 i

-- values that may be missing
pub options_exact : {X : Type 0} (test : X → X → Bool) → IsExact test → IsExact (option_eq test)
options_exact test e None None h = refl
options_exact test e None (Some y) h = absurd (false≢true h)
options_exact test e (Some x) None h = absurd (false≢true h)
options_exact test e (Some x) (Some y) h = ap Some (e x y h)

-- the fields of a variant that has one, and of one that has two
pub one_field : {A : Type 0} (P : A → A → Bool) → IsExact P → (x y : A × Unit {0})
    → P x.0 y.0 ≡ true → x ≡ y
one_field P p x y h = λ i. (p x.0 y.0 h i, tt)

pub two_fields : {A B : Type 0} (P : A → A → Bool) (Q : B → B → Bool) → IsExact P → IsExact Q
    → (x y : A × (B × Unit {0})) → P x.0 y.0 && Q x.1.0 y.1.0 ≡ true → x ≡ y
two_fields P Q p q x y h =
    let both = and_parts _ _ h in
    λ i. (p x.0 y.0 both.0 i, (q x.1.0 y.1.0 both.1 i, tt))

-- the test of each variant is exact
unfoldable pub AreExact : (Fss : List (List Field)) → Each Bool Fss → Type 0
AreExact [] each = Unit {0}
AreExact (Fs ∷ Fss) each = IsExact each.0 × AreExact Fss each.1

-- then so is the derived test of the enum, which goes by the variants
pub variants_exact : (Fss : List (List Field)) (each : Each Bool Fss) → AreExact Fss each
    → (c d : Choice Fss) → by false false Fss each c d ≡ true → c ≡ d
unfolding AreExact
variants_exact [] each all c d h = absurd c
variants_exact (Fs ∷ Fss) each all (inl x) (inl y) h = ap inl (all.0 x y h)
variants_exact (Fs ∷ Fss) each all (inl x) (inr y) h = absurd (false≢true h)
variants_exact (Fs ∷ Fss) each all (inr x) (inl y) h = absurd (false≢true h)
variants_exact (Fs ∷ Fss) each all (inr x) (inr y) h =
    ap inr (variants_exact Fss each.1 all.1 x y h)
