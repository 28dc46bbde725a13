-- The families of a Service, once each.
use Rattle.std.proofs.Common.{◌≡◌, ◌+◌, ◌<◌, ◌++◌, ℕ, cond, List, [], ◌∷◌, take, get_or, length, sym, ap, subst, ◌∙◌}
use Rattle.std.specs.List.{list_any}
use Rattle.std.specs.Cmp.{IsEquivalence}
use Rattle.std.proofs.lemmas.List.{take_more}
use Rattle.kp_lemmas.specs.Lists.{first_places}
use Rattle.kp_lemmas.proofs.FirstPlaces.{first_places-push}
use Rattle.kp_base.specs.Net.{same_family}
use Rattle.kp_base.specs.declared.address.Family.{Family}
use Rattle.kp_base.specs.contracts.address.FamilyPartialEq.TheImpl as family_eq
use Rattle.kp_base.specs.contracts.address.FamilyEq.TheImpl.Laws as family_laws
use Rattle.kp_base.proofs.SameParts.{family_same}

families_alike : IsEquivalence same_family
families_alike = subst IsEquivalence (λ i a b. family_same a b i) family_laws.laws-law

-- one more family
pub once_step : (fs : List Family) (i : ℕ) (f : Family) (before : List Family) → i < length fs → before ≡ first_places same_family (take i fs)
    → cond (list_any (same_family (get_or fs i f)) before) before (before ++ get_or fs i f ∷ []) ≡ first_places same_family (take (i + 1) fs)
once_step fs i f before within is =
    (λ j. cond (list_any (same_family (get_or fs i f)) (is j)) (is j) (is j ++ get_or fs i f ∷ []))
    ∙ sym (first_places-push same_family families_alike (take i fs) (get_or fs i f))
    ∙ ap (first_places same_family) (sym (take_more fs i f within))
