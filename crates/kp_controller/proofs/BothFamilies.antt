-- A Service that is packed in one family and then in the other is settled in both.
use Rattle.std.proofs.Common.{◌≡◌, ◌≤◌, ℕ, false, not, List, [], ◌∷◌, refl, sym, ap, subst, ◌∙◌}
use Rattle.std.proofs.lemmas.List.Elements.{All-nil}
use Rattle.std.proofs.lemmas.List.Sorted.{IsPermutation-refl}
use Rattle.kp_lemmas.specs.Lists.{is_empty}
use Rattle.kp_base.specs.declared.address.Family.{Family}
use Rattle.kp_base.specs.declared.address.Family.TheVariants.{V4, V6}
use Rattle.kp_types.specs.Setting.{both_families}
use Rattle.kp_types.specs.declared.service.Service.{Service}
use Rattle.kp_object_defs.specs.Desired.{desired_endpoints_of, has_family}
use Rattle.kp_object_defs.specs.Objects.{Objects}
use Rattle.kp_object_defs.specs.OwnKeys.{AreUnderOwnKeys}
use Rattle.kp_object_defs.specs.PackingLaws.{IsPackingOf}
use Rattle.kp_object_defs.specs.SlicesNow.{Slices, after_packing, managed_slices}
use Rattle.kp_settle_laws.specs.Settled.{IsSettled, after_each}
use Rattle.kp_settle_laws.specs.SettleLaws.{AreOwn, OtherFamilyStays, SettledStay}
use Rattle.kp_settle_laws.proofs.Settling.{own_after}
use Rattle.kp_store.proofs.OtherFamily.{none_desired}

-- where there isn't an element, there is none
pub none_there : {X : Type 0} (xs : List X) → not (is_empty xs) ≡ false → xs ≡ []
none_there [] h = refl
none_there (x ∷ xs) h = absurd (cc)

-- no slices are a packing of no endpoints
none_packed : (most : ℕ) → IsPackingOf most [] []
none_packed most = record {
  placed = IsPermutation-refl [];
  some = All-nil _;
  bounded = All-nil _;
}

-- what holds in IPv4 and in IPv6 holds in each family
pub in_each : (most : ℕ) (o : Objects) (m : Slices) (s : Service) → IsSettled V4 most o m s
    → IsSettled V6 most o m s → (family : Family) → IsSettled family most o m s
in_each most o m s four six V4 = four
in_each most o m s four six V6 = six

module _ (others : OtherFamilyStays) (most : ℕ) (o : Objects) (s : Service) (some : 1 ≤ most)
    (m first : Slices) (own : AreOwn m) (is : first ≡ after_packing most o s m V4) where
  own_first : AreOwn first
  own_first = subst AreOwn (sym is) (own_after V4 most o m s some own)

  -- the slices of IPv6 are those that were there
  pub six_stay : managed_slices V6 s.key first ≡ managed_slices V6 s.key m
  six_stay = ap (managed_slices V6 s.key) is ∙ others V4 V6 most o m s s.key refl some own

  -- a Service that lacks IPv6 and has no slices of it is settled there
  module _ (stay : SettledStay) (own_objects : AreUnderOwnKeys o)
      (lacks : has_family V6 s ≡ false) (none : managed_slices V6 s.key m ≡ []) where
    six_settled : IsSettled V6 most o first s
    six_settled =
        subst (λ ws. IsPackingOf most ws (managed_slices V6 s.key first))
        (sym (none_desired V6 o s lacks))
        (subst (IsPackingOf most []) (sym (six_stay ∙ none)) (none_packed most))

    pub first_is_all : first ≡ after_each both_families most o m s
    first_is_all =
        sym (stay V6 most o first s own_objects own_first six_settled)
        ∙ ap (λ n. after_packing most o s n V6) is

    pub first_settles : IsSettled V4 most o first s → (family : Family)
        → IsSettled family most o first s
    first_settles four = in_each most o first s four six_settled

  -- another is once it is packed there too
  module _ (second : Slices) (then : second ≡ after_packing most o s first V6) where
    pub second_is_all : second ≡ after_each both_families most o m s
    second_is_all = then ∙ ap (λ n. after_packing most o s n V6) is

    pub second_settles : IsSettled V4 most o first s → IsSettled V6 most o second s
        → (family : Family) → IsSettled family most o second s
    second_settles four six =
        in_each most o second s
        (subst (IsPackingOf most (desired_endpoints_of V4 o s))
        (sym (ap (managed_slices V4 s.key) then
        ∙ others V6 V4 most o first s s.key refl some own_first)) four) six
