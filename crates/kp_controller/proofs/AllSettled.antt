-- Once the picked Services are packed, all are settled.
use Rattle.std.proofs.Common.{◌≡◌, ◌≤◌, ℕ, ◌&&◌, ◌||◌, Bool, true, false, not, List, [], ◌∷◌, filter, Some, refl, sym, ap, subst, ◌∙◌}
use Rattle.std.specs.List.{fold, list_any}
use Rattle.std.specs.FinMap as finite
use Rattle.std.specs.FinMap.{get}
use Rattle.std.proofs.lemmas.Bool.{and_left, and_right}
use Rattle.kp_lemmas.proofs.Members.{any_from, from_filter, in_filter}
use Rattle.kp_lemmas.proofs.Orders.{tie_of_itself}
use Rattle.kp_base.specs.declared.address.Family.{Family}
use Rattle.kp_base.specs.declared.key.ObjectKey.{ObjectKey}
use Rattle.kp_base.proofs.KeyOrder.{key_total}
use Rattle.kp_types.specs.Setting.{both_families}
use Rattle.kp_types.specs.declared.service.Service.{Service}
use Rattle.kp_object_defs.specs.Desired.{desired_endpoints_of, has_selector}
use Rattle.kp_object_defs.specs.Objects.{Objects}
use Rattle.kp_object_defs.specs.OwnKeys.{AreUnderOwnKeys}
use Rattle.kp_object_defs.specs.PackingLaws.{IsPackingOf}
use Rattle.kp_object_defs.specs.SlicesNow.{Slices, after_controller, without_leftovers}
use Rattle.kp_object_laws.proofs.PortByKey.{all_stored}
use Rattle.kp_touch_defs.specs.Touches.{is_key}
use Rattle.kp_settle_laws.specs.Settled.{AreSettledBut, IsSettled, after_each, none, without, without_each}
use Rattle.kp_settle_laws.specs.SettleLaws.{AreOwn, LeftoversStay, OneMoreSettled, TouchedAreEnough}
use Rattle.kp_settle_laws.proofs.OwnValues.{in_values}
use Rattle.kp_controller.specs.Settling.{AreOf, Settles}

one_more_out : (a b c : Bool) → (a && not b) && not c ≡ a && not (b || c)
one_more_out true true c = refl
one_more_out true false c = refl
one_more_out false b c = refl

all_in : (a : Bool) → a ≡ a && true
all_in true = refl
all_in false = refl

-- those that a test picks, without some, are those that aren't among these
without_some : (services : List Service) (picked : ObjectKey → Bool) (key : ObjectKey)
    → without_each services picked key
    ≡ picked key && not (list_any (λ s. is_key s.key key) services)
without_some [] picked key = all_in (picked key)
without_some (s ∷ services) picked key =
    without_some services (without s.key picked) key
    ∙ one_more_out (picked key) (is_key s.key key) _

module _ (o : Objects) (own : AreUnderOwnKeys o) (picked : ObjectKey → Bool) where
  -- the stored Services that are picked
  abbrev pub picked_services : List Service
  picked_services = filter (λ s. picked s.key) (finite.values o.services)

  pub picked_are_of : AreOf o picked_services
  picked_are_of s c =
      all_stored o own s (from_filter (λ s. picked s.key) s (finite.values o.services) c).0

  -- without those with a selector no stored Service with a selector is picked
  pub all_settled : (most : ℕ) (m : Slices)
      → AreSettledBut (without_each (filter has_selector picked_services) picked) most o m
      → AreSettledBut none most o m
  all_settled most m but s at has free = but s at has (by (picked s.key) refl)
    where
      packed : List Service
      packed = filter has_selector picked_services

      by : (b : Bool) → picked s.key ≡ b → without_each packed picked s.key ≡ false
      by false is = without_some packed picked s.key ∙ and_left (picked s.key) _ is
      by true is =
          let inside = in_filter has_selector s picked_services
          (in_filter (λ t. picked t.key) s (finite.values o.services)
          (in_values (λ (t : Service). t.key) o.services own.services s at) is) has in
          let hit = any_from (λ t. is_key t.key s.key) s packed inside
          (tie_of_itself key_total s.key) in
          without_some packed picked s.key ∙ and_right (picked s.key) _ (ap not hit)

  -- the Services that are settled stay so where slices that are left over go
  pub settled_without : LeftoversStay → (most : ℕ) (m : Slices) → AreOwn m
      → AreSettledBut picked most o m → AreSettledBut picked most o (without_leftovers o m)
  settled_without leftovers most m own_slices but s at has free family =
      subst (IsPackingOf most (desired_endpoints_of family o s))
      (sym (leftovers family o m s own_slices at)) (but s at has free family)

-- one more Service is settled, in each family
pub settle_more : OneMoreSettled → (o : Objects) (picked : ObjectKey → Bool) (most : ℕ)
    (m new : Slices) (s : Service) → 1 ≤ most → AreOwn m → get o.services s.key ≡ Some s
    → new ≡ after_each both_families most o m s
    → ((family : Family) → IsSettled family most o new s)
    → AreSettledBut picked most o m → AreSettledBut (without s.key picked) most o new
settle_more one_more o picked most m new s some own stored is settled but =
    subst (λ n. AreSettledBut (without s.key picked) most o n) (sym is)
    (one_more both_families picked most o m s some own stored
    (λ family. subst (λ n. IsSettled family most o n s) is (settled family)) but)

module _ (o : Objects) (own : AreUnderOwnKeys o) (picked : ObjectKey → Bool) (most : ℕ)
    (old m new : Slices) (services : List Service) (some : 1 ≤ most) (own_slices : AreOwn m)
    (removed : m ≡ without_leftovers o old)
    (are : services ≡ picked_services o own picked)
    (but : AreSettledBut picked most o m)
    (packed : new ≡ fold (after_each both_families most o) m (filter has_selector services))
  where
    -- packing the picked Services after that is what the controller does
    pub sync_is : TouchedAreEnough → new ≡ after_controller both_families most o old
    sync_is enough =
        packed
        ∙ ap (λ ss. fold (after_each both_families most o) m (filter has_selector ss)) are
        ∙ enough both_families picked most o m some own own_slices but
        ∙ ap (λ n. fold (after_each both_families most o) n
        (filter has_selector (finite.values o.services))) removed

-- where these are packed, all are settled
pub sync_settles : (o : Objects) (own : AreUnderOwnKeys o) (picked : ObjectKey → Bool) (most : ℕ)
    (m new : Slices) (services : List Service) → services ≡ picked_services o own picked
    → AreSettledBut picked most o m → Settles most o services m new
    → AreSettledBut none most o new
sync_settles o own picked most m new services are but settles =
    all_settled o own picked most new
    (subst (λ ss. Settles most o ss m new) are settles (picked_are_of o own picked) picked but)
