-- Packing the picked Services is packing all, where the others are settled. After it no slice is
-- left over.
use Rattle.std.proofs.Common.{◌≡◌, ◌≢◌, ℕ, ◌≤◌, inl, inr, Bool, true, false, true≢false, cond, List, [], ◌∷◌, filter, Some, refl, sym, ap, subst, ◌∙◌, is_lt}
use Rattle.std.specs.List.{fold, AllByRecursion}
use Rattle.std.specs.Ordering.{eq_by_cmp}
use Rattle.std.specs.FinMap as finite
use Rattle.std.specs.FinMap.{get, is_sorted}
use Rattle.std.specs.FinMap.Entries.{below_all}
use Rattle.std.proofs.lemmas.Bool.{and_parts}
use Rattle.kp_lemmas.proofs.Entries.{entries_found}
use Rattle.kp_lemmas.proofs.ListFacts.{all_weaker}
use Rattle.kp_lemmas.proofs.Orders.{less_is_other, tie_of_itself}
use Rattle.kp_base.specs.Keys.{key_cmp}
use Rattle.kp_base.specs.declared.address.Family.{Family}
use Rattle.kp_base.specs.declared.key.ObjectKey.{ObjectKey}
use Rattle.kp_base.proofs.KeyOrder.{key_total}
use Rattle.kp_types.specs.declared.service.Service.{Service}
use Rattle.kp_types.specs.declared.slice.Slice.{Slice}
use Rattle.kp_object_defs.specs.Desired.{desired_endpoints_of, has_selector}
use Rattle.kp_object_defs.specs.Objects.{Objects}
use Rattle.kp_object_defs.specs.OwnKeys.{AreUnderOwnKeys}
use Rattle.kp_object_defs.specs.PackingLaws.{IsPackingOf}
use Rattle.kp_object_defs.specs.SlicesNow.{Slices, after_packing, is_leftover, without_leftovers}
use Rattle.kp_object_laws.proofs.OwnEntries.{owned}
use Rattle.kp_object_laws.proofs.OwnKeys.{values_in_order}
use Rattle.kp_pack_laws.proofs.Shuffles.{all_mapped}
use Rattle.kp_settle_laws.specs.Settled.{IsSettled, after_each}
use Rattle.kp_settle_laws.specs.SettleLaws.{AreOwn, NoneLeft, SettledStay, TouchedAreEnough}
use Rattle.kp_settle_laws.proofs.Found.{found_without, from_kept, from_placed, own_without}
use Rattle.kp_settle_laws.proofs.Managed.{managed_is_of, stored_is_kept}
use Rattle.kp_settle_laws.proofs.Settling.{each_stays, own_after, own_each, packed_of, settled_each, takes_own_place}

-- a stored Service
abbrev IsStored : Objects → Service → Type 0
IsStored o s = get o.services s.key ≡ Some s

-- each value of the objects is stored
pub all_stored : (o : Objects) → AreUnderOwnKeys o
    → AllByRecursion (IsStored o) (finite.values o.services)
all_stored o own =
    all_mapped (IsStored o) (λ (e : ObjectKey × Service). e.1) (finite.entries o.services)
    (all_weaker (λ e. get o.services e.0 ≡ Some e.1) (λ e. IsStored o e.1)
    (λ e at. ap (get o.services) (own.services e.0 e.1 at) ∙ at) _
    (entries_found key_total o.services))

-- keys of which one is below the other differ
lesser_differs : (a b : ObjectKey) → is_lt (key_cmp a b) ≡ true → a ≢ b
lesser_differs a b less same =
    true≢false (sym (tie_of_itself key_total a) ∙ ap (eq_by_cmp key_cmp a) same
    ∙ less_is_other (key_cmp a b) less)

module _ (families : List Family) (most : ℕ) (o : Objects) (some : 1 ≤ most) where
  abbrev pack : Slices → Service → Slices
  pack m s = after_each families most o m s

  -- ---- The others are settled

  module _ (picked : ObjectKey → Bool) where
    -- a Service with a selector that isn't picked is settled in each family
    abbrev IsDone : Slices → Service → Type 0
    IsDone m s =
        has_selector s ≡ true → picked s.key ≡ false
        → (family : Family) → IsSettled family most o m s

    -- packing a Service before them leaves them so
    still_done : (m : Slices) → AreOwn m → (s : Service) (ss : List Service)
        → below_all key_cmp s.key (owned (λ t. t.key) ss) ≡ true → AllByRecursion (IsDone m) ss
        → AllByRecursion (IsDone (pack m s)) ss
    still_done m own s [] below all = tt
    still_done m own s (t ∷ ss) below all =
        let parts = and_parts (is_lt (key_cmp s.key t.key)) _ below in (
          λ has free family.
              subst (IsPackingOf most (desired_endpoints_of family o t))
              (sym (each_stays most o s some family t.key
              (lesser_differs s.key t.key parts.0) families m own))
              (all.0 has free family),
          still_done m own s ss parts.1 all.1,
        )

    module _ (stay : SettledStay) (own_objects : AreUnderOwnKeys o) where
      enough : (ss : List Service) → is_sorted key_cmp (owned (λ t. t.key) ss) ≡ true
          → (m : Slices) → AreOwn m → AllByRecursion (IsDone m) ss
          → fold pack m (filter has_selector (filter (λ s. picked s.key) ss))
          ≡ fold pack m (filter has_selector ss)
      enough [] sorted m own all = refl
      enough (s ∷ ss) sorted m own all =
          let parts = and_parts (below_all key_cmp s.key (owned (λ t. t.key) ss)) _ sorted in
          by parts.0 (enough ss parts.1) (picked s.key) (has_selector s) refl refl
        where
          few : List Service
          few = filter has_selector (filter (λ t. picked t.key) ss)

          many : List Service
          many = filter has_selector ss

          by : below_all key_cmp s.key (owned (λ t. t.key) ss) ≡ true
              → ((n : Slices) → AreOwn n → AllByRecursion (IsDone n) ss
              → fold pack n few ≡ fold pack n many)
              → (b c : Bool) → picked s.key ≡ b → has_selector s ≡ c
              → fold pack m (filter has_selector
              (cond b (s ∷ filter (λ t. picked t.key) ss) (filter (λ t. picked t.key) ss)))
              ≡ fold pack m (cond c (s ∷ many) many)
          by below rest true true is has =
              ap (λ t. fold pack m (cond t (s ∷ few) few)) has
              ∙ rest (pack m s) (own_each most o s some families m own)
              (still_done m own s ss below all.1)
          by below rest true false is has =
              ap (λ t. fold pack m (cond t (s ∷ few) few)) has ∙ rest m own all.1
          by below rest false true is has =
              rest m own all.1
              ∙ ap (λ n. fold pack n many)
              (sym (settled_each most o s some stay own_objects families m own (all.0 has is)))
          by below rest false false is has = rest m own all.1

  -- ---- None is left over

  abbrev NoneLeftOf : Slices → Type 0
  NoneLeftOf m = (t : Slice) → get m t.key ≡ Some t → is_leftover o t ≡ false

  none_packed : (s : Service) → IsStored o s → (family : Family) (m : Slices) → AreOwn m
      → NoneLeftOf m → NoneLeftOf (after_packing most o s m family)
  none_packed s stored family m own none t at =
      elim (from_placed family s.key (packed_of family most o m s some own) m t.key t at) [
        | inl h ↦
            stored_is_kept o s t stored
            (managed_is_of family s.key t (takes_own_place family most o m s some own t h.0).0)
        | inr h ↦ none t h.0
      ]

  none_in_each : (s : Service) → IsStored o s → (fs : List Family) (m : Slices) → AreOwn m
      → NoneLeftOf m → NoneLeftOf (after_each fs most o m s)
  none_in_each s stored [] m own none = none
  none_in_each s stored (f ∷ fs) m own none =
      none_in_each s stored fs _ (own_after f most o m s some own)
      (none_packed s stored f m own none)

  none_in_all : (ss : List Service) → AllByRecursion (IsStored o) ss → (m : Slices) → AreOwn m
      → NoneLeftOf m → NoneLeftOf (fold pack m (filter has_selector ss))
  none_in_all [] all m own none = none
  none_in_all (s ∷ ss) all m own none = by (none_in_all ss all.1) (has_selector s)
    where
      by : ((n : Slices) → AreOwn n → NoneLeftOf n
          → NoneLeftOf (fold pack n (filter has_selector ss)))
          → (b : Bool)
          → NoneLeftOf (fold pack m (cond b (s ∷ filter has_selector ss) (filter has_selector ss)))
      by rest true =
          rest (pack m s) (own_each most o s some families m own)
          (none_in_each s all.0 families m own none)
      by rest false = rest m own none

pub touched_are_enough : SettledStay → TouchedAreEnough
touched_are_enough stay families picked most o m some own_objects own but =
    enough families most o some picked stay own_objects (finite.values o.services)
    (values_in_order (λ (s : Service). s.key) o.services own_objects.services) m own
    (all_weaker (IsStored o) (IsDone families most o some picked m)
    (λ s at has free. but s at has free) _ (all_stored o own_objects))

pub none_left : NoneLeft
none_left families most o m some own_objects own t service at left of =
    absurd (true≢false (sym left ∙ none_in_all families most o some (finite.values o.services)
    (all_stored o own_objects) (without_leftovers o m) (own_without o m own) (λ u found.
    (from_kept (is_leftover o) (get m u.key) u (sym (found_without o m u.key) ∙ found)).1) t at))
