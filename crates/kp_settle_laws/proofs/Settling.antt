-- Packing a Service: a settled one stays, any is settled by it, and the others stay.
use Rattle.std.proofs.Common.{◌≡◌, ◌≢◌, ℕ, ◌≤◌, ◌&&◌, inl, inr, Bool, true, false, true≢false, not, List, [], ◌∷◌, map, length, Contains, Option, Some, None, bytes_eq, filter, is_some, refl, sym, ap, subst, ◌∙◌, IsPermutation}
use Rattle.std.specs.List.{list_any, IsDistinct}
use Rattle.std.specs.Ordering.{eq_by_cmp}
use Rattle.std.specs.FinMap as finite
use Rattle.std.specs.FinMap.{find, get, is_sorted, same_map}
use Rattle.std.specs.FinMap.Entries.{is_some-find}
use Rattle.std.proofs.lemmas.Bool.{and_from, and_parts, false_from_ne_true, or_from, or_parts}
use Rattle.std.proofs.lemmas.List.Sorted.{All-permutation, Contains-permutation}
use Rattle.std.proofs.lemmas.Option.{same_Some}
use Rattle.std.proofs.lemmas.Slice.Eq.{bytes_eq-Decides}
use Rattle.kp_lemmas.proofs.Members.{any_from, from_all, in_map}
use Rattle.kp_lemmas.proofs.Orders.{one_from_tie, tie_of_itself}
use Rattle.kp_base.specs.Keys.{key_cmp}
use Rattle.kp_base.specs.Net.{same_family}
use Rattle.kp_base.specs.declared.address.Family.{Family}
use Rattle.kp_base.specs.declared.key.ObjectKey.{ObjectKey}
use Rattle.kp_base.proofs.KeyOrder.{key_exact, key_total}
use Rattle.kp_types.specs.declared.service.Service.{Service}
use Rattle.kp_types.specs.declared.slice.Slice.{Slice}
use Rattle.kp_types.specs.declared.slice.Wanted.{Wanted}
use Rattle.kp_object_defs.specs.Desired.{desired_endpoints_of}
use Rattle.kp_object_defs.specs.Objects.{Objects}
use Rattle.kp_object_defs.specs.OwnKeys.{AreUnderOwnKeys}
use Rattle.kp_object_defs.specs.Order.{by_key, values_of}
use Rattle.kp_object_defs.specs.Packing.{in_slice_order, sorted_ports}
use Rattle.kp_object_defs.specs.PackingLaws.{IsPackingOf, are_distinct, are_managed_for, have_own_names, is_managed_for}
use Rattle.kp_object_defs.specs.SlicesNow.{Slices, after_packing, is_leftover, managed_slices, names_in, packed_now, with_managed}
use Rattle.kp_object_laws.specs.ObjectLaws.{DesiredNamePods, HaveSameElements}
use Rattle.kp_object_laws.specs.SliceLaws.{ManagedCanBePacked}
use Rattle.kp_object_laws.proofs.OwnEntries.{by_key_in_order, found_in, found_itself, in_order_apart, owned, same_found}
use Rattle.kp_object_laws.proofs.Wanted.{desired_of_own_pods}
use Rattle.kp_pack_laws.proofs.Again.{packed_stay}
use Rattle.kp_pack_laws.proofs.Distinct.{distinct_from_test}
use Rattle.kp_pack_laws.proofs.Following.{packing_goes_on}
use Rattle.kp_pack_laws.proofs.Ordered.{by_key_keeps, by_key_pieces}
use Rattle.kp_pack_laws.proofs.Shuffles.{and_then, turned}
use Rattle.kp_pack_laws.proofs.Theorem.{ordered_keeps, packing_places_each}
use Rattle.kp_settle_laws.specs.Settled.{IsSettled, after_each}
use Rattle.kp_settle_laws.specs.SettleLaws.{AreOwn, LeftoversStay, OneMoreSettled, OtherFamilyStays, OthersStay, PackedSettle, PackingSettles, SettledStay}
use Rattle.kp_settle_laws.proofs.Found.{found_without, from_kept, from_placed, in_kept, kept_behind, own_placed, own_without, packed_first}
use Rattle.kp_settle_laws.proofs.Managed.{managed_for_one, managed_in_one, managed_is_of, none_else, packed_take_places, stored_is_kept, takes_place}
use Rattle.kp_settle_laws.proofs.OwnValues.{from_passing, in_passing, one_in_order, passing_alike, passing_in_order}

abbrev key_of : Slice → ObjectKey
key_of s = s.key

-- ---- A settled Service

-- two options are one, where the one has what the other has
one_option : {X : Type 0} (a b : Option X) → ((x : X) → a ≡ Some x → b ≡ Some x)
    → (a ≡ None → b ≡ None) → a ≡ b
one_option None b some none = sym (none refl)
one_option (Some x) b some none = sym (some x refl)

module _ (family : Family) (service : ObjectKey) (m : Slices) (own : AreOwn m)
    (packed : List Slice)
    (same : HaveSameElements packed (managed_slices family service m)) where
  abbrev managed : Slice → Bool
  managed s = is_managed_for family service s

  still_there : (q : ObjectKey) (s : Slice)
      → get (with_managed family service packed m) q ≡ Some s → get m q ≡ Some s
  still_there q s at =
      elim (from_placed family service packed m q s at) [
        | inl h ↦ ap (get m) (sym h.1) ∙ (from_passing key_of m own managed s ((same s).0 h.0)).0
        | inr h ↦ h.0
      ]

  none_lost : (q : ObjectKey) → get (with_managed family service packed m) q ≡ None
      → get m q ≡ None
  none_lost q lost = by (get m q) refl
    where
      behind : (s : Slice) → get m q ≡ Some s → managed s ≡ false
          → (o : Option Slice) → find key_cmp q (owned key_of packed) ≡ o → ⊥
      behind s at other None is =
          let found = kept_behind family service packed m q is
          ∙ in_kept managed (get m q) s at other in
          absurd (cc)
      behind s at other (Some t) is =
          let found = packed_first family service packed m q t is in absurd (cc)

      own_again : (s : Slice) → get m q ≡ Some s → managed s ≡ true
          → (o : Option Slice) → find key_cmp q (owned key_of packed) ≡ o → ⊥
      own_again s at is None none =
          let key : s.key ≡ q = own q s at in
          let inside = (same s).1 (in_passing key_of m own managed s (ap (get m) key ∙ at) is) in
          let tied = ap (λ k. eq_by_cmp key_cmp k s.key) (sym key)
          ∙ tie_of_itself key_total s.key in
          let hit = any_from (eq_by_cmp key_cmp q) s.key _
          (in_map (λ (e : ObjectKey × Slice). e.0) (s.key, s) (owned key_of packed)
          (in_map (λ (t : Slice). (t.key, t)) s packed inside)) tied in
          true≢false (sym hit ∙ sym (is_some-find key_cmp q (owned key_of packed))
          ∙ ap is_some none)
      own_again s at is (Some t) some =
          let found = packed_first family service packed m q t some in absurd (cc)

      either : (s : Slice) → get m q ≡ Some s → (b : Bool) → managed s ≡ b → ⊥
      either s at true is = own_again s at is _ refl
      either s at false is = behind s at is _ refl

      by : (o : Option Slice) → get m q ≡ o → get m q ≡ None
      by None at = at
      by (Some s) at = absurd (either s at (managed s) refl)

  -- the managed slices that are put in again change nothing
  pub put_again : with_managed family service packed m ≡ m
  put_again =
      same_map key_total key_exact _ m (λ q.
      one_option _ (get m q) (still_there q) (none_lost q))

pub settled_stay : ManagedCanBePacked → DesiredNamePods → SettledStay
settled_stay can named family most o m s own_objects own settled =
    let before = managed_slices family s.key m in
    let names = (can family s.key m own).1 in
    let same = ordered_keeps before (distinct_from_test bytes_eq _ names) in
    ap (λ p. with_managed family s.key p.slices m)
    (packed_stay family s.key before (desired_endpoints_of family o s) most
    (names_in s.key.namespace m) names (desired_of_own_pods family o s own_objects)
    (named family o s) settled)
    ∙ put_again family s.key m own (in_slice_order before) (λ x. (
      Contains-permutation _ before x same,
      Contains-permutation before _ x (turned same),
    ))

-- ---- One that is packed

-- keys whose names differ do
name_apart : (key : ObjectKey) (slices : List Slice)
    → list_any (bytes_eq key.name) (map (λ s. s.key.name) slices) ≡ false
    → list_any (eq_by_cmp key_cmp key) (map key_of slices) ≡ false
name_apart key [] h = refl
name_apart key (s ∷ slices) h =
    let parts = or_parts _ _ h in
    or_from _ _ (false_from_ne_true _ (λ tied.
    true≢false (sym (ap (bytes_eq key.name) (ap (λ (k : ObjectKey). k.name)
    (sym (one_from_tie key_exact key s.key tied)))
    ∙ (bytes_eq-Decides key.name key.name).1 refl) ∙ parts.0)))
    (name_apart key slices parts.1)

keys_apart : (slices : List Slice) → have_own_names slices ≡ true
    → are_distinct (eq_by_cmp key_cmp) (map key_of slices) ≡ true
keys_apart [] h = refl
keys_apart (s ∷ slices) h =
    let named = list_any (bytes_eq s.key.name) (map (λ t. t.key.name) slices) in
    let parts = and_parts (not named) _ h in
    and_from _ _ (by named refl parts.0)
    (keys_apart slices parts.1)
  where
    by : (b : Bool) → list_any (bytes_eq s.key.name) (map (λ t. t.key.name) slices) ≡ b
        → not b ≡ true → not (list_any (eq_by_cmp key_cmp s.key) (map key_of slices)) ≡ true
    by true is h = absurd (cc)
    by false is h = ap not (name_apart s.key slices is)

module _ (family : Family) (service : ObjectKey) (m : Slices) (own : AreOwn m)
    (packed : List Slice) (all : are_managed_for family service packed ≡ true)
    (names : have_own_names packed ≡ true) where
  abbrev in_order : List Slice
  in_order = values_of (by_key key_cmp key_of packed)

  differ : IsDistinct (eq_by_cmp key_cmp) (map key_of packed)
  differ = distinct_from_test (eq_by_cmp key_cmp) _ (keys_apart packed names)

  shuffled : IsPermutation in_order packed
  shuffled = by_key_keeps key_total key_of packed differ

  sorted : is_sorted key_cmp (owned key_of in_order) ≡ true
  sorted = by_key_in_order key_total key_exact key_of packed

  found_packed : (s : Slice) → Contains in_order s
      → find key_cmp s.key (owned key_of packed) ≡ Some s
  found_packed s c =
      same_found key_total key_exact key_of packed in_order (λ x. (
        Contains-permutation packed _ x (turned shuffled),
        Contains-permutation _ packed x shuffled,
      )) (in_order_apart key_total key_exact key_of in_order sorted) s.key
      ∙ found_itself key_total key_exact key_of in_order sorted s c

  -- the managed slices are those that were packed, in order
  pub packed_are_managed :
      in_order ≡ managed_slices family service (with_managed family service packed m)
  packed_are_managed =
      let placed = with_managed family service packed m in
      let managed = λ (s : Slice). is_managed_for family service s in
      let own_after = own_placed family service packed m own in
      one_in_order key_of in_order _ (λ s. (
        λ c. in_passing key_of placed own_after managed s
            (packed_first family service packed m s.key s (found_packed s c))
            (from_all managed packed all s (Contains-permutation _ packed s shuffled c)),
        λ c. let both = from_passing key_of placed own_after managed s c in
            elim (from_placed family service packed m s.key s both.0) [
              | inl h ↦ Contains-permutation packed _ s (turned shuffled) h.0
              | inr h ↦ absurd (true≢false (sym both.1 ∙ h.1))
            ],
      )) sorted (passing_in_order key_of placed own_after managed)

  pub settle : (most : ℕ) (wanted : List Wanted) → IsPackingOf most wanted packed
      → IsPackingOf most wanted
      (managed_slices family service (with_managed family service packed m))
  settle most wanted packing =
      subst (IsPackingOf most wanted) packed_are_managed (record {
        placed =
            and_then
            (by_key_pieces key_total (λ s. map (λ e. (sorted_ports s.ports, e)) s.endpoints)
            key_of packed differ) packing.placed;
        some =
            All-permutation (λ s. 1 ≤ length s.endpoints) _ _ (turned shuffled) packing.some;
        bounded =
            All-permutation (λ s. length s.endpoints ≤ most) _ _ (turned shuffled) packing.bounded;
      })

pub packed_settle : PackedSettle
packed_settle family most service wanted packed m own all names packing =
    settle family service m own packed all names most wanted packing

pub packing_settles : ManagedCanBePacked → PackingSettles
packing_settles can family most o m s some own few =
    let before = managed_slices family s.key m in
    let wanted = desired_endpoints_of family o s in
    let taken = names_in s.key.namespace m in
    let each = can family s.key m own in
    let next =
    packing_goes_on family s.key before wanted most taken some few each.0 each.1 each.2 in
    packed_settle family most s.key wanted _ m own next.managed next.names
    (packing_places_each family s.key before wanted most taken some few each.1 each.2)

-- ---- The others

module _ (family : Family) (most : ℕ) (o : Objects) (m : Slices) (s : Service) (some : 1 ≤ most)
    (own : AreOwn m) where
  abbrev pub packed_of : List Slice
  packed_of = (packed_now family most o s m).slices

  pub own_after : AreOwn (after_packing most o s m family)
  own_after = own_placed family s.key packed_of m own

  -- each slice that packing gives is managed, and takes the place of a managed one or of none
  pub takes_own_place : (t : Slice) → Contains packed_of t
      → (is_managed_for family s.key t ≡ true) × (none_else family s.key m (get m t.key) ≡ true)
  takes_own_place t c =
      and_parts _ _ (from_all (takes_place family s.key m) packed_of
      (packed_take_places family s.key m (desired_endpoints_of family o s) most some own) t c)

  -- where none of these passes a test, the slices that pass stay
  module _ (test : Slice → Bool)
      (apart : (t : Slice) → is_managed_for family s.key t ≡ true → test t ≡ true → ⊥) where
    there : (t : Slice) → test t ≡ true → get (after_packing most o s m family) t.key ≡ Some t
        → get m t.key ≡ Some t
    there t is at =
        elim (from_placed family s.key packed_of m t.key t at) [
          | inl h ↦ absurd (apart t (takes_own_place t h.0).0 is)
          | inr h ↦ h.0
        ]

    back : (t : Slice) → test t ≡ true → get m t.key ≡ Some t
        → get (after_packing most o s m family) t.key ≡ Some t
    back t is at = by (find key_cmp t.key (owned key_of packed_of)) refl
      where
        by : (found : Option Slice) → find key_cmp t.key (owned key_of packed_of) ≡ found
            → get (after_packing most o s m family) t.key ≡ Some t
        by None none =
            kept_behind family s.key packed_of m t.key none
            ∙ in_kept (λ (u : Slice). is_managed_for family s.key u) (get m t.key) t at
            (false_from_ne_true _ (λ mine. apart t mine is))
        by (Some u) found =
            let in_packed = found_in key_total key_exact key_of t.key packed_of u found in
            let stands = ap (none_else family s.key m) (ap (get m) in_packed.1 ∙ at) in
            absurd (apart t (sym stands ∙ (takes_own_place u in_packed.0).1) is)

    unmanaged_stay : filter test (finite.values (after_packing most o s m family))
        ≡ filter test (finite.values m)
    unmanaged_stay = passing_alike key_of test _ m own_after own there back

  pub other_stays : (kept : Family) (other : ObjectKey) → s.key ≢ other
      → managed_slices kept other (after_packing most o s m family) ≡ managed_slices kept other m
  other_stays kept other differ =
      unmanaged_stay (is_managed_for kept other)
      (λ t mine theirs. differ (managed_for_one family kept s.key other t mine theirs))

  pub family_stays : (other : Family) (service : ObjectKey) → same_family family other ≡ false
      → managed_slices other service (after_packing most o s m family)
      ≡ managed_slices other service m
  family_stays other service differ =
      unmanaged_stay (is_managed_for other service) (λ t mine theirs.
      true≢false (sym (managed_in_one family other s.key service t mine theirs) ∙ differ))

pub others_stay : OthersStay
others_stay family kept most o m s other some own differ =
    other_stays family most o m s some own kept other differ

pub other_family_stays : OtherFamilyStays
other_family_stays family other most o m s service differ some own =
    family_stays family most o m s some own other service differ

-- ---- In each of some families

module _ (most : ℕ) (o : Objects) (s : Service) (some : 1 ≤ most) where
  pub own_each : (families : List Family) (m : Slices) → AreOwn m
      → AreOwn (after_each families most o m s)
  own_each [] m own = own
  own_each (f ∷ fs) m own = own_each fs _ (own_after f most o m s some own)

  -- the managed slices of each other Service stay
  pub each_stays : (kept : Family) (other : ObjectKey) → s.key ≢ other → (families : List Family)
      (m : Slices) → AreOwn m
      → managed_slices kept other (after_each families most o m s) ≡ managed_slices kept other m
  each_stays kept other apart [] m own = refl
  each_stays kept other apart (f ∷ fs) m own =
      each_stays kept other apart fs (after_packing most o s m f)
      (own_after f most o m s some own)
      ∙ other_stays f most o m s some own kept other apart

  -- a Service that is settled in each stays
  pub settled_each : SettledStay → AreUnderOwnKeys o → (families : List Family) (m : Slices)
      → AreOwn m → ((family : Family) → IsSettled family most o m s)
      → after_each families most o m s ≡ m
  settled_each stay own_objects [] m own settled = refl
  settled_each stay own_objects (f ∷ fs) m own settled =
      ap (λ n. after_each fs most o n s) (stay f most o m s own_objects own (settled f))
      ∙ settled_each stay own_objects fs m own settled

pub one_more_settled : OneMoreSettled
one_more_settled families picked most o m s some own at settled but t at_t selector free family =
    by (eq_by_cmp key_cmp t.key s.key) refl free
  where
    without_it : (b : Bool) → b && true ≡ false → b ≡ false
    without_it true h = h
    without_it false h = refl

    by : (b : Bool) → eq_by_cmp key_cmp t.key s.key ≡ b → picked t.key && not b ≡ false
        → IsSettled family most o (after_each families most o m s) t
    by true tied h =
        let same : s ≡ t = same_Some s t
        (sym at ∙ sym (ap (get o.services) (one_from_tie key_exact t.key s.key tied)) ∙ at_t) in
        subst (IsSettled family most o (after_each families most o m s)) same (settled family)
    by false apart h =
        let others = each_stays most o s some family t.key (λ same.
        true≢false (sym (ap (λ k. eq_by_cmp key_cmp k s.key) (sym same)
        ∙ tie_of_itself key_total s.key) ∙ apart)) families m own in
        subst (IsPackingOf most (desired_endpoints_of family o t)) (sym others)
        (but t at_t selector (without_it (picked t.key) h) family)

pub leftovers_stay : LeftoversStay
leftovers_stay family o m s own at =
    passing_alike key_of (is_managed_for family s.key) _ m (own_without o m own) own
    (λ t is found.
    (from_kept (is_leftover o) (get m t.key) t (sym (found_without o m t.key) ∙ found)).0)
    (λ t is found.
    found_without o m t.key
    ∙ in_kept (is_leftover o) (get m t.key) t found
    (stored_is_kept o s t at (managed_is_of family s.key t is)))
