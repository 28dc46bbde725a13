-- The slices that are managed for a Service, and those that packing puts in their place.
use Rattle.std.proofs.Common.{◌≡◌, ℕ, ◌≤◌, ◌&&◌, Bool, true, false, true≢false, not, List, [], ◌∷◌, map, length, Contains, Option, Some, None, bytes_eq, filter, is_some, refl, sym, ap, subst, ◌∙◌}
use Rattle.std.specs.List.{list_all, list_any, zip, AllByRecursion}
use Rattle.std.specs.Cmp.Lexicographic.{nat_list_eq_equiv}
use Rattle.std.specs.FinMap as finite
use Rattle.std.specs.FinMap.{get}
use Rattle.std.proofs.lemmas.Bool.{and_from, and_parts, and_right}
use Rattle.std.proofs.lemmas.List.Elements.{All-from_recursion}
use Rattle.std.proofs.lemmas.Slice.Eq.{bytes_eq-Decides}
use Rattle.kp_lemmas.proofs.ListFacts.{all_filter, all_tested, test_append}
use Rattle.kp_lemmas.proofs.Members.{all_from, any_from, filter_passes, in_filter, in_map}
use Rattle.kp_base.specs.Keys.{text_cmp}
use Rattle.kp_base.specs.Net.{same_family}
use Rattle.kp_base.specs.declared.address.Family.{Family}
use Rattle.kp_base.specs.declared.address.Family.TheVariants.{V4, V6}
use Rattle.kp_base.specs.declared.key.ObjectKey.{ObjectKey}
use Rattle.kp_types.specs.declared.service.Service.{Service}
use Rattle.kp_types.specs.declared.slice.AddressType.{AddressType}
use Rattle.kp_types.specs.declared.slice.AddressType.TheVariants.{Ipv4, Ipv6, Fqdn}
use Rattle.kp_types.specs.declared.slice.Slice.{Slice}
use Rattle.kp_types.specs.declared.slice.Wanted.{Wanted}
use Rattle.kp_object_defs.specs.Entries.{is_named, is_of_service, is_type_of}
use Rattle.kp_object_defs.specs.Objects.{Objects}
use Rattle.kp_object_defs.specs.Packing.{Filling, NewSlice, filled_slice, free_names, in_slice_order, new_slice, new_slices, packed_slices, stays}
use Rattle.kp_object_defs.specs.PackingLaws.{is_managed_for}
use Rattle.kp_object_defs.specs.SlicesNow.{Slices, is_leftover, managed_slices, names_absent, names_in}
use Rattle.kp_object_defs.proofs.AllOf.{all_in_order, all_named, all_reverse}
use Rattle.kp_object_defs.proofs.InOrder.{map-reverse}
use Rattle.kp_pack_laws.proofs.Packs.{all_fillings, all_made, packed_all}
use Rattle.kp_pack_laws.proofs.Shuffles.{all_mapped, all_unmapped}
use Rattle.kp_pack_laws.proofs.Theorem.{name_of, packs, placed_slices, stayed}
use Rattle.kp_settle_laws.specs.SettleLaws.{AreOwn}
use Rattle.kp_settle_laws.proofs.OwnValues.{from_passing, in_values}

-- ---- Labels

-- a slice's label names one Service
pub one_owner : (a b : ObjectKey) (s : Slice) → is_of_service a s ≡ true → is_of_service b s ≡ true
    → a ≡ b
one_owner a b s of_a of_b =
    let first = and_parts _ _ of_a in
    let second = and_parts _ _ of_b in
    let there = sym ((bytes_eq-Decides s.key.namespace a.namespace).0 first.0)
    ∙ (bytes_eq-Decides s.key.namespace b.namespace).0 second.0 in
    let named = by s.service first.1 second.1 in
    λ i. record { namespace = there i; name = named i }
  where
    by : (label : Option (List ℕ)) → is_named a.name label ≡ true → is_named b.name label ≡ true
        → a.name ≡ b.name
    by None h k = absurd (cc)
    by (Some name) h k =
        sym ((bytes_eq-Decides name a.name).0 h) ∙ (bytes_eq-Decides name b.name).0 k

-- a slice is managed for the Service that its label names
pub managed_is_of : (family : Family) (service : ObjectKey) (s : Slice)
    → is_managed_for family service s ≡ true → is_of_service service s ≡ true
managed_is_of family service s h =
    (and_parts (is_of_service service s) (s.managed && is_type_of family s.family) h).0

-- so not for another, whatever the family
pub managed_for_one : (family other : Family) (a b : ObjectKey) (s : Slice)
    → is_managed_for family a s ≡ true → is_managed_for other b s ≡ true → a ≡ b
managed_for_one family other a b s h k =
    one_owner a b s (managed_is_of family a s h) (managed_is_of other b s k)

-- and in one family
one_type : (a b : Family) (t : AddressType) → is_type_of a t ≡ true → is_type_of b t ≡ true
    → same_family a b ≡ true
one_type V4 V4 t h k = refl
one_type V6 V6 t h k = refl
one_type V4 V6 Ipv4 h k = absurd (cc)
one_type V4 V6 Ipv6 h k = absurd (cc)
one_type V4 V6 Fqdn h k = absurd (cc)
one_type V6 V4 Ipv4 h k = absurd (cc)
one_type V6 V4 Ipv6 h k = absurd (cc)
one_type V6 V4 Fqdn h k = absurd (cc)

pub managed_in_one : (family other : Family) (a b : ObjectKey) (s : Slice)
    → is_managed_for family a s ≡ true → is_managed_for other b s ≡ true
    → same_family family other ≡ true
managed_in_one family other a b s h k =
    one_type family other s.family
    (and_parts s.managed _ (and_parts (is_of_service a s) _ h).1).1
    (and_parts s.managed _ (and_parts (is_of_service b s) _ k).1).1

-- whether the Service of a slice is absent is told by the Service that its label names
pub absent_by_label : (o : Objects) (service : ObjectKey) (s : Slice)
    → is_of_service service s ≡ true
    → names_absent o s.key.namespace s.service ≡ not (finite.contains_key o.services service)
absent_by_label o service s h =
    let parts = and_parts _ _ h in
    let there = (bytes_eq-Decides s.key.namespace service.namespace).0 parts.0 in
    by there s.service parts.1
  where
    by : s.key.namespace ≡ service.namespace → (label : Option (List ℕ))
        → is_named service.name label ≡ true
        → names_absent o s.key.namespace label ≡ not (finite.contains_key o.services service)
    by there None h = absurd (cc)
    by there (Some name) h =
        let named = (bytes_eq-Decides name service.name).0 h in
        λ i. not (finite.contains_key o.services (record { namespace = there i; name = named i }))

-- the slices of a Service that is there aren't left over
pub stored_is_kept : (o : Objects) (t : Service) (s : Slice)
    → get o.services t.key ≡ Some t → is_of_service t.key s ≡ true → is_leftover o s ≡ false
stored_is_kept o t s at h =
    ap (λ b. s.managed && b)
    (absent_by_label o t.key s h ∙ ap (λ (found : Option Service). not (is_some found)) at)
    ∙ and_right s.managed false refl

-- ---- What packing puts in

module _ (family : Family) (service : ObjectKey) (m : Slices) where
  -- a slice that is found, if there is one, is managed for the Service
  abbrev pub none_else : Option Slice → Bool
  none_else None = true
  none_else (Some s) = is_managed_for family service s

  -- a slice is managed for the Service, and takes the place of such a slice or of none
  abbrev pub takes_place : Slice → Bool
  takes_place s = is_managed_for family service s && none_else (get m s.key)

  -- the managed slices do
  own_place : (s : Slice) → get m s.key ≡ Some s → is_managed_for family service s ≡ true
      → takes_place s ≡ true
  own_place s at is = and_from _ _ is (ap none_else at ∙ is)

  -- and so does a new slice with a name that isn't taken
  module _ (own : AreOwn m) where
    free_place : (key : ObjectKey) → bytes_eq key.namespace service.namespace ≡ true
        → not (list_any (bytes_eq key.name) (names_in service.namespace m)) ≡ true
        → none_else (get m key) ≡ true
    free_place key here free = by (get m key) refl
      where
        by : (o : Option Slice) → get m key ≡ o → none_else o ≡ true
        by None at = refl
        by (Some s) at =
            let same : s.key ≡ key = own key s at in
            let stored : get m s.key ≡ Some s = ap (get m) same ∙ at in
            let here_too = λ (t : Slice). bytes_eq t.key.namespace service.namespace in
            let inside : Contains (filter here_too (finite.values m)) s =
            in_filter here_too s (finite.values m)
            (in_values (λ (t : Slice). t.key) m own s stored)
            (ap (λ (k : ObjectKey). bytes_eq k.namespace service.namespace) same ∙ here) in
            let taken : list_any (bytes_eq key.name) (names_in service.namespace m) ≡ true =
            any_from (bytes_eq key.name) s.key.name (names_in service.namespace m)
            (in_map (λ (t : Slice). t.key.name) s _ inside)
            (ap (λ (k : ObjectKey). bytes_eq key.name k.name) same
            ∙ nat_list_eq_equiv.refl key.name) in
            absurd (true≢false (sym free ∙ ap not taken))

    new_place : (name : List ℕ) (made : NewSlice)
        → is_managed_for family service (new_slice family service (name, made)) ≡ true
        → not (list_any (bytes_eq name) (names_in service.namespace m)) ≡ true
        → takes_place (new_slice family service (name, made)) ≡ true
    new_place name made is free =
        and_from _ _ is
        (free_place (record { namespace = service.namespace; name = name })
        (nat_list_eq_equiv.refl service.namespace) free)

-- a new slice with a free name does so
new_takes_place : (family : Family) (service : ObjectKey) (m : Slices) → AreOwn m
    → (name : List ℕ) (made : NewSlice)
    → not (list_any (bytes_eq name) (names_in service.namespace m)) ≡ true
    → takes_place family service m (new_slice family service (name, made)) ≡ true
new_takes_place V4 service m own name made free =
    new_place V4 service m own name made
    (and_from _ _ (and_from _ _ (nat_list_eq_equiv.refl service.namespace)
    (nat_list_eq_equiv.refl service.name)) refl) free
new_takes_place V6 service m own name made free =
    new_place V6 service m own name made
    (and_from _ _ (and_from _ _ (nat_list_eq_equiv.refl service.namespace)
    (nat_list_eq_equiv.refl service.name)) refl) free

-- new slices pass a test that those with free names pass
made_pass : (family : Family) (service : ObjectKey) (taken : List (List ℕ)) (test : Slice → Bool)
    → ((name : List ℕ) (made : NewSlice) → not (list_any (bytes_eq name) taken) ≡ true
    → test (new_slice family service (name, made)) ≡ true)
    → (names : List (List ℕ)) (made : List NewSlice)
    → list_all (λ name. not (list_any (bytes_eq name) taken)) names ≡ true
    → list_all test (map (new_slice family service) (zip names made)) ≡ true
made_pass family service taken test each [] made free = refl
made_pass family service taken test each (n ∷ ns) [] free = refl
made_pass family service taken test each (n ∷ ns) (x ∷ xs) free =
    let parts = and_parts _ _ free in
    and_from _ _ (each n x parts.0) (made_pass family service taken test each ns xs parts.1)

-- slices in order pass where all do
ordered_pass : (test : Slice → Bool) (slices : List Slice) → list_all test slices ≡ true
    → list_all test (in_slice_order slices) ≡ true
ordered_pass test slices h =
    all_in_order test text_cmp _
    (ap (list_all test)
    (map-reverse (λ (e : List ℕ × Slice). e.1) (map (λ s. (name_of s, s)) slices))
    ∙ all_reverse test _ (all_named test name_of slices h))

-- packed slices pass a test that the slices before and new ones with free names pass, if their
-- endpoints don't count
packed_pass : (family : Family) (service : ObjectKey) (before : List Slice) (wanted : List Wanted)
    (most : ℕ) (taken : List (List ℕ)) (test : Slice → Bool) → 1 ≤ most
    → ((f : Filling) → test (filled_slice f) ≡ test f.slice)
    → list_all test before ≡ true
    → ((name : List ℕ) (made : NewSlice) → not (list_any (bytes_eq name) taken) ≡ true
    → test (new_slice family service (name, made)) ≡ true)
    → list_all test (packed_slices family service before wanted most taken).slices ≡ true
packed_pass family service before wanted most taken test some keeps all each =
    let P = λ (s : Slice). test s ≡ true in
    let all_packs = packs family service before wanted most taken in
    let fs = all_fillings all_packs in
    let made = all_made all_packs in
    let filled = packed_all most some (in_slice_order before) wanted P
    (all_tested test _ (ordered_pass test before all)) in
    let stay : AllByRecursion P (stayed fs) = all_mapped P filled_slice _
    (all_filter (λ f. test (filled_slice f) ≡ true) stays fs
    (back fs (all_unmapped P (λ f. f.slice) fs filled))) in
    let stay_pass : list_all test (stayed fs) ≡ true =
    all_from test (stayed fs) (λ x c. subst P c.2 (All-from_recursion P _ stay c.0 x c.1)) in
    ordered_pass test (placed_slices family service before wanted most taken)
    (test_append test (stayed fs) (new_slices family service taken made) stay_pass
    (made_pass family service taken test each (free_names service taken (length made)) made
    (filter_passes (λ name. not (list_any (bytes_eq name) taken)) _)))
  where
    back : (fs : List Filling) → AllByRecursion (λ f. test f.slice ≡ true) fs
        → AllByRecursion (λ f. test (filled_slice f) ≡ true) fs
    back [] all = tt
    back (f ∷ fs) all = (keeps f ∙ all.0, back fs all.1)

-- each packed slice is managed, and takes the place of a managed one or of none
pub packed_take_places : (family : Family) (service : ObjectKey) (m : Slices)
    (wanted : List Wanted) (most : ℕ) → 1 ≤ most → AreOwn m
    → list_all (takes_place family service m)
    (packed_slices family service (managed_slices family service m) wanted most
    (names_in service.namespace m)).slices ≡ true
packed_take_places family service m wanted most some own =
    let test = takes_place family service m in
    packed_pass family service (managed_slices family service m) wanted most
    (names_in service.namespace m) test some (λ f. refl)
    (all_from test _ (λ s c.
    let both = from_passing (λ (t : Slice). t.key) m own (is_managed_for family service) s c in
    own_place family service m s both.0 both.1))
    (new_takes_place family service m own)
