-- Packing places each wanted endpoint once, in slices with different names.
use Rattle.std.proofs.Common.{◌≡◌, ℕ, ◌+◌, ◌^◌, ◌<◌, ◌≤◌, Bool, true, false, not, cond, List, [], ◌∷◌, ◌++◌, map, length, bytes_eq, refl, sym, ap, subst, ◌∙◌, arith, IsPermutation}
use Rattle.std.proofs.lemmas.List.Folds.{flat_map-map}
use Rattle.std.specs.List.{filter, flat_map, list_any, AllByRecursion, IsDistinct}
use Rattle.std.specs.Ordering.{eq_by_cmp}
use Rattle.std.specs.Cmp.Lexicographic.{texts_ties, nat_list_eq_equiv}
use Rattle.std.proofs.lemmas.Bool.{false≢true, and_parts, false_from_ne_true}
use Rattle.std.proofs.lemmas.Grind.{flat_map-append}
use Rattle.std.proofs.lemmas.List.{map-append, length-map}
use Rattle.std.proofs.lemmas.List.Elements.{All-from_recursion}
use Rattle.std.proofs.lemmas.List.Sorted.{IsPermutation-map}
use Rattle.std.proofs.lemmas.Map.Keys.{IsDistinct-IsPermutation}
use Rattle.std.proofs.lemmas.Slice.Eq.{bytes_eq-Decides}
use Rattle.kp_base.specs.Keys.{text_cmp}
use Rattle.kp_base.specs.declared.address.Family.{Family}
use Rattle.kp_base.specs.declared.key.ObjectKey.{ObjectKey}
use Rattle.kp_base.proofs.KeyOrder.{text_total, text_exact}
use Rattle.kp_types.specs.declared.slice.SliceEndpoint.{SliceEndpoint}
use Rattle.kp_types.specs.declared.slice.Slice.{Slice}
use Rattle.kp_types.specs.declared.slice.Wanted.{Wanted}
use Rattle.kp_object_defs.specs.Desired.{is_empty}
use Rattle.kp_object_defs.specs.Order.{values_of}
use Rattle.kp_object_defs.specs.Packing.{Filling, NewSlice, sorted_ports, pack_groups, new_slices, in_slice_order, filled_slice, stays, Packing, packed_slices}
use Rattle.kp_object_defs.specs.PackingLaws.{have_own_names, are_taken, entries_with_ports, wanted_with_ports, IsPackingOf, PackingPlacesEach}
use Rattle.std.proofs.lemmas.Simd.{map-map}
use Rattle.kp_lemmas.proofs.ListFacts.{all_append, all_both, all_filter, all_weaker}
use Rattle.kp_pack_laws.proofs.Shuffles.{same_list, turned, and_then, passing, all_mapped, all_unmapped, all_permuted}
use Rattle.kp_pack_laws.proofs.Distinct.{distinct_from_test, distinct_mapped, distinct_joined}
use Rattle.kp_pack_laws.proofs.Ordered.{by_key_pieces, by_key_keeps, by_key_permuted}
use Rattle.kp_pack_laws.proofs.Names.{new_names_differ, new_names_free, new_pieces, new_all}
use Rattle.kp_pack_laws.proofs.Keeping.{AreWithin, slices_of}
use Rattle.kp_pack_laws.proofs.Packs.{Entry, entries_of_filling, entries_of_new, all_fillings, all_made, packed_entries, packed_all, packed_differ, packed_within, made_within, made_few}

-- ---- slices in order of their names

abbrev pub name_of : Slice → List ℕ
name_of s = s.key.name

abbrev pub Differ : List Slice → Type 0
Differ slices = IsDistinct bytes_eq (map name_of slices)

by_order_of_texts : (names : List (List ℕ)) → IsDistinct bytes_eq names → IsDistinct (eq_by_cmp text_cmp) names
by_order_of_texts names d = subst (λ (same : List ℕ → List ℕ → Bool). IsDistinct same names) (λ i x y. texts_ties x y i) d

pub ordered_keeps : (slices : List Slice) → Differ slices
    → IsPermutation (in_slice_order slices) slices
ordered_keeps slices d = by_key_keeps text_total name_of slices (by_order_of_texts _ d)

pub ordered_entries : (slices : List Slice) → Differ slices
    → IsPermutation (entries_with_ports (in_slice_order slices)) (entries_with_ports slices)
ordered_entries slices d = by_key_pieces text_total (λ s. map (λ e. (sorted_ports s.ports, e)) s.endpoints) name_of slices (by_order_of_texts _ d)

pub ordered_all : (P : Slice → Type 0) (slices : List Slice) → Differ slices
    → AllByRecursion P slices → AllByRecursion P (in_slice_order slices)
ordered_all P slices d all = all_permuted P (turned (ordered_keeps slices d)) all

pub ordered_differ : (slices : List Slice) → Differ slices → Differ (in_slice_order slices)
ordered_differ slices d = IsDistinct-IsPermutation bytes_eq nat_list_eq_equiv.symm _ _ (IsPermutation-map name_of _ _ (turned (ordered_keeps slices d))) d

-- slices that only change their places
pub ordered_same : (xs ys : List Slice) → IsPermutation xs ys → Differ ys
    → in_slice_order xs ≡ in_slice_order ys
ordered_same xs ys same d =
    ap values_of (by_key_permuted text_total text_exact name_of same (by_order_of_texts _ d))

pub ordered_twice : (slices : List Slice) → Differ slices
    → in_slice_order (in_slice_order slices) ≡ in_slice_order slices
ordered_twice slices d = ordered_same _ slices (ordered_keeps slices d) d

-- ---- slices that stay

-- a slice has an endpoint, and no more than so many
abbrev pub IsSized : ℕ → Slice → Type 0
IsSized most s = (1 ≤ length s.endpoints) × (length s.endpoints ≤ most)

-- so has one that is to be made
abbrev pub IsSizedNew : ℕ → NewSlice → Type 0
IsSizedNew most m = (1 ≤ length m.wanted) × (length m.wanted ≤ most)

-- the name of a slice is among these
abbrev pub IsTaken : List (List ℕ) → Slice → Type 0
IsTaken taken s = list_any (bytes_eq s.key.name) taken ≡ true

abbrev pub stayed : List Filling → List Slice
stayed fs = map filled_slice (filter stays fs)

-- those that don't have nothing
stayed_entries : (fs : List Filling) → entries_with_ports (stayed fs) ≡ flat_map entries_of_filling fs
stayed_entries fs = flat_map-map (λ s. map (λ e. (sorted_ports s.ports, e)) s.endpoints) filled_slice (filter stays fs) ∙ some_have fs
  where
    by : (f : Filling) (rest all : List Entry) (es : List SliceEndpoint) → f.endpoints ≡ es → rest ≡ all → cond (not (is_empty es)) (entries_of_filling f ++ rest) rest ≡ entries_of_filling f ++ all
    by f rest all [] e h = h ∙ ap (λ es. map (λ e. (sorted_ports f.slice.ports, e)) es ++ all) (sym e)
    by f rest all (x ∷ es) e h = ap (λ l. entries_of_filling f ++ l) h

    inside : (f : Filling) (gs : List Filling) (b : Bool) → flat_map entries_of_filling (cond b (f ∷ gs) gs) ≡ cond b (entries_of_filling f ++ flat_map entries_of_filling gs) (flat_map entries_of_filling gs)
    inside f gs true = refl
    inside f gs false = refl

    some_have : (gs : List Filling) → flat_map entries_of_filling (filter stays gs) ≡ flat_map entries_of_filling gs
    some_have [] = refl
    some_have (g ∷ gs) = inside g _ (stays g) ∙ by g _ _ g.endpoints refl (some_have gs)

stayed_names : (fs : List Filling) → map name_of (stayed fs) ≡ map (λ f. f.slice.key.name) (filter stays fs)
stayed_names fs = map-map name_of filled_slice (filter stays fs)

stayed_differ : (fs : List Filling) → Differ (slices_of fs) → Differ (stayed fs)
stayed_differ fs d =
    subst (IsDistinct bytes_eq) (sym (stayed_names fs))
    (distinct_mapped bytes_eq (λ f. f.slice.key.name) stays fs (subst (IsDistinct bytes_eq) (map-map name_of (λ f. f.slice) fs) d))

some_endpoints : (es : List SliceEndpoint) → not (is_empty es) ≡ true → 1 ≤ length es
some_endpoints [] h = absurd (false≢true h)
some_endpoints (e ∷ es) h = omega arith

stayed_sizes : (most : ℕ) (fs : List Filling) → AreWithin most fs → AllByRecursion (IsSized most) (stayed fs)
stayed_sizes most fs le =
    all_mapped (IsSized most) filled_slice _
    (all_both (λ f. 1 ≤ length f.endpoints) (λ f. length f.endpoints ≤ most) _
    (all_weaker (λ f. stays f ≡ true) (λ f. 1 ≤ length f.endpoints) (λ f. some_endpoints f.endpoints) _ (passing stays fs))
    (all_filter (λ f. length f.endpoints ≤ most) stays fs le))

-- ---- names

pub taken_each : (taken : List (List ℕ)) (slices : List Slice) → are_taken taken slices ≡ true
    → AllByRecursion (IsTaken taken) slices
taken_each taken [] h = tt
taken_each taken (s ∷ slices) h = let p = and_parts (list_any (bytes_eq s.key.name) taken) (are_taken taken slices) h in (p.0, taken_each taken slices p.1)

pub stayed_taken : (taken : List (List ℕ)) (fs : List Filling)
    → AllByRecursion (IsTaken taken) (slices_of fs)
    → AllByRecursion (λ name. list_any (bytes_eq name) taken ≡ true) (map name_of (stayed fs))
stayed_taken taken fs all =
    let T = λ (name : List ℕ). list_any (bytes_eq name) taken ≡ true in
    subst (AllByRecursion T) (sym (stayed_names fs))
    (all_mapped T (λ f. f.slice.key.name) _ (all_filter (λ f. T f.slice.key.name) stays fs (all_unmapped (λ s. T s.key.name) (λ f. f.slice) fs all)))

-- a name that is taken isn't a free one
apart : (taken names free : List (List ℕ)) → AllByRecursion (λ name. list_any (bytes_eq name) taken ≡ true) names → AllByRecursion (λ name. not (list_any (bytes_eq name) taken) ≡ true) free
    → AllByRecursion (λ x. AllByRecursion (λ y. bytes_eq x y ≡ false) free) names
apart taken names free a b =
    all_weaker (λ x. list_any (bytes_eq x) taken ≡ true) (λ x. AllByRecursion (λ y. bytes_eq x y ≡ false) free)
    (λ x is. all_weaker (λ y. not (list_any (bytes_eq y) taken) ≡ true) (λ y. bytes_eq x y ≡ false)
    (λ y isnt. false_from_ne_true _ (λ e. false≢true (sym (ap not (subst (λ n. list_any (bytes_eq n) taken ≡ true) ((bytes_eq-Decides x y).0 e) is)) ∙ isnt))) free b) names a

-- ---- all slices

module _ (family : Family) (service : ObjectKey) (taken : List (List ℕ)) where
  abbrev all_slices : List Filling → List NewSlice → List Slice
  all_slices fs made = stayed fs ++ new_slices family service taken made

  all_differ : (fs : List Filling) (made : List NewSlice) → length taken + length made < 10 ^ 64 → Differ (slices_of fs) → AllByRecursion (IsTaken taken) (slices_of fs) → Differ (all_slices fs made)
  all_differ fs made small d are =
      subst (IsDistinct bytes_eq) (sym (map-append name_of (stayed fs) (new_slices family service taken made)))
      (distinct_joined bytes_eq _ _ (stayed_differ fs d) (new_names_differ family service taken made small)
      (apart taken _ _ (stayed_taken taken fs are) (new_names_free family service taken made small)))

  all_entries : (fs : List Filling) (made : List NewSlice) → length taken + length made < 10 ^ 64 → entries_with_ports (all_slices fs made) ≡ flat_map entries_of_filling fs ++ flat_map entries_of_new made
  all_entries fs made small =
      flat_map-append (λ s. map (λ e. (sorted_ports s.ports, e)) s.endpoints) (stayed fs) (new_slices family service taken made)
      ∙ (λ i. stayed_entries fs i ++ new_pieces family service taken made small (λ s. map (λ e. (sorted_ports s.ports, e)) s.endpoints) _
      (λ name m. map-map (λ e. (sorted_ports m.ports, e)) (λ w. w.entry) m.wanted) i)

  all_sizes : (most : ℕ) (fs : List Filling) (made : List NewSlice) → AreWithin most fs → AllByRecursion (IsSizedNew most) made
      → AllByRecursion (IsSized most) (all_slices fs made)
  all_sizes most fs made le sizes =
      all_append (IsSized most) _ _ (stayed_sizes most fs le)
      (new_all family service (IsSizedNew most) (IsSized most)
      (λ name m h. let long = length-map m.wanted (λ w. w.entry) in (omega (arith, h), omega (arith, h))) taken made sizes)

  packing_of : (most : ℕ) (wanted : List Wanted) (fs : List Filling) (made : List NewSlice) → length taken + length made < 10 ^ 64 → Differ (slices_of fs)
      → AllByRecursion (IsTaken taken) (slices_of fs) → AreWithin most fs → AllByRecursion (IsSizedNew most) made
      → IsPermutation (flat_map entries_of_filling fs ++ flat_map entries_of_new made) (wanted_with_ports wanted) → IsPackingOf most wanted (in_slice_order (all_slices fs made))
  packing_of most wanted fs made small d are le sizes same =
      let differ = all_differ fs made small d are in
      let both = ordered_all (IsSized most) _ differ (all_sizes most fs made le sizes) in
      record {
        placed = and_then (ordered_entries _ differ) (and_then (same_list (all_entries fs made small)) same);
        some = All-from_recursion (λ s. 1 ≤ length s.endpoints) _ (all_weaker (IsSized most) (λ s. 1 ≤ length s.endpoints) (λ s h. h.0) _ both);
        bounded = All-from_recursion (λ s. length s.endpoints ≤ most) _ (all_weaker (IsSized most) (λ s. length s.endpoints ≤ most) (λ s h. h.1) _ both);
      }

-- ---- the slices after packing

module _ (family : Family) (service : ObjectKey) (before : List Slice) (wanted : List Wanted)
    (most : ℕ) (taken : List (List ℕ)) where
  -- what all groups became
  abbrev pub packs : List Packing
  packs = pack_groups most (in_slice_order before) wanted

  -- the slices before they are put in order
  abbrev pub placed_slices : List Slice
  placed_slices = all_slices family service taken (all_fillings packs) (all_made packs)

  module _ (some : 1 ≤ most) (small : length taken + length wanted < 10 ^ 64)
      (own : have_own_names before ≡ true)
      (are : are_taken taken before ≡ true) where
    pub few_made : length taken + length (all_made packs) < 10 ^ 64
    few_made = omega (arith, small, made_few most some (in_slice_order before) wanted)

    before_differ : Differ before
    before_differ = distinct_from_test bytes_eq _ own

    pub filled_all : (P : Slice → Type 0) → AllByRecursion P before
        → AllByRecursion P (slices_of (all_fillings packs))
    filled_all P all = packed_all most some _ wanted P (ordered_all P before before_differ all)

    pub filled_taken : AllByRecursion (IsTaken taken)
        (slices_of (all_fillings packs))
    filled_taken = filled_all _ (taken_each taken before are)

    filled_differ : Differ (slices_of (all_fillings packs))
    filled_differ = packed_differ most some _ wanted (ordered_differ before before_differ)

    pub placed_differ : Differ placed_slices
    placed_differ = all_differ family service taken _ _ few_made filled_differ filled_taken

    pub is_packing : IsPackingOf most wanted
        (packed_slices family service before wanted most taken).slices
    is_packing =
        packing_of family service taken most wanted _ _ few_made filled_differ
        filled_taken (packed_within most some (in_slice_order before) wanted)
        (made_within most some (in_slice_order before) wanted)
        (packed_entries most some (in_slice_order before) wanted)

pub packing_places_each : PackingPlacesEach
packing_places_each family service before wanted most taken some small own are =
    is_packing family service before wanted most taken some small own are
