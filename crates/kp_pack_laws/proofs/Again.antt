-- Packing slices that have the wanted endpoints already changes nothing.
use Rattle.std.proofs.Common.{◌≡◌, ℕ, ◌+◌, ◌≤◌, Bool, true, false, cond, not, ◌&&◌, List, [], ◌∷◌, ◌++◌, map, length, refl, sym, ap, subst, ◌∙◌, append-nil, arith, IsPermutation, bytes_eq}
use Rattle.std.proofs.lemmas.List.Folds.{flat_map-map}
use Rattle.std.specs.List.{filter, flat_map, list_any, sum_by, zip, AllByRecursion, IsDistinct}
use Rattle.std.proofs.lemmas.List.{length-append}
use Rattle.std.proofs.lemmas.List.Elements.{recursion_from_All}
use Rattle.std.proofs.lemmas.List.Sorted.{sum_by-IsPermutation, All-permutation}
use Rattle.std.proofs.lemmas.List.Sums.{sum_by-cons, sum_by-append}
use Rattle.kp_base.specs.declared.address.Family.{Family}
use Rattle.kp_base.specs.declared.key.ObjectKey.{ObjectKey}
use Rattle.kp_types.specs.declared.slice.SlicePort.{SlicePort}
use Rattle.kp_types.specs.declared.slice.SliceEndpoint.{SliceEndpoint}
use Rattle.kp_types.specs.declared.slice.Slice.{Slice}
use Rattle.kp_types.specs.declared.slice.Wanted.{Wanted}
use Rattle.kp_object_defs.specs.Desired.{is_empty}
use Rattle.kp_object_defs.specs.Packing.{Packing, sorted_ports, same_ports, is_in_group, is_left_over, groups_of, pack_group, pack_groups, new_slice, new_slices, filled_slice, stays, is_updated, in_slice_order, slice_names, packed_by, packed_groups, packed_slices}
use Rattle.kp_object_defs.specs.PackingLaws.{have_own_pods, entries_name_pods, entries_with_ports, wanted_with_ports, IsPackingOf, unchanged, PackedStay, PackingAgainChangesNothing}
use Rattle.std.proofs.lemmas.Simd.{map-map}
use Rattle.kp_lemmas.proofs.ListFacts.{all_append, all_filter, all_weaker}
use Rattle.kp_pack_laws.proofs.Shuffles.{same_list, turned, and_then, mapped_pieces, same_itself, same_pieces, all_of, all_mapped, all_unmapped, all_split, all_permuted, all_pass}
use Rattle.kp_pack_laws.proofs.Distinct.{distinct_from_test, distinct_filtered}
use Rattle.kp_pack_laws.proofs.Groups.{in_groups}
use Rattle.kp_pack_laws.proofs.Ordered.{single}
use Rattle.kp_pack_laws.proofs.Ports.{ports_exact, ports_equiv}
use Rattle.kp_pack_laws.proofs.Pods.{same_pod, are_named, pods_once}
use Rattle.kp_pack_laws.proofs.Packs.{Entry, groups_differ, all_in_groups}
use Rattle.kp_pack_laws.proofs.Settled.{entries_same, each_found, Finds, AreThere, whole, group_stays}
use Rattle.kp_pack_laws.proofs.Theorem.{Differ, ordered_keeps, ordered_differ, ordered_entries, ordered_same, ordered_twice, placed_slices, placed_differ, is_packing}

-- the entries of slices
abbrev entries_in : List Slice → List SliceEndpoint
entries_in ss = flat_map (λ s. s.endpoints) ss

-- ---- the entries of a group

module _ (group : List SlicePort) where
  abbrev slices_here : List Slice → List Slice
  slices_here ss = filter (λ s. is_in_group group s.ports) ss

  abbrev wanted_here : List Wanted → List Wanted
  wanted_here ws = filter (λ w. is_in_group group w.ports) ws

  -- what holds of the entries with these ports holds of the group's
  all_here : (P : SliceEndpoint → Type 0) (ss : List Slice)
      → AllByRecursion (λ t. t.0 ≡ group → P t.1) (entries_with_ports ss)
      → AllByRecursion P (entries_in (slices_here ss))
  all_here P [] all = tt
  all_here P (s ∷ ss) all =
      let parts = all_split (λ t. t.0 ≡ group → P t.1) _ _ all in
      by _ refl parts.0 (all_here P ss parts.1)
    where
      by : (b : Bool) → is_in_group group s.ports ≡ b
          → AllByRecursion {X = Entry} (λ t. t.0 ≡ group → P t.1)
          (map (λ e. (sorted_ports s.ports, e)) s.endpoints)
          → AllByRecursion P (entries_in (slices_here ss))
          → AllByRecursion P (entries_in (cond b (s ∷ slices_here ss) (slices_here ss)))
      by true e own rest =
          all_append P s.endpoints _ (all_weaker _ P (λ x h. h (ports_exact _ group e)) s.endpoints
          (all_unmapped {Y = Entry} (λ t. t.0 ≡ group → P t.1)
          (λ e. (sorted_ports s.ports, e)) s.endpoints own)) rest
      by false e own rest = rest

  -- the wanted endpoints of the group are found by their entries
  wanted_found : (ws all : List Wanted)
      → AllByRecursion (λ w. is_in_group group w.ports ≡ true → Finds (wanted_here all) w.entry) ws
      → AllByRecursion (λ t. t.0 ≡ group → Finds (wanted_here all) t.1) (wanted_with_ports ws)
  wanted_found ws all h =
      all_mapped _ (λ w. (sorted_ports w.ports, w.entry)) ws (all_weaker _ _ (λ w found is. found
      (ap (λ p. same_ports p group) is ∙ ports_equiv.refl group)) ws h)

  -- ---- their number

  abbrev one_here : Entry → ℕ
  one_here t = cond (same_ports t.0 group) 1 0

  number_of_one : (ports : List SlicePort) (es : List SliceEndpoint) (b : Bool)
      → same_ports ports group ≡ b
      → sum_by one_here (map (λ e. (ports, e)) es) ≡ cond b (length es) 0
  number_of_one ports [] true h = refl
  number_of_one ports [] false h = refl
  number_of_one ports (e ∷ es) true h =
      let rest = number_of_one ports es true h in
      let first : one_here (ports, e) ≡ 1 = ap (λ b. cond b 1 0) h in
      sum_by-cons one_here (ports, e) (map (λ e. (ports, e)) es) ∙ omega arith
  number_of_one ports (e ∷ es) false h =
      let rest = number_of_one ports es false h in
      let first : one_here (ports, e) ≡ 0 = ap (λ b. cond b 1 0) h in
      sum_by-cons one_here (ports, e) (map (λ e. (ports, e)) es) ∙ omega arith

  number_of_entries : (ss : List Slice)
      → sum_by one_here (entries_with_ports ss) ≡ length (entries_in (slices_here ss))
  number_of_entries [] = refl
  number_of_entries (s ∷ ss) =
      sum_by-append one_here (map (λ e. (sorted_ports s.ports, e)) s.endpoints)
      (entries_with_ports ss) ∙ by _ (number_of_one _ s.endpoints _ refl) (number_of_entries ss)
    where
      by : {m n : ℕ} (b : Bool) → m ≡ cond b (length s.endpoints) 0
          → n ≡ length (entries_in (slices_here ss))
          → m + n ≡ length (entries_in (cond b (s ∷ slices_here ss) (slices_here ss)))
      by true first rest =
          let long = length-append s.endpoints (entries_in (slices_here ss)) in omega arith
      by false first rest = omega arith

  number_of_wanted : (ws : List Wanted)
      → sum_by one_here (wanted_with_ports ws) ≡ length (wanted_here ws)
  number_of_wanted [] = refl
  number_of_wanted (w ∷ ws) =
      sum_by-cons one_here (sorted_ports w.ports, w.entry) (wanted_with_ports ws)
      ∙ by _ (number_of_wanted ws)
    where
      by : {n : ℕ} (b : Bool) → n ≡ length (wanted_here ws)
          → cond b 1 0 + n ≡ length (cond b (w ∷ wanted_here ws) (wanted_here ws))
      by true rest = omega arith
      by false rest = omega arith

-- ---- each group stays as it is

module _ (most : ℕ) (wanted : List Wanted) (ss : List Slice) (own : have_own_pods wanted ≡ true)
    (named : entries_name_pods wanted ≡ true) (packing : IsPackingOf most wanted ss) where
  there : (group : List SlicePort)
      → AreThere (entries_in (slices_here group ss)) (wanted_here group wanted)
  there group =
      let q = λ (w : Wanted). is_in_group group w.ports in
      let each = each_found q wanted (are_named wanted named) (distinct_from_test _ _ own) in
      let found =
      wanted_found group wanted wanted (all_weaker _ _ (λ w f is. (w, f is, refl)) wanted each) in
      let once = subst (IsDistinct same_pod) (mapped_pieces (λ e. e.pod) (λ s. s.endpoints) ss)
      (pods_once most wanted ss own named packing) in
      record {
        finds = all_here group _ ss (all_permuted _ (turned packing.placed) found);
        once =
            subst (IsDistinct same_pod)
            (sym (mapped_pieces (λ e. e.pod) (λ s. s.endpoints) (slices_here group ss)))
            (distinct_filtered same_pod (λ s. map (λ e. e.pod) s.endpoints)
            (λ s. is_in_group group s.ports) ss once);
        many =
            sym (number_of_entries group ss)
            ∙ sum_by-IsPermutation _ _ _ (turned packing.placed) ∙ number_of_wanted group wanted;
      }

  abbrev settled : List SlicePort → Packing
  settled group = record { fillings = map whole (slices_here group ss); made = [] }

  stays_so : (group : List SlicePort) → pack_group most ss wanted group ≡ settled group
  stays_so group =
      let within = recursion_from_All (λ s. length s.endpoints ≤ most) ss packing.bounded in
      ap (λ placed. record {
        fillings = placed.fillings;
        made = map (λ more. record { ports = group; wanted = more }) placed.made;
      }) (group_stays most _ _ (there group)
      (all_filter (λ s. length s.endpoints ≤ most) (λ s. is_in_group group s.ports) ss within))

  -- ---- all groups

  abbrev in_some : List SlicePort → Bool
  in_some ports = list_any (same_ports ports) (groups_of wanted)

  has_some : (P : List SlicePort → Type 0) (es : List SliceEndpoint) (ports : List SlicePort)
      → 1 ≤ length es
      → AllByRecursion {X = Entry} (λ t. P t.0) (map (λ e. (ports, e)) es) → P ports
  has_some P [] ports some all = absurd (omega arith)
  has_some P (e ∷ es) ports some all = all.0

  -- each slice is of a group, since it has a wanted endpoint
  each_grouped : (rest : List Slice) → AllByRecursion (λ s. 1 ≤ length s.endpoints) rest
      → AllByRecursion (λ t. in_some t.0 ≡ true) (entries_with_ports rest)
      → AllByRecursion (λ s. in_some (sorted_ports s.ports) ≡ true) rest
  each_grouped [] some all = tt
  each_grouped (s ∷ rest) some all =
      let parts = all_split _ _ _ all in (
        has_some (λ ports. in_some ports ≡ true) s.endpoints _ some.0 parts.0,
        each_grouped rest some.1 parts.1,
      )

  are_some : AllByRecursion (λ s. 1 ≤ length s.endpoints) ss
  are_some = recursion_from_All (λ s. 1 ≤ length s.endpoints) ss packing.some

  all_grouped : AllByRecursion (λ s. in_some (sorted_ports s.ports) ≡ true) ss
  all_grouped =
      each_grouped ss are_some (all_permuted _ (turned packing.placed)
      (all_mapped _ (λ w. (sorted_ports w.ports, w.entry)) wanted (all_in_groups wanted)))

  -- the slices group by group
  abbrev by_groups : List Slice
  by_groups = flat_map (λ group. slices_here group ss) (groups_of wanted)

  same_slices : IsPermutation by_groups ss
  same_slices =
      and_then (same_list (same_pieces _ _ (groups_of wanted)
      (all_of (λ group. slices_here group ss ≡ flat_map (λ s. s ∷ []) (slices_here group ss))
      (λ group. sym (single (slices_here group ss))) (groups_of wanted))))
      (and_then (in_groups same_ports ports_exact (λ s. sorted_ports s.ports) (λ s. s ∷ []) ss _
      (groups_differ wanted))
      (same_list (single _ ∙ all_pass (λ s. in_some (sorted_ports s.ports)) ss all_grouped)))

  none_made : (groups : List (List SlicePort)) → flat_map (λ p. p.made) (map settled groups) ≡ []
  none_made [] = refl
  none_made (g ∷ groups) = none_made groups

  fillings_are : (groups : List (List SlicePort)) → flat_map (λ p. p.fillings) (map settled groups)
      ≡ map whole (flat_map (λ group. slices_here group ss) groups)
  fillings_are groups =
      flat_map-map (λ p. p.fillings) settled groups
      ∙ sym (mapped_pieces whole (λ group. slices_here group ss) groups)

-- ---- slices that have what is wanted

none_pass : {X : Type 0} (p : X → Bool) (xs : List X) → AllByRecursion (λ x. p x ≡ false) xs
    → filter p xs ≡ []
none_pass p [] all = refl
none_pass p (x ∷ xs) all =
    ap (λ b. cond b (x ∷ filter p xs) (filter p xs)) all.0 ∙ none_pass p xs all.1

no_new : (family : Family) (service : ObjectKey) (names : List (List ℕ))
    → map (new_slice family service) (zip names []) ≡ []
no_new family service [] = refl
no_new family service (n ∷ names) = refl

isnt_empty : (es : List SliceEndpoint) → 1 ≤ length es → not (is_empty es) ≡ true
isnt_empty [] some = absurd (omega arith)
isnt_empty (e ∷ es) some = refl

-- slices with all their entries are what they were
left_alone : (ss : List Slice) → AllByRecursion (λ s. 1 ≤ length s.endpoints) ss
    → packed_by [] (map whole ss) [] ≡ unchanged (in_slice_order ss)
left_alone ss some =
    let stay : AllByRecursion (λ f. stays f ≡ true) (map whole ss) =
    all_mapped (λ f. stays f ≡ true) whole ss
    (all_weaker _ _ (λ s h. isnt_empty s.endpoints h) ss some) in
    let same = all_mapped (λ f. is_updated f ≡ false) whole ss
    (all_of (λ s. is_updated (whole s) ≡ false)
    (λ s. no_difference _ _ (entries_same s.endpoints)) ss) in
    let gone = all_weaker (λ f. stays f ≡ true) (λ f. not (stays f) ≡ false) (λ f h. ap not h)
    _ stay in
    let kept : map filled_slice (filter stays (map whole ss)) ++ [] ≡ ss =
    append-nil _ ∙ ap (map filled_slice) (all_pass stays _ stay)
    ∙ map-map filled_slice whole ss ∙ same_itself ss in
    λ i. record {
      slices = in_slice_order (kept i);
      created = [];
      updated = slice_names (map (λ f. f.slice) (none_pass is_updated _ same i));
      deleted = slice_names (map (λ f. f.slice) (none_pass (λ f. not (stays f)) _ gone i));
    }
  where
    no_difference : (b c : Bool) → c ≡ true → (b && not c) ≡ false
    no_difference true c h = ap not h
    no_difference false c h = refl

-- slices that stand in order already
in_order_stay : (family : Family) (service : ObjectKey) (slices : List Slice) (wanted : List Wanted)
    (most : ℕ)
    (taken : List (List ℕ)) → Differ slices → have_own_pods wanted ≡ true
    → entries_name_pods wanted ≡ true
    → IsPackingOf most wanted slices → IsPackingOf most wanted (in_slice_order slices)
    → packed_slices family service slices wanted most taken ≡ unchanged (in_slice_order slices)
in_order_stay family service slices wanted most taken differ own named packing ordered =
    let ss = in_slice_order slices in
    let groups = groups_of wanted in
    let over : filter (is_left_over wanted) slices ≡ [] = none_pass _ slices
    (all_weaker _ (λ s. is_left_over wanted s ≡ false) (λ s h. ap not h) slices
    (all_grouped most wanted slices own named packing)) in
    let packs : pack_groups most ss wanted ≡ map (settled most wanted ss own named ordered) groups =
    λ i. map (λ group. stays_so most wanted ss own named ordered group i) groups in
    let same = same_slices most wanted ss own named ordered in
    let apart = ordered_differ slices differ in
    (λ i. packed_groups family service taken (over i) (packs i))
    ∙ (λ i. packed_by [] (fillings_are most wanted ss own named ordered groups i)
    (new_slices family service taken (none_made most wanted ss own named ordered groups i)))
    ∙ ap (packed_by [] (map whole (by_groups most wanted ss own named ordered)))
    (no_new family service _)
    ∙ left_alone _ (all_permuted _ (turned same) (are_some most wanted ss own named ordered))
    ∙ ap unchanged (ordered_same _ ss same apart ∙ ordered_twice slices differ)

stay : (family : Family) (service : ObjectKey) (slices : List Slice) (wanted : List Wanted)
    (most : ℕ)
    (taken : List (List ℕ)) → Differ slices → have_own_pods wanted ≡ true
    → entries_name_pods wanted ≡ true
    → IsPackingOf most wanted slices
    → packed_slices family service slices wanted most taken ≡ unchanged (in_slice_order slices)
stay family service slices wanted most taken differ own named packing =
    in_order_stay family service slices wanted most taken differ own named packing (record {
      placed = and_then (ordered_entries slices differ) packing.placed;
      some =
          All-permutation (λ s. 1 ≤ length s.endpoints) _ _
          (turned (ordered_keeps slices differ)) packing.some;
      bounded =
          All-permutation (λ s. length s.endpoints ≤ most) _ _
          (turned (ordered_keeps slices differ)) packing.bounded;
    })

pub packed_stay : PackedStay
packed_stay family service slices wanted most taken names own named packing =
    stay family service slices wanted most taken
    (distinct_from_test bytes_eq _ names) own named packing

pub packing_again : PackingAgainChangesNothing
packing_again family service before wanted most taken later some small names are own named =
    let placed = placed_slices family service before wanted most taken in
    let differ = placed_differ family service before wanted most taken some small names are in
    stay family service _ wanted most later (ordered_differ placed differ) own named
    (is_packing family service before wanted most taken some small names are)
    ∙ ap unchanged (ordered_twice placed differ)
