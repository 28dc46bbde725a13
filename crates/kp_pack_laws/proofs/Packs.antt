-- All groups: what they have is what is wanted, each slice is in one group at most, and no group makes too many slices.
use Rattle.std.proofs.Common.{◌≡◌, ℕ, ◌≤◌, Bool, true, List, [], ◌∷◌, ◌++◌, map, length, bytes_eq, refl, sym, ap, subst, ◌∙◌, length-append, arith, IsPermutation}
use Rattle.std.proofs.lemmas.List.Folds.{flat_map-map}
use Rattle.std.specs.List.{filter, flat_map, list_any, AllByRecursion, IsDistinct}
use Rattle.std.specs.Cmp.Lexicographic.{nat_list_eq_equiv}
use Rattle.std.proofs.lemmas.List.{length-map, map-append}
use Rattle.std.proofs.lemmas.List.Concat.{flat_map_single}
use Rattle.std.proofs.lemmas.List.Sorted.{IsPermutation-map, length_permutation}
use Rattle.std.proofs.lemmas.Map.Keys.{IsDistinct-IsPermutation}
use Rattle.kp_types.specs.declared.slice.SlicePort.{SlicePort}
use Rattle.kp_types.specs.declared.slice.SliceEndpoint.{SliceEndpoint}
use Rattle.kp_types.specs.declared.slice.Slice.{Slice}
use Rattle.kp_types.specs.declared.slice.Wanted.{Wanted}
use Rattle.kp_object_defs.specs.Order.{first_places}
use Rattle.kp_object_defs.specs.Packing.{Filling, Placed, NewSlice, Packing, sorted_ports, same_ports, is_in_group, groups_of, packed_group, pack_group, pack_groups}
use Rattle.kp_object_defs.specs.PackingLaws.{wanted_with_ports}
use Rattle.std.proofs.lemmas.Simd.{map-map}
use Rattle.kp_lemmas.proofs.ListFacts.{all_filter, all_weaker}
use Rattle.kp_pack_laws.proofs.Shuffles.{same_list, turned, and_then, joined, two_pieces, alike_pieces, same_pieces, pieces_twice, mapped_pieces, passing, all_pass, all_mapped, all_unmapped, all_in_pieces, all_of}
use Rattle.kp_pack_laws.proofs.Distinct.{each_there, first_places_differ, first_places_find, distinct_mapped}
use Rattle.kp_pack_laws.proofs.Groups.{in_groups}
use Rattle.kp_pack_laws.proofs.Ports.{ports_exact, ports_equiv, sorted_twice}
use Rattle.kp_pack_laws.proofs.Keeping.{entries, entries_of, slices_of, AreWithin}
use Rattle.kp_pack_laws.proofs.Placing.{IsGroup, three_steps}

-- an endpoint with the ports of its slice in order
abbrev pub Entry : Type 0
Entry = List SlicePort × SliceEndpoint

abbrev with_ports : List SlicePort → SliceEndpoint → Entry
with_ports ports e = (ports, e)

abbrev pub entries_of_filling : Filling → List Entry
entries_of_filling f = map (λ e. (sorted_ports f.slice.ports, e)) f.endpoints

abbrev pub entries_of_new : NewSlice → List Entry
entries_of_new m = map (λ w. (sorted_ports m.ports, w.entry)) m.wanted

abbrev entry_of : Wanted → Entry
entry_of w = (sorted_ports w.ports, w.entry)

-- ---- one group

fillings_tagged : (group : List SlicePort) (fs : List Filling) → AllByRecursion (λ s. sorted_ports s.ports ≡ group) (slices_of fs) → flat_map entries_of_filling fs ≡ map (with_ports group) (entries fs)
fillings_tagged group fs all =
    same_pieces _ (λ f. map (with_ports group) f.endpoints) fs
    (all_weaker (λ f. sorted_ports f.slice.ports ≡ group) (λ f. entries_of_filling f ≡ map (with_ports group) f.endpoints) (λ f e. ap (λ ports. map (with_ports ports) f.endpoints) e) fs
    (all_unmapped (λ s. sorted_ports s.ports ≡ group) (λ f. f.slice) fs all))
    ∙ sym (mapped_pieces _ (λ f. f.endpoints) fs)

made_tagged : (group : List SlicePort) (made : List (List Wanted)) → sorted_ports group ≡ group
    → flat_map entries_of_new (map (λ more. record { ports = group; wanted = more }) made) ≡ map (with_ports group) (flat_map entries_of made)
made_tagged group made sorted =
    flat_map-map _ (λ more. record { ports = group; wanted = more }) made
    ∙ same_pieces (λ more. map (λ w. (sorted_ports group, w.entry)) more) (λ more. map (with_ports group) (entries_of more)) made
    (all_of (λ more. map (λ w. (sorted_ports group, w.entry)) more ≡ map (with_ports group) (entries_of more))
    (λ more. ap (λ ports. map (λ w. (ports, w.entry)) more) sorted ∙ sym (map-map (with_ports group) (λ w. w.entry) more)) made)
    ∙ sym (mapped_pieces _ entries_of made)

wanted_tagged : (group : List SlicePort) (ws : List Wanted) → AllByRecursion (λ w. sorted_ports w.ports ≡ group) ws → map (with_ports group) (entries_of ws) ≡ map entry_of ws
wanted_tagged group [] all = refl
wanted_tagged group (w ∷ ws) all = λ i. (sym all.0 i, w.entry) ∷ wanted_tagged group ws all.1 i

-- elements of a group have its ports
of_group : {X : Type 0} (ports : X → List SlicePort) (group : List SlicePort) (xs : List X) → AllByRecursion (λ x. sorted_ports (ports x) ≡ group) (filter (λ x. is_in_group group (ports x)) xs)
of_group ports group xs =
    all_weaker (λ x. is_in_group group (ports x) ≡ true) (λ x. sorted_ports (ports x) ≡ group) (λ x e. ports_exact _ group e)
    _ (passing (λ x. is_in_group group (ports x)) xs)

-- ---- groups

all_first_places : {X : Type 0} (P : X → Type 0) (same : X → X → Bool) (xs : List X) → AllByRecursion P xs → AllByRecursion P (first_places same xs)
all_first_places P same [] all = tt
all_first_places P same (x ∷ xs) all = (all.0, all_filter P (λ y. _) _ (all_first_places P same xs all.1))

pub groups_differ : (wanted : List Wanted) → IsDistinct same_ports (groups_of wanted)
groups_differ wanted = first_places_differ same_ports ports_equiv ports_exact _

groups_sorted : (wanted : List Wanted) → AllByRecursion (λ group. sorted_ports group ≡ group) (groups_of wanted)
groups_sorted wanted =
    all_first_places (λ group. sorted_ports group ≡ group) same_ports _
    (all_mapped (λ group. sorted_ports group ≡ group) (λ w. sorted_ports w.ports) wanted (all_of _ (λ w. sorted_twice w.ports) wanted))

-- each wanted endpoint is in a group
pub all_in_groups : (wanted : List Wanted)
    → AllByRecursion (λ w. list_any (same_ports (sorted_ports w.ports))
    (groups_of wanted) ≡ true) wanted
all_in_groups wanted =
    let keys = map (λ w. sorted_ports w.ports) wanted in
    all_unmapped (λ k. list_any (same_ports k) (first_places same_ports keys) ≡ true) (λ w. sorted_ports w.ports) wanted
    (all_weaker (λ k. list_any (same_ports k) keys ≡ true)
    (λ k. list_any (same_ports k) (first_places same_ports keys) ≡ true)
    (λ k h. first_places_find same_ports ports_equiv ports_exact k keys ∙ h) keys
    (each_there same_ports ports_equiv keys))

-- the groups have the wanted endpoints
pub wanted_in_groups : (wanted : List Wanted) → IsPermutation (flat_map (λ group. map entry_of (filter (λ w. is_in_group group w.ports) wanted)) (groups_of wanted)) (wanted_with_ports wanted)
wanted_in_groups wanted =
    and_then (same_list (same_pieces (λ group. map entry_of (filter (λ w. is_in_group group w.ports) wanted)) (λ group. flat_map (λ w. entry_of w ∷ []) (filter (λ w. is_in_group group w.ports) wanted)) _
    (all_of _ (λ group. sym (flat_map_single entry_of _)) _)))
    (and_then (in_groups same_ports ports_exact (λ w. sorted_ports w.ports) (λ w. entry_of w ∷ []) wanted _ (groups_differ wanted))
    (same_list (ap (flat_map (λ w. entry_of w ∷ [])) (all_pass (λ w. list_any (same_ports (sorted_ports w.ports)) (groups_of wanted)) wanted (all_in_groups wanted)) ∙ flat_map_single entry_of wanted)))

-- ---- what is packed

shorter_pieces : {X Y Z : Type 0} (f : X → List Y) (g : X → List Z) (xs : List X) → AllByRecursion (λ x. length (f x) ≤ length (g x)) xs → length (flat_map f xs) ≤ length (flat_map g xs)
shorter_pieces f g [] all = omega arith
shorter_pieces f g (x ∷ xs) all =
    let first = length-append (f x) (flat_map f xs) in let second = length-append (g x) (flat_map g xs) in omega (arith, all.0, shorter_pieces f g xs all.1)

abbrev of_group_placed : ℕ → List Slice → List Wanted → List SlicePort → Placed
of_group_placed most slices wanted group = packed_group most (filter (λ s. is_in_group group s.ports) slices) (filter (λ w. is_in_group group w.ports) wanted)

abbrev pub all_fillings : List Packing → List Filling
all_fillings packs = flat_map (λ p. p.fillings) packs

abbrev pub all_made : List Packing → List NewSlice
all_made packs = flat_map (λ p. p.made) packs

module _ (most : ℕ) (some : 1 ≤ most) (slices : List Slice) (wanted : List Wanted) where
  right : (group : List SlicePort) → IsGroup most (filter (λ s. is_in_group group s.ports) slices) (filter (λ w. is_in_group group w.ports) wanted) (of_group_placed most slices wanted group)
  right group = three_steps most _ _ some

  -- a group has its wanted endpoints
  group_entries : (group : List SlicePort) → sorted_ports group ≡ group
      → IsPermutation (flat_map entries_of_filling (pack_group most slices wanted group).fillings ++ flat_map entries_of_new (pack_group most slices wanted group).made) (map entry_of (filter (λ w. is_in_group group w.ports) wanted))
  group_entries group sorted =
      let r = of_group_placed most slices wanted group in
      let h = right group in
      let ours = filter (λ w. is_in_group group w.ports) wanted in
      let tagged = fillings_tagged group r.fillings (subst (AllByRecursion (λ s. sorted_ports s.ports ≡ group)) (sym h.slices) (of_group (λ s. s.ports) group slices)) in
      and_then (same_list ((λ i. tagged i ++ made_tagged group r.made sorted i) ∙ sym (map-append (with_ports group) (entries r.fillings) (flat_map entries_of r.made))))
      (and_then (IsPermutation-map (with_ports group) _ _ h.same) (same_list (wanted_tagged group ours (of_group (λ w. w.ports) group wanted))))

  -- all groups have the wanted endpoints
  pub packed_entries : IsPermutation (flat_map entries_of_filling (all_fillings (pack_groups most slices wanted)) ++ flat_map entries_of_new (all_made (pack_groups most slices wanted))) (wanted_with_ports wanted)
  packed_entries =
      let groups = groups_of wanted in
      let of_fillings = λ (group : List SlicePort). flat_map entries_of_filling (pack_group most slices wanted group).fillings in
      let of_made = λ (group : List SlicePort). flat_map entries_of_new (pack_group most slices wanted group).made in
      let first = pieces_twice _ (λ p. p.fillings) (pack_groups most slices wanted) ∙ flat_map-map (λ p. flat_map entries_of_filling p.fillings) _ groups in
      let second = pieces_twice _ (λ p. p.made) (pack_groups most slices wanted) ∙ flat_map-map (λ p. flat_map entries_of_new p.made) _ groups in
      and_then (joined (same_list first) (same_list second))
      (and_then (two_pieces of_fillings of_made groups)
      (and_then (alike_pieces (λ group. of_fillings group ++ of_made group) (λ group. map entry_of (filter (λ w. is_in_group group w.ports) wanted)) groups
      (all_weaker (λ group. sorted_ports group ≡ group) (λ group. IsPermutation (of_fillings group ++ of_made group) (map entry_of (filter (λ w. is_in_group group w.ports) wanted))) group_entries groups (groups_sorted wanted)))
      (wanted_in_groups wanted)))

  -- the slices that are filled are those of the groups
  slices_in_groups : slices_of (all_fillings (pack_groups most slices wanted)) ≡ flat_map (λ group. filter (λ s. is_in_group group s.ports) slices) (groups_of wanted)
  slices_in_groups =
      mapped_pieces (λ f. f.slice) (λ p. p.fillings) (pack_groups most slices wanted)
      ∙ flat_map-map (λ p. slices_of p.fillings) (pack_group most slices wanted) (groups_of wanted)
      ∙ same_pieces (λ group. slices_of (pack_group most slices wanted group).fillings) (λ group. filter (λ s. is_in_group group s.ports) slices) _
      (all_of _ (λ group. (right group).slices) _)

  -- so what holds of all slices holds of those
  pub packed_all : (P : Slice → Type 0) → AllByRecursion P slices → AllByRecursion P (slices_of (all_fillings (pack_groups most slices wanted)))
  packed_all P all =
      subst (AllByRecursion P) (sym slices_in_groups)
      (all_in_pieces P (λ group. filter (λ s. is_in_group group s.ports) slices) _ (all_of _ (λ group. all_filter P (λ s. is_in_group group s.ports) slices all) _))

  -- and no slice is in two groups
  pub packed_differ : IsDistinct bytes_eq (map (λ s. s.key.name) slices) → IsDistinct bytes_eq (map (λ s. s.key.name) (slices_of (all_fillings (pack_groups most slices wanted))))
  packed_differ d =
      let groups = groups_of wanted in
      let names = λ (s : Slice). s.key.name in
      let in_some = λ (s : Slice). list_any (same_ports (sorted_ports s.ports)) groups in
      let apart = ap (map names) slices_in_groups
      ∙ mapped_pieces names (λ group. filter (λ s. is_in_group group s.ports) slices) groups
      ∙ same_pieces (λ group. map names (filter (λ s. is_in_group group s.ports) slices)) (λ group. flat_map (λ s. names s ∷ []) (filter (λ s. is_in_group group s.ports) slices)) groups
      (all_of _ (λ group. sym (flat_map_single names _)) groups) in
      let once = and_then (same_list apart)
      (and_then (in_groups same_ports ports_exact (λ s. sorted_ports s.ports) (λ s. names s ∷ []) slices groups (groups_differ wanted))
      (same_list (flat_map_single names _))) in
      IsDistinct-IsPermutation bytes_eq nat_list_eq_equiv.symm _ _ (turned once) (distinct_mapped bytes_eq names in_some slices d)

  -- no slice has too many endpoints
  pub packed_within : AreWithin most (all_fillings (pack_groups most slices wanted))
  packed_within =
      all_in_pieces (λ f. length f.endpoints ≤ most) (λ p. p.fillings) (pack_groups most slices wanted)
      (all_mapped (λ p. AreWithin most p.fillings) _ _ (all_of _ (λ group. (right group).within) _))

  -- each new slice has some, and not too many
  pub made_within : AllByRecursion (λ m. (1 ≤ length m.wanted) × (length m.wanted ≤ most)) (all_made (pack_groups most slices wanted))
  made_within =
      all_in_pieces (λ m. (1 ≤ length m.wanted) × (length m.wanted ≤ most)) (λ p. p.made) (pack_groups most slices wanted)
      (all_mapped (λ p. AllByRecursion (λ m. (1 ≤ length m.wanted) × (length m.wanted ≤ most)) p.made) _ _
      (all_of _ (λ group. all_mapped (λ m. (1 ≤ length m.wanted) × (length m.wanted ≤ most)) (λ more. record { ports = group; wanted = more }) (of_group_placed most slices wanted group).made (right group).sizes) _))

  group_few : (group : List SlicePort) → length (pack_group most slices wanted group).made ≤ length (map entry_of (filter (λ w. is_in_group group w.ports) wanted))
  group_few group =
      let first : length (pack_group most slices wanted group).made ≡ length (of_group_placed most slices wanted group).made = length-map _ _ in
      let second = length-map (filter (λ w. is_in_group group w.ports) wanted) entry_of in
      omega (arith, (right group).few)

  -- no more slices are made than endpoints are wanted
  pub made_few : length (all_made (pack_groups most slices wanted)) ≤ length wanted
  made_few =
      let groups = groups_of wanted in
      let ours = λ (group : List SlicePort). map entry_of (filter (λ w. is_in_group group w.ports) wanted) in
      let made = flat_map-map (λ p. p.made) (pack_group most slices wanted) groups in
      let fewer = shorter_pieces (λ group. (pack_group most slices wanted group).made) ours groups
      (all_of _ group_few groups) in
      omega (arith, fewer, ap length made, length_permutation _ _ (wanted_in_groups wanted), length-map wanted entry_of)
