-- How the EndpointSlice controller packs the endpoints that a Service wants into its slices (KEP-752,
-- "EndpointSlice Controller"; Kubernetes documents on EndpointSlices, "Distribution of EndpointSlices"): slices
-- that have to change anyway are filled first, and one new slice is preferred to changes of several. Names of new
-- slices, the order of groups, and which of two slices as full is taken are this project's choice.
use Rattle.std.specs.Prelude.{ℕ, zero, suc, ◌+◌, ◌-◌, ◌==◌, ◌&&◌, ◌||◌, nat_le, nat_lt, Bool, true, false, List, [], ◌∷◌, ◌++◌, map, not, cond, take, drop, length, max, bytes_eq, codes, Option, Some, None}
use Rattle.std.specs.Ordering.{nat_cmp, ordering_then, is_gt}
use Rattle.std.specs.declared.cmp.Ordering.{Ordering}
use Rattle.std.specs.Cmp.Lexicographic.{pointwise}
use Rattle.std.specs.Fmt.{decimal}
use Rattle.std.specs.List.{list_any, find, filter, flat_map, fold, zip}
use Rattle.kp_base.specs.Net.{same_address}
use Rattle.kp_base.specs.Keys.{text_cmp, proto_place}
use Rattle.kp_base.specs.declared.address.Family.{Family}
use Rattle.kp_base.specs.declared.address.Family.TheVariants.{V4, V6}
use Rattle.kp_base.specs.declared.key.ObjectKey.{ObjectKey}
use Rattle.kp_types.specs.declared.slice.AddressType.{AddressType}
use Rattle.kp_types.specs.declared.slice.AddressType.TheVariants.{Ipv4, Ipv6}
use Rattle.kp_types.specs.declared.slice.SlicePort.{SlicePort}
use Rattle.kp_types.specs.declared.slice.SliceEndpoint.{SliceEndpoint}
use Rattle.kp_types.specs.declared.slice.Slice.{Slice}
use Rattle.kp_types.specs.declared.slice.Wanted.{Wanted}
use Rattle.kp_types.specs.declared.slice.Packed.{Packed}
use Rattle.kp_types.specs.contracts.slice.SlicePortPartialEq.TheImpl as same_port
use Rattle.kp_object_defs.specs.Order.{by_key, values_of, distinct_in_order, first_places}
use Rattle.kp_object_defs.specs.Desired.{is_empty}

-- ---- When two things are one

-- both are absent, or both are there and one
abbrev pub same_option : {A : Type 0} → (A → A → Bool) → Option A → Option A → Bool
same_option same None None = true
same_option same None (Some b) = false
same_option same (Some a) None = false
same_option same (Some a) (Some b) = same a b

-- two flags are one
abbrev pub same_flag : Bool → Bool → Bool
same_flag true b = b
same_flag false b = not b

-- two keys are one
abbrev pub same_object : ObjectKey → ObjectKey → Bool
same_object a b = bytes_eq a.namespace b.namespace && bytes_eq a.name b.name

-- two entries of slices say the same
abbrev pub same_entry : SliceEndpoint → SliceEndpoint → Bool
same_entry a b =
    same_option same_address a.address b.address
    && (same_flag a.ready b.ready && (same_flag a.serving b.serving && same_flag a.terminating b.terminating))
    && (same_option bytes_eq a.node b.node && (same_option bytes_eq a.zone b.zone
    && (pointwise bytes_eq a.hints b.hints && same_option same_object a.pod b.pod)))

-- ---- Groups by ports

-- a port by its name, and then by protocol
abbrev pub port_cmp : SlicePort → SlicePort → Ordering
port_cmp a b = ordering_then (text_cmp a.name b.name) (nat_cmp (proto_place a.proto) (proto_place b.proto))

-- a port in its place, before those that are as it
abbrev pub port_in_place : SlicePort → List SlicePort → List SlicePort
port_in_place p [] = p ∷ []
port_in_place p (q ∷ qs) = cond (is_gt (port_cmp p q)) (q ∷ port_in_place p qs) (p ∷ q ∷ qs)

-- ports by name and protocol, equal ones as they were written
abbrev pub sorted_ports : List SlicePort → List SlicePort
sorted_ports [] = []
sorted_ports (p ∷ ps) = port_in_place p (sorted_ports ps)

-- whether two lists of ports are equal
abbrev pub same_ports : List SlicePort → List SlicePort → Bool
same_ports = pointwise same_port.ghosts.eq

-- a list of ports belongs to the group of these sorted ones
abbrev pub is_in_group : List SlicePort → List SlicePort → Bool
is_in_group group ports = same_ports (sorted_ports ports) group

-- the groups that are packed, in order of their first wanted endpoint
abbrev pub groups_of : List Wanted → List (List SlicePort)
groups_of wanted = first_places same_ports (map (λ w. sorted_ports w.ports) wanted)

-- ---- First step: what may stay where it is

-- a slice with its endpoints by now, and whether it has to be changed
pub record Filling : Type 0 where
  pub slice : Slice
  pub endpoints : List SliceEndpoint
  pub is_changed : Bool

-- the entry of a slice is that of a wanted endpoint: one pod at one address
abbrev pub is_entry_of : SliceEndpoint → Wanted → Bool
is_entry_of e w = same_option same_object e.pod (Some w.pod) && same_option same_address e.address w.entry.address

-- a list without the first element that passes
abbrev pub without_first : {A : Type 0} → (A → Bool) → List A → List A
without_first test [] = []
without_first test (x ∷ xs) = cond (test x) xs (x ∷ without_first test xs)

-- a slice in the first step, and the wanted endpoints that no slice has kept yet
pub record Keeping : Type 0 where
  pub filling : Filling
  pub left : List Wanted

-- an entry is dropped
abbrev pub dropped : Keeping → Keeping
dropped k = record k { filling = record k.filling { is_changed = true } }

-- an entry stays, with the content that is wanted
abbrev pub kept : Keeping → SliceEndpoint → Wanted → Keeping
kept k e w = record {
  filling = record k.filling {
    endpoints = k.filling.endpoints ++ w.entry ∷ [];
    is_changed = k.filling.is_changed || not (same_entry e w.entry);
  };
  left = without_first (is_entry_of e) k.left;
}

-- an entry stays where it is wanted and its slice has room
abbrev pub kept_or_dropped : ℕ → Keeping → SliceEndpoint → Option Wanted → Keeping
kept_or_dropped most k e None = dropped k
kept_or_dropped most k e (Some w) = cond (nat_lt (length k.filling.endpoints) most) (kept k e w) (dropped k)

-- an entry stays or goes, by whether an endpoint that is left wants it
abbrev pub keep_entry : ℕ → Keeping → SliceEndpoint → Keeping
keep_entry most k e = kept_or_dropped most k e (find (is_entry_of e) k.left)

-- what a slice keeps
abbrev pub keep_slice : ℕ → List Wanted → Slice → Keeping
keep_slice most left slice =
    fold (keep_entry most)
    (record { filling = record { slice = slice; endpoints = []; is_changed = false }; left = left }) slice.endpoints

-- slices so far, and the wanted endpoints that are left
pub record Progress : Type 0 where
  pub fillings : List Filling
  pub left : List Wanted

-- what a slice keeps stands behind what the slices before it do
abbrev pub add_keeping : Progress → Keeping → Progress
add_keeping p k = record { fillings = p.fillings ++ k.filling ∷ []; left = k.left }

-- what all slices keep, visited in their order
abbrev pub keep_all : ℕ → List Slice → List Wanted → Progress
keep_all most slices wanted =
    fold (λ p s. add_keeping p (keep_slice most p.left s)) (record { fillings = []; left = wanted }) slices

-- ---- Second step: slices that are changed are filled

-- a slice takes endpoints
abbrev pub with_more : Filling → List Wanted → Filling
with_more f more = record f { endpoints = f.endpoints ++ map (λ w. w.entry) more; is_changed = true }

-- a changed slice takes as many endpoints as it has room for
abbrev pub fill_if : Bool → ℕ → Progress → Filling → Progress
fill_if true room p f =
    (record { fillings = p.fillings ++ with_more f (take room p.left) ∷ []; left = drop room p.left })
fill_if false room p f = record p { fillings = p.fillings ++ f ∷ [] }

-- all changed slices are filled, in their order
abbrev pub fill_changed : ℕ → Progress → Progress
fill_changed most p =
    fold (λ q f. fill_if f.is_changed (most - length f.endpoints) q f) (record { fillings = []; left = p.left })
    p.fillings

-- ---- Third step: what is left

-- an unchanged slice has room for so many more
abbrev pub has_room : ℕ → ℕ → Filling → Bool
has_room most n f = not f.is_changed && nat_le (length f.endpoints + n) most

-- how many endpoints the fullest slice with room for so many more has
abbrev pub fullest : ℕ → ℕ → List Filling → ℕ
fullest most n fillings = fold (λ size f. max size (length f.endpoints)) 0 (filter (has_room most n) fillings)

-- a slice with room for so many more has so many endpoints
abbrev pub is_as_full : ℕ → ℕ → ℕ → Filling → Bool
is_as_full most n size f = has_room most n f && (length f.endpoints == size)

-- the first slice that passes takes endpoints
abbrev pub give_first : (Filling → Bool) → List Wanted → List Filling → List Filling
give_first test more [] = []
give_first test more (f ∷ fs) = cond (test f) (with_more f more ∷ fs) (f ∷ give_first test more fs)

-- the fullest slice with room for them takes endpoints
abbrev pub fill_fullest : ℕ → List Wanted → List Filling → List Filling
fill_fullest most left fillings =
    give_first (is_as_full most (length left) (fullest most (length left) fillings)) left fillings

-- a slice takes all that is left: it would fill no new slice, and one has room
abbrev pub fits_in_one : ℕ → List Wanted → List Filling → Bool
fits_in_one most left fillings = nat_lt (length left) most && list_any (has_room most (length left)) fillings

-- slices, and the endpoints of each new one
pub record Placed : Type 0 where
  pub fillings : List Filling
  pub made : List (List Wanted)

-- what is left is taken by one slice, or the first of it by a new one, and then the rest is placed
abbrev pub placed_if : Bool → ℕ → List Wanted → List Filling → Placed → Placed
placed_if true most left fillings rest = record { fillings = fill_fullest most left fillings; made = [] }
placed_if false most left fillings rest = record rest { made = take most left ∷ rest.made }

-- what is left is placed, with at most so many new slices
abbrev pub place_left : ℕ → ℕ → List Filling → List Wanted → Placed
place_left zero most fillings left = record { fillings = fillings; made = [] }
place_left (suc n) most fillings [] = record { fillings = fillings; made = [] }
place_left (suc n) most fillings (w ∷ ws) =
    placed_if (fits_in_one most (w ∷ ws) fillings) most (w ∷ ws) fillings
    (place_left n most fillings (drop most (w ∷ ws)))

-- what the third step makes of the second
abbrev pub placed_from : ℕ → Progress → Placed
placed_from most p = place_left (length p.left) most p.fillings p.left

-- the three steps
abbrev pub packed_group : ℕ → List Slice → List Wanted → Placed
packed_group most slices wanted = placed_from most (fill_changed most (keep_all most slices wanted))

-- ---- All groups

-- a new slice to come: its ports and its endpoints
pub record NewSlice : Type 0 where
  pub ports : List SlicePort
  pub wanted : List Wanted

-- the slices that were there, and the new ones
pub record Packing : Type 0 where
  pub fillings : List Filling
  pub made : List NewSlice

-- the slices of a group, and those that it needs anew
abbrev pub pack_group : ℕ → List Slice → List Wanted → List SlicePort → Packing
pack_group most slices wanted ports =
    let placed =
    packed_group most (filter (λ s. is_in_group ports s.ports) slices)
    (filter (λ w. is_in_group ports w.ports) wanted) in
    (record { fillings = placed.fillings; made = map (λ more. record { ports = ports; wanted = more }) placed.made })

-- all groups, each by itself
abbrev pub pack_groups : ℕ → List Slice → List Wanted → List Packing
pack_groups most slices wanted = map (pack_group most slices wanted) (groups_of wanted)

-- a slice of no group, since no endpoint is wanted with its ports
abbrev pub is_left_over : List Wanted → Slice → Bool
is_left_over wanted s = not (list_any (λ group. is_in_group group s.ports) (groups_of wanted))

-- ---- Names of new slices

-- the k-th name of a Service's slices
abbrev pub slice_name : ObjectKey → ℕ → List ℕ
slice_name service k = service.name ++ codes "-kp" ++ decimal k

-- so many names, from the k-th on
abbrev pub slice_names_from : ObjectKey → ℕ → ℕ → List (List ℕ)
slice_names_from service zero k = []
slice_names_from service (suc n) k = slice_name service k ∷ slice_names_from service n (suc k)

-- The free names among the first ones. Of so many more than are taken, so many at least are free.
abbrev pub free_names : ObjectKey → List (List ℕ) → ℕ → List (List ℕ)
free_names service taken n =
    filter (λ name. not (list_any (bytes_eq name) taken)) (slice_names_from service (length taken + n) 1)

-- slices of this address type have addresses of this family
abbrev pub type_of : Family → AddressType
type_of V4 = Ipv4
type_of V6 = Ipv6

-- a new slice with its name
abbrev pub new_slice : Family → ObjectKey → List ℕ × NewSlice → Slice
new_slice family service (name, made) = record {
  key = record { namespace = service.namespace; name = name };
  service = Some service.name;
  managed = true;
  family = type_of family;
  ports = made.ports;
  endpoints = map (λ w. w.entry) made.wanted;
}

-- new slices with the free names, the least first
abbrev pub new_slices : Family → ObjectKey → List (List ℕ) → List NewSlice → List Slice
new_slices family service taken made =
    map (new_slice family service) (zip (free_names service taken (length made)) made)

-- ---- The packed slices

-- slices in order of their names
abbrev pub in_slice_order : List Slice → List Slice
in_slice_order slices = values_of (by_key text_cmp (λ s. s.key.name) slices)

-- the names of slices, in order
abbrev pub slice_names : List Slice → List (List ℕ)
slice_names slices = distinct_in_order text_cmp (map (λ s. s.key.name) slices)

-- a slice as it became
abbrev pub filled_slice : Filling → Slice
filled_slice f = record f.slice { endpoints = f.endpoints }

-- a slice that isn't empty stays
abbrev pub stays : Filling → Bool
stays f = not (is_empty f.endpoints)

-- a slice stays, and its endpoints aren't what they were
abbrev pub is_updated : Filling → Bool
is_updated f = stays f && not (pointwise same_entry f.slice.endpoints f.endpoints)

-- the slices after packing, and the names of those that are new, that stay and differ, and that are gone
abbrev pub packed_by : List Slice → List Filling → List Slice → Packed
packed_by left_over fillings made = record {
  slices = in_slice_order (map filled_slice (filter stays fillings) ++ made);
  created = slice_names made;
  updated = slice_names (map (λ f. f.slice) (filter is_updated fillings));
  deleted = slice_names (left_over ++ map (λ f. f.slice) (filter (λ f. not (stays f)) fillings));
}

-- what all groups became
abbrev pub packed_groups : Family → ObjectKey → List (List ℕ) → List Slice → List Packing → Packed
packed_groups family service taken left_over groups =
    packed_by left_over (flat_map (λ g. g.fillings) groups)
    (new_slices family service taken (flat_map (λ g. g.made) groups))

-- a Service's managed slices of a family packed into new ones with at most so many endpoints each, where these
-- names are taken
abbrev pub packed_slices : Family → ObjectKey → List Slice → List Wanted → ℕ → List (List ℕ) → Packed
packed_slices family service before wanted most taken =
    packed_groups family service taken (filter (is_left_over wanted) before)
    (pack_groups most (in_slice_order before) wanted)
