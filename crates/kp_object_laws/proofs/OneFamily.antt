-- The candidates of a family are of this family.
use Rattle.std.proofs.Common.{◌≡◌, ℕ, Bool, true, false, cond, List, [], ◌++◌, map, reverse, Option, Some, None, option_map, option_and_then, refl}
use Rattle.std.specs.List.{list_all, filter, filter_map, flat_map}
use Rattle.kp_lemmas.proofs.ListFacts.{test_append}
use Rattle.kp_base.specs.Net.{AddressParts, same_family}
use Rattle.kp_base.specs.Keys.{endpoint_cmp}
use Rattle.kp_base.specs.declared.address.Family.{Family}
use Rattle.kp_base.specs.declared.key.PortKey.{PortKey}
use Rattle.kp_types.specs.declared.slice.SliceEndpoint.{SliceEndpoint}
use Rattle.kp_types.specs.declared.slice.Slice.{Slice}
use Rattle.kp_types.specs.declared.slice.Wanted.{Wanted}
use Rattle.kp_types.specs.declared.lists.Candidate.{Candidate}
use Rattle.kp_object_defs.specs.Desired.{address_in}
use Rattle.kp_object_defs.specs.Entries.{is_type_of, number_at, candidate_at, candidate_of, slice_candidates, wanted_candidate, candidates_from, counted_once, is_of_family}
use Rattle.kp_object_defs.proofs.AllOf.{holds_of, all_filter, all_reverse, all_filter_map, all_flat_map, all_in_order, all_named}

-- ---- candidates

-- the test of a family on an address that was found in it
in_family : (family : Family) (node : List ℕ) (e : SliceEndpoint) (n : ℕ) (a : AddressParts) (b : Bool) → same_family a.family family ≡ b → holds_of (is_of_family family) (option_map (candidate_at node e n) (cond b (Some a) None)) ≡ true
in_family family node e n a true same = same
in_family family node e n a false same = refl

of_address : (family : Family) (node : List ℕ) (e : SliceEndpoint) (n : ℕ) (address : Option AddressParts) → holds_of (is_of_family family) (option_map (candidate_at node e n) (option_and_then (address_in family) address)) ≡ true
of_address family node e n None = refl
of_address family node e n (Some a) = in_family family node e n a (same_family a.family family) refl

of_number : (family : Family) (node : List ℕ) (number : Option ℕ) (e : SliceEndpoint) → holds_of (is_of_family family) (candidate_of family node number e) ≡ true
of_number family node None e = refl
of_number family node (Some n) e = of_address family node e n e.address

of_slice : (family : Family) (node : List ℕ) (port : PortKey) (slice : Slice) (b : Bool) → list_all (is_of_family family) (cond b (filter_map (candidate_of family node (number_at port.port_name port.proto slice.ports)) slice.endpoints) []) ≡ true
of_slice family node port slice true =
    all_filter_map (is_of_family family) (candidate_of family node (number_at port.port_name port.proto slice.ports)) (of_number family node (number_at port.port_name port.proto slice.ports)) slice.endpoints
of_slice family node port slice false = refl

-- the candidates of a family are of it
of_all : (family : Family) (node : List ℕ) (port : PortKey) (wanted : List Wanted) (slices : List Slice) → list_all (is_of_family family) (candidates_from family node port wanted slices) ≡ true
of_all family node port wanted slices =
    test_append (is_of_family family) (filter_map (wanted_candidate family node port) wanted) (flat_map (slice_candidates family node port) slices)
    (all_filter_map (is_of_family family) (wanted_candidate family node port) (λ w. of_number family node (number_at port.port_name port.proto w.ports) w.entry) wanted)
    (all_flat_map (is_of_family family) (slice_candidates family node port) (λ s. of_slice family node port s (is_type_of family s.family)) slices)

-- each once, in order
of_counted : (p : Candidate → Bool) (cs : List Candidate) → list_all p cs ≡ true → list_all p (counted_once cs) ≡ true
of_counted p cs h =
    all_in_order p endpoint_cmp (map (λ (c : Candidate). (c.endpoint, c)) (reverse (filter (λ (c : Candidate). c.local) cs) ++ cs))
    (all_named p (λ (c : Candidate). c.endpoint) (reverse (filter (λ (c : Candidate). c.local) cs) ++ cs)
    (test_append p (reverse (filter (λ (c : Candidate). c.local) cs)) cs (all_reverse p (filter (λ (c : Candidate). c.local) cs) (all_filter p (λ (c : Candidate). c.local) cs h)) h))

-- the endpoints of a port, of a family, are of it
pub entries_of_family : (family : Family) (node : List ℕ) (port : PortKey) (wanted : List Wanted) (slices : List Slice) → list_all (is_of_family family) (counted_once (candidates_from family node port wanted slices)) ≡ true
entries_of_family family node port wanted slices =
    of_counted (is_of_family family) (candidates_from family node port wanted slices) (of_all family node port wanted slices)
