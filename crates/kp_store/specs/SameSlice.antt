-- Whether two slices are one value, part by part (Kubernetes API, EndpointSlice
-- discovery.k8s.io/v1).
use Rattle.std.specs.Prelude.{◌&&◌, Bool, bytes_eq}
use Rattle.std.specs.Cmp.Lexicographic.{pointwise}
use Rattle.kp_types.specs.declared.slice.Slice.{Slice}
use Rattle.kp_types.specs.contracts.slice.AddressTypePartialEq.TheImpl as type_eq
use Rattle.kp_object_defs.specs.Packing.{same_entry, same_flag, same_object, same_option, same_ports}

-- they have the same key, Service, manager and address type
abbrev pub same_head : Slice → Slice → Bool
same_head a b =
    same_object a.key b.key
    && (same_option bytes_eq a.service b.service
    && (same_flag a.managed b.managed && type_eq.ghosts.eq a.family b.family))

-- and the same ports and endpoints, in one order
abbrev pub same_slice : Slice → Slice → Bool
same_slice a b =
    same_head a b && (same_ports a.ports b.ports && pointwise same_entry a.endpoints b.endpoints)
