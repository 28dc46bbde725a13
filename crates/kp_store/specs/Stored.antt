-- How the store's values are stored.
use Rattle.std.specs.Prelude.{List, refl}
use base.Stored.{coded_unit}
use Rattle.std.specs.Coded.{Coded, code_by, coded×, coded_list}
use Rattle.std.specs.FinMap as finite
use Rattle.kp_base.specs.Keys.{key_cmp}
use Rattle.kp_base.specs.contracts.key.ObjectKey as key_row
use Rattle.kp_types.specs.contracts.service.Service as service_row
use Rattle.kp_types.specs.contracts.slice.Slice as slice_row
use Rattle.kp_types.specs.contracts.pod.Pod as pod_row
use Rattle.kp_types.specs.contracts.pod.Node as node_row
use Rattle.kp_object_defs.specs.Objects.{Objects}
use Rattle.kp_store.specs.Indexes.{Keys}

-- objects of one kind, as finite maps are
abbrev pub keyed_code : {X : Type 0} → Coded X → Coded (finite.FinMap key_cmp X)
keyed_code x = finite.code key_row.the_row.coded x

-- all objects, as four such maps
abbrev pub objects_code : Coded Objects
objects_code =
    code_by _
    (coded× (keyed_code service_row.the_row.coded)
    (coded× (keyed_code slice_row.the_row.coded)
    (coded× (keyed_code pod_row.the_row.coded) (keyed_code node_row.the_row.coded))))
    (λ o. (o.services, (o.slices, (o.pods, o.nodes))))
    (λ p. record { services = p.0; slices = p.1.0; pods = p.1.1.0; nodes = p.1.1.1 })
    (λ _. refl)

-- buckets, as a list
abbrev pub buckets_code : {T : Type 0} → Coded T → Coded (List (T × Keys))
buckets_code t = coded_list (coded× t (keyed_code coded_unit))
