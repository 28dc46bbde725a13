-- The parts of a Pod that are read one after another.
use Rattle.std.specs.Prelude.{◌≡◌, Bool, List, ◌++◌, codes, Option, Some, None, is_some, find, Result, Ok, Err}
use Rattle.std.specs.Bool.{then_some}
use Rattle.std.specs.List.{flat_map}
use Rattle.kp_base.specs.declared.address.Family.TheVariants.{V4, V6}
use Rattle.kp_json.specs.Places.{Place}
use Rattle.kp_json.specs.declared.fault.BadField.{BadField}
use Rattle.kp_json.specs.declared.fault.FieldFault.{FieldFault}
use Rattle.kp_row_defs.specs.Fields.{text_in, items_in, pairs_in, key_from}
use Rattle.kp_event_defs.specs.FamilyParts.{first_address}
use Rattle.kp_event_defs.specs.PodText.{container_ports, is_readiness, is_finished, holds, pod_addresses}
use Rattle.kp_row_defs.specs.Reads.{Refuses}
use Rattle.kp_objects.specs.declared.pod.Metadata.{Metadata}
use Rattle.kp_objects.specs.declared.pod.spec.PodSpec.{PodSpec}
use Rattle.kp_objects.specs.declared.pod.status.PodStatus.{PodStatus}

-- the metadata
abbrev pub metadata_from : Place → Metadata
metadata_from p = record {
  key = key_from p;
  labels = pairs_in (codes "labels") p;
  deleting = is_some (text_in (codes "deletionTimestamp") p);
}

-- the specification
abbrev pub spec_from : Place → PodSpec
spec_from p = record {
  node = text_in (codes "nodeName") p;
  ports = flat_map container_ports (items_in (codes "containers") p);
}

-- the status
abbrev pub status_from : Place → PodStatus
status_from p = record {
  finished = is_finished (text_in (codes "phase") p);
  address = first_address V4 (pod_addresses p);
  address6 = first_address V6 (pod_addresses p);
  ready = holds (find is_readiness (items_in (codes "conditions") p));
}

-- whether a condition holds, if it is about readiness
abbrev pub readiness_of : Place → Option Bool
readiness_of p = then_some (is_readiness p) (holds (Some p))

-- what was read stands behind the old elements, or the fault where there is one
abbrev pub ReadsInto : {X : Type 0} → Result (Unit {0}) FieldFault → List X → List X → Option BadField → List X → Type 0
ReadsInto (Ok done) old new fault more = (fault ≡ None) × (new ≡ old ++ more)
ReadsInto (Err e) old new fault more = Refuses e fault
