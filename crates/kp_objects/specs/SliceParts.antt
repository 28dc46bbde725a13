-- What is read of an endpoint's conditions.
use Rattle.std.specs.Prelude.{false, codes, unwrap_or}
use Rattle.kp_json.specs.Places.{Place}
use Rattle.kp_row_defs.specs.Fields.{flag_in}
use Rattle.kp_event_defs.specs.SliceText.{ready_in}
use Rattle.kp_objects.specs.declared.slice.endpoint.Conditions.{Conditions}

-- the conditions
abbrev pub conditions_from : Place → Conditions
conditions_from p = record {
  ready = ready_in p;
  serving = unwrap_or (flag_in (codes "serving") p) (ready_in p);
  terminating = unwrap_or (flag_in (codes "terminating") p) false;
}
