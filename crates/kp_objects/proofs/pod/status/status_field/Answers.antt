use Rattle.std.proofs.Common.{Ok, option_map, codes, ap, ◌∙◌}
use Rattle.kp_json.specs.Views.{place_of}
use Rattle.kp_event_defs.specs.PodText.{pod_status_rows}
use Rattle.kp_objects.specs.PodParts.{status_from}
use Rattle.kp_objects.proofs.Inside.{inside_reads}
use Rattle.kp_objects.proofs.pod.status.status_field.Goals as goal

pub returns-in-Some : goal.returns-in-Some
returns-in-Some c =
    inside_reads c.status_here.result (place_of c.args.spot.now) (place_of c.in-Some.status) (codes "status") pod_status_rows status_from
    (c.in_ok-field.ensures ∙ ap (λ o. Ok (option_map place_of o)) c.in-Some.is) c.status_here.ensures
