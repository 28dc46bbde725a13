use Rattle.std.proofs.Common.{None, codes, ap, sym, ◌∙◌}
use Rattle.kp_json.specs.Views.{place_of}
use Rattle.kp_row_defs.proofs.Found.{inner_from}
use Rattle.kp_row_defs.specs.Rows.{absent_fault, needed, on_member, or_then, rows_fault}
use Rattle.kp_event_defs.specs.ServiceText.{service_spec_rows}
use Rattle.kp_objects.specs.ServiceParts.{spec_from}
use Rattle.kp_objects.proofs.ServiceMade.{made_gives}
use Rattle.kp_objects.proofs.service.service_of.Goals as goal

pub returns : goal.returns
returns c =
    let p = place_of c.args.spot.now in
    let there = c.in_ok-spec.ensures.there in
    let fine = ap (λ found. on_member found (absent_fault needed p (codes "spec")) (rows_fault service_spec_rows)) there ∙ c.in_ok-spec-2.ensures.spec.0 in
    let differ = c.in_ok-spec-2.ensures.distinct in
    made_gives p c.service_made.result (c.in_ok-key.key, c.in_ok-spec-2.spec, c.in_ok-balancer.balancer) differ
    (λ i. or_then (c.in_ok-key.ensures.0 i) (or_then (fine i) (or_then (c.in_ok-balancer.ensures.0 i) None)))
    (sym (λ i. (c.in_ok-key.ensures.1 i, (c.in_ok-spec-2.ensures.spec.1 ∙ sym (ap spec_from (inner_from p (codes "spec") (place_of c.in_ok-spec.spec) there))) i, c.in_ok-balancer.ensures.1 i)))
    (c.service_made.ensures differ)
