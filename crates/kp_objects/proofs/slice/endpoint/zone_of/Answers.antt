use Rattle.std.proofs.Common.{◌≡◌, None, ap, sym, subst}
use Rattle.kp_json.specs.Views.{place_of}
use Rattle.kp_row_defs.specs.Reads.{Reads}
use Rattle.kp_row_defs.specs.Rows.{or_then, rows_fault}
use Rattle.kp_event_defs.specs.SliceText.{hint_from, hint_rows}
use Rattle.kp_objects.proofs.slice.endpoint.zone_of.Goals as goal

pub returns : goal.returns
returns c =
    let p = place_of c.args.spot.now in
    let fault : None ≡ rows_fault hint_rows p = sym (ap (λ f. or_then f None) c.in_ok-name.ensures.0) in
    subst (λ f. Reads (λ t. t) c.copied_text.result f (hint_from p)) fault
    (subst (Reads (λ t. t) c.copied_text.result None) c.in_ok-name.ensures.1 c.copied_text.ensures)
