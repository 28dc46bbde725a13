use Rattle.std.proofs.Common.{None, unwrap_or, ◌∙◌}
use Rattle.kp_base.specs.Net.{v4_address}
use Rattle.kp_row_defs.specs.Rows.{or_then}
use Rattle.kp_text_defs.specs.PacketText.{draws_of}
use Rattle.kp_text_defs.proofs.LinesMade.{same_packet_line}
use Rattle.kp_packet_lines.proofs.line.packet_in.Goals as goal

-- no row has a fault, and each field is that of the place
pub returns : goal.returns
returns c =
    let list = c.in_ok-list.ensures in
    let drawn = c.in_ok-drawn.ensures.seed in
    let read = c.draws_of-draws.ensures.draws ∙ (λ i. draws_of (list.1 i) (drawn.1 i)) in (
      λ i. or_then (c.in_ok-from.ensures.0 i) (or_then (c.in_ok-source.ensures.0 i)
          (or_then (c.in_ok-target.ensures.0 i) (or_then (c.in_ok-protocol.ensures.0 i)
          (or_then (c.in_ok-from_port.ensures.0 i) (or_then (c.in_ok-port.ensures.0 i)
          (or_then (c.in_ok-now.ensures.0 i) (or_then (list.0 i) (or_then (drawn.0 i)
          (or_then (c.in_ok-has_trail.ensures.trail.0 i) None))))))))),
      same_packet_line _ _ (λ i. (
        record {
          from = c.in_ok-from.ensures.1 i;
          source = unwrap_or (c.in_ok-source.ensures.1 i) (v4_address 0);
          target = unwrap_or (c.in_ok-target.ensures.1 i) (v4_address 0);
          proto = c.in_ok-protocol.ensures.1 i;
          port = c.in_ok-port.ensures.1 i;
          now = c.in_ok-now.ensures.1 i;
        },
        c.in_ok-from_port.ensures.1 i,
        read i,
        c.in_ok-has_trail.ensures.trail.1 i,
      )),
    )
