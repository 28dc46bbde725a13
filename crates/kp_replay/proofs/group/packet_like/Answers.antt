use Rattle.std.proofs.Common.{◌∷◌, ◌++◌, drop, sym, ap, ◌∙◌}
use Rattle.kp_restore_text.specs.Pieces.{no_line_feed}
use Rattle.kp_restore_text.proofs.Splits.{position_from_start}
use Rattle.kp_replay.proofs.group.packet_like.Goals as goal

pub returns-clause-cut : goal.returns-clause-cut
returns-clause-cut c =
    (position_from_start c.args.bytes.now c.in_ok-at.at (sym c.in_ok-at.ensures)).0
    ∙ sym (λ i. c.split_at.ensures.front i ++ 10 ∷ (c.split_at-2.ensures.back ∙ ap (drop 1) c.split_at.ensures.back) i)

pub returns-clause-feedless : goal.returns-clause-feedless
returns-clause-feedless c =
    ap no_line_feed c.split_at.ensures.front
    ∙ (position_from_start c.args.bytes.now c.in_ok-at.at (sym c.in_ok-at.ensures)).1
