use Rattle.std.proofs.Common.{◌∷◌, ◌++◌, drop, sym, ap, ◌∙◌}
use Rattle.kp_restore_text.specs.Pieces.{no_line_feed}
use Rattle.kp_restore_text.proofs.Splits.{position_from_start, position_none}
use Rattle.kp_restore.proofs.pieces.first_line.Goals as goal

pub returns-in_err-at-clause-none : goal.returns-in_err-at-clause-none
returns-in_err-at-clause-none c = λ e. position_none c.args.bytes.now (sym c.in_err-at.ensures)

pub returns-clause-parts : goal.returns-clause-parts
returns-clause-parts c =
    (position_from_start c.args.bytes.now c.in_ok-at.at (sym c.in_ok-at.ensures)).0
    ∙ sym (λ i. c.split_at.ensures.front i ++ 10 ∷ (c.split_at-2.ensures.back ∙ ap (drop 1) c.split_at.ensures.back) i)

pub returns-clause-line : goal.returns-clause-line
returns-clause-line c =
    ap no_line_feed c.split_at.ensures.front
    ∙ (position_from_start c.args.bytes.now c.in_ok-at.at (sym c.in_ok-at.ensures)).1
