use Rattle.std.proofs.Common.{sym, ap, ◌∙◌}
use Rattle.std.specs.Option.{option_copied}
use Rattle.kp_writer.specs.Old.{is_known}
use Rattle.kp_writer.specs.Written.{parts}
use Rattle.kp_writer.proofs.OldBlocks.{block_known, block_unknown}
use Rattle.kp_writer.proofs.writer.Writer.block_at_hand.Goals as goal

pub returns-then-is_known : goal.returns-then-is_known
returns-then-is_known c =
    let v = parts c.self.inside.family c.self.inside.config c.self.inside.ports in
    block_known v c.args.self.now c.self.view_is c.self.inside.blocks c.self.inside.aside
    c.self.invariant c.args.info.now (option_copied c.written_block.result)
    c.written_block.ensures (ap (λ o. is_known o c.args.info.now)
    (sym c.published.ensures) ∙ sym c.is_known.ensures ∙ c.if-is_known.true)

pub returns-else-is_known : goal.returns-else-is_known
returns-else-is_known c =
    let v = parts c.self.inside.family c.self.inside.config c.self.inside.ports in
    block_unknown v c.args.self.now c.self.view_is c.self.inside.blocks c.self.inside.aside
    c.self.invariant c.args.info.now (ap (λ o. is_known o c.args.info.now)
    (sym c.published.ensures) ∙ sym c.is_known.ensures ∙ c.if-is_known.false)
