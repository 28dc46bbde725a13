use Rattle.std.proofs.Common.{arith, sym, ap, ◌∙◌}
use Rattle.std.specs.FinMap.{get}
use Rattle.std.specs.Option.{option_copied}
use Rattle.kp_chains.specs.Blocks.{block_count, blocks_of}
use Rattle.kp_blocks.specs.Joined.{port_block}
use Rattle.kp_writer.specs.Old.{is_known}
use Rattle.kp_writer.specs.Written.{setting_in}
use Rattle.kp_writer.proofs.OldBlocks.{made_count, none_at_hand}
use Rattle.kp_writer.proofs.writer.Writer.block_for.Goals as goal

-- a block is made where something else was written
pub returns-in-None-clause-steps : goal.returns-in-None-clause-steps
returns-in-None-clause-steps g c =
    let w = c.args.self.now in
    let i = c.args.info.now in
    let none = none_at_hand (is_known (get w.written i.key) i)
    (port_block (setting_in w) i) (sym (ap option_copied c.in-None.is) ∙ c.block_at_hand.ensures) in
    let all = made_count (setting_in w) w.written i none in
    let by = ap (λ u. block_count (blocks_of (setting_in u) i)) c.self.view_is in
    omega (arith, all, by, c.block_of.ensures.steps)
