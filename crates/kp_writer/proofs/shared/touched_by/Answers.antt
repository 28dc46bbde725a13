use Rattle.std.proofs.Common.{ap, Bor, map, ◌∙◌}
use Rattle.std.proofs.lemmas.List.{take_all}
use Rattle.std.specs.FinMap.{get}
use Rattle.kp_base.specs.declared.key.PortKey.{PortKey}
use Rattle.kp_choice_defs.specs.Settings.{setting_of}
use Rattle.kp_writer.specs.Written.{newest_in, written_in}
use Rattle.kp_writer.specs.Shared as spec
use Rattle.kp_writer.proofs.KeptBlocks.{kept_blocks}
use Rattle.kp_writer.proofs.OldBlocks.{block_written}
use Rattle.kp_writer.proofs.Totals.{fold_next}
use Rattle.kp_writer.proofs.shared.touched_by.Goals as goal

pub loop-key-preserved : goal.loop-key-preserved
loop-key-preserved c = λ config are old.
    let s = setting_of c.args.family config in
    let show : Bor PortKey → spec.Change = λ k. (
      get (written_in c.args.ports.now) k.now,
      get (newest_in c.args.ports.now) k.now,
    ) in
    let key = c.key-item.result.now in
    let had = c.rules_of-before.ensures
    ∙ ap spec.block_found (c.written_block.ensures
    ∙ block_written s (written_in c.args.ports.now) (newest_in c.args.ports.now)
    c.args.blocks.now c.args.aside.now are old key) in
    let has = c.rules_of.ensures ∙ ap spec.block_found (c.block.ensures ∙ are key) in
    let before = ap (spec.blocks_in s.family) had ∙ kept_blocks s (show c.key-item.result).0 in
    let after = ap (spec.blocks_in s.family) has ∙ kept_blocks s (show c.key-item.result).1 in
    fold_next show c.args.keys.now c.loop-key.key-index c.key-item.result
    c.loop-key-test.true c.key-item.is (spec.touch_by s) spec.untouched c.loop-key.touched
    c.touch-touched.result (c.loop-key.invariant config are old)
    (c.touch-touched.ensures ∙ (λ i. spec.touch c.loop-key.touched (before i) (after i)))

pub returns : goal.returns
returns c = λ config are old.
    let show : Bor PortKey → spec.Change = λ k. (
      get (written_in c.args.ports.now) k.now,
      get (newest_in c.args.ports.now) k.now,
    ) in
    c.loop-key.invariant config are old
    ∙ ap (λ ks. spec.touched_by (setting_of c.args.family config) (map show ks))
    (take_all c.loop-key.key-index c.args.keys.now c.loop-key-test.false)
