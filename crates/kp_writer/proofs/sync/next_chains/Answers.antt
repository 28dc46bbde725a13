use Rattle.std.proofs.Common.{Bor, sym, ap, ◌∙◌}
use Rattle.std.specs.FinMap.{get}
use Rattle.std.proofs.lemmas.Simd.{map-map}
use Rattle.kp_base.specs.declared.key.PortKey.{PortKey}
use Rattle.kp_choice_defs.specs.Settings.{setting_of}
use Rattle.kp_writer.specs.Shared.{Change, touched_by, with_shared}
use Rattle.kp_writer.specs.Written.{newest_in, written_in}
use Rattle.kp_writer.proofs.sync.next_chains.Goals as goal

pub returns-clause-next : goal.returns-clause-next
returns-clause-next g c =
    let s = setting_of c.args.family c.args.config.now in
    let before = written_in c.args.ports.now in
    let after = newest_in c.args.ports.now in
    let change : PortKey → Change = λ k. (get before k, get after k) in
    let touched = c.touched_by-touched.ensures c.args.config.now c.requires.blocks c.requires.old
    ∙ ap (touched_by s) (sym (map-map change (λ (k : Bor PortKey). k.now) c.args.keys.now)) in
    c.in_ok-join_touched.ensures
    ∙ (λ i. with_shared c.args.family c.args.blocks.now (touched i) (c.in_ok-next.ensures.next i))
