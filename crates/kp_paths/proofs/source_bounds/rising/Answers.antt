use Rattle.std.proofs.Common.{◌-◌, sym, ap, ◌∙◌, get_or, arith}
use Rattle.std.proofs.Math.Seq.{drop-length}
use Rattle.std.specs.BTreeSet.{insert_key}
use Rattle.std.specs.Ordering.{nat_cmp}
use Rattle.kp_path_defs.specs.Sources as spec
use Rattle.kp_paths.proofs.SourceOrder.{one_before}
use Rattle.kp_paths.proofs.source_bounds.rising.Goals as goal

pub loop-i-init : goal.loop-i-init
loop-i-init c = c.new-rising.ensures.empty ∙ sym (ap spec.rising (drop-length c.args.numbers.now))

pub loop-i-preserved : goal.loop-i-preserved
loop-i-preserved c =
    c.in_ok-insert.ensures.keys
    ∙ ap (λ ks. insert_key nat_cmp ks (get_or c.args.numbers.now (c.loop-i.i - 1) 0)) c.loop-i.invariant
    ∙ one_before c.args.numbers.now c.loop-i.i (omega arith) (omega arith)
