use Rattle.std.proofs.Common.{sym, ap, ◌∙◌, arith}
use Rattle.std.proofs.Math.Seq.{drop-length}
use Rattle.std.specs.BTreeSet.{insert_key}
use Rattle.std.specs.Ordering.{nat_cmp}
use Rattle.kp_object_defs.specs.Order.{distinct_in_order}
use Rattle.kp_health.proofs.Numbers.{one_before}
use Rattle.kp_health.proofs.accept.set_of.Goals as goal

pub loop-i-init : goal.loop-i-init
loop-i-init c =
    c.new-numbers.ensures.empty
    ∙ sym (ap (distinct_in_order nat_cmp) (drop-length c.args.ports.now))

pub loop-i-preserved : goal.loop-i-preserved
loop-i-preserved c =
    c.in_ok-insert.ensures.keys
    ∙ ap (λ ks. insert_key nat_cmp ks c.index-ports-i.result) c.loop-i.invariant
    ∙ one_before c.args.ports.now c.loop-i.i c.index-ports-i.result (omega arith) (omega arith)
    c.index-ports-i.is
