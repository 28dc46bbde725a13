use Rattle.std.proofs.Common.{ap, sym, ◌∙◌, ◌&&◌, arith}
use Rattle.std.proofs.lemmas.List.Folds.{list_all_more}
use Rattle.kp_replay.specs.Groups.{is_aside}
use Rattle.kp_replay.proofs.together.aside_len.Goals as goal

pub loop-read-preserved : goal.loop-read-preserved
loop-read-preserved c =
    let at = c.loop-read in
    let read = c.read-item.result in
    record {
      count = omega (arith, at.invariant.count);
      aside =
          list_all_more is_aside c.args.reads.now at.read-index read c.loop-read-test.true
          ∙ (λ i. at.invariant.aside i
          && (ap is_aside (sym c.read-item.is) ∙ sym c.is_aside.ensures ∙ c.if-not-is_aside.false) i);
    }
