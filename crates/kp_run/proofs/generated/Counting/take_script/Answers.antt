use Rattle.std.proofs.Common.{rules, ◌<◌, ◌∙◌, length, take, get_or, ap, sym, arith}
use Rattle.std.specs.List.{fold, flat_map}
use Rattle.std.proofs.lemmas.List.{take_more}
use Rattle.kp_gen_defs.specs.Script.{part_lines}
use Rattle.kp_gen_defs.specs.declared.plan.ScriptPart.TheVariants.{Config}
use Rattle.kp_run.specs.Sums.{after_counted, count_start}
use Rattle.kp_run.proofs.SumLemmas.{part_more}
use Rattle.kp_run.proofs.generated.Counting.take_script.Goals as goal

pub loop-part-preserved : goal.loop-part-preserved
loop-part-preserved c =
    let parts = c.script_parts-part-items.result in
    let i = c.loop-part.part-index in
    let lines = part_lines c.args.plan in
    let inside : i < length parts = search rules in
    record {
      counted =
          c.in_ok-take_part.ensures.counted
          ∙ ap (λ k. fold after_counted k (lines (get_or parts i Config))) c.loop-part.invariant.counted
          ∙ sym (ap (λ l. fold after_counted count_start (flat_map lines l)) (take_more parts i Config inside) ∙ part_more after_counted count_start lines (take i parts) (get_or parts i Config));
      ready = c.in_ok-take_part.ensures.ready;
      few = omega (arith, c.in_ok-take_part.ensures.few, c.loop-part.invariant.few);
    }
