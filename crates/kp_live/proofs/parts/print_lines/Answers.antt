use Rattle.std.proofs.Common.{◌++◌, ◌+◌, ◌||◌, ap, sym, subst, ◌∙◌, take}
use Rattle.std.specs.Prelude.{Ok}
use Rattle.kp_live.specs.Runs.{AreLeft, Telling, telling}
use Rattle.kp_live.proofs.Lines.{telling_next, telling_rest}
use Rattle.kp_live.proofs.Printing.{prints_any, prints_as, prints_broken, prints_then}
use Rattle.kp_live.proofs.parts.print_lines.Goals as goal

-- one more line
pub loop-line-preserved : goal.loop-line-preserved
loop-line-preserved g c = λ all are.
    let refusals = c.args.refusals.now in
    let lines = c.args.lines.now in
    let i = c.loop-line.line-index in
    let line = c.line-item.result in
    let inv = c.loop-line.invariant all are in
    let now = telling refusals all (take i lines) in
    let next = telling_next refusals all lines i line c.loop-line-test.true c.line-item.is in
    let left = c.in-Ok.ensures.left now inv.left in
    let printed = c.in-Ok.ensures.printed now inv.left in record {
      left = subst (λ (n : Telling). AreLeft n.left c.print_line.new.told) (sym next) left.0;
      denied =
          c.either-denied.ensures ∙ ap (λ d. d || c.in-Ok.more) inv.denied ∙ left.1
          ∙ ap (λ (n : Telling). n.denied) (sym next);
      printed =
          prints_as (Ok tt) (now.text ++ printed.0)
          (telling refusals all (take (i + 1) lines)).text _ _
          (sym printed.1 ∙ ap (λ (n : Telling). n.text) (sym next))
          (prints_any c.in-Ok.more tt (now.text ++ printed.0) _ _
          (prints_then tt (Ok c.in-Ok.more) now.text printed.0 _ _ _ inv.printed printed.2));
    }

-- a line wasn't written whole
pub returns-in-Err-clause-printed : goal.returns-in-Err-clause-printed
returns-in-Err-clause-printed g c = λ all are.
    let refusals = c.args.refusals.now in
    let lines = c.args.lines.now in
    let i = c.loop-line.line-index in
    let line = c.line-item.result in
    let inv = c.loop-line.invariant all are in
    let now = telling refusals all (take i lines) in
    let rest = telling_rest refusals all lines i line c.loop-line-test.true c.line-item.is in
    let printed = c.in-Err.ensures.printed now inv.left in
    prints_broken now.text printed.0 rest.0 (telling refusals all lines).text tt c.in-Err.fault
    _ _ _ (rest.1 ∙ ap (λ l. l ++ rest.0) printed.1) inv.printed printed.2
