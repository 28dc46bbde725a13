use Rattle.std.proofs.Common.{◌++◌, length, sym, refl}
use Rattle.kp_streams.specs.Streams.{reading_in}
use Rattle.kp_live.specs.Runs.{end_text, head_text, telling}
use Rattle.kp_live.proofs.Printing.{prints_as, prints_broken, prints_first, prints_flag, prints_three}
use Rattle.kp_live.proofs.parts.print.Goals as goal

-- the head wasn't written whole
pub returns-in-Err-clause-printed : goal.returns-in-Err-clause-printed
returns-in-Err-clause-printed g c =
    let r = reading_in c.args.lines.now in
    let done = c.args.done.now in
    λ told of. prints_first (head_text r done.journal done.notes)
    (telling done.refusals told r.lines).text
    (end_text r.config (length done.notes) done.clash done.table)
    (head_text r done.journal done.notes ++ (telling done.refusals told r.lines).text
    ++ end_text r.config (length done.notes) done.clash done.table) c.in-Err.fault _ _ refl
    c.in-Err.ensures

-- the answers weren't
pub returns-in-Err-print_answers-clause-printed : goal.returns-in-Err-print_answers-clause-printed
returns-in-Err-print_answers-clause-printed g c =
    let r = reading_in c.args.lines.now in
    let done = c.args.done.now in
    λ told of. prints_broken (head_text r done.journal done.notes)
    (telling c.as_slice.result.now told c.lines.result.now).text
    (end_text r.config (length done.notes) done.clash done.table)
    (head_text r done.journal done.notes ++ (telling done.refusals told r.lines).text
    ++ end_text r.config (length done.notes) done.clash done.table) c.in-Ok.field-0
    c.in-Err-print_answers.fault _ _ _
    (λ k. head_text r done.journal done.notes
    ++ (telling (sym c.as_slice.ensures k) told (sym c.lines.ensures k)).text
    ++ end_text r.config (length done.notes) done.clash done.table)
    c.in-Ok.ensures (c.in-Err-print_answers.ensures.printed told of)

-- all of it was, or the end wasn't
pub returns-in-Ok-print_answers-clause-printed : goal.returns-in-Ok-print_answers-clause-printed
returns-in-Ok-print_answers-clause-printed g c =
    let r = reading_in c.args.lines.now in
    let done = c.args.done.now in
    λ told of. prints_flag _ c.print_end.result c.has_refusal.result
    (head_text r done.journal done.notes ++ (telling done.refusals told r.lines).text
    ++ end_text r.config (length done.notes) done.clash done.table) _ _ c.said.ensures
    (prints_three (head_text r done.journal done.notes)
    (telling c.as_slice.result.now told c.lines.result.now).text
    (end_text r.config (length done.notes) done.clash done.table)
    (head_text r done.journal done.notes ++ (telling done.refusals told r.lines).text
    ++ end_text r.config (length done.notes) done.clash done.table) c.in-Ok.field-0
    c.in-Ok-print_answers.denied c.print_end.result _ _ _ _
    (λ k. head_text r done.journal done.notes
    ++ (telling (sym c.as_slice.ensures k) told (sym c.lines.ensures k)).text
    ++ end_text r.config (length done.notes) done.clash done.table)
    c.in-Ok.ensures (c.in-Ok-print_answers.ensures.printed told of)
    (prints_as c.print_end.result
    (end_text c.config.result.now (length done.notes) done.clash done.table)
    (end_text r.config (length done.notes) done.clash done.table) _ _
    (λ k. end_text (c.config.ensures k) (length done.notes) done.clash done.table)
    c.print_end.ensures))
