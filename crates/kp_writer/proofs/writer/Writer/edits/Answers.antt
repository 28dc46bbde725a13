use Rattle.std.proofs.Common.{arith, sym, ap, ◌∙◌}
use Rattle.std.specs.FinMap.{entries}
use Rattle.kp_writer.specs.Batch.{own_rules_written}
use Rattle.kp_writer.specs.Next.{edits_of}
use Rattle.kp_writer.proofs.writer.Writer.edits.Goals as goal

pub check_names-requires : goal.check_names-requires
check_names-requires g c = λ free. c.in_ok-next.ensures.next.free (sym c.all_free.ensures ∙ free)

pub returns-clause-batch : goal.returns-clause-batch
returns-clause-batch g c =
    c.in_ok-edits.ensures ∙ ap (λ w. edits_of w.family c.args.table.now.chains
    (entries c.in_ok-next.next.places)) c.self.view_is
    ∙ c.in_ok-next.ensures.next.edits c.in_ok-check_names.ensures.no_clash

pub returns-clause-made : goal.returns-clause-made
returns-clause-made g c =
    let few = c.in_ok-next.ensures.next.few in
    let are = c.in_ok-edits.ensures ∙ ap (λ w. edits_of w.family c.args.table.now.chains
    (entries c.in_ok-next.next.places)) c.self.view_is in
    omega (arith, few, ap own_rules_written are, c.in_ok-next.ensures.made)
