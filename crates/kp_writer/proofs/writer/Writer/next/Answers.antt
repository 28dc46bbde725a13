use Rattle.std.proofs.Common.{arith}
use Rattle.std.proofs.lemmas.Result.{IfOk-weaker, on_ok_weaker}
use Rattle.kp_writer.proofs.WriterEdits.{is_next, own_counted}
use Rattle.kp_writer.proofs.writer.Writer.next.Goals as goal

pub returns-clause-next : goal.returns-clause-next
returns-clause-next g c =
    let w = c.self.inside in
    IfOk-weaker c.next_chains.result _ _
    (λ next made. is_next w.family w.config w.ports w.blocks w.aside c.self.invariant
    c.deref.result.now c.in_ok-keys.keys.items c.deref.ensures.value c.in_ok-keys.ensures
    c.hashed_prefixed.ensures c.args.table.now.chains next made c.args.self.now c.self.view_is
    c.requires.table c.requires.apart)
    c.next_chains.ensures.next

pub returns-clause-made : goal.returns-clause-made
returns-clause-made g c =
    let w = c.self.inside in
    let counted = own_counted w.family w.config w.ports w.blocks w.aside c.self.invariant
    c.deref.result.now c.in_ok-keys.keys.items c.deref.ensures.value c.in_ok-keys.ensures
    c.args.self.now c.self.view_is in
    on_ok_weaker c.next_chains.result (λ made. omega (arith, counted, made))
    c.next_chains.ensures.made

pub returns-clause-steps : goal.returns-clause-steps
returns-clause-steps g c =
    let w = c.self.inside in
    let counted = own_counted w.family w.config w.ports w.blocks w.aside c.self.invariant
    c.deref.result.now c.in_ok-keys.keys.items c.deref.ensures.value c.in_ok-keys.ensures
    c.args.self.now c.self.view_is in
    omega (arith, counted, c.next_chains.ensures.steps)
