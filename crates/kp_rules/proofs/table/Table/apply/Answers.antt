use Rattle.std.proofs.Common.{◌∙◌, sym, subst, fold}
use Rattle.kp_table_defs.specs.Edits.{chains_after_edit}
use Rattle.kp_rules.specs.Placed.{AreStaged}
use Rattle.kp_rules.proofs.Placing.{staged_after}
use Rattle.kp_rules.proofs.table.Table.apply.Goals as goal

-- all places that are written are there, so those of the chains after the edits are
pub remove_empty-requires-2 : goal.remove_empty-requires-2
remove_empty-requires-2 c =
    let m = c.self.inside.chains.chains in
    let es = c.as_slice-edits.result.now in
    let places = c.add_written.new.places in
    let made = c.make_all.ensures ∙ (λ i. fold chains_after_edit (c.in_ok-reserve.ensures.chains i) (c.in_ok-ready.ensures i)) in
    subst (λ n. AreStaged places n es) (sym made) (staged_after places m es (c.add_written.ensures.staged m c.self.invariant) c.in_default.ensures.written)
