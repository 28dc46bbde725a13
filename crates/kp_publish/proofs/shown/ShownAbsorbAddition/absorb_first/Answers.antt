use Rattle.std.proofs.Common.{refl}
use Rattle.kp_table_defs.specs.Edits.{table_after_batch}
use Rattle.kp_publish.specs.Entries.{StandsFor}
use Rattle.kp_publish.proofs.Tables.{stands_next}
use Rattle.kp_publish.proofs.shown.ShownAbsorbAddition.absorb_first.Goals as goal

pub invariant_of-self : goal.invariant_of-self
invariant_of-self g c =
    let start = g.J.Publication.start in
    let add = c.addition.inside in
    let stands : StandsFor start (table_after_batch c.self.inside.table add.next.batch.edits) add.after =
    stands_next start c.self.inside.table c.self.inside.front add.before add.after add.next c.self.invariant (c.if-not-is_same.ensures.same refl) c.addition.invariant in
    rw (c.in-Ok.ensures.ok, c.again.ensures) stands
