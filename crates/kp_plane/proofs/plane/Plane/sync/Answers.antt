use Rattle.std.proofs.Common.{[], ◌∷◌, ◌++◌, ap, subst, sym, ◌∙◌, arith}
use Rattle.kp_writer.specs.Batch.{own_rules_written}
use Rattle.kp_plane.specs.Parts.{IsNextRecord, records_in}
use Rattle.kp_plane.proofs.Synced.{record_told}
use Rattle.kp_plane.proofs.plane.Plane.sync.Goals as goal

pub returns-clause-record : goal.returns-clause-record
returns-clause-record g c =
    let old = c.args.self.now in
    subst (IsNextRecord old) (sym (record_told old c.in_ok-note.note c.in_ok-note.batch
    c.in_ok-note.ensures.note c.in_ok-note.ensures.told)) c.in_ok-note.ensures.record

pub returns-clause-added : goal.returns-clause-added
returns-clause-added g c =
    let old = c.args.self.now in
    c.in_ok-note.ensures.added
    ∙ ap (λ r. records_in old ++ r ∷ []) (sym (record_told old c.in_ok-note.note c.in_ok-note.batch
    c.in_ok-note.ensures.note c.in_ok-note.ensures.told))

pub returns-clause-made : goal.returns-clause-made
returns-clause-made g c =
    omega (arith, ap own_rules_written c.in_ok-note.ensures.told, c.in_ok-note.ensures.made)
