use Rattle.std.proofs.Common.{◌∙◌}
use Rattle.std.specs.Prelude.{string_bytes}
use Rattle.kp_lemmas.proofs.Results.{on_ok}
use Rattle.kp_mode.proofs.SeenLemmas.{text_alike}
use Rattle.kp_mode.proofs.packets.answered.Goals as goal

pub returns-clause-text : goal.returns-clause-text
returns-clause-text c =
    let snapshot = c.snapshot_of.ensures in
    on_ok _ _ c.answer.result c.answer.ensures.text
    (text_alike c.args.number c.args.line.now c.args.plane.now c.snapshot_of.result c.args.lists.now
    (string_bytes c.args.text.now) (string_bytes c.answer.new.text) snapshot.sync
    (snapshot.walked c.args.number c.args.line.now c.args.lists.now)
    (snapshot.decided c.args.number c.args.line.now c.args.lists.now))

pub returns-clause-lists : goal.returns-clause-lists
returns-clause-lists c =
    let agree = c.snapshot_of.ensures.decided c.args.number c.args.line.now c.args.lists.now in
    on_ok _ _ c.answer.result c.answer.ensures.lists (λ lists. lists ∙ agree.lists)
