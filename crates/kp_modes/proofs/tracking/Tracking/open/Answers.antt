use Rattle.std.proofs.Common.{ap, ◌∙◌}
use Rattle.std.specs.Prelude.{string_bytes}
use Rattle.std.proofs.lemmas.Result.{on_err_weaker, on_ok_weaker}
use Rattle.kp_lemmas.proofs.Results.{ok_anyhow}
use Rattle.kp_report.proofs.Pieces.{front_on}
use Rattle.kp_modes.proofs.OpenedText.{open_keeps, open_traced, open_untraced}
use Rattle.kp_modes.proofs.tracking.Tracking.open.Goals as goal

-- ---- With a trail

pub returns-in_ok-push_opened-clause-text : goal.returns-in_ok-push_opened-clause-text
returns-in_ok-push_opened-clause-text c =
    let seen = c.snapshot_of-snapshot.ensures in
    let number = c.args.number in
    let line = c.args.line.now in
    let lists = c.args.lists.now in
    on_ok_weaker c.push_trail.result
    (open_traced c.args.plane.now c.snapshot_of-snapshot.result number line lists c.args.self.now.connections
    c.flow_of-flow.result c.flow_of-flow.ensures (seen.decided number line lists) seen.sync (seen.walked number line lists)
    (string_bytes c.args.text.now) (string_bytes c.push_opened.new.text) (string_bytes c.push_trail.new.text)
    c.in_ok-answer.answer c.walk.new.self c.opened-kept.result c.if-line.true c.in_ok-answer.ensures.walk
    c.opened-kept.ensures.kept c.in_ok-push_opened.ensures.added) c.push_trail.ensures.added

pub returns-in_ok-push_opened-clause-lists : goal.returns-in_ok-push_opened-clause-lists
returns-in_ok-push_opened-clause-lists c =
    ok_anyhow c.push_trail.result _
    (ap (λ w. w.lists) c.in_ok-answer.ensures.walk
    ∙ (c.snapshot_of-snapshot.ensures.decided c.args.number c.args.line.now c.args.lists.now).lists)

pub returns-in_ok-push_opened-clause-kept : goal.returns-in_ok-push_opened-clause-kept
returns-in_ok-push_opened-clause-kept c =
    ok_anyhow c.push_trail.result _
    (open_keeps c.args.plane.now c.snapshot_of-snapshot.result c.args.number c.args.line.now c.args.lists.now
    c.args.self.now.connections c.flow_of-flow.result c.flow_of-flow.ensures
    (c.snapshot_of-snapshot.ensures.decided c.args.number c.args.line.now c.args.lists.now) c.in_ok-answer.answer.verdict
    (ap (λ w. w.verdict) c.in_ok-answer.ensures.walk) c.opened-kept.new.self c.opened-kept.ensures.after)

pub returns-in_ok-push_opened-clause-front : goal.returns-in_ok-push_opened-clause-front
returns-in_ok-push_opened-clause-front c =
    on_err_weaker c.push_trail.result (front_on _ _ _ _ c.in_ok-push_opened.ensures.added) c.push_trail.ensures.front

-- ---- Without one

pub returns-in_ok-verdict-clause-text : goal.returns-in_ok-verdict-clause-text
returns-in_ok-verdict-clause-text c =
    let seen = c.snapshot_of-snapshot.ensures in
    let number = c.args.number in
    let line = c.args.line.now in
    let lists = c.args.lists.now in
    on_ok_weaker c.push_opened-else-line.result
    (open_untraced c.args.plane.now c.snapshot_of-snapshot.result number line lists c.args.self.now.connections
    c.flow_of-flow.result c.flow_of-flow.ensures (seen.decided number line lists) seen.sync (seen.walked number line lists)
    (string_bytes c.args.text.now) (string_bytes c.args.text.now) (string_bytes c.push_opened-else-line.new.text)
    c.in_ok-verdict.verdict c.opened-kept-else-line.result c.if-line.false c.in_ok-verdict.ensures.verdict
    c.opened-kept-else-line.ensures.kept) c.push_opened-else-line.ensures.added

pub returns-in_ok-verdict-clause-lists : goal.returns-in_ok-verdict-clause-lists
returns-in_ok-verdict-clause-lists c =
    ok_anyhow c.push_opened-else-line.result _
    (c.in_ok-verdict.ensures.lists
    ∙ (c.snapshot_of-snapshot.ensures.decided c.args.number c.args.line.now c.args.lists.now).lists)

pub returns-in_ok-verdict-clause-kept : goal.returns-in_ok-verdict-clause-kept
returns-in_ok-verdict-clause-kept c =
    ok_anyhow c.push_opened-else-line.result _
    (open_keeps c.args.plane.now c.snapshot_of-snapshot.result c.args.number c.args.line.now c.args.lists.now
    c.args.self.now.connections c.flow_of-flow.result c.flow_of-flow.ensures
    (c.snapshot_of-snapshot.ensures.decided c.args.number c.args.line.now c.args.lists.now) c.in_ok-verdict.verdict
    c.in_ok-verdict.ensures.verdict c.opened-kept-else-line.new.self c.opened-kept-else-line.ensures.after)
