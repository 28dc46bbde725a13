use Rattle.std.proofs.Common.{Some, None, refl, subst, sym, ◌++◌, ◌∙◌}
use Rattle.std.specs.Prelude.{string_bytes}
use Rattle.std.proofs.lemmas.Result.{on_ok_weaker}
use Rattle.kp_lemmas.proofs.Results.{err_anyhow, ok_anyhow}
use Rattle.kp_plane.specs.Parts.{objects_in}
use Rattle.kp_run_defs.specs.AnswerText.{draws_at}
use Rattle.kp_track_defs.specs.Tracking.{after_opened}
use Rattle.kp_track_mode_defs.specs.FlowText.{owned_text}
use Rattle.kp_track_mode_defs.specs.TrackMode.{flow_by, flow_of}
use Rattle.kp_udp_endpoints.specs.Counts.{AreCounted}
use Rattle.kp_mode.specs.Calls.{Answers, covered_by}
use Rattle.kp_mode.proofs.CallLemmas.{answers}
use Rattle.kp_modes.specs.Tracked.{StandsFor, decision_of_line}
use Rattle.kp_modes.proofs.OpenedText.{opens_so}
use Rattle.kp_modes.proofs.Follows.{after_opened_flow, after_owned_flow, answered_alike, kept_alike}
use Rattle.kp_modes.proofs.tracking.TrackingMode.packet.Goals as goal

-- somebody owns the flow
pub returns-in-Some : goal.returns-in-Some
returns-in-Some c = λ state stands.
    let p = c.args.plane.now in
    let o = objects_in p in
    let line = c.args.line.now in
    let kept = c.args.self.now in
    let heard = c.owned.new.self in
    let said = c.push_owned.result in
    let stands_now = StandsFor heard kept.counts p.config o in
    let partly = AreCounted p.config o kept.counts in
    let found = answered_alike p.config o kept.connections kept.counts state stands (flow_of line) c.kept_openers.ensures.answers
    c.flow_of.result (Some c.in-Some.owned) c.flow_of.ensures c.in-Some.ensures.answer in
    let now = after_owned_flow p.config o kept.connections kept.counts state stands (flow_of line) c.kept_openers.ensures.owns
    c.flow_of.result heard c.flow_of.ensures c.owned.ensures.after in
    subst (λ owner. Answers said stands_now partly
    (flow_by (covered_by p) c.args.number line c.args.lists.now state owner) c.args.lists.now c.args.text.now
    c.push_owned.new.text) found
    (answers said stands_now partly c.args.text.now c.push_owned.new.text
    (flow_by (covered_by p) c.args.number line c.args.lists.now state (Some c.in-Some.owned)) c.args.lists.now
    (on_ok_weaker said (λ text. text
    ∙ (λ i. string_bytes c.args.text.now ++ owned_text c.args.number (c.syncs.ensures.count i) line c.in-Some.owned))
    c.push_owned.ensures.added)
    (ok_anyhow said _ refl) (ok_anyhow said _ now) c.push_owned.ensures.front (err_anyhow said _ stands.counted))

-- it opens
pub returns-in-None : goal.returns-in-None
returns-in-None c = λ state stands.
    let p = c.args.plane.now in
    let o = objects_in p in
    let line = c.args.line.now in
    let kept = c.args.self.now in
    let said = c.open.result in
    let new = c.open.new.self in
    let verdict = (decision_of_line p c.args.number line c.args.lists.now).verdict in
    let stands_now = StandsFor new.connections new.counts p.config o in
    let partly = AreCounted p.config o new.counts in
    let found = answered_alike p.config o kept.connections kept.counts state stands (flow_of line) c.kept_openers.ensures.answers
    c.flow_of.result None c.flow_of.ensures c.in-None.ensures.answer in
    let room = kept_alike p.config o kept.connections kept.counts state stands (flow_of line) c.flow_of.result c.flow_of.ensures
    c.owned.new.self c.in-None.ensures.answer c.owned.ensures.after verdict c.kept_openers.ensures.keeps in
    let now = after_opened_flow p.config o kept.connections kept.counts state stands (flow_of line) c.flow_of.result
    c.flow_of.ensures c.owned.new.self c.in-None.ensures.answer c.owned.ensures.after verdict c.kept_openers.ensures.opens
    (c.sent_where_it_stands.ensures p.config o line.packet (draws_at c.args.number line.draws) c.args.lists.now)
    new.connections in
    subst (λ owner. Answers said stands_now partly
    (flow_by (covered_by p) c.args.number line c.args.lists.now state owner) c.open.new.lists c.args.text.now
    c.open.new.text) found
    (opens_so p c.args.number line c.args.lists.now state c.owned.new.self said stands_now partly c.open.new.lists
    c.args.text.now c.open.new.text room c.open.ensures.text c.open.ensures.lists
    (on_ok_weaker said (λ left. subst (λ counts. StandsFor new.connections counts p.config o
    (after_opened state (flow_of line) verdict)) (sym c.open.ensures.counts) (now left))
    c.open.ensures.kept)
    c.open.ensures.front
    (err_anyhow said _ (subst (AreCounted p.config o) (sym c.open.ensures.counts) stands.counted)))
