use Rattle.std.proofs.Common.{◌++◌, ap, ◌∙◌}
use Rattle.std.proofs.lemmas.Result.{on_ok_weaker}
use Rattle.kp_live.proofs.Steps.{behind_fed, behind_sent, behind_synced}
use Rattle.kp_live.proofs.stream.Standing.take.Goals as goal

-- behind a line that feeds
pub returns-in-Feeds-clause-behind : goal.returns-in-Feeds-clause-behind
returns-in-Feeds-clause-behind g c =
    on_ok_weaker c.feed_all.result
    (λ fed lines stands.
    behind_fed g.J.Publication.start g.J.Sharing.config c.args.line.now _ c.in-Feeds.is lines
    c.args.self.now c.feed_all.new.self c.feed_all.ensures.worker c.feed_all.ensures.lists
    c.feed_all.ensures.answers
    (fed ∙ ap (λ es. c.args.self.now.feeder.fed ++ es) c.as_slice.ensures) stands)
    c.feed_all.ensures.fed

-- one that syncs
pub returns-in-Syncs-clause-behind : goal.returns-in-Syncs-clause-behind
returns-in-Syncs-clause-behind g c =
    on_ok_weaker c.sync.result
    (λ told lines stands.
    behind_synced g.J.Publication.start g.J.Sharing.config c.args.line.now c.in-Syncs.is lines
    c.args.self.now c.sync.new.self c.sync.ensures.feeder c.sync.ensures.lists told stands)
    c.sync.ensures.told

-- one that sends a packet
pub returns-in-Sends-clause-behind : goal.returns-in-Sends-clause-behind
returns-in-Sends-clause-behind g c =
    on_ok_weaker c.answer.result
    (λ told lines stands.
    behind_sent g.J.Publication.start g.J.Sharing.config c.args.line.now _ c.in-Sends.is lines
    c.args.self.now c.answer.new.self c.answer.ensures.feeder told stands)
    c.answer.ensures.told
