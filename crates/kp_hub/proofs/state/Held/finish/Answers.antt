use Rattle.std.proofs.Common.{ℕ, ◌+◌, ◌<◌, ◌≤◌, IfOk, List, ◌++◌, length, subst}
use Rattle.kp_feed.specs.declared.rule.Ended.{Ended}
use Rattle.kp_feed.specs.Feeding.{AreWhole}
use Rattle.kp_history_defs.specs.declared.fed.Fed.{Fed}
use Rattle.kp_run_defs.specs.LegalRuns.{last_syncs}
use Rattle.kp_hub.proofs.state.Held.finish.Goals as goal

pub returns-in-Ok-clause-order : goal.returns-in-Ok-clause-order
returns-in-Ok-clause-order g c =
    subst (λ (e : List Ended). IfOk c.into_finished.result (λ done. (left : List Fed) × AreWhole (done.journal ++ left) e g.J.Sharing.streams))
    c.sync_and_publish.ensures.more.ended c.into_finished.ensures.order

pub returns-in-Ok-clause-whole : goal.returns-in-Ok-clause-whole
returns-in-Ok-clause-whole g c =
    subst (λ (e : List Ended). IfOk c.into_finished.result
    (λ done. length done.journal < g.J.Sharing.config.max_events → AreWhole done.journal e g.J.Sharing.streams))
    c.sync_and_publish.ensures.more.ended c.into_finished.ensures.whole

pub returns-in-Ok-clause-accepted : goal.returns-in-Ok-clause-accepted
returns-in-Ok-clause-accepted g c =
    subst (λ (n : ℕ). IfOk c.into_finished.result (λ done. n + last_syncs done.clash ≤ length done.notes))
    c.sync_and_publish.ensures.books.accepted c.into_finished.ensures.accepted

pub returns-in-Ok-clause-refused : goal.returns-in-Ok-clause-refused
returns-in-Ok-clause-refused g c =
    subst (λ (n : ℕ). IfOk c.into_finished.result (λ done. n ≤ length done.refusals))
    c.sync_and_publish.ensures.books.refused c.into_finished.ensures.refused
