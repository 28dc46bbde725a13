use Rattle.std.proofs.Common.{map, Bor, subst}
use Rattle.kp_tracker.specs.Tracked as spec
use Rattle.std.proofs.lemmas.Result.{IfOk-weaker}
use Rattle.kp_tracker.proofs.PendingKeys.{are_pending}
use Rattle.kp_tracker.proofs.tracker.Tracker.pending.Goals as goal

pub returns : goal.returns
returns g c =
    let shown : Bor g.row.K.Denot → g.row.K.Denot = λ k. k.now in
    let order = g.K.Key.order in
    let inside : spec.Tracked g.row.K.Denot g.row.V.Denot = record { entries = c.self.inside.published.entries; updates = c.self.inside.updated.entries } in
    IfOk-weaker c.changed_keys.result _ _
    (λ found is. subst (λ t. spec.IsPending order g.V.Told.same t (map shown found.items)) c.self.view_is
    (are_pending g.V.Told.same g.V.Told.tells g.K.Key.is_total g.K.Key.is_exact g.K.Ord.cmp g.met.K.Key.sorts inside (map shown found.items) is c.changed_keys.ensures.in_order))
    c.changed_keys.ensures.keys
