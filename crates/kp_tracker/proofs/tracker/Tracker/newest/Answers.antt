use Rattle.std.proofs.Common.{Some, None, sym, ap, ◌∙◌}
use Rattle.std.specs.BTreeMap.{is_at}
use Rattle.std.specs.Map.{lookup}
use Rattle.kp_tracker.proofs.Newest.{got_newest}
use Rattle.kp_tracker.proofs.tracker.Tracker.newest.Goals as goal

pub returns-in-None : goal.returns-in-None
returns-in-None g c =
    let q = c.args.key.now in
    c.published.ensures
    ∙ sym (got_newest g.K.Key.is_total g.K.Ord.cmp g.met.K.Key.sorts c.args.self.now q None
    (c.in-None.ensures.value ∙ ap (λ t. lookup (is_at (g.K.Ord.cmp q)) t.updates) c.self.view_is))

pub returns-in-Some : goal.returns-in-Some
returns-in-Some g c =
    let q = c.args.key.now in
    c.as_ref.ensures.value
    ∙ sym (got_newest g.K.Key.is_total g.K.Ord.cmp g.met.K.Key.sorts c.args.self.now q (Some c.in-Some.value.now)
    (c.in-Some.ensures.value ∙ ap (λ t. lookup (is_at (g.K.Ord.cmp q)) t.updates) c.self.view_is))
