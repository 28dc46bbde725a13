use Rattle.std.proofs.Common.{◌<◌, length, ap, sym, subst, ◌∙◌}
use Rattle.kp_publish.specs.Entries.{records_of}
use Rattle.kp_hub.specs.Ready.{AreReady}
use Rattle.kp_hub.specs.State.{HubState, state_in}
use Rattle.kp_hub.proofs.States.{published_all, records_length, some_wait, state_publishes}
use Rattle.kp_hub.proofs.state.Held.publish.Goals as goal

pub publish_all-requires-clause-open : goal.publish_all-requires-clause-open
publish_all-requires-clause-open g c = c.self.invariant.2.publishes.is_open

pub publish_all-requires-clause-ready : goal.publish_all-requires-clause-ready
publish_all-requires-clause-ready g c =
    subst (AreReady g.J.Publication.start) (sym c.self.invariant.2.publishes.records) c.are_ready.ensures

pub invariant_of-self : goal.invariant_of-self
invariant_of-self g c =
    let s = c.self.inside in (
      c.self.invariant.0,
      c.self.invariant.1,
      state_publishes g.J.Sharing.config g.J.Sharing.streams g.J.Publication.start
          (state_in s.intake s.publisher s.refusals.items s.accepted.total s.refused.total) s.waiting.items c.self.invariant.2
          c.publish_all.new.publisher c.publish_all.new.waiting.items c.publish_all.ensures.«open» c.publish_all.ensures.records,
    )

pub returns-clause-number : goal.returns-clause-number
returns-clause-number g c =
    let s = c.self.inside in
    let some = some_wait g.J.Sharing.config g.J.Sharing.streams g.J.Publication.start
    (state_in s.intake s.publisher s.refusals.items s.accepted.total s.refused.total) s.waiting.items c.self.invariant.2
    (subst (λ (h : HubState). length (records_of h.outlet.newest) < length h.taken.counts) (sym c.self.view_is) c.requires) in
    c.count.ensures
    ∙ (ap length (published_all g.J.Sharing.config g.J.Sharing.streams g.J.Publication.start
    (state_in s.intake s.publisher s.refusals.items s.accepted.total s.refused.total) s.waiting.items c.self.invariant.2
    c.publish_all.new.publisher c.publish_all.new.waiting.items c.publish_all.ensures.records
    c.in_ok-publish_all.ensures.all (c.in_ok-publish_all.ensures.published some))
    ∙ (records_length g.J.Sharing.config s.intake ∙ ap (λ (h : HubState). length h.taken.counts) c.self.view_is))

pub returns-clause-records : goal.returns-clause-records
returns-clause-records g c =
    let s = c.self.inside in
    let some = some_wait g.J.Sharing.config g.J.Sharing.streams g.J.Publication.start
    (state_in s.intake s.publisher s.refusals.items s.accepted.total s.refused.total) s.waiting.items c.self.invariant.2
    (subst (λ (h : HubState). length (records_of h.outlet.newest) < length h.taken.counts) (sym c.self.view_is) c.requires) in
    published_all g.J.Sharing.config g.J.Sharing.streams g.J.Publication.start
    (state_in s.intake s.publisher s.refusals.items s.accepted.total s.refused.total) s.waiting.items c.self.invariant.2
    c.publish_all.new.publisher c.publish_all.new.waiting.items c.publish_all.ensures.records
    c.in_ok-publish_all.ensures.all (c.in_ok-publish_all.ensures.published some)

pub returns-clause-published : goal.returns-clause-published
returns-clause-published g c =
    let s = c.self.inside in
    c.in_ok-publish_all.ensures.published (some_wait g.J.Sharing.config g.J.Sharing.streams g.J.Publication.start
    (state_in s.intake s.publisher s.refusals.items s.accepted.total s.refused.total) s.waiting.items c.self.invariant.2
    (subst (λ (h : HubState). length (records_of h.outlet.newest) < length h.taken.counts) (sym c.self.view_is) c.requires))
