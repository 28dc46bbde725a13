use Rattle.std.proofs.Common.{◌≡◌, ◌<◌, [], ◌∷◌, ◌++◌, Some, None, length, ap, sym, subst, ◌∙◌}
use Rattle.kp_history_defs.specs.Runs.{events_of}
use Rattle.kp_feed.specs.Taking.{Taker}
use Rattle.kp_plane.specs.Parts.{PlaneParts, records_in}
use Rattle.kp_hub.specs.Growing.{TakesMore}
use Rattle.kp_hub.specs.Taken.{Taken, fed_of, records_at, taken_in}
use Rattle.kp_hub.proofs.Growth.{prefix_same}
use Rattle.kp_hub.proofs.Intakes.{plane_room, records_stay, taken_next, taken_waits, takes_from}
use Rattle.kp_hub.proofs.intake.Intake.take_one.Goals as goal

pub returns-in_default-clause-records : goal.returns-in_default-clause-records
returns-in_default-clause-records g c = ap (records_at g.J.Sharing.config) c.self.view_is

pub accept-requires-clause-room : goal.accept-requires-clause-room
accept-requires-clause-room g c =
    let s = c.self.inside in
    plane_room g.J.Sharing.config g.J.Sharing.queue
    (taken_in s.origins.items s.waits s.plane s.taker) s.plane s.taker s.notes.items
    c.self.invariant.1
    (subst (λ (u : Taken). length u.journal < g.J.Sharing.config.max_events) (sym c.self.view_is)
    c.requires.room)

pub returns-in-Ok-clause-more : goal.returns-in-Ok-clause-more
returns-in-Ok-clause-more g c =
    let s = c.self.inside in
    let is = c.self.invariant.1 in
    let t : Taken = taken_in s.origins.items s.waits s.plane s.taker in
    let took = c.in-Some.ensures.next t.journal (ap (λ (k : Taker). k.taken) is.taker_is) in
    let now = taken_next g.J.Sharing.config g.J.Sharing.queue t s.plane s.taker s.notes.items is
    c.sync_records.ensures.stay c.in-Some.fed (fed_of c.accept.new.origins.items c.accept.new.plane.events)
    c.accept.new.plane c.next.new.taker c.in-Ok.ensures.journal
    (subst (λ (u : Taken). length u.journal < g.J.Sharing.config.max_events) (sym c.self.view_is)
    c.requires.room) c.in-Ok.ensures.plane took in
    subst (λ (p : Taken × Taken). TakesMore p.0 p.1)
    (λ i. (c.self.view_is i, taken_in c.accept.new.origins.items (sym c.in-Some.ensures.waits i) c.accept.new.plane c.next.new.taker))
    (takes_from g.J.Sharing.config g.J.Sharing.queue t s.plane s.taker s.notes.items is
    (taken_in c.accept.new.origins.items None c.accept.new.plane c.next.new.taker) c.accept.new.plane c.next.new.taker s.notes.items now
    (c.in-Some.fed ∷ [], sym c.in-Ok.ensures.journal) c.in-Some.ensures.grows
    (ap (λ (k : Taker). k.feeders) took) (ap (λ (k : Taker). k.ended) took))

pub returns-in-Ok-clause-records : goal.returns-in-Ok-clause-records
returns-in-Ok-clause-records g c =
    let s = c.self.inside in
    let t : Taken = taken_in s.origins.items s.waits s.plane s.taker in
    records_stay g.J.Sharing.config g.J.Sharing.queue t s.plane s.taker s.notes.items c.self.invariant.1
    c.sync_records.ensures.stay c.in-Some.fed (fed_of c.accept.new.origins.items c.accept.new.plane.events)
    c.accept.new.plane.counts c.in-Ok.ensures.journal (ap (λ (p : PlaneParts). p.counts) c.in-Ok.ensures.plane)
    c.next.new.waits c.next.new.taker.feeders c.next.new.taker.ended
    ∙ ap (records_at g.J.Sharing.config) c.self.view_is

pub invariant_of-self-in-Err : goal.invariant_of-self-in-Err
invariant_of-self-in-Err g c =
    let s = c.self.inside in
    let is = c.self.invariant.1 in
    let t : Taken = taken_in s.origins.items s.waits s.plane s.taker in
    let took = c.in-Some.ensures.next t.journal (ap (λ (k : Taker). k.taken) is.taker_is) in (
      c.in-Err.ensures.as_many,
      taken_waits g.J.Sharing.config g.J.Sharing.queue t s.plane s.taker s.notes.items is c.in-Err.back c.accept.new.plane c.next.new.taker
          (fed_of c.accept.new.origins.items c.accept.new.plane.events) (λ i. fed_of (c.in-Err.ensures.kept i) (c.in-Err.ensures.stays i).events)
          (subst (λ (u : Taken). length u.journal < g.J.Sharing.config.max_events) (sym c.self.view_is) c.requires.room)
          c.in-Err.ensures.stays (took ∙ (λ i. record s.taker { taken = t.journal ++ sym c.in-Err.ensures.back i ∷ [] })),
    )

pub returns-in-Err-clause-more : goal.returns-in-Err-clause-more
returns-in-Err-clause-more g c =
    let s = c.self.inside in
    let is = c.self.invariant.1 in
    let t : Taken = taken_in s.origins.items s.waits s.plane s.taker in
    let took = c.in-Some.ensures.next t.journal (ap (λ (k : Taker). k.taken) is.taker_is) in
    let journal : fed_of c.accept.new.origins.items c.accept.new.plane.events ≡ t.journal =
    λ i. fed_of (c.in-Err.ensures.kept i) (c.in-Err.ensures.stays i).events in
    let now = taken_waits g.J.Sharing.config g.J.Sharing.queue t s.plane s.taker s.notes.items is c.in-Err.back c.accept.new.plane c.next.new.taker
    (fed_of c.accept.new.origins.items c.accept.new.plane.events) journal
    (subst (λ (u : Taken). length u.journal < g.J.Sharing.config.max_events) (sym c.self.view_is) c.requires.room)
    c.in-Err.ensures.stays (took ∙ (λ i. record s.taker { taken = t.journal ++ sym c.in-Err.ensures.back i ∷ [] })) in
    subst (λ (u : Taken). TakesMore u (taken_in c.accept.new.origins.items (Some c.in-Err.back) c.accept.new.plane c.next.new.taker))
    c.self.view_is
    (takes_from g.J.Sharing.config g.J.Sharing.queue t s.plane s.taker s.notes.items is
    (taken_in c.accept.new.origins.items (Some c.in-Err.back) c.accept.new.plane c.next.new.taker) c.accept.new.plane c.next.new.taker s.notes.items now
    (prefix_same t.journal _ (sym journal)) c.in-Some.ensures.grows
    (ap (λ (k : Taker). k.feeders) took) (ap (λ (k : Taker). k.ended) took))

pub returns-in-Err-clause-records : goal.returns-in-Err-clause-records
returns-in-Err-clause-records g c =
    (λ i. records_in (record {
      config = g.J.Sharing.config;
      events = events_of (fed_of (c.in-Err.ensures.kept i) (c.in-Err.ensures.stays i).events);
      counts = (c.in-Err.ensures.stays i).counts;
    }))
    ∙ ap (records_at g.J.Sharing.config) c.self.view_is
