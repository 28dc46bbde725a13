use Rattle.std.proofs.Common.{◌≡◌, ℕ, ◌<◌, List, length, sym, subst, ◌∙◌, arith}
use mathlib.Core.List.{IsPrefix}
use Rattle.kp_publish.specs.declared.entry.Entry.{Entry}
use Rattle.kp_publish.specs.Entries.{records_of}
use Rattle.kp_hub.specs.Known.{known}
use Rattle.kp_hub.specs.State.{HubState, state_in}
use Rattle.kp_hub.specs.Syncs.{IsTold}
use Rattle.kp_hub.specs.Taken.{records_at}
use Rattle.kp_hub.proofs.States.{state_tells}
use Rattle.kp_hub.proofs.Syncing.{told}
use Rattle.kp_hub.proofs.state.Held.tell_accepted.Goals as goal

pub invariant_of-self : goal.invariant_of-self
invariant_of-self g c =
    let s = c.self.inside in
    let fewer : s.accepted.total < length s.intake.counts =
    subst (λ (h : HubState). h.accepted < length h.taken.counts) (sym c.self.view_is) c.requires.fewer in
    let more = c.count_accepted.ensures.total in (
      c.self.invariant.0,
      c.self.invariant.1,
      state_tells g.J.Sharing.config g.J.Sharing.streams g.J.Publication.start
          (state_in s.intake s.publisher s.refusals.items s.accepted.total s.refused.total) s.waiting.items c.self.invariant.2
          c.count_accepted.new.book.total s.refused.total (omega (arith, fewer, more)) c.self.invariant.2.keeps.refused,
    )

pub returns-clause-told : goal.returns-clause-told
returns-clause-told g c =
    let s = c.self.inside in
    let fewer : s.accepted.total < length s.intake.counts =
    subst (λ (h : HubState). h.accepted < length h.taken.counts) (sym c.self.view_is) c.requires.fewer in
    let more = c.count_accepted.ensures.total in
    subst (λ (h : HubState). IsTold (length h.taken.counts) c.args.pass.now c.count_accepted.new.self) c.self.view_is
    (told g.J.Sharing.config s.intake s.publisher c.args.pass.now c.learn.new.self c.count_accepted.new.self c.count_accepted.new.book.total
    (subst (λ (h : HubState). records_of h.outlet.published ≡ records_at g.J.Sharing.config h.taken) (sym c.self.view_is) c.requires.records)
    (subst (λ (n : ℕ). known c.args.pass.now < n) c.count.ensures c.knows_fewer.ensures)
    (c.learn.ensures.learned ∙ c.tell.ensures) c.learn.ensures.told
    (subst (λ (l : List Entry). IsPrefix l c.learn.new.self.told) c.tell.ensures c.learn.ensures.front)
    c.learn.ensures.seen c.learn.ensures.accepted c.learn.ensures.refused c.count_accepted.ensures.one c.count_accepted.ensures.bound
    (omega (arith, fewer, more)))
