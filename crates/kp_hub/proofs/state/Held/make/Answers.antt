use Rattle.std.proofs.Common.{◌≡◌, List, ◌∷◌, [], ◌++◌, None, ap, sym, subst, ◌∙◌}
use Rattle.kp_types.specs.declared.sync.SyncRecord.{SyncRecord}
use Rattle.kp_hub.specs.State.{HubState, IsHubState, state_in}
use Rattle.kp_hub.specs.Syncs.{clash_after}
use Rattle.kp_hub.specs.Taken.{Taken}
use Rattle.kp_hub.proofs.States.{fewer_published, state_records}
use Rattle.kp_hub.proofs.state.Held.make.Goals as goal

pub invariant_of-self-in_err-record : goal.invariant_of-self-in_err-record
invariant_of-self-in_err-record g c =
    let s = c.self.inside in (
      c.self.invariant.0,
      c.self.invariant.1,
      subst (λ (p : Taken × List SyncRecord).
          IsHubState g.J.Sharing.config g.J.Sharing.streams g.J.Publication.start
          (state_in p.0 s.publisher s.refusals.items s.accepted.total s.refused.total) p.1)
          (λ i. (sym c.in_err-record.ensures.err i, sym c.reserve.ensures.items i)) c.self.invariant.2,
    )

pub invariant_of-self-2 : goal.invariant_of-self-2
invariant_of-self-2 g c =
    let s = c.self.inside in (
      c.self.invariant.0,
      c.self.invariant.1,
      state_records g.J.Sharing.config g.J.Sharing.streams g.J.Publication.start
          (state_in s.intake s.publisher s.refusals.items s.accepted.total s.refused.total) s.waiting.items c.self.invariant.2
          c.in_ok-record.record c.record.new.self c.put.new.waiting.items c.in_ok-record.ensures.ok c.in_ok-record.ensures.record
          (c.put.ensures ∙ ap (λ (ws : List SyncRecord). ws ++ c.in_ok-record.record ∷ []) c.reserve.ensures.items),
    )

pub returns-clause-waits : goal.returns-clause-waits
returns-clause-waits g c =
    let s = c.self.inside in
    let now = state_records g.J.Sharing.config g.J.Sharing.streams g.J.Publication.start
    (state_in s.intake s.publisher s.refusals.items s.accepted.total s.refused.total) s.waiting.items c.self.invariant.2
    c.in_ok-record.record c.record.new.self c.put.new.waiting.items c.in_ok-record.ensures.ok c.in_ok-record.ensures.record
    (c.put.ensures ∙ ap (λ (ws : List SyncRecord). ws ++ c.in_ok-record.record ∷ []) c.reserve.ensures.items) in
    fewer_published g.J.Sharing.config g.J.Sharing.streams g.J.Publication.start
    (state_in c.record.new.self s.publisher s.refusals.items s.accepted.total s.refused.total) c.put.new.waiting.items now
    c.in_ok-record.record c.reserve.new.self.items c.put.ensures

pub returns-clause-no_clash : goal.returns-clause-no_clash
returns-clause-no_clash g c =
    subst (λ (h : HubState). clash_after g.J.Sharing.config h.taken.journal ≡ None) c.self.view_is
    c.in_ok-record.ensures.no_clash
