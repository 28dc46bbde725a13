use Rattle.std.proofs.Common.{◌<◌, List, ◌++◌, length, ap, subst, arith}
use Rattle.std.specs.List.{AllByRecursion}
use Rattle.kp_feed.specs.declared.rule.Ended.{Ended}
use Rattle.kp_feed.specs.Feeding.{AreWhole}
use Rattle.kp_hub.specs.Known.{Worker, known}
use Rattle.kp_hub.specs.State.{HubState}
use Rattle.kp_hub.proofs.Endings.{knew_fewer}
use Rattle.kp_hub.proofs.HandedOut.{all_delivered, none_made}
use Rattle.kp_hub.proofs.hub.Hub.finish.Goals as goal

pub returns-clause-order : goal.returns-clause-order
returns-clause-order g c =
    let whole = c.in_ok-done.ensures.order in
    let journal = c.in_ok-done.done.journal ++ whole.0 in (
      whole.0,
      all_delivered journal c.take_counts.new.self.taken.ended c.args.passes g.J.Sharing.streams
          (subst (λ (e : List Ended). AreWhole journal e g.J.Sharing.streams)
          (ap (λ (h : HubState). h.taken.ended) c.end_feeders.ensures) whole.1),
    )

pub returns-clause-whole : goal.returns-clause-whole
returns-clause-whole g c =
    λ room. all_delivered c.in_ok-done.done.journal c.take_counts.new.self.taken.ended c.args.passes
    g.J.Sharing.streams
    (subst (λ (e : List Ended). AreWhole c.in_ok-done.done.journal e g.J.Sharing.streams)
    (ap (λ (h : HubState). h.taken.ended) c.end_feeders.ensures) (c.in_ok-done.ensures.whole room))

pub returns-clause-made : goal.returns-clause-made
returns-clause-made g c =
    let whole = c.in_ok-done.ensures.order in
    none_made c.in_ok-done.done.journal whole.0 c.end_feeders.new.self.taken.ended
    g.J.Sharing.streams whole.1

pub returns-clause-last : goal.returns-clause-last
returns-clause-last g c =
    λ none. knew_fewer (length c.in_ok-done.done.notes) c.args.workers.now
    (subst (AllByRecursion (λ (w : Worker). known w < length c.in_ok-done.done.notes))
    c.take_counts.ensures.workers (c.is_newer.ensures none))

pub returns-clause-accepted : goal.returns-clause-accepted
returns-clause-accepted g c =
    let few = c.in_ok-done.ensures.accepted in
    let counted = c.take_counts.ensures.accepted in
    let kept = ap (λ (h : HubState). h.accepted) c.end_feeders.ensures in
    omega (arith, counted, kept, few)

pub returns-clause-refused : goal.returns-clause-refused
returns-clause-refused g c =
    let few = c.in_ok-done.ensures.refused in
    let counted = c.take_counts.ensures.refused in
    let kept = ap (λ (h : HubState). h.refused) c.end_feeders.ensures in
    omega (arith, counted, kept, few)
