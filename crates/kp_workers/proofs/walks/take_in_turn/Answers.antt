use Rattle.std.proofs.Common.{◌≡◌, ◌<◌, ◌++◌, ◌∙◌, ap, get_or, refl, sym, subst, length, append-nil}
use Rattle.std.specs.Option.{option_to_list}
use Rattle.std.proofs.lemmas.List.{length-set}
use Rattle.std.proofs.lemmas.Nat.{mod_below}
use Rattle.kp_part_laws.specs.Beside.{worker_of}
use Rattle.kp_workers.specs.Walks.{part_in}
use Rattle.kp_workers.proofs.WalkLemmas.{turns}
use Rattle.kp_workers.proofs.walks.take_in_turn.Goals as goal

-- a worker that has no answer left
pub loop-packet-preserved-in_default : goal.loop-packet-preserved-in_default
loop-packet-preserved-in_default c =
    let count = length c.args.queues.now in
    let place = c.worker_of-place.result in
    let queues = c.loop-packet.queues in
    let at : place ≡ worker_of count (part_in c.packet-item.result) =
    c.worker_of-place.ensures
    ∙ (λ i. worker_of (c.loop-packet.invariant.long i) (c.part_of.ensures i)) in
    let there : place < length queues =
    subst (λ k. place < k) (sym c.loop-packet.invariant.long)
    (subst (λ p. p < count) (sym at) (mod_below _ count c.requires)) in
    record {
      long = length-set queues place c.pop_front.new.self ∙ c.loop-packet.invariant.long;
      told =
          turns (λ q. q.items) (λ x. worker_of count (part_in x)) c.args.packets.now
          c.loop-packet.packet-index c.packet-item.result c.loop-packet-test.true
          c.packet-item.is queues place at there (get_or queues place c.index-queues-place.result)
          c.pop_front.new.self c.index-queues-place.result refl c.pop_front.result
          c.pop_front.ensures.items c.pop_front.ensures.rest c.loop-packet.answers.items
          c.loop-packet.answers.items _
          (sym (append-nil c.loop-packet.answers.items)
          ∙ ap (λ r. c.loop-packet.answers.items ++ option_to_list r) (sym c.in_default.is))
          c.loop-packet.invariant.told;
    }

-- the next answer
pub loop-packet-preserved : goal.loop-packet-preserved
loop-packet-preserved c =
    let count = length c.args.queues.now in
    let place = c.worker_of-place.result in
    let queues = c.loop-packet.queues in
    let at : place ≡ worker_of count (part_in c.packet-item.result) =
    c.worker_of-place.ensures
    ∙ (λ i. worker_of (c.loop-packet.invariant.long i) (c.part_of.ensures i)) in
    let there : place < length queues =
    subst (λ k. place < k) (sym c.loop-packet.invariant.long)
    (subst (λ p. p < count) (sym at) (mod_below _ count c.requires)) in
    record {
      long = length-set queues place c.pop_front.new.self ∙ c.loop-packet.invariant.long;
      told =
          turns (λ q. q.items) (λ x. worker_of count (part_in x)) c.args.packets.now
          c.loop-packet.packet-index c.packet-item.result c.loop-packet-test.true
          c.packet-item.is queues place at there (get_or queues place c.index-queues-place.result)
          c.pop_front.new.self c.index-queues-place.result refl c.pop_front.result
          c.pop_front.ensures.items c.pop_front.ensures.rest c.loop-packet.answers.items
          c.push.new.self.items _
          (c.in_ok-push.ensures.items
          ∙ ap (λ r. c.loop-packet.answers.items ++ option_to_list r) (sym c.in-Some.is))
          c.loop-packet.invariant.told;
    }
