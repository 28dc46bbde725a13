use Rattle.std.proofs.Common.{◌≡◌, ◌==◌, true, false, arith, ap, sym, ◌∙◌}
use Rattle.std.specs.FinMap.{get}
use Rattle.std.proofs.lemmas.Bool.Decides.{nat_tests}
use Rattle.kp_part_laws.specs.Beside.{worker_of}
use Rattle.kp_workers.specs.Walks.{part_in, walk_step}
use Rattle.kp_workers.proofs.WalkLemmas.{item_draws, walks_on, walks_past}
use Rattle.kp_workers.proofs.walker.walk_own.Goals as goal

-- a packet of another worker
pub loop-packet-preserved-then-owner-place : goal.loop-packet-preserved-then-owner-place
loop-packet-preserved-then-owner-place g c =
    let count = c.args.place.count in
    let owner = c.worker_of-owner.result in
    let is : owner ≡ worker_of count (part_in c.packet-item.result) =
    c.worker_of-owner.ensures ∙ ap (worker_of count) c.part_of.ensures in
    let test : (owner == c.args.place.own) ≡ false =
    grind (arith, nat_tests, c.if-owner-place.true) in
    record {
      walked = λ drawn have.
          walks_past (λ x. worker_of count (part_in x))
          (walk_step (get c.args.ground.now.table.now.chains) c.args.ground.now.node.now drawn)
          c.args.place.own c.args.packets.now c.loop-packet.packet-index c.packet-item.result
          c.loop-packet-test.true c.packet-item.is c.args.walker.now c.loop-packet.walker
          (ap (λ o. o == c.args.place.own) (sym is) ∙ test) (c.loop-packet.invariant.walked drawn have);
      size = c.loop-packet.invariant.size;
    }

-- one of its own
pub loop-packet-preserved : goal.loop-packet-preserved
loop-packet-preserved g c =
    let count = c.args.place.count in
    let owner = c.worker_of-owner.result in
    let is : owner ≡ worker_of count (part_in c.packet-item.result) =
    c.worker_of-owner.ensures ∙ ap (worker_of count) c.part_of.ensures in
    let test : (owner == c.args.place.own) ≡ true =
    grind (arith, nat_tests, c.if-owner-place.false) in
    record {
      walked = λ drawn have.
          walks_on (λ x. worker_of count (part_in x))
          (walk_step (get c.args.ground.now.table.now.chains) c.args.ground.now.node.now drawn)
          c.args.place.own c.args.packets.now c.loop-packet.packet-index c.packet-item.result
          c.loop-packet-test.true c.packet-item.is c.args.walker.now c.loop-packet.walker
          c.walk.new.self (ap (λ o. o == c.args.place.own) (sym is) ∙ test)
          (c.loop-packet.invariant.walked drawn have)
          (c.in_ok-walk.ensures.walked drawn
          (item_draws
          (λ number k draw. g.F.Fn.post c.args.ground.now.draws.now (number, (k, tt)) draw)
          c.args.packets.now drawn c.loop-packet.packet-index c.packet-item.result
          c.loop-packet-test.true c.packet-item.is have));
      size = c.in_ok-walk.ensures.size ∙ c.loop-packet.invariant.size;
    }
