use Rattle.std.proofs.Common.{refl, sym, ◌∙◌, arith}
use Rattle.kp_base.proofs.KeyOrder.{endpoint_exact, endpoint_matches}
use Rattle.kp_udp_endpoints.proofs.Apart.{came_next, kept_next, rest_added, went_next}
use Rattle.kp_udp_endpoints.proofs.changed.Changed.push_apart.Goals as goal

pub loop-was-preserved-in-Less : goal.loop-was-preserved-in-Less
loop-was-preserved-in-Less c =
    let l = c.loop-was in
    let x = c.index-before-was-in-Less.result in
    record {
      was_in = omega (arith, c.loop-was-test.true);
      is_in = l.invariant.is_in;
      added =
          went_next c.args.before.now c.args.after.now l.was l.is c.args.self.now l.self
          (record { went = c.push.new.self; came = l.self.came }) l.invariant.added x
          c.loop-was-test.true c.index-before-was-in-Less.is c.in_ok-push-in-Less.ensures.items refl;
    }

pub loop-was-preserved-in-Equal : goal.loop-was-preserved-in-Equal
loop-was-preserved-in-Equal c =
    let l = c.loop-was in
    let x = c.index-before-was.result in
    let y = c.index-after-is.result in
    record {
      was_in = omega (arith, c.loop-was-test.true);
      is_in = omega (arith, c.if-is-after.true);
      added =
          kept_next c.args.before.now c.args.after.now l.was l.is c.args.self.now l.self l.self
          l.invariant.added x y c.loop-was-test.true c.index-before-was.is c.if-is-after.true
          c.index-after-is.is (endpoint_exact x y
          (sym (endpoint_matches x y) ∙ sym c.in-Equal.ensures));
    }

pub loop-was-preserved : goal.loop-was-preserved
loop-was-preserved c =
    let l = c.loop-was in
    let y = c.index-after-is-in-Greater.result in
    record {
      was_in = l.invariant.was_in;
      is_in = omega (arith, c.if-is-after.true);
      added =
          came_next c.args.before.now c.args.after.now l.was l.is c.args.self.now l.self
          (record { went = l.self.went; came = c.push-in-Greater.new.self }) l.invariant.added y
          c.if-is-after.true c.index-after-is-in-Greater.is refl
          c.in_ok-push-in-Greater.ensures.items;
    }

pub returns : goal.returns
returns c =
    let l = c.loop-was in
    rest_added c.args.before.now c.args.after.now l.was l.is c.args.self.now l.self
    (record { went = c.push_from.new.endpoints; came = c.push_from-2.new.endpoints })
    l.invariant.added c.in_ok-push_from.ensures c.in_ok-push_from-2.ensures
