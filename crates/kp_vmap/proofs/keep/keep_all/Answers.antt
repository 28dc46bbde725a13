use Rattle.std.proofs.Common.{◌∙◌, arith}
use Rattle.kp_vmap.proofs.Keeping.{last_first}
use Rattle.kp_vmap.proofs.keep.keep_all.Goals as goal

pub loop-at-preserved : goal.loop-at-preserved
loop-at-preserved c = record {
  places = λ d.
      last_first c.loop-at.places.entries c.keep_place.new.places.entries
      c.pop_last.new.self.entries c.loop-at.staged.entries c.in-Some.at c.in-Some.ports
      c.in-Some.ensures.removal c.keep_place.ensures.place d
      ∙ c.loop-at.invariant.places d;
  room = omega (arith, c.in-Some.ensures.len, c.loop-at.invariant.room, c.keep_place.ensures.room);
}
