-- The syncs so far have taken more, and no pass was told of them.
use Rattle.kp_hub.specs.Finishing.{KeepsBooks}
use Rattle.kp_hub.specs.Growing.{TakesMore}
use Rattle.kp_hub.proofs.state.Held.sync_all.Given as goal

abbrev pub invariant-loop : goal.invariant-loop
invariant-loop g l = record {
  more : TakesMore l.initial.self.taken l.self.taken;
  books : KeepsBooks l.initial.self l.self;
}
