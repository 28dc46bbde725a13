use Rattle.std.proofs.Common.{◌≡◌, ◌+◌, ◌<◌, None, length}
use Rattle.kp_hub.specs.Growing.{TakesMore}
use Rattle.kp_hub.specs.Taken.{records_at}
use Rattle.kp_hub.proofs.intake.Intake.take_all.Given as goal

abbrev pub invariant-loop-taken : goal.invariant-loop-taken
invariant-loop-taken g l = record {
  more : TakesMore l.initial.self l.self;
  counts : l.self.counts ≡ l.initial.self.counts;
  records : records_at g.J.Sharing.config l.self ≡ records_at g.J.Sharing.config l.initial.self;
  taken : length l.self.journal ≡ length l.initial.self.journal + l.taken;
  none_waits : 0 < l.taken → l.self.waits ≡ None;
}
