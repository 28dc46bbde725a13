use Rattle.std.proofs.Common.{◌≡◌, ◌++◌, take}
use Rattle.kp_live.proofs.stream.Standing.feed_all.Given as goal

-- the first events were fed, and nothing else changed
abbrev pub invariant-loop-event : goal.invariant-loop-event
invariant-loop-event g l = record {
  queue : l.self.feeder.queue ≡ l.initial.self.feeder.queue;
  feeder : l.self.feeder.feeder ≡ l.initial.self.feeder.feeder;
  fed : l.self.feeder.fed ≡ l.initial.self.feeder.fed ++ take l.event-index l.events;
  worker : l.self.worker ≡ l.initial.self.worker;
  lists : l.self.lists ≡ l.initial.self.lists;
  answers : l.self.answers ≡ l.initial.self.answers;
}
