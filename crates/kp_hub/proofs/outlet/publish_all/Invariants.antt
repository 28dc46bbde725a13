-- Those so far are published.
use Rattle.std.proofs.Common.{◌≡◌, ◌+◌, ◌<◌, ◌≤◌, ◌++◌, false, length}
use Rattle.kp_publish.specs.Entries.{is_ended, records_of}
use Rattle.kp_hub.proofs.outlet.publish_all.Given as goal

abbrev pub invariant-loop-turn : goal.invariant-loop-turn
invariant-loop-turn g l = record {
  is_open : is_ended l.publisher.newest ≡ false;
  records : records_of l.publisher.newest ++ l.waiting.items ≡ records_of l.fn.publisher.newest ++ l.fn.waiting.items;
  left : length l.waiting.items + l.turn ≡ length l.fn.waiting.items;
  later : l.fn.publisher.refusals ≤ l.publisher.refusals;
  published : 0 < l.turn → l.publisher.published ≡ l.publisher.newest;
}
