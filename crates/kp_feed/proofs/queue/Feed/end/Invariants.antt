use Rattle.std.proofs.Common.{◌≡◌, length}
use Rattle.std.specs.List.{AllByRecursion}
use Rattle.std.specs.Vec.Iter.{into_iter_items, into_iter_len}
use Rattle.kp_feed.specs.Calls.{with_ended}
use Rattle.kp_feed.proofs.queue.Feed.end.Given as goal

-- once those that are left have ended, all have
abbrev pub invariant-loop-pass : goal.invariant-loop-pass
invariant-loop-pass l =
    (with_ended l.taker (into_iter_items l.pass-iterator) ≡ with_ended l.initial.taker (into_iter_items l.initial.pass-iterator))
    × (l.taker.queue ≡ l.self)
    × AllByRecursion (λ p. p.queue ≡ l.self) (into_iter_items l.pass-iterator)
    × (into_iter_len l.pass-iterator ≡ length (into_iter_items l.pass-iterator))
