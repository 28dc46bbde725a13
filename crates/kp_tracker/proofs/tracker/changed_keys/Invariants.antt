use Rattle.std.proofs.Common.{◌≡◌, map, filter}
use Rattle.std.specs.Map.Iter.{deref_pair}
use Rattle.kp_tracker.specs.Tracked.{is_other}
use Rattle.kp_tracker.proofs.tracker.changed_keys.Given as goal

-- the keys so far that have another value than the published one
abbrev pub invariant-loop-key : goal.invariant-loop-key
invariant-loop-key g l =
    map (λ k. k.now) l.found.items
    ≡ map (λ e. e.0) (filter (is_other g.K.Key.order g.V.Told.same l.published.entries) (map deref_pair l.yielded))
