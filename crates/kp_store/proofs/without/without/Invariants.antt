-- Those of the tags so far that aren't among the others.
use Rattle.std.proofs.Common.{◌≡◌, not, filter, take}
use Rattle.kp_store.specs.Indexes.{is_among}
use Rattle.kp_store.proofs.without.without.Given as goal

abbrev pub invariant-loop-tag : goal.invariant-loop-tag
invariant-loop-tag g l = l.rest.items ≡ filter (λ t. not (is_among g.T.PartialEq.eq l.others t)) (take l.tag-index l.tags)
