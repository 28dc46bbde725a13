-- The tags so far are known.
use Rattle.std.proofs.Common.{◌≡◌, take, is_some}
use Rattle.std.specs.Map.{lookup}
use Rattle.kp_store.specs.Indexes.{is_among}
use Rattle.kp_store.proofs.without.known_tags.Given as goal

abbrev pub invariant-loop-tag : goal.invariant-loop-tag
invariant-loop-tag g l = (t : _) → is_some (lookup (g.T.PartialEq.eq t) l.known.entries) ≡ is_among g.T.PartialEq.eq (take l.tag-index l.tags) t
