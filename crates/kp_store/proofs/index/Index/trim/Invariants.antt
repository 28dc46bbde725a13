-- The key was removed from the buckets of the tags so far.
use Rattle.std.proofs.Common.{◌≡◌, ◌&&◌, not, take}
use Rattle.kp_base.specs.declared.key.ObjectKey.{ObjectKey}
use Rattle.kp_store.specs.Indexes.{has, is_tag_of}
use Rattle.kp_store.proofs.index.Index.trim.Given as goal

abbrev pub invariant-loop-tag : goal.invariant-loop-tag
invariant-loop-tag g l = (t : _) (k : ObjectKey) → has g.T.PartialEq.eq l.self t k ≡ not (is_tag_of g.T.PartialEq.eq (take l.tag-index l.tags) l.key t k) && has g.T.PartialEq.eq l.fn.self t k
