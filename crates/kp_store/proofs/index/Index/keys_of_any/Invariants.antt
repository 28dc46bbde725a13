-- The keys of the tags so far.
use Rattle.std.proofs.Common.{◌≡◌, take}
use Rattle.std.specs.List.{list_any}
use Rattle.std.specs.FinMap as finite
use Rattle.kp_base.specs.declared.key.ObjectKey.{ObjectKey}
use Rattle.kp_store.specs.Indexes.{has}
use Rattle.kp_store.proofs.index.Index.keys_of_any.Given as goal

abbrev pub invariant-loop-tag : goal.invariant-loop-tag
invariant-loop-tag g l =
    (k : ObjectKey) → finite.contains_key l.keys k ≡ list_any (λ t. has g.T.PartialEq.eq l.self t k) (take l.tag-index l.tags)
