-- The tags at the addresses so far were added.
use Rattle.std.proofs.Common.{◌≡◌, ◌++◌, take, map}
use Rattle.kp_store.specs.Tags.{tag_at}
use Rattle.kp_store.proofs.tags.add_tags_at.Given as goal

abbrev pub invariant-loop-address : goal.invariant-loop-address
invariant-loop-address l =
    l.tags.items ≡ l.initial.tags.items ++ map (tag_at l.port) (take l.address-index l.addresses)
