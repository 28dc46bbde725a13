-- The tags of the selector and of the ports so far.
use Rattle.std.proofs.Common.{◌≡◌, ◌++◌, take}
use Rattle.std.specs.List.{flat_map}
use Rattle.kp_store.specs.Tags.{selector_tags, tags_of_port}
use Rattle.kp_store.proofs.tags.ServiceTaggedServiceTag.tags.Given as goal

abbrev pub invariant-loop-port : goal.invariant-loop-port
invariant-loop-port l =
    l.tags.items ≡ selector_tags l.self ++ flat_map (tags_of_port l.self) (take l.port-index l.self.ports)
