-- The labels so far.
use Rattle.std.proofs.Common.{◌≡◌, take, map}
use Rattle.kp_store.specs.Tags.{label_tag}
use Rattle.kp_store.proofs.tags.PodTaggedPodTag.tags.Given as goal

abbrev pub invariant-loop-pair : goal.invariant-loop-pair
invariant-loop-pair l =
    l.tags.items ≡ map (label_tag l.self.key.namespace) (take l.pair-index l.self.labels)
