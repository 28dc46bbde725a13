-- So many lists are empty.
use Rattle.std.proofs.Common.{◌≡◌, [], map, replicate}
use Rattle.kp_packer.specs.Views.{shown}
use Rattle.kp_packer.proofs.groups.empty_lists.Given as goal

abbrev pub invariant-loop : goal.invariant-loop
invariant-loop g l = map (λ v. shown v.items) l.lists.items ≡ replicate l.counter []
