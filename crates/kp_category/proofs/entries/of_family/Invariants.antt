-- Those so far that are of the family were found.
use Rattle.std.proofs.Common.{◌≡◌, take}
use Rattle.std.specs.List.{filter}
use Rattle.kp_object_defs.specs.Entries.{is_of_family}
use Rattle.kp_category.proofs.entries.of_family.Given as goal

abbrev pub invariant-loop-candidate : goal.invariant-loop-candidate
invariant-loop-candidate l =
    l.found.items ≡ filter (is_of_family l.family) (take l.candidate-index l.endpoints)
