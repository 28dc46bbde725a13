use Rattle.std.proofs.Common.{◌≡◌, take}
use Rattle.kp_paths.specs.SourceWords as words
use Rattle.kp_paths.proofs.source_kinds.addresses_of.Given as goal

-- those of the numbers so far
abbrev pub invariant-loop-number : goal.invariant-loop-number
invariant-loop-number l =
    l.addresses.items ≡ words.addresses_of l.family (take l.number-index l.numbers)
