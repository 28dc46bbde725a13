use Rattle.std.proofs.Common.{◌≡◌, ◌++◌, take, map, string_bytes}
use Rattle.std.specs.List.{flat_map}
use Rattle.kp_changes.specs.Neighbours.{neighbour_text}
use Rattle.kp_changes.proofs.beside.push_first.Given as goal

-- the doors so far are added
abbrev pub invariant-loop-neighbour : goal.invariant-loop-neighbour
invariant-loop-neighbour l =
    string_bytes l.text
    ≡ string_bytes l.initial.text
    ++ flat_map neighbour_text (map (λ n. n.now) (take l.neighbour-index l.first))
