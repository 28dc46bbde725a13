-- the endpoints so far have their lines
use Rattle.std.proofs.Common.{◌≡◌, ◌++◌, string_bytes, take}
use Rattle.std.specs.List.{flat_map}
use Rattle.kp_paths.specs.Beside.{aside_words}
use Rattle.kp_paths.proofs.asides.push_each.Given as goal

abbrev pub invariant-loop-entry : goal.invariant-loop-entry
invariant-loop-entry l =
    string_bytes l.text
    ≡ string_bytes l.initial.text
    ++ flat_map (aside_words l.number l.port l.reached
    (record { kind = l.listed.kind; endpoints = l.listed.endpoints }) l.listed.admitted)
    (take l.entry-index l.entries)
