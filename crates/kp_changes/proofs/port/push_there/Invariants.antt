use Rattle.std.proofs.Common.{◌≡◌, ◌++◌, take, string_bytes}
use Rattle.std.specs.List.{flat_map}
use Rattle.kp_change_defs.specs.DoorChanges.{change_to}
use Rattle.kp_changes.specs.Lines.{line_if}
use Rattle.kp_changes.proofs.port.push_there.Given as goal

-- the lines of the doors so far are added
abbrev pub invariant-loop-door : goal.invariant-loop-door
invariant-loop-door l = record {
  text : string_bytes l.text
      ≡ string_bytes l.initial.text
      ++ flat_map
      (λ d. line_if l.family l.initial.now.synced.config l.initial.now.synced.objects (change_to l.before d))
      (take l.door-index l.after);
  same : l.now.synced ≡ l.initial.now.synced;
}
