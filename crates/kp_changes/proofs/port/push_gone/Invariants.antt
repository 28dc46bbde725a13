use Rattle.std.proofs.Common.{◌≡◌, ◌++◌, take, string_bytes}
use Rattle.std.specs.List.{flat_map}
use Rattle.kp_changes.specs.Lines.{line_if_gone}
use Rattle.kp_changes.proofs.port.push_gone.Given as goal

-- the lines of the doors so far are added, where they went
abbrev pub invariant-loop-door : goal.invariant-loop-door
invariant-loop-door l = record {
  text : string_bytes l.text
      ≡ string_bytes l.initial.text
      ++ flat_map
      (line_if_gone l.family l.initial.now.synced.config l.initial.now.synced.objects l.after)
      (take l.door-index l.before);
  same : l.now.synced ≡ l.initial.now.synced;
}
