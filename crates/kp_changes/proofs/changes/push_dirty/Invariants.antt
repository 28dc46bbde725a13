use Rattle.std.proofs.Common.{◌≡◌, ◌++◌, take, map, string_bytes}
use Rattle.std.specs.List.{flat_map}
use Rattle.kp_changes.specs.Lines.{lines_named}
use Rattle.kp_changes.proofs.changes.push_dirty.Given as goal

-- the lines of the ports so far are added
abbrev pub invariant-loop-name : goal.invariant-loop-name
invariant-loop-name l = record {
  text : string_bytes l.text
      ≡ string_bytes l.initial.text
      ++ flat_map (lines_named l.initial.now.synced.config l.initial.now.synced.objects l.fn.four l.fn.six)
      (map (λ k. k.now) (take l.name-index l.name-items));
  same : l.now.synced ≡ l.initial.now.synced;
}
