use Rattle.std.proofs.Common.{◌≡◌, ◌≤◌, drop}
use Rattle.std.specs.FinMap as finite
use Rattle.kp_types.specs.Places.{chain_cmp}
use Rattle.kp_rules.proofs.chain_map.chains_of.Given as goal

-- the entries from here on are there, and room for those before
abbrev pub invariant-loop-i : goal.invariant-loop-i
invariant-loop-i l = record {
  same : l.chains.chains ≡ finite.from_entries {R = chain_cmp} (drop l.i l.entries.entries);
  room : l.i ≤ l.chains.room;
}
