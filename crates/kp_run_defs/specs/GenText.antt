-- What the generator adds up (this project's choice): sums over the syncs and the packets of a replay. A sum stands
-- still at 2^64 - 1.
use Rattle.std.specs.Prelude.{ℕ, ◌+◌, ◌-◌, ◌^◌, min, not, List, count_by}
use Rattle.kp_types.specs.declared.rule.Edit.{Edit}
use Rattle.kp_types.specs.declared.verdict.Verdict.{Verdict}
use Rattle.kp_types.specs.declared.verdict.Verdict.TheVariants.{To, Rejected, Dropped, LeftAlone}
use Rattle.kp_table_defs.specs.Edits.{is_write}
use Rattle.kp_text_defs.specs.declared.totals.Totals.{Totals}

-- two numbers
abbrev pub risen : ℕ → ℕ → ℕ
risen a b = min (a + b) (2 ^ 64 - 1)

-- before the first line
abbrev pub no_totals : Totals
no_totals = record {
  events = 0;
  syncs = 0;
  packets = 0;
  to = 0;
  rejected = 0;
  dropped = 0;
  left_alone = 0;
  written = 0;
  removed = 0;
}

-- one more verdict
abbrev pub with_verdict : Verdict → Totals → Totals
with_verdict (To endpoint masked) t = record t { to = risen t.to 1 }
with_verdict Rejected t = record t { rejected = risen t.rejected 1 }
with_verdict Dropped t = record t { dropped = risen t.dropped 1 }
with_verdict LeftAlone t = record t { left_alone = risen t.left_alone 1 }

-- one more packet
abbrev pub with_packet : Verdict → Totals → Totals
with_packet verdict t = with_verdict verdict (record t { packets = risen t.packets 1 })

-- one more sync, of so many events, written chains and removed ones
abbrev pub with_sync : ℕ → ℕ → ℕ → Totals → Totals
with_sync events written removed t = record t {
  events = risen t.events events;
  syncs = risen t.syncs 1;
  written = risen t.written written;
  removed = risen t.removed removed;
}

-- what edits add, for so many events
abbrev pub edits_totals : ℕ → List Edit → Totals → Totals
edits_totals n edits t = with_sync n (count_by is_write edits) (count_by (λ e. not (is_write e)) edits) t
