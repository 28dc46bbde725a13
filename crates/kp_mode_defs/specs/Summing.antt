-- The mode of the generator (this project's choice), whose state is the sums over the syncs and the packets of a replay.
-- It prints nothing of its own. The one line that the generator prints is that of the sums.
use Rattle.std.specs.Prelude.{ℕ, List, []}
use Rattle.kp_gen_defs.specs.Script.{script_of}
use Rattle.kp_gen_defs.specs.declared.plan.ScriptPlan.{ScriptPlan}
use Rattle.kp_text_defs.specs.Live.{totals_text}
use Rattle.kp_text_defs.specs.declared.totals.Totals.{Totals}
use Rattle.kp_run_defs.specs.GenText.{edits_totals, no_totals, with_packet}
use Rattle.kp_run_defs.specs.ReplayText.{decided, last_edits, uncovered_in}
use Rattle.kp_mode_defs.specs.Mode.{Mode, ProgressIn, replay_in, standing_at, standing_by}

-- `gen`: the sums
abbrev pub summing : Mode Totals
summing = record {
  start = λ config. no_totals;
  packet = λ c number p lists t.
      let d = decided number p (standing_at c lists) in
      record { text = []; lists = d.lists; state = with_packet d.verdict t };
  explain = λ c number p lists t. [];
  synced = λ before now t.
      ([], edits_totals (uncovered_in (standing_by before)) (last_edits (standing_by now)) t);
  ending = λ now t. [];
}

-- the replay of a script
abbrev pub gen_of : ScriptPlan → ProgressIn Totals
gen_of plan = replay_in summing (script_of plan)

-- the one line that the generator prints
abbrev pub gen_text : ScriptPlan → List ℕ
gen_text plan = totals_text (gen_of plan).at.state
