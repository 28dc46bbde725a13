-- Sums over lines.
use Rattle.std.specs.Prelude.{◌≡◌, ℕ, suc, List}
use Rattle.std.specs.List.{fold}
use Rattle.kp_text_defs.specs.SaidLines.{given_as}
use Rattle.kp_text_defs.specs.declared.totals.Totals.{Totals}
use Rattle.kp_run_defs.specs.ReplayText.{replay_of}
use Rattle.kp_mode_defs.specs.Mode.{Place, given_in, place_at_start, replay_in}
use Rattle.kp_mode_defs.specs.Summing.{summing}
use Rattle.kp_replay.specs.Steps.{place_of}
use Rattle.kp_run.specs.declared.generated.Counting.{Counting}
use Rattle.kp_run.specs.declared.generated.Sums.{Sums}

-- how far a replay has come that is summed: how many lines there were, and where it stands
pub record Counted : Type 0 where
  pub number : ℕ
  pub at : Place Totals

-- what is held of it
abbrev pub counted_in : Counting → Counted
counted_in c = record { number = c.number; at = place_of c.replay c.mode.totals }

-- before the first line
abbrev pub count_start : Counted
count_start = record { number = 0; at = place_at_start summing }

-- one more line
abbrev pub after_counted : Counted → List ℕ → Counted
after_counted c bytes = record {
  number = suc c.number;
  at = (given_in summing (suc c.number) (given_as bytes) c.at).next;
}

-- lines one after the other
abbrev pub counted_of : List (List ℕ) → Counted
counted_of lines = fold after_counted count_start lines

-- what is told of a place at its end
abbrev pub sums_of : Place Totals → Sums
sums_of at = record { totals = at.state; refused = at.standing.refused }

-- lines that are summed lead where their replay leads
abbrev pub CountsAlongReplay : Type 0
CountsAlongReplay =
    (lines : List (List ℕ)) → (replay_in summing lines).at.standing ≡ (replay_of lines).at
