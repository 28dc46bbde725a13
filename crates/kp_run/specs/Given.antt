-- The replay of lines in a mode, as a reader gives them.
use Rattle.std.specs.Prelude.{ℕ, List, Option}
use Rattle.std.specs.List.{fold}
use Rattle.kp_run_defs.specs.ReplayText.{Standing}
use Rattle.kp_mode_defs.specs.Mode.{Mode, Place, ProgressIn, after_given_in, start_in}

-- lines one after the other
abbrev pub replay_given : {S : Type 0} → Mode S → List (Option (List ℕ)) → ProgressIn S
replay_given m given = fold (after_given_in m) (start_in m) given

-- where a replay stands with a state
abbrev pub place : {S : Type 0} → Standing → S → Place S
place s state = record { standing = s; state = state }

-- anywhere, where a mode keeps nothing
abbrev pub anywhere : {S : Type 0} → Place S → Type 0
anywhere at = Unit {0}
