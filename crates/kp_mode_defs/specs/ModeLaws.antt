-- What all modes share with a replay.
use Rattle.std.specs.Prelude.{◌≡◌, ℕ, List}
use Rattle.kp_choice_defs.specs.Recent.{RecentParts}
use Rattle.kp_text_defs.specs.declared.packet.PacketLine.{PacketLine}
use Rattle.kp_run_defs.specs.ReplayText.{Standing, decided, replay_of}
use Rattle.kp_mode_defs.specs.Mode.{Covered, Mode, progress_of, replay_in, replaying, standing_at, text_in}

-- The text of the mode that answers as a replay and adds nothing is that of the replay, and so is how far it comes.
pub record ReplaysAlike (lines : List (List ℕ)) : Type 0 where
  pub text : text_in replaying lines ≡ (replay_of lines).text
  pub comes : progress_of (replay_in replaying lines) ≡ replay_of lines

-- two standings are alike but for their recent lists
pub record AreAlike (s t : Standing) : Type 0 where
  pub fresh : s.fresh ≡ t.fresh
  pub config : s.config ≡ t.config
  pub events : s.events ≡ t.events
  pub counts : s.counts ≡ t.counts
  pub refused : s.refused ≡ t.refused

-- In a mode lines lead where they lead in a replay, but for the recent lists: so the setting, the events, how many of
-- them each sync covers, and whether a line was refused are those of the replay. Lines are counted alike.
pub record StandsAlike {S : Type 0} (m : Mode S) (lines : List (List ℕ)) : Type 0 where
  pub at : AreAlike (replay_in m lines).at.standing (replay_of lines).at
  pub number : (replay_in m lines).number ≡ (replay_of lines).number

-- packets leave the recent lists as they do in a replay
abbrev pub LeavesLists : {S : Type 0} → Mode S → Type 0
LeavesLists {S} m =
    (c : Covered) (number : ℕ) (p : PacketLine) (lists : RecentParts) (state : S)
    → (m.packet c number p lists state).lists ≡ (decided number p (standing_at c lists)).lists

-- Then the recent lists are those of the replay too.
abbrev pub StandsSame : {S : Type 0} → Mode S → List (List ℕ) → Type 0
StandsSame m lines =
    LeavesLists m → (replay_in m lines).at.standing ≡ (replay_of lines).at
