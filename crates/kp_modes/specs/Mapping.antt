-- The mode `vmap`: a packet is decided by the objects that the last sync covers, and its endpoint
-- picked by a
-- remainder (this project's choice). No rule is passed, so a trail is empty.
use Rattle.std.specs.Prelude.{ℕ, List, [], length}
use Rattle.kp_choice_defs.specs.Recent.{RecentParts}
use Rattle.kp_door_defs.specs.Decision.{Decided}
use Rattle.kp_mode_defs.specs.Mode.{Covered, Mode, objects_at}
use Rattle.kp_run_defs.specs.AnswerText.{answer_text, draws_at}
use Rattle.kp_text_defs.specs.Answers.{explain_text}
use Rattle.kp_text_defs.specs.declared.packet.PacketLine.{PacketLine}
use Rattle.kp_vmap_defs.specs.Remainder.{decision_by_remainder, map_decision}
use Rattle.kp_vmap_defs.specs.VerdictMap.{VerdictMap}

-- the decision on the packet of a line
abbrev pub mapped : Covered → ℕ → PacketLine → RecentParts → Decided
mapped c number p lists =
    decision_by_remainder c.config (objects_at c) p.packet (draws_at number p.draws) lists

-- what a map answers the packet of a line, and the recent lists after it
abbrev pub map_step : VerdictMap → ℕ → ℕ → PacketLine → RecentParts → List ℕ × RecentParts
map_step m number sync p lists =
    let d = map_decision m p.packet (draws_at number p.draws) lists in
    (answer_text number sync p d.verdict [], d.lists)

-- `vmap`
abbrev pub mapping : Mode (Unit {0})
mapping = record {
  start = λ config. tt;
  packet = λ c number p lists state.
      let d = mapped c number p lists in
      record {
        text = answer_text number
            (length c.counts) p d.verdict [];
        lists = d.lists;
        state = state;
      };
  explain = λ c number p lists state.
      let d = mapped c number p lists in
      explain_text number (length c.counts) (record { verdict = d.verdict; reason = d.reason });
  synced = λ before now state. ([], state);
  ending = λ now state. [];
}
