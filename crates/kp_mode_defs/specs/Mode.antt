-- Modes (this project's choice): where the program answers otherwise than a replay, or adds to it, and the text of a
-- replay in a mode. A mode has a state of its own, which its lines leave and its syncs. What a line says, what is
-- refused, the setting, the events and how many of them syncs cover are those of a replay in each mode.
use Rattle.std.specs.Prelude.{ℕ, suc, false, List, [], ◌++◌, length, Option, Some, None}
use Rattle.std.specs.List.{fold}
use Rattle.kp_base.specs.declared.config.Config.{Config}
use Rattle.kp_types.specs.declared.chain.Clash.{Clash}
use Rattle.kp_types.specs.declared.event.Event.{Event}
use Rattle.kp_choice_defs.specs.Recent.{RecentParts}
use Rattle.kp_object_defs.specs.Objects.{Objects, objects_after}
use Rattle.kp_history_defs.specs.History.{objects_covered}
use Rattle.kp_table_defs.specs.Rebuild.{clash_of}
use Rattle.kp_text_defs.specs.ConfigText.{default_config}
use Rattle.kp_text_defs.specs.SaidLines.{given_as, said}
use Rattle.kp_text_defs.specs.declared.packet.PacketLine.{PacketLine}
use Rattle.kp_text_defs.specs.declared.said.Said.{Said}
use Rattle.kp_text_defs.specs.declared.said.Said.TheVariants.{Nothing, Asks, Refuses}
use Rattle.kp_text_defs.specs.declared.script.Op.{Op}
use Rattle.kp_text_defs.specs.declared.script.Op.TheVariants as op
use Rattle.kp_run_defs.specs.ReplayText.{Line, Progress, Standing, beginning, config_line, explain_line, op_line}
use Rattle.kp_run_defs.specs.ReplayText.{packet_line, print, quiet, refuse, settings_in, sync_line}

-- ---- What a mode is

-- what of a replay's standing a mode may see: the setting, the events, and how many of them each sync covers more
-- than the one before it
pub record Covered : Type 0 where
  pub config : Config
  pub events : List Event
  pub counts : List ℕ

-- what a packet comes to: what it prints, the recent lists after it, and the mode's state
pub record Answered (S : Type 0) : Type 0 where
  pub text : List ℕ
  pub lists : RecentParts
  pub state : S

-- A mode with a state: what it starts with under a setting; what the packet of a line comes to, and what an explained
-- one prints; what is printed after the line of an accepted sync, by what was covered before it and is now, with the
-- state after it; and what is printed where an input ends.
pub record Mode (S : Type 0) : Type 0 where
  pub start : Config → S
  pub packet : Covered → ℕ → PacketLine → RecentParts → S → Answered S
  pub explain : Covered → ℕ → PacketLine → RecentParts → S → List ℕ
  pub synced : Covered → Covered → S → List ℕ × S
  pub ending : Covered → S → List ℕ

-- what a standing shows a mode
abbrev pub covered_in : Standing → Covered
covered_in s = record { config = s.config; events = s.events; counts = s.counts }

-- the objects that the last sync covers
abbrev pub objects_at : Covered → Objects
objects_at c = objects_covered c.events c.counts (length c.counts)

-- ---- Modes that answer as a replay

-- a standing that shows these
abbrev pub standing_by : Covered → Standing
standing_by c = record beginning { config = c.config; events = c.events; counts = c.counts }

-- the same with these recent lists
abbrev pub standing_at : Covered → RecentParts → Standing
standing_at c lists = record (standing_by c) { lists = lists }

-- what a packet comes to in a replay
abbrev pub answered : {S : Type 0} → Covered → ℕ → PacketLine → RecentParts → S → Answered S
answered c number p lists state =
    let line = packet_line number p (standing_at c lists) in
    record { text = line.text; lists = line.next.lists; state = state }

-- what an explained packet prints there
abbrev pub explained : {S : Type 0} → Covered → ℕ → PacketLine → RecentParts → S → List ℕ
explained c number p lists state = (explain_line number p (standing_at c lists)).text

-- a replay with lines of its own: after a sync, by the setting, the objects that the syncs before it cover and those
-- that it covers, and at the end, by those that the last sync covers
abbrev pub beside : (Config → Objects → Objects → List ℕ) → (Config → Objects → List ℕ) → Mode (Unit {0})
beside after_sync at_end = record {
  start = λ config. tt;
  packet = answered;
  explain = explained;
  synced = λ before now state. (after_sync now.config (objects_at before) (objects_at now), tt);
  ending = λ now state. at_end now.config (objects_at now);
}

-- a replay has none
abbrev pub replaying : Mode (Unit {0})
replaying = beside (λ config before now. []) (λ config now. [])

-- ---- Lines in a mode

-- where a replay in a mode stands: the standing of the replay, and the state
pub record Place (S : Type 0) : Type 0 where
  pub standing : Standing
  pub state : S

-- what a line prints in a mode, and where it leads
pub record LineIn (S : Type 0) : Type 0 where
  pub text : List ℕ
  pub next : Place S

module _ {S : Type 0} where
  -- a place that is no longer before the first line
  abbrev pub begun : Place S → Place S
  begun at = record at { standing = record at.standing { fresh = false } }

  -- a line of the replay, with this state after it
  abbrev pub with_state : S → Line → LineIn S
  with_state state line = record { text = line.text; next = record { standing = line.next; state = state } }

  module _ (m : Mode S) where
    -- a setting starts the state anew
    abbrev pub config_in : Config → Place S → LineIn S
    config_in config at = with_state (m.start config) (config_line config at.standing)

    -- a packet
    abbrev pub packet_in : ℕ → PacketLine → Place S → LineIn S
    packet_in number p at =
        let a = m.packet (covered_in at.standing) number p at.standing.lists at.state in
        with_state a.state (record { text = a.text; next = record at.standing { lists = a.lists } })

    -- an explained packet
    abbrev pub explain_in : ℕ → PacketLine → Place S → LineIn S
    explain_in number p at =
        with_state at.state
        (print (m.explain (covered_in at.standing) number p at.standing.lists at.state) at.standing)

    -- what is added to the line of an accepted sync
    abbrev pub after_sync : Place S → Line → LineIn S
    after_sync at line =
        let more = m.synced (covered_in at.standing) (covered_in line.next) at.state in
        with_state more.1 (record { text = line.text ++ more.0; next = line.next })

    -- a sync, or its refusal
    abbrev pub sync_in : ℕ → Option Clash → Place S → LineIn S
    sync_in number (Some clash) at = with_state at.state (sync_line number (Some clash) at.standing)
    sync_in number None at = after_sync at (sync_line number None at.standing)

    -- an operation
    abbrev pub op_in : ℕ → Op → Place S → LineIn S
    op_in number (op.Config config) at = config_in config at
    op_in number (op.Events events) at = with_state at.state (op_line number (op.Events events) at.standing)
    op_in number op.Sync at =
        sync_in number (clash_of (settings_in at.standing) (objects_after at.standing.events)) at
    op_in number (op.Packet p) at = packet_in number p at
    op_in number (op.Explain p) at = explain_in number p at
    op_in number (op.Show what) at = with_state at.state (op_line number (op.Show what) at.standing)

    -- what a line says
    abbrev pub said_in : ℕ → Said → Place S → LineIn S
    said_in number Nothing at = with_state at.state (quiet at.standing)
    said_in number (Asks line) at = op_in number line.op (begun at)
    said_in number (Refuses refusal) at = with_state at.state (refuse number refusal (begun at).standing)

    -- a line as it is given: nothing of one that is too long
    abbrev pub given_in : ℕ → Option (List ℕ) → Place S → LineIn S
    given_in number given at = said_in number (said given at.standing.fresh) at

-- ---- All lines

-- how far a replay in a mode has come: how many lines there were, what they printed, and where it stands
pub record ProgressIn (S : Type 0) : Type 0 where
  pub number : ℕ
  pub text : List ℕ
  pub at : Place S

module _ {S : Type 0} where
  -- without the state
  abbrev pub progress_of : ProgressIn S → Progress
  progress_of r = record { number = r.number; text = r.text; at = r.at.standing }

  module _ (m : Mode S) where
    -- before the first line, the state is that of the default setting
    abbrev pub place_at_start : Place S
    place_at_start = record { standing = beginning; state = m.start default_config }

    abbrev pub start_in : ProgressIn S
    start_in = record { number = 0; text = []; at = place_at_start }

    -- one more line, as it is given
    abbrev pub after_given_in : ProgressIn S → Option (List ℕ) → ProgressIn S
    after_given_in r given =
        let line = given_in m (suc r.number) given r.at in
        record { number = suc r.number; text = r.text ++ line.text; at = line.next }

    -- one more line
    abbrev pub after_line_in : ProgressIn S → List ℕ → ProgressIn S
    after_line_in r bytes = after_given_in r (given_as bytes)

    -- lines in a mode
    abbrev pub replay_in : List (List ℕ) → ProgressIn S
    replay_in lines = fold after_line_in start_in lines

    -- what is added where an input ends
    abbrev pub ended : Place S → List ℕ
    ended at = m.ending (covered_in at.standing) at.state

    -- the whole text of an input that has these lines
    abbrev pub text_in : List (List ℕ) → List ℕ
    text_in lines = let r = replay_in lines in r.text ++ ended r.at
