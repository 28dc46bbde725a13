-- Lines in a mode lead where they lead in a replay.
use Rattle.std.proofs.Common.{◌≡◌, ℕ, suc, Bool, true, false, List, [], ◌∷◌, Option, Some, None, refl}
use Rattle.std.proofs.Common.{ap, sym, ◌∙◌}
use Rattle.std.specs.List.{fold}
use Rattle.std.proofs.lemmas.List.{append-nil}
use Rattle.kp_types.specs.declared.chain.Clash.{Clash}
use Rattle.kp_types.specs.declared.event.Event.{Event}
use Rattle.kp_text_defs.specs.SaidLines.{given_as, said}
use Rattle.kp_text_defs.specs.declared.said.Said.{Said}
use Rattle.kp_text_defs.specs.declared.said.Said.TheVariants.{Nothing, Asks, Refuses}
use Rattle.kp_text_defs.specs.declared.script.Op.{Op}
use Rattle.kp_text_defs.specs.declared.script.Op.TheVariants as op
use Rattle.kp_run_defs.specs.ReplayText.{Line, Progress, Standing, after_line, at_start, beginning, events_line}
use Rattle.kp_run_defs.specs.ReplayText.{given_line, op_line, said_line, sync_line, with_line}
use Rattle.kp_mode_defs.specs.Mode.{LineIn, Mode, Place, ProgressIn, after_line_in, begun, ended, given_in, op_in}
use Rattle.kp_mode_defs.specs.Mode.{progress_of, replaying, said_in, start_in, sync_in}
use Rattle.kp_mode_defs.specs.ModeLaws.{AreAlike, LeavesLists, ReplaysAlike, StandsAlike, StandsSame}

-- a line without the state
abbrev pub line_of : {S : Type 0} → LineIn S → Line
line_of line = record { text = line.text; next = line.next.standing }

-- ---- The mode that answers as a replay

sync_alone : (number : ℕ) (clash : Option Clash) (at : Place (Unit {0}))
    → line_of (sync_in replaying number clash at) ≡ sync_line number clash at.standing
sync_alone number (Some clash) at = refl
sync_alone number None at =
    let line = sync_line number None at.standing in
    ap (λ (text : List ℕ). record line { text = text }) (append-nil line.text)

-- so does what is asked for
pub op_alone : (number : ℕ) (o : Op) (at : Place (Unit {0}))
    → line_of (op_in replaying number o at) ≡ op_line number o at.standing
op_alone number (op.Config config) at = refl
op_alone number (op.Events events) at = refl
op_alone number op.Sync at = sync_alone number _ at
op_alone number (op.Packet p) at = refl
op_alone number (op.Explain p) at = refl
op_alone number (op.Show what) at = refl

-- what is said does in it what it does in a replay
pub said_alone : (number : ℕ) (says : Said) (at : Place (Unit {0}))
    → line_of (said_in replaying number says at) ≡ said_line number says at.standing
said_alone number Nothing at = refl
said_alone number (Asks line) at = op_alone number line.op (begun at)
said_alone number (Refuses refusal) at = refl

lines_alone : (lines : List (List ℕ)) (r : ProgressIn (Unit {0})) (p : Progress) → progress_of r ≡ p
    → progress_of (fold (after_line_in replaying) r lines) ≡ fold after_line p lines
lines_alone [] r p is = is
lines_alone (bytes ∷ lines) r p is =
    lines_alone lines (after_line_in replaying r bytes) (after_line p bytes)
    (ap (with_line (progress_of r)) (said_alone (suc r.number) (said (given_as bytes) r.at.standing.fresh) r.at)
    ∙ ap (λ q. after_line q bytes) is)

pub replays_alike : (lines : List (List ℕ)) → ReplaysAlike lines
replays_alike lines =
    let comes = lines_alone lines (start_in replaying) at_start refl in
    record { text = append-nil _ ∙ ap (λ r. r.text) comes; comes = comes }

-- ---- Any mode

-- a standing without its recent lists
abbrev listless : Standing → Standing
listless s = record s { lists = beginning.lists }

events_listless : (number : ℕ) (events : List Event) (room : Bool) (s : Standing)
    → listless (events_line number events room s).next
    ≡ listless (events_line number events room (listless s)).next
events_listless number events true s = refl
events_listless number events false s = refl

sync_listless : (number : ℕ) (clash : Option Clash) (s : Standing)
    → listless (sync_line number clash s).next ≡ listless (sync_line number clash (listless s)).next
sync_listless number (Some clash) s = refl
sync_listless number None s = refl

op_listless : (number : ℕ) (o : Op) (s : Standing)
    → listless (op_line number o s).next ≡ listless (op_line number o (listless s)).next
op_listless number (op.Config config) s = refl
op_listless number (op.Events events) s = events_listless number events _ s
op_listless number op.Sync s = sync_listless number _ s
op_listless number (op.Packet p) s = refl
op_listless number (op.Explain p) s = refl
op_listless number (op.Show what) s = refl

-- recent lists change nothing of where a line leads but themselves
said_listless : (number : ℕ) (says : Said) (s : Standing)
    → listless (said_line number says s).next ≡ listless (said_line number says (listless s)).next
said_listless number Nothing s = refl
said_listless number (Asks line) s = op_listless number line.op (record s { fresh = false })
said_listless number (Refuses refusal) s = refl

module _ {S : Type 0} (m : Mode S) where
  sync_leads : (number : ℕ) (clash : Option Clash) (at : Place S)
      → (sync_in m number clash at).next.standing ≡ (sync_line number clash at.standing).next
  sync_leads number (Some clash) at = refl
  sync_leads number None at = refl

  op_alike : (number : ℕ) (o : Op) (at : Place S)
      → listless (op_in m number o at).next.standing ≡ listless (op_line number o at.standing).next
  op_alike number (op.Config config) at = refl
  op_alike number (op.Events events) at = refl
  op_alike number op.Sync at = ap listless (sync_leads number _ at)
  op_alike number (op.Packet p) at = refl
  op_alike number (op.Explain p) at = refl
  op_alike number (op.Show what) at = refl

  -- what is said leads where it leads in a replay, but for the recent lists
  said_alike : (number : ℕ) (says : Said) (at : Place S)
      → listless (said_in m number says at).next.standing ≡ listless (said_line number says at.standing).next
  said_alike number Nothing at = refl
  said_alike number (Asks line) at = op_alike number line.op (begun at)
  said_alike number (Refuses refusal) at = refl

  record GoAlike (r : ProgressIn S) (p : Progress) : Type 0 where
    at : listless r.at.standing ≡ listless p.at
    number : r.number ≡ p.number

  one_alike : (bytes : List ℕ) (r : ProgressIn S) (p : Progress) → GoAlike r p
      → GoAlike (after_line_in m r bytes) (after_line p bytes)
  one_alike bytes r p is =
      let s = r.at.standing in
      record {
        at =
            said_alike (suc r.number) (said (given_as bytes) s.fresh) r.at
            ∙ said_listless (suc r.number) (said (given_as bytes) s.fresh) s
            ∙ (λ i. listless (given_line (suc (is.number i)) (given_as bytes) (is.at i)).next)
            ∙ sym (said_listless (suc p.number) (said (given_as bytes) p.at.fresh) p.at);
        number = ap suc is.number;
      }

  all_alike : (lines : List (List ℕ)) (r : ProgressIn S) (p : Progress) → GoAlike r p
      → GoAlike (fold (after_line_in m) r lines) (fold after_line p lines)
  all_alike [] r p is = is
  all_alike (bytes ∷ lines) r p is =
      all_alike lines (after_line_in m r bytes) (after_line p bytes) (one_alike bytes r p is)

  pub stands_alike : (lines : List (List ℕ)) → StandsAlike m lines
  stands_alike lines =
      let is = all_alike lines (start_in m) at_start (record { at = refl; number = refl }) in
      record {
        at = record {
          fresh = ap (λ s. s.fresh) is.at;
          config = ap (λ s. s.config) is.at;
          events = ap (λ s. s.events) is.at;
          counts = ap (λ s. s.counts) is.at;
          refused = ap (λ s. s.refused) is.at;
        };
        number = is.number;
      }

  -- ---- A mode that leaves the recent lists as a replay does

  module _ (leaves : LeavesLists m) where
    op_same : (number : ℕ) (o : Op) (at : Place S)
        → (op_in m number o at).next.standing ≡ (op_line number o at.standing).next
    op_same number (op.Config config) at = refl
    op_same number (op.Events events) at = refl
    op_same number op.Sync at = sync_leads number _ at
    op_same number (op.Packet p) at =
        ap (λ lists. record at.standing { lists = lists }) (leaves _ number p at.standing.lists at.state)
    op_same number (op.Explain p) at = refl
    op_same number (op.Show what) at = refl

    said_same : (number : ℕ) (says : Said) (at : Place S)
        → (said_in m number says at).next.standing ≡ (said_line number says at.standing).next
    said_same number Nothing at = refl
    said_same number (Asks line) at = op_same number line.op (begun at)
    said_same number (Refuses refusal) at = refl

    all_same : (lines : List (List ℕ)) (r : ProgressIn S) (p : Progress)
        → r.at.standing ≡ p.at → r.number ≡ p.number
        → (fold (after_line_in m) r lines).at.standing ≡ (fold after_line p lines).at
    all_same [] r p is counted = is
    all_same (bytes ∷ lines) r p is counted =
        all_same lines (after_line_in m r bytes) (after_line p bytes)
        (said_same (suc r.number) (said (given_as bytes) r.at.standing.fresh) r.at
        ∙ (λ i. (given_line (suc (counted i)) (given_as bytes) (is i)).next))
        (ap suc counted)

  pub stands_same : (lines : List (List ℕ)) → StandsSame m lines
  stands_same lines leaves = all_same leaves lines (start_in m) at_start refl refl
