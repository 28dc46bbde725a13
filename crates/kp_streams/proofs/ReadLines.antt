-- How far the reading of an input has come, from one line to the next.
use Rattle.std.proofs.Common.{◌≡◌, ◌+◌, ◌≤◌, ◌++◌, ℕ, suc, Bool, true, false, cond, List, [], ◌∷◌, length, map, Option, Some, None, IfSome, refl, ap, sym, subst, ◌∙◌, add-one, length-append, arith}
use Rattle.std.specs.Prelude.{nat_lt}
use Rattle.std.specs.Io.KnownBytes.{IsAtEnd}
use Rattle.std.specs.List.{fold}
use Rattle.std.proofs.lemmas.List.Sums.{fold-append}
use Rattle.kp_io.specs.Lines.{lines_of, given_of, given_lines}
use Rattle.kp_io.specs.Reader.{ReaderState, LosesTaken, to_come}
use Rattle.kp_io.specs.Told.{FromTold}
use Rattle.kp_io.specs.declared.next_line.TheConstants.{INPUT_LIMIT, LINE_LIMIT}
use Rattle.kp_io.proofs.HandedOut.{handed_given, handed_all, taken_none, taken_more}
use Rattle.kp_text_defs.specs.declared.line_refusal.LineRefusal.TheVariants.{JournalFull, StreamsFull}
use Rattle.kp_text_defs.specs.declared.said.Said.{Said}
use Rattle.kp_text_defs.specs.declared.said.Said.TheVariants.{Nothing, Asks, Refuses}
use Rattle.kp_text_defs.specs.declared.script.Op.{Op}
use Rattle.kp_text_defs.specs.declared.script.Op.TheVariants as op
use Rattle.kp_text_defs.specs.SaidLines.{said}
use Rattle.kp_text_defs.specs.StreamNames.{stream_name}
use Rattle.kp_run_defs.specs.declared.live.Work.{Work}
use Rattle.kp_run_defs.specs.declared.live.Work.TheVariants.{Feeds, Syncs, Sends}
use Rattle.kp_run_defs.specs.LiveLines.{Reading, nothing_read, is_past_streams, events_fed, refuse_line, accept_line, accept_within, add_work, add_op, next_line, after_said, after_given, after_live_line, reading_of}
use Rattle.kp_streams.specs.Streams.{reading_given}
use Rattle.kp_streams.specs.WholeInput.{HasRead, LosesFront, ReadsWhole}

-- ---- Lines and lines as they are given

lines_given : (r : Reading) (lines : List (List ℕ))
    → fold after_live_line r lines ≡ fold after_given r (map given_of lines)
lines_given r [] = refl
lines_given r (bytes ∷ lines) = lines_given (after_live_line r bytes) lines

-- the reading of a text whose lines were given so
whole_text : (text : List ℕ) (given : List (Option (List ℕ))) → given_lines text ≡ given
    → reading_of (lines_of text) ≡ reading_given given
whole_text text given all = lines_given nothing_read (lines_of text) ∙ ap reading_given all

-- ---- Each line is counted

-- two readings of as many lines
counts_either : (n : ℕ) (b : Bool) (x y : Reading) → x.number ≡ n → y.number ≡ n
    → (cond b x y).number ≡ n
counts_either n true x y p q = p
counts_either n false x y p q = q

counts_work : (name : List ℕ) (work : Work) (r : Reading) → (add_work name work r).number ≡ r.number
counts_work name work r =
    counts_either r.number (is_past_streams r.streams name) (refuse_line StreamsFull r)
    (accept_within name work r) refl
    (counts_either r.number (nat_lt r.config.max_events (r.accepted + length (events_fed work)))
    (refuse_line (JournalFull r.accepted) r) (accept_line name work r) refl refl)

counts_op : (name : List ℕ) (o : Op) (r : Reading) → (add_op name o r).number ≡ r.number
counts_op name (op.Config config) r = refl
counts_op name (op.Events events) r = counts_work name (Feeds events) r
counts_op name op.Sync r = counts_work name Syncs r
counts_op name (op.Packet p) r = counts_work name (Sends p) r
counts_op name (op.Explain p) r = refl
counts_op name (op.Show what) r = refl

counts_said : (says : Said) (r : Reading) → (after_said r says).number ≡ suc r.number
counts_said Nothing r = refl
counts_said (Asks line) r = counts_op (stream_name line.by) line.op (next_line r)
counts_said (Refuses why) r = refl

counts_given : (one : Option (List ℕ)) (r : Reading) → (after_given r one).number ≡ suc r.number
counts_given one r = counts_said (said one r.fresh) r

-- ---- From one line to the next

-- one more line, after which the source may have ended
pub read_more : (r : Reading) (old new : ReaderState) (number : ℕ) (one : Option (List ℕ))
    (input left end : Option (List ℕ)) → HasRead r old input left → number ≡ old.number + 1
    → new.number ≡ number → FromTold (λ xs ys. xs ≡ one ∷ ys) (to_come old left) (to_come new end)
    → FromTold (LosesTaken old.taken new.taken) left end → (new.ended ≡ true → IsAtEnd end)
    → HasRead (after_given r one) new input end
read_more r old new number one input left end read counts is loses takes ended = record {
  given = read.given ++ one ∷ [];
  handed = handed_given read.given one input (to_come old left) (to_come new end) read.handed loses;
  stands =
      ap (λ q. after_given q one) read.stands
      ∙ sym (fold-append after_given nothing_read read.given (one ∷ []));
  counted =
      counts_given one r ∙ ap suc read.counted ∙ sym (add-one old.number) ∙ sym counts ∙ sym is;
  taken = taken_more old.taken new.taken input left end read.taken takes;
  ended = ended;
}

-- whether a source has ended: it had, and was not asked again, or it does
pub at_end : (was : Bool) (left end : Option (List ℕ)) → (was ≡ true → IsAtEnd left)
    → (was ≡ true → end ≡ left) → (was ≡ false → IsAtEnd end) → IsAtEnd end
at_end true left end before stays now = subst IsAtEnd (sym (stays refl)) (before refl)
at_end false left end before stays now = now refl

whole : (limit taken : ℕ) (r : Reading) (input end : Option (List ℕ))
    (given : List (Option (List ℕ))) → limit ≡ INPUT_LIMIT → r ≡ reading_given given
    → IfSome input (λ text. given_lines text ≡ given) → FromTold (LosesTaken 0 taken) input end
    → IsAtEnd end → taken ≤ limit → IfSome input (ReadsWhole r)
whole limit taken r None end given same stands all takes ended short = tt
whole limit taken r (Some text) None given same stands all takes ended short = absurd takes
whole limit taken r (Some text) (Some ys) given same stands all takes ended short = record {
  reads = stands ∙ sym (whole_text text given all);
  short =
      subst (λ l. length text ≤ l) same
      (omega (arith, ap length takes.front ∙ length-append takes.bytes ys, takes.size, ap length ended, short));
}

-- at the end all lines were read
pub read_all : (r : Reading) (old : ReaderState) (taken : ℕ) (input left end : Option (List ℕ))
    (after : Option (List (Option (List ℕ)))) → HasRead r old input left
    → FromTold (λ xs ys. (xs ≡ []) × (ys ≡ [])) (to_come old left) after
    → FromTold (LosesTaken old.taken taken) left end → IsAtEnd end → taken ≤ INPUT_LIMIT
    → IfSome input (ReadsWhole r)
read_all r old taken input left end after read none takes ended short =
    whole INPUT_LIMIT taken r input end read.given refl read.stands
    (handed_all read.given input (to_come old left) after read.handed none)
    (taken_more old.taken taken input left end read.taken takes) ended short

-- ---- What a source has lost

-- nothing yet
pub lost_none : (left : Option (List ℕ)) → LosesFront left left
lost_none left = (0, omega arith, taken_none left)

-- what was taken before, and by one more call of the reader
pub lost_more : (taken now : ℕ) (first left next : Option (List ℕ)) → now ≤ INPUT_LIMIT + 1
    → FromTold (LosesTaken 0 taken) first left → FromTold (LosesTaken taken now) left next
    → LosesFront first next
lost_more taken now first left next short before takes =
    (now, short, taken_more taken now first left next before takes)
