-- How far the program has come, from one line to the next.
use Rattle.std.proofs.Common.{◌≡◌, ◌+◌, ◌<◌, ◌≤◌, length, arith, ℕ, suc, Bool, true, false, List, [], ◌∷◌, ◌++◌, map, take, drop, ap, sym, refl, ◌∙◌, subst, add-one, add-zero, zero-add, append-nil, append_assoc, take-append-drop, length-append}
use Rattle.std.specs.Prelude.{Option, Some, None, IfSome, ◌||◌}
use Rattle.std.specs.Io.KnownBytes.{IsAtEnd}
use Rattle.std.specs.List.{fold}
use Rattle.std.proofs.Math.Seq.{take-append_seam}
use Rattle.std.proofs.lemmas.List.Sums.{fold-append}
use Rattle.kp_io.specs.Told.{Grows, FromTold}
use Rattle.kp_io.specs.Lines.{lines_of, ended_lines, given_of, given_lines}
use Rattle.kp_io.specs.Reader.{ReaderState, LosesTaken, GivesEnded, TakesFeeds, HoldsNoLine, fresh_reader, fresh_with, to_come, HandedOut, answers_unasked}
use Rattle.kp_io.specs.declared.next_line.TheConstants.{INPUT_LIMIT}
use Rattle.kp_io.proofs.HandedOut.{handed_none, handed_given, handed_all, handed_at_fault, taken_more, feeds_none_yet, feeds_next}
use Rattle.kp_io.proofs.Told.{Grows-nil, Grows-trans, FromTold-map}
use Rattle.kp_types.specs.declared.chain.Clash.{Clash}
use Rattle.kp_text_defs.specs.ConfigText.{default_config}
use Rattle.kp_text_defs.specs.SaidLines.{said}
use Rattle.kp_text_defs.specs.declared.said.Said.{Said}
use Rattle.kp_text_defs.specs.declared.said.Said.TheVariants.{Nothing, Asks, Refuses}
use Rattle.kp_text_defs.specs.declared.script.Op.{Op}
use Rattle.kp_text_defs.specs.declared.script.Op.TheVariants as op
use Rattle.kp_run_defs.specs.ReplayText.{Standing, beginning}
use Rattle.kp_mode_defs.specs.Mode.{Mode, Place, ProgressIn, after_given_in, after_line_in, begun, given_in, op_in, place_at_start, replay_in, said_in, start_in, sync_in}
use Rattle.kp_replay.specs.Steps.{IsReady}
use Rattle.kp_line_laws.proofs.FirstLines.{no_longer, op_fresh}
use Rattle.kp_run.specs.Given.{place, replay_given}
use Rattle.kp_run.specs.Stand.{CountsFeeds, WritesLines}
use Rattle.kp_run.specs.Texts.{by_lines}
use Rattle.kp_run.specs.Outcome.{Come, TakesLine, WritesEnded, WritesFront, WritesRead, GrowsFront}

-- ---- Texts

-- what is handed on or flushed was written before
pub grows_on : (written now later : Option (List ℕ)) (text : List ℕ) → Grows written now text
    → Grows now later [] → Grows written later text
grows_on written now later text grown kept =
    subst (Grows written later) (append-nil text) (Grows-trans written now later text [] grown kept)

-- what was written is a front of a text that begins with it
pub front_is : (whole x rest : List ℕ) (written now : Option (List ℕ)) → whole ≡ x ++ rest → Grows written now x → GrowsFront written now whole
front_is whole x rest written now e grown = (length x, subst (Grows written now) (sym (ap (take (length x)) e ∙ take-append_seam x rest)) grown)

pub part_is : (a b z : List ℕ) (k : ℕ) → (a ++ b) ++ z ≡ (a ++ take k b) ++ (drop k b ++ z)
part_is a b z k =
    ap (λ x. (a ++ x) ++ z) (sym (take-append-drop k b))
    ∙ ap (λ x. x ++ z) (sym (append_assoc a (take k b) (drop k b)))
    ∙ append_assoc (a ++ take k b) (drop k b) z

-- ---- What was taken

-- an input of which more than the limit was taken is longer than that
pub too_long : (limit : ℕ) (a c : Option (List ℕ)) (new : ℕ) → FromTold (LosesTaken 0 new) a c → limit < new → IfSome a (λ text. limit < length text)
too_long limit None c new p h = tt
too_long limit (Some xs) None new p h = absurd p
too_long limit (Some xs) (Some ys) new p h =
    omega (arith, ap length p.front ∙ length-append p.bytes ys, p.size, h)

-- before the first line
pub counts_none : (reader : ReaderState) (left : Option (List ℕ))
    → reader ≡ fresh_with reader.room → CountsFeeds reader left left
counts_none reader left fresh = subst (λ r. CountsFeeds r left left) (sym fresh) (feeds_none_yet INPUT_LIMIT left)

-- one more call
pub counts_more : (old new : ReaderState) (first left end : Option (List ℕ)) → CountsFeeds old first left → TakesFeeds old new left end → CountsFeeds new first end
counts_more old new first left end counts takes =
    feeds_next INPUT_LIMIT old.held new.held old.taken new.taken old.number new.number first left end counts takes

-- ---- Small steps

any_or : (b c e : Bool) → e ≡ true → (b || (e || c)) ≡ true
any_or true c e h = refl
any_or false c e h = ap (λ x. x || c) h

-- the reader answers unasked behind the end
pub ended_unasked : (reader : ReaderState) → reader.ended ≡ true → answers_unasked reader ≡ true
ended_unasked reader h = any_or _ _ reader.ended h

-- by whether the source had ended
pub by_end : (P : Type 0) (ended : Bool) → (ended ≡ true → P) → (ended ≡ false → P) → P
by_end P true f g = f refl
by_end P false f g = g refl

-- ---- What a line leads to

module _ {S : Type 0} (m : Mode S) where
  sync_begun : (number : ℕ) (clash : Option Clash) (at : Place S)
      → (sync_in m number clash at).next.standing.fresh ≡ at.standing.fresh
  sync_begun number (Some clash) at = refl
  sync_begun number None at = refl

  op_begun : (number : ℕ) (o : Op) (at : Place S) → (op_in m number o at).next.standing.fresh ≡ at.standing.fresh
  op_begun number (op.Config config) at = refl
  op_begun number (op.Events events) at = op_fresh number (op.Events events) at.standing
  op_begun number op.Sync at = sync_begun number _ at
  op_begun number (op.Packet p) at = refl
  op_begun number (op.Explain p) at = refl
  op_begun number (op.Show what) at = refl

  said_ready : (number : ℕ) (says : Said) (at : Place S) → IsReady at.standing
      → IsReady (said_in m number says at).next.standing
  said_ready number Nothing at ready = ready
  said_ready number (Asks line) at ready = no_longer _ (op_begun number line.op (begun at))
  said_ready number (Refuses refusal) at ready = no_longer _ refl

  -- behind a line the next one may come
  pub ready_in : (number : ℕ) (given : Option (List ℕ)) (at : Place S) → IsReady at.standing
      → IsReady (given_in m number given at).next.standing
  ready_in number given at = said_ready number (said given at.standing.fresh) at

-- ---- In a mode

module _ {S : Type 0} (m : Mode S) where
  lines_given : (r : ProgressIn S) (lines : List (List ℕ))
      → fold (after_line_in m) r lines ≡ fold (after_given_in m) r (map given_of lines)
  lines_given r [] = refl
  lines_given r (bytes ∷ lines) = lines_given (after_line_in m r bytes) lines

  -- the replay of a text whose lines were given so
  pub whole_text : (text : List ℕ) (given : List (Option (List ℕ))) → given_lines text ≡ given → replay_in m (lines_of text) ≡ replay_given m given
  whole_text text given all = lines_given (start_in m) (lines_of text) ∙ ap (replay_given m) all

  -- more lines only add to the text
  text_grows : (p : ProgressIn S) (more : List (Option (List ℕ))) → (ys : List ℕ) × ((fold (after_given_in m) p more).text ≡ p.text ++ ys)
  text_grows p [] = ([], sym (append-nil p.text))
  text_grows p (one ∷ ones) =
      let step = given_in m (suc p.number) one p.at in
      let more = text_grows (after_given_in m p one) ones in
      (step.text ++ more.0, more.1 ∙ append_assoc p.text step.text more.0)

  pub all_text : (given more : List (Option (List ℕ))) → (ys : List ℕ) × ((replay_given m (given ++ more)).text ≡ (replay_given m given).text ++ ys)
  all_text given more =
      let grows = text_grows (replay_given m given) more in
      (grows.0, ap (λ p. p.text) (fold-append (after_given_in m) (start_in m) given more) ∙ grows.1)

  one_more : (given : List (Option (List ℕ))) (one : Option (List ℕ)) → replay_given m (given ++ one ∷ []) ≡ after_given_in m (replay_given m given) one
  one_more given one = fold-append (after_given_in m) (start_in m) given (one ∷ [])

  pub numbers : (p : ProgressIn S) (given : List (Option (List ℕ))) → (fold (after_given_in m) p given).number ≡ length given + p.number
  numbers p [] = sym (zero-add p.number)
  numbers p (one ∷ ones) = omega (arith, numbers (after_given_in m p one) ones)

  -- as many lines were given as there were
  given_number : (given : List (Option (List ℕ))) (number : ℕ) → (replay_given m given).number ≡ number → length given ≡ number
  given_number given number h = sym (add-zero (length given)) ∙ sym (numbers (start_in m) given) ∙ h

  -- the text of the lines that were handed out is a front of the whole
  front_of : (given : List (Option (List ℕ))) (left : Option (List ℕ)) (rest : Option (List (Option (List ℕ)))) (written now : Option (List ℕ)) → HandedOut given left rest → Grows written now (replay_given m given).text → WritesFront (by_lines m) left written now
  front_of given None rest written now handed grown = tt
  front_of given (Some text) None written now handed grown = absurd handed
  front_of given (Some text) (Some more) written now handed grown =
      let all = all_text given more in
      front_is (replay_in m (lines_of text)).text (replay_given m given).text all.0 written now (ap (λ p. p.text) (whole_text text (given ++ more) handed) ∙ all.1) grown

  finished : (limit taken : ℕ) (at : Place S) (left end written now : Option (List ℕ)) (given : List (Option (List ℕ))) → limit ≡ INPUT_LIMIT → at ≡ (replay_given m given).at → Grows written now (replay_given m given).text → IfSome left (λ text. given_lines text ≡ given)
      → FromTold (LosesTaken 0 taken) left end → IsAtEnd end → taken ≤ limit → IfSome left (λ text. WritesLines m at text written now)
  finished limit taken at None end written now given same st grown all took ended short = tt
  finished limit taken at (Some text) None written now given same st grown all took ended short = absurd took
  finished limit taken at (Some text) (Some ys) written now given same st grown all took ended short =
      let whole = whole_text text given all in
      record {
        grown = subst (λ p. Grows written now p.text) (sym whole) grown;
        stands = st ∙ ap (λ p. p.at) (sym whole);
        short = subst (λ l. length text ≤ l) same (omega (arith, ap length took.front ∙ length-append took.bytes ys, took.size, ap length ended, short));
      }

  part_of : (given : List (Option (List ℕ))) (one : Option (List ℕ)) (left : Option (List ℕ)) (after : Option (List (Option (List ℕ)))) (written now later : Option (List ℕ)) → HandedOut (given ++ one ∷ []) left after → Grows written now (replay_given m given).text
      → GrowsFront now later (given_in m (suc (replay_given m given).number) one (replay_given m given).at).text → WritesFront (by_lines m) left written later
  part_of given one None after written now later handed grown front = tt
  part_of given one (Some text) None written now later handed grown front = absurd handed
  part_of given one (Some text) (Some more) written now later handed grown front =
      let p = replay_given m given in
      let step = given_in m (suc p.number) one p.at in
      let all = all_text (given ++ one ∷ []) more in
      front_is (replay_in m (lines_of text)).text (p.text ++ take front.0 step.text) (drop front.0 step.text ++ all.0) written later
      (ap (λ q. q.text) (whole_text text ((given ++ one ∷ []) ++ more) handed) ∙ all.1 ∙ ap (λ q. q.text ++ all.0) (one_more given one) ∙ part_is p.text step.text all.0 front.0)
      (Grows-trans written now later p.text (take front.0 step.text) grown front.1)

  written_up_to : (limit : ℕ) (given : List (Option (List ℕ))) (first left written now : Option (List ℕ)) → Grows written now (replay_given m given).text → FromTold (GivesEnded limit given) first left → FromTold (WritesEnded (by_lines m).progress limit written now) first left
  written_up_to limit given first left written now grown =
      FromTold-map (GivesEnded limit given) (WritesEnded (by_lines m).progress limit written now)
      (λ xs ys g. record {
        lost = g.lost;
        front = g.front;
        grown = subst (λ p. Grows written now p.text)
            (sym (lines_given (start_in m) (ended_lines (take limit g.lost)) ∙ ap (replay_given m) (sym g.ended))) grown;
      }) first left

  -- before the first line
  pub come_none : (follows : Place S → Type 0) (s : Standing) (left written : Option (List ℕ)) → s ≡ beginning
      → follows (place_at_start m) → Come m follows s 0 left (to_come fresh_reader left) written written
  come_none follows s left written st kept = record {
    given = [];
    handed = handed_none left;
    state = m.start default_config;
    stands = ap (λ t. place t (m.start default_config)) st;
    kept = subst (λ t. follows (place t (m.start default_config))) (sym st) kept;
    ready = subst IsReady (sym st) (λ e. record { events = refl; counts = refl });
    grown = Grows-nil written;
    counted = refl;
  }

  module _ (follows : Place S → Type 0) where
    -- ---- From one line to the next

    abbrev pub come_on : (s : Standing) (n : ℕ) (left : Option (List ℕ))
        (rest : Option (List (Option (List ℕ)))) (written now later : Option (List ℕ))
        → Come m follows s n left rest written now → Grows now later [] → Come m follows s n left rest written later
    come_on s n left rest written now later come kept =
        record {
          given = come.given;
          handed = come.handed;
          state = come.state;
          stands = come.stands;
          kept = come.kept;
          ready = come.ready;
          grown = grows_on written now later (replay_given m come.given).text come.grown kept;
          counted = come.counted;
        }

    -- ---- Where it has come so far

    module _ (s : Standing) (n : ℕ) (left : Option (List ℕ)) (rest : Option (List (Option (List ℕ))))
        (written now : Option (List ℕ)) (come : Come m follows s n left rest written now) where
      -- the place
      abbrev pub at_now : Place S
      at_now = place s come.state

      -- before a line
      pub come_front : WritesFront (by_lines m) left written now
      come_front = front_of come.given left rest written now come.handed come.grown

      -- at the end
      pub come_all : (taken : ℕ) (after : Option (List (Option (List ℕ)))) (end : Option (List ℕ)) → FromTold (λ old new. (old ≡ []) × (new ≡ [])) rest after
          → FromTold (LosesTaken 0 taken) left end → IsAtEnd end → taken ≤ INPUT_LIMIT → IfSome left (λ text. WritesLines m at_now text written now)
      come_all taken after end ended took is_end short =
          finished INPUT_LIMIT taken at_now left end written now come.given refl come.stands come.grown (handed_all come.given left rest after come.handed ended) took is_end short

      -- a line of the next number
      module _ (number : ℕ) (one : Option (List ℕ)) (after : Option (List (Option (List ℕ)))) (later : Option (List ℕ))
          (count : number ≡ n + 1) (loses : FromTold (λ xs ys. xs ≡ one ∷ ys) rest after) where
        abbrev p : ProgressIn S
        p = replay_given m come.given

        next : number ≡ suc p.number
        next = count ∙ add-one n ∙ ap suc (sym come.counted)

        -- as the replay takes it
        same : given_in m number one at_now ≡ given_in m (suc p.number) one p.at
        same = λ i. given_in m (next i) one (come.stands i)

        -- after it
        pub come_more : (keeps : Place S → Type 0) (new : Standing) → TakesLine keeps (given_in m number one at_now) new now later
            → Come m keeps new number left after written later
        come_more keeps new takes =
            let line = given_in m number one at_now in
            record {
              given = come.given ++ one ∷ [];
              handed = handed_given come.given one left rest after come.handed loses;
              state = line.next.state;
              stands = ap (λ t. place t line.next.state) takes.stands ∙ ap (λ l. l.next) same ∙ ap (λ q. q.at) (sym (one_more come.given one));
              kept = subst (λ t. keeps (place t line.next.state)) (sym takes.stands) takes.kept;
              ready = subst IsReady (sym takes.stands) (ready_in m number one at_now come.ready);
              grown =
                  subst (λ q. Grows written later q.text) (sym (one_more come.given one))
                  (subst (λ l. Grows written later (p.text ++ l.text)) same (Grows-trans written now later _ _ come.grown takes.grown));
              counted = ap (λ q. q.number) (one_more come.given one) ∙ sym next;
            }

        -- within it
        pub come_part : GrowsFront now later (given_in m number one at_now).text → WritesFront (by_lines m) left written later
        come_part front =
            part_of come.given one left after written now later (handed_given come.given one left rest after come.handed loses) come.grown
            (subst (λ l. GrowsFront now later l.text) same front)

    -- where reading stops, exactly the text of the lines was written that ended in what was read
    pub come_ended : (old new : ReaderState) (s : Standing) (rest : Option (List (Option (List ℕ)))) (first left end written now : Option (List ℕ)) → Come m follows s old.number first rest written now
        → FromTold (LosesTaken 0 old.taken) first left → CountsFeeds old first left → new.number ≡ old.number → FromTold (LosesTaken old.taken new.taken) left end → TakesFeeds old new left end → HoldsNoLine new.held new.taken → WritesRead (by_lines m).progress first end written now
    come_ended old new s rest first left end written now come taken counts same loses takes none =
        written_up_to INPUT_LIMIT come.given first end written now come.grown
        (handed_at_fault INPUT_LIMIT come.given new.number new.taken new.held first rest end come.handed
        (given_number come.given new.number (come.counted ∙ sym same))
        (taken_more old.taken new.taken first left end taken loses)
        (counts_more old new first left end counts takes) none)
