-- Lines that are taken together do what they do one after the other.
use Rattle.std.proofs.Common.{◌≡◌, ℕ, suc, Bool, true, false, ◌||◌, List, [], ◌∷◌, ◌++◌, ap, sym, refl, ◌∙◌, append_assoc}
use Rattle.std.specs.Prelude.{Some}
use Rattle.std.specs.List.{concat, list_all, list_any}
use Rattle.std.proofs.Math.Bool.{or-false}
use Rattle.std.proofs.lemmas.Bool.{and_parts}
use Rattle.kp_choice_defs.specs.Recent.{RecentParts}
use Rattle.kp_run_defs.specs.ReplayText.{Line, Standing, given_line, op_line, refuse, said_line}
use Rattle.kp_text_defs.specs.SaidLines.{said}
use Rattle.kp_text_defs.specs.declared.said.Said.{Said}
use Rattle.kp_text_defs.specs.declared.said.Said.TheVariants.{Nothing, Asks, Refuses}
use Rattle.kp_part_laws.specs.Beside.{one_by_one}
use Rattle.kp_replay.specs.Groups.{AreAside, and_then, is_aside, is_refused, later_line, later_said, lines_from, read_line, reads_from, reads_line}
use Rattle.kp_replay.specs.declared.reads.Read.{Read}
use Rattle.kp_line_laws.proofs.FirstLines.{op_fresh}

-- ---- What lines say

by_said : (number : ℕ) (says : Said) (s : Standing) → s.fresh ≡ false
    → said_line number says s ≡ later_line number says s
by_said number Nothing s begun = refl
by_said number (Asks line) s begun = λ i. op_line number line.op (record s { fresh = sym begun i })
by_said number (Refuses refusal) s begun = λ i. refuse number refusal (record s { fresh = sym begun i })

-- a line that isn't the first does what it says
pub line_says : (number : ℕ) (bytes : List ℕ) (s : Standing) → s.fresh ≡ false
    → given_line number (Some bytes) s ≡ later_line number (later_said bytes) s
line_says number bytes s begun =
    ap (λ first. said_line number (said (Some bytes) first) s) begun
    ∙ by_said number (later_said bytes) s begun

pub still_begun : (number : ℕ) (says : Said) (s : Standing)
    → (later_line number says s).next.fresh ≡ s.fresh
still_begun number Nothing s = refl
still_begun number (Asks line) s = op_fresh number line.op s
still_begun number (Refuses refusal) s = refl

-- ---- One after the other

then_same : (a b : Line) (f g : Standing → Line) → a ≡ b → f b.next ≡ g b.next
    → and_then a f ≡ and_then b g
then_same a b f g e h =
    (λ i. and_then (e i) f) ∙ (λ i. record { text = b.text ++ (h i).text; next = (h i).next })

-- lines do what was read of them
pub lines_say : (number : ℕ) (lines : List (List ℕ)) (s : Standing) → s.fresh ≡ false
    → lines_from number lines s ≡ reads_line (reads_from number lines) s
lines_say number [] s begun = refl
lines_say number (bytes ∷ lines) s begun =
    let one = later_line number (later_said bytes) s in
    then_same (given_line number (Some bytes) s) one
    (lines_from (suc number) lines) (reads_line (reads_from (suc number) lines))
    (line_says number bytes s begun)
    (lines_say (suc number) lines one.next (still_begun number (later_said bytes) s ∙ begun))

-- lines, and then more lines
pub reads_both : (xs ys : List Read) (s : Standing)
    → reads_line (xs ++ ys) s ≡ and_then (reads_line xs s) (reads_line ys)
reads_both [] ys s = refl
reads_both (x ∷ xs) ys s =
    let one = read_line x s in
    let some = reads_line xs one.next in
    let more = reads_line ys some.next in
    (λ i.
    let both = reads_both xs ys one.next i in
    record { text = one.text ++ both.text; next = both.next })
    ∙ (λ i. record { text = sym (append_assoc one.text some.text more.text) i; next = more.next })

-- ---- Beside each other

or_both : (a b c : Bool) → (a || b) || c ≡ a || (b || c)
or_both true b c = refl
or_both false b c = refl

-- a standing with other lists, and whether a line was refused
abbrev pub with_lists : Standing → RecentParts → Bool → Standing
with_lists s lists refused = record s { lists = lists; refused = refused }

module _ (step : Read → RecentParts → List ℕ × RecentParts) (s : Standing) where
  -- lines that change nothing but the recent lists, and say so
  abbrev pub Asides : Type 0
  Asides = (read : Read) → is_aside read ≡ true → (lists : RecentParts) (refused : Bool)
      → read_line read (with_lists s lists refused) ≡ record {
        text = (step read lists).0;
        next = with_lists s (step read lists).1 (refused || is_refused read);
      }

  -- all that such lines do, by their steps on the recent lists
  pub asides : Asides → (reads : List Read) → AreAside reads → (lists : RecentParts) (refused : Bool)
      → reads_line reads (with_lists s lists refused) ≡ record {
        text = concat (one_by_one step reads lists).0;
        next = with_lists s (one_by_one step reads lists).1 (refused || list_any is_refused reads);
      }
  asides one [] all lists refused =
      λ i. record { text = []; next = with_lists s lists (sym (or-false refused) i) }
  asides one (x ∷ xs) all lists refused =
      let first = step x lists in
      let others = one_by_one step xs first.1 in
      let both = and_parts (is_aside x) (list_all is_aside xs) all in
      (λ i. and_then (one x both.0 lists refused i) (reads_line xs))
      ∙ (λ i.
      let rest = asides one xs both.1 first.1 (refused || is_refused x) i in
      record { text = first.0 ++ rest.text; next = rest.next })
      ∙ (λ i. record {
        text = first.0 ++ concat others.0;
        next = with_lists s others.1 (or_both refused (is_refused x) (list_any is_refused xs) i);
      })
