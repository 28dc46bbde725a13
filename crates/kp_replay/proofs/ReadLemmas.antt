-- What lines say that were read in the place of others.
use Rattle.std.proofs.Common.{◌≡◌, ℕ, zero, suc, true, false, ◌&&◌, List, [], ◌∷◌, take, drop, ap, refl, ◌∙◌, subst, add-zero, arith}
use Rattle.std.specs.Prelude.{Some, get_or, Ok, Err, IfOk}
use Rattle.std.specs.List.{list_all}
use Rattle.std.proofs.lemmas.Bool.{and_parts}
use Rattle.kp_text_defs.specs.declared.said.Said.{Said}
use Rattle.kp_text_defs.specs.declared.said.Said.TheVariants.{Nothing, Asks, Refuses}
use Rattle.kp_text_defs.specs.declared.script.Op.{Op}
use Rattle.kp_text_defs.specs.declared.script.Op.TheVariants as op
use Rattle.kp_line_laws.proofs.FirstLines.{IsFree, asked_by, NotConfig, later_free}
use Rattle.kp_replay.specs.Groups.{AreAside, AreLater, AreReadAs, IsReadAs, ReadAs, WereRead, asks_later, is_aside, later_said, may_come_later, may_go_aside, reads_from, says_later, was_read}
use Rattle.kp_replay.specs.declared.reads.Read.{Read}

-- ---- What was read

-- the lines after the first
others : (number : ℕ) (line : List ℕ) (lines : List (List ℕ)) (read : Read) (reads : List Read)
    → AreReadAs number (line ∷ lines) (read ∷ reads) → AreReadAs (suc number) lines reads
others number line lines read reads are = record {
  long = omega (arith, are.long);
  each = λ i d below.
      subst (λ n. IsReadAs n (get_or lines i []) (get_or reads i d)) (omega arith)
      (are.each (suc i) d (omega (arith, below)));
}

first : (number : ℕ) (line : List ℕ) (lines : List (List ℕ)) (read : Read) (reads : List Read)
    → AreReadAs number (line ∷ lines) (read ∷ reads) → IsReadAs number line read
first number line lines read reads are =
    subst (λ n. IsReadAs n line read) (add-zero number) (are.each 0 read (omega arith))

-- lines that were all read say what stands in their places
pub all_read : (number : ℕ) (lines : List (List ℕ)) (reads : List Read)
    → AreReadAs number lines reads → WereRead reads → reads ≡ reads_from number lines
all_read number [] [] are were = refl
all_read number [] (read ∷ reads) are were = absurd (omega (arith, are.long))
all_read number (line ∷ lines) [] are were = absurd (omega (arith, are.long))
all_read number (line ∷ lines) (read ∷ reads) are were =
    let parts = and_parts (was_read read.said) (list_all (λ r. was_read r.said) reads) were in
    λ i. first number line lines read reads are parts.0 i
    ∷ all_read (suc number) lines reads (others number line lines read reads are) parts.1 i

aside_read : (said : ReadAs) → may_go_aside said ≡ true → was_read said ≡ true
aside_read (Ok says) h = refl
aside_read (Err refused) h = absurd (cc)

-- lines were read that may be answered beside each other, and so all were where those after them were
pub both_read : (n : ℕ) (reads : List Read) → AreAside (take n reads) → WereRead (drop n reads)
    → WereRead reads
both_read zero reads aside were = were
both_read (suc n) [] aside were = refl
both_read (suc n) (read ∷ reads) aside were =
    let parts = and_parts (is_aside read) (list_all is_aside (take n reads)) aside in
    λ i. aside_read read.said parts.0 i && both_read n reads parts.1 were i

-- ---- What may come

op_later : (o : Op) → NotConfig o → may_come_later o ≡ true
op_later (op.Config c) h = absurd h
op_later (op.Events events) h = refl
op_later op.Sync h = refl
op_later (op.Packet p) h = refl
op_later (op.Explain p) h = refl
op_later (op.Show what) h = refl

said_later : (bytes : List ℕ) (says : Said) → later_said bytes ≡ says → asks_later says ≡ true
said_later bytes Nothing is = refl
said_later bytes (Asks line) is =
    let read = asked_by (Some bytes) false line is in
    op_later line.op (subst (λ r. IfOk r IsFree) read.1 (later_free read.0))
said_later bytes (Refuses refusal) is = refl

-- a line that isn't the first asks for no configuration
line_later : (bytes : List ℕ) → asks_later (later_said bytes) ≡ true
line_later bytes = said_later bytes (later_said bytes) refl

pub later_reads : (number : ℕ) (lines : List (List ℕ)) → AreLater (reads_from number lines)
later_reads number [] = refl
later_reads number (line ∷ lines) = λ i. line_later line i && later_reads (suc number) lines i

as_later : (bytes : List ℕ) (said : ReadAs) → (was_read said ≡ true → said ≡ Ok (later_said bytes))
    → says_later said ≡ true
as_later bytes (Ok says) is = ap says_later (is refl) ∙ line_later bytes
as_later bytes (Err refused) is = refl

-- nor do more of them
pub reads_later : (number : ℕ) (lines : List (List ℕ)) (reads : List Read)
    → AreReadAs number lines reads → AreLater reads
reads_later number lines [] are = refl
reads_later number [] (read ∷ reads) are = absurd (omega (arith, are.long))
reads_later number (line ∷ lines) (read ∷ reads) are =
    let one = as_later line read.said
    (λ was. ap (λ r. r.said) (first number line lines read reads are was)) in
    λ i. one i && reads_later (suc number) lines reads (others number line lines read reads are) i
