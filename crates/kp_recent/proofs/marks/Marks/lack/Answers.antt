use Rattle.std.proofs.Common.{◌+◌, ◌*◌, ◌/◌, ◌%◌, length, nat_eq, ap, sym, ◌∙◌}
use Rattle.std.proofs.lemmas.Bool.{ltb-true, true≢false}
use Rattle.std.proofs.lemmas.Nat.Bits.{shr_and_one}
use Rattle.std.specs.Int.{bit_at}
use Rattle.kp_recent.specs.Marked.{row_of}
use Rattle.kp_recent.proofs.Marking.{found_at, unmarked}
use Rattle.kp_recent.proofs.marks.Marks.lack.Goals as goal

pub returns-in-Some : goal.returns-in-Some
returns-in-Some c list ss now seconds column marked none =
    let words = c.deref.result.now in
    let word = c.in-Some.word.now in
    let source = c.args.source.now in
    let place = c.word_of.result in
    unmarked c.args.self.now list source word
    (found_at words c.args.self.now.bits.items place _ word c.deref.ensures.value
    (c.word_of.ensures ∙ ap (λ n. row_of source * 16 + n / 64) column)
    (ltb-true place (length words) (sym c.in-Some.ensures.lookup.0)) c.in-Some.ensures.lookup.1)
    (λ one. absurd (true≢false (sym none ∙ ap (λ n. nat_eq n 0)
    (shr_and_one word (c.args.column % 64) ∙ ap (λ n. bit_at word (n % 64)) column ∙ one))))
    now seconds ss marked
