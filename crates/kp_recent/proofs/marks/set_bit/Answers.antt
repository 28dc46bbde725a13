use Rattle.std.proofs.Common.{◌≡◌, ◌<◌, ◌≤◌, IfSome, length, refl, subst, sym, arith}
use Rattle.std.specs.Int.{bit_at}
use Rattle.std.proofs.lemmas.Bool.Decides.{nat_tests}
use Rattle.std.proofs.lemmas.Option.{slice_get_past, slice_get_read}
use Rattle.kp_recent.proofs.Marking.{bit_is_set, bit_stays}
use Rattle.kp_recent.proofs.marks.set_bit.Goals as goal

pub returns-then-place-len-clause-own : goal.returns-then-place-len-clause-own
returns-then-place-len-clause-own c =
    let words = c.args.words.now.items in
    let word = c.index.result.now in
    let within : c.args.place < length words = grind (arith, nat_tests) in
    bit_is_set words c.args.place c.args.bit word c.requires
    (slice_get_read words (length words) c.args.place word refl within c.index.ensures) within

pub returns-then-place-len-clause-others : goal.returns-then-place-len-clause-others
returns-then-place-len-clause-others c =
    let words = c.args.words.now.items in
    let word = c.index.result.now in
    let within : c.args.place < length words = grind (arith, nat_tests) in
    bit_stays words c.args.place c.args.bit word c.requires
    (slice_get_read words (length words) c.args.place word refl within c.index.ensures)

-- no word is there
pub returns-else-place-len-clause-own : goal.returns-else-place-len-clause-own
returns-else-place-len-clause-own c =
    let words = c.args.words.now.items in
    let beyond : length words ≤ c.args.place = grind (arith, nat_tests) in
    subst (λ o. IfSome o (λ word. bit_at word c.args.bit ≡ 1))
    (sym (slice_get_past words c.args.place beyond)) tt
