use Rattle.std.proofs.Common.{◌≡◌, ◌%◌, refl, ap, ap₂, slice_index, ◌∙◌, arith, add-one}
use Rattle.rand_chacha.specs.Block.{add32, column_round, diagonal_round, double_rounds, block_word}
use Rattle.kp_draws.proofs.block.word_at.Goals as goal

pub loop-round-init : goal.loop-round-init
unfolding double_rounds
loop-round-init c = refl

pub loop-round-preserved : goal.loop-round-preserved
unfolding double_rounds
loop-round-preserved c =
    rw add-one (c.diagonal_round-words.ensures
    ∙ ap diagonal_round (c.column_round.ensures ∙ ap column_round c.loop-round.invariant))

pub returns : goal.returns
unfolding block_word
returns c =
    let done : c.loop-round._round ≡ 4 = omega arith in
    let k = c.args.place % 16 in
    let first = c.initial_state-first.ensures in
    ap₂ add32 (ap (λ x. slice_index x k) (c.loop-round.invariant ∙ ap₂ double_rounds done first))
    (ap (λ x. slice_index x k) first)
