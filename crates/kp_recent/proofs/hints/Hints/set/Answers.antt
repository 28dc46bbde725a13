use Rattle.std.proofs.Common.{◌≡◌, ◌*◌, ◌%◌, ◌^◌, ◌∙◌, bit_or, min, sym, ap, subst}
use Rattle.kp_recent.specs.Hinted.{AreHinted, mark_of}
use Rattle.kp_recent.specs.Moments.{with_source}
use Rattle.kp_recent.proofs.Hinting.{hinted_set, shifted_one}
use Rattle.kp_recent.proofs.hints.Hints.set.Goals as goal

pub returns : goal.returns
returns c ss size hints =
    let marks = c.args.self.now.marks in
    let since = c.args.self.now.since in
    let now = c.args.now in
    let after = with_source size c.args.source.now now ss in
    let mark = mark_of c.args.source.now in
    let bit : 2 ^ mark ≡ 1 * 2 ^ c.mark_of.result % 2 ^ 64 =
    ap (λ k. 2 ^ k) (sym c.mark_of.ensures.value) ∙ shifted_one c.mark_of.result c.mark_of.ensures.low in
    subst (λ least. AreHinted (bit_or marks (1 * 2 ^ c.mark_of.result % 2 ^ 64)) least after)
    (sym c.min-self.ensures)
    (subst (λ b. AreHinted (bit_or marks b) (min since now) after) bit
    (hinted_set marks since c.args.source.now now size ss hints))
