use Rattle.std.proofs.Common.{◌∙◌, ◌^◌, ◌/◌, bit_and, nat_eq, sym, ap}
use Rattle.std.proofs.lemmas.Bool.{true≢false}
use Rattle.std.proofs.lemmas.Nat.Bits.{shr_and_one}
use Rattle.kp_recent.specs.Hinted.{mark_of}
use Rattle.kp_recent.proofs.Hinting.{unmarked}
use Rattle.kp_recent.proofs.hints.Hints.may_have.Goals as goal

pub returns : goal.returns
returns c ss now seconds hints is =
    unmarked c.args.self.now.marks c.args.self.now.since now seconds c.args.source.now ss hints (λ one.
    absurd (true≢false (sym (ap (λ n. nat_eq n 1)
    (ap (λ k. bit_and (c.args.self.now.marks / 2 ^ k) 1) c.mark_of.ensures.value
    ∙ shr_and_one c.args.self.now.marks (mark_of c.args.source.now) ∙ one)) ∙ is)))
