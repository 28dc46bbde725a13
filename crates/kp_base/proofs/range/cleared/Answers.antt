use Rattle.std.proofs.Common.{◌≡◌, ℕ, ◌-◌, ◌%◌, ◌^◌, ◌≤◌, sym, ap, subst, ◌∙◌}
use Rattle.kp_lemmas.proofs.Numbers.{cleared}
use Rattle.kp_base.specs.Net.{AddressParts, width, range_size}
use Rattle.kp_base.proofs.range.cleared.Goals as goal

pub invariant_of-result : goal.invariant_of-result
invariant_of-result c =
    let a = c.args.a in
    let bits = c.args.bits in
    let with_free : ℕ → AddressParts = λ w. record { family = a.family; number = a.number - a.number % 2 ^ (w - bits) } in
    subst (λ (b : AddressParts). (bits ≤ width b.family) × (b.number % range_size b.family bits ≡ 0))
    (sym (c.without_low_bits-base.ensures ∙ ap with_free (c.width.ensures ∙ ap width c.family.ensures)))
    (c.requires, cleared a.number (range_size a.family bits))
