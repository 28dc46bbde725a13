use Rattle.std.proofs.Common.{◌∙◌, sym, subst}
use Rattle.kp_rules.proofs.Skipping.{next_below}
use Rattle.kp_walker.specs.Next.{IsNext}
use Rattle.kp_walker.proofs.next.next_rule.Goals as goal

-- the place is one of the chain's
pub at-requires : goal.at-requires
at-requires c =
    (next_below c.args.to.now c.args.chain.now c.args.from c.in-Some.place
    (sym c.next_for.ensures ∙ c.in-Some.is)).1

pub returns-in-Some-clause-next : goal.returns-in-Some-clause-next
returns-in-Some-clause-next c =
    let next = sym c.next_for.ensures ∙ c.in-Some.is in
    let below = next_below c.args.to.now c.args.chain.now c.args.from c.in-Some.place next in
    subst (λ place. IsNext c.args.to.now c.args.chain.now c.args.from place c.at.result.rule.now)
    (sym c.at.ensures.place) (record {
      next = next;
      here = c.at.ensures.rule;
      on = below.0;
      within = below.1;
      fits = c.at.ensures.fits;
    })
