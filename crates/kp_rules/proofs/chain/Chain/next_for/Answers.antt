use Rattle.std.proofs.Common.{rules, ◌≡◌, ◌||◌, not, Option, Some, None, is_some, refl, sym, ap, subst, ◌∙◌}
use Rattle.kp_types.specs.declared.rule.Rule.{Rule}
use Rattle.kp_rules.specs.Destinations.{destination_of, concerns, next_for, is_asked}
use Rattle.kp_rules.specs.Index.{AreKeyed, asks, asks_for, is_other, earlier}
use Rattle.kp_rules.specs.declared.destination.Destination.{Destination}
use Rattle.kp_rules.proofs.NextPlaces.{next_alike, next_of_two}
use Rattle.kp_rules.proofs.chain.Chain.next_for.Goals as goal

-- a rule that may match isn't keyed, or asks for the destination
two_kinds : (to : Destination) (r : Rule) → concerns to r ≡ (is_other r || asks to r)
two_kinds to r = by (destination_of r)
  where
    by : (o : Option Destination) → is_asked to o ≡ (not (is_some o) || asks_for to o)
    by None = refl
    by (Some asked) = refl

pub returns : goal.returns
returns c =
    c.earlier.ensures
    ∙ (λ i. earlier (c.next_other.ensures c.self.inside.rules (search rules) i) (c.next_keyed.ensures c.self.inside.rules (subst (AreKeyed c.self.inside.rules) (search rules) c.self.invariant.keyed) i))
    ∙ sym (next_alike (concerns c.args.to.now) (λ r. is_other r || asks c.args.to.now r) (two_kinds c.args.to.now) c.self.inside.rules c.args.from
    ∙ next_of_two is_other (asks c.args.to.now) c.self.inside.rules c.args.from)
    ∙ ap (λ rules. next_for c.args.to.now rules c.args.from) c.self.view_is
