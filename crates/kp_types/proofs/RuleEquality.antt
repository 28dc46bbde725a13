-- The derived tests of matches, targets and rules are true at equal ones alone.
use Rattle.std.proofs.Common.{refl}
use Rattle.std.specs.Cmp.{IsEquivalence}
use Rattle.std.proofs.lemmas.Bool.{and_parts}
use Rattle.std.proofs.lemmas.Cmp.{lists_equiv}
use Rattle.std.proofs.lemmas.Map.Views.{exact_unsigned_eq}
use lib.Pointwise.{pointwise}
use denote.Enum.Declared.{values_one}
use Rattle.kp_lemmas.specs.Exact.{IsExact}
use Rattle.kp_lemmas.proofs.Equality.{AreExact, variants_exact, one_field, two_fields}
use Rattle.kp_base.proofs.SameParts.{bool_exact, text_test_exact, proto_test_exact, range_test_exact, endpoint_test_exact}
use Rattle.kp_types.specs.contracts.rule.MatchPartialEq.TheImpl as match_eq
use Rattle.kp_types.specs.contracts.rule.TargetPartialEq.TheImpl as target_eq
use Rattle.kp_types.specs.contracts.rule.RulePartialEq.TheImpl as rule_eq
use Rattle.kp_types.specs.contracts.rule.RuleEq.TheImpl.Laws as rule_laws
use Rattle.kp_types.specs.contracts.rule.Match as match_row
use Rattle.kp_types.specs.contracts.rule.Target as target_row
pub use Rattle.kp_lemmas.proofs.Equality.{lists_exact}

pub match_exact : IsExact match_eq.ghosts.eq
unfolding AreExact
match_exact a b h =
    values_one match_row.enum a b (variants_exact match_row.enum.parts _
    (two_fields _ _ range_test_exact bool_exact, (two_fields _ _ range_test_exact bool_exact, (one_field _ proto_test_exact, (two_fields _ _ proto_test_exact exact_unsigned_eq, (λ x y h. refl, (λ x y h. refl, (one_field _ bool_exact, (one_field _ exact_unsigned_eq, (two_fields _ _ text_test_exact exact_unsigned_eq, (one_field _ text_test_exact, tt))))))))))
    (match_row.enum.as_values a) (match_row.enum.as_values b) h)

pub target_exact : IsExact target_eq.ghosts.eq
unfolding AreExact
target_exact a b h =
    values_one target_row.enum a b (variants_exact target_row.enum.parts _
    (one_field _ text_test_exact, (λ x y h. refl, (λ x y h. refl, (λ x y h. refl, (λ x y h. refl, (λ x y h. refl, (λ x y h. refl, (one_field _ endpoint_test_exact, (λ x y h. refl, tt)))))))))
    (target_row.enum.as_values a) (target_row.enum.as_values b) h)

pub rule_exact : IsExact rule_eq.ghosts.eq
rule_exact a b h =
    let p = and_parts _ _ h in
    λ i. record { matches = record { items = lists_exact match_eq.ghosts.eq match_exact a.matches.items b.matches.items p.0 i }; target = target_exact a.target b.target p.1 i }

pub rules_equiv : IsEquivalence (pointwise rule_eq.ghosts.eq)
rules_equiv = lists_equiv rule_laws.laws-law
