-- What stands ready beside a chain's rules.
use Rattle.std.specs.Prelude.{◌≡◌, ℕ, List, map, Option}
use Rattle.kp_types.specs.declared.rule.Rule.{Rule}
use Rattle.kp_rules.specs.Index.{AreKeyed, other_places}
use Rattle.kp_rules.specs.Limits.{limit_of}
use Rattle.kp_rules.specs.declared.index.KeyedPlace.{KeyedPlace}

-- the places of the keyed rules and of the others, and the limits of draws
pub record IsReady (rules : List Rule) (ks : List KeyedPlace) (ps : List ℕ) (ls : List (Option ℕ)) : Type 0 where
  pub keyed : AreKeyed rules ks
  pub others : ps ≡ other_places rules
  pub limits : ls ≡ map limit_of rules
