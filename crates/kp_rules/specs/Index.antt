-- The places of a chain's rules: of the keyed ones by what they ask for, and of the others.
use Rattle.std.specs.Prelude.{◌≡◌, ℕ, Bool, false, not, min, List, Option, Some, None, is_some, option_map}
use Rattle.std.specs.List.{filter_map, enumerate_from, list_any}
use Rattle.std.specs.List.Sorted.{IsSorted}
use Rattle.std.specs.Ordering.{is_lt}
use Rattle.kp_types.specs.declared.rule.Rule.{Rule}
use Rattle.kp_rules.specs.Destinations.{destination_of, same_destination}
use Rattle.kp_rules.specs.declared.destination.Destination.{Destination}
use Rattle.kp_rules.specs.declared.index.KeyedPlace.{KeyedPlace}
use Rattle.kp_rules.specs.contracts.index.KeyedPlaceOrd.TheImpl as order

-- by destination, and then by place
abbrev pub stands_before : KeyedPlace → KeyedPlace → Bool
stands_before a b = is_lt (order.ghosts.cmp a b)

-- a keyed rule's place
abbrev pub keyed_place : ℕ × Rule → Option KeyedPlace
keyed_place (place, r) = option_map (λ to. record { to = to; place = place }) (destination_of r)

-- the place of a rule that isn't keyed
abbrev pub place_unless : ℕ → Option Destination → Option ℕ
place_unless place None = Some place
place_unless place (Some to) = None

-- that of a rule with its place
abbrev pub other_place : ℕ × Rule → Option ℕ
other_place (place, r) = place_unless place (destination_of r)

-- the keyed rules' places, as they stand
abbrev pub keyed_places : List Rule → List KeyedPlace
keyed_places rules = filter_map keyed_place (enumerate_from 0 rules)

-- the other rules' places
abbrev pub other_places : List Rule → List ℕ
other_places rules = filter_map other_place (enumerate_from 0 rules)

-- the keyed rules' places are these, in order of destinations and then of places
pub record AreKeyed (rules : List Rule) (keyed : List KeyedPlace) : Type 0 where
  pub sorted : IsSorted order.ghosts.cmp keyed
  pub same : (test : KeyedPlace → Bool) → list_any test (keyed_places rules) ≡ list_any test keyed

-- whether a destination is asked for
abbrev pub asks_for : Destination → Option Destination → Bool
asks_for to None = false
asks_for to (Some asked) = same_destination asked to

-- whether a rule asks for this destination
abbrev pub asks : Destination → Rule → Bool
asks to r = asks_for to (destination_of r)

-- whether a rule asks for none
abbrev pub is_other : Rule → Bool
is_other r = not (is_some (destination_of r))

-- the earlier of two places, where there is one
abbrev pub earlier : Option ℕ → Option ℕ → Option ℕ
earlier None q = q
earlier (Some p) None = Some p
earlier (Some p) (Some q) = Some (min p q)
