-- The next of a chain's rules that may match a packet.
use Rattle.std.specs.Prelude.{◌≡◌, ℕ, ◌+◌, ◌^◌, ◌<◌, ◌≤◌, List, length, Some, slice_get}
use Rattle.kp_types.specs.declared.rule.Rule.{Rule}
use Rattle.kp_rules.specs.Destinations.{next_for}
use Rattle.kp_rules.specs.declared.destination.Destination.{Destination}

-- this rule, at this place, is the first from a place on that may match packets to a destination
pub record IsNext (to : Destination) (rules : List Rule) (from place : ℕ) (rule : Rule) : Type 0 where
  pub next : next_for to rules from ≡ Some place
  pub here : slice_get rules place ≡ Some rule
  pub on : from ≤ place
  pub within : place < length rules
  pub fits : place + 1 < 2 ^ 64
