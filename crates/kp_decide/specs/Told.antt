-- What is told of a translation and of a decision, which leave recent lists behind too.
use Rattle.std.specs.Prelude.{suc, Bool, length}
use Rattle.kp_types.specs.declared.decision.Decision.{Decision}
use Rattle.kp_types.specs.declared.decision.Reason.TheVariants as reason
use Rattle.kp_types.specs.declared.verdict.Verdict.TheVariants.{To}
use Rattle.kp_door_defs.specs.Choice.{Chosen}
use Rattle.kp_door_defs.specs.Decision as definition
use Rattle.kp_decide.specs.declared.choice.Choice.{Choice}
use Rattle.kp_decide.specs.declared.translation.Translation.{Translation}

-- the endpoint, its place from 1 and how it was chosen
abbrev pub choice_of : Chosen → Choice
choice_of c = record { endpoint = c.endpoint; place = suc c.place; by = c.by }

-- a translation without the recent lists
abbrev pub translation_told : definition.Translation → Translation
translation_told t = record { door = t.door; offer = t.offer; choice = choice_of t.chosen }

-- the verdict and the reason of a decision
abbrev pub told : definition.Decided → Decision
told d = record { verdict = d.verdict; reason = d.reason }

-- the decision on a packet that is translated, masqueraded or not, and that the filter lets pass
abbrev pub passed_by : Translation → Bool → Decision
passed_by t masked = record {
  verdict = To t.choice.endpoint masked;
  reason = reason.Door t.door.kind t.door.info.key t.offer.kind (length t.offer.endpoints) t.choice.by t.choice.place;
}
