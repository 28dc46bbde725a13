-- A refusal in the definition's words.
use Rattle.kp_door_defs.specs.Filter as filter
use Rattle.kp_decide.specs.declared.lines.Refusal.{Refusal}
use Rattle.kp_decide.specs.declared.lines.Refusal.TheVariants.{Rejects, DropsClosed, DropsNoLocal}

-- a refusal
abbrev pub shown_refusal : Refusal → filter.Refusal
shown_refusal Rejects = filter.Rejects
shown_refusal DropsClosed = filter.DropsClosed
shown_refusal DropsNoLocal = filter.DropsNoLocal
