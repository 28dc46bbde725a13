-- What a line says (this project's choice): nothing where it is blank, what it asks for, or why it is
-- refused.
use Rattle.std.specs.Prelude.{ℕ, ◌==◌, ◌||◌, nat_lt, Bool, List, length, cond, Option, Some, None, Result, Ok, Err}
use Rattle.std.specs.List.{list_all}
use Rattle.kp_text_defs.specs.declared.line_refusal.LineRefusal.{LineRefusal}
use Rattle.kp_text_defs.specs.declared.line_refusal.LineRefusal.TheVariants.{TooLongLine}
use Rattle.kp_text_defs.specs.declared.said.Said.{Said}
use Rattle.kp_text_defs.specs.declared.said.Said.TheVariants.{Nothing, Asks, Refuses}
use Rattle.kp_text_defs.specs.declared.script.ScriptLine.{ScriptLine}
use Rattle.kp_text_defs.specs.ScriptLines.{line_of}

-- a space, a tab or a carriage return
abbrev pub is_blank_byte : ℕ → Bool
is_blank_byte byte = (byte == 32) || ((byte == 9) || (byte == 13))

-- a line that is counted and passed over
abbrev pub is_blank : List ℕ → Bool
is_blank bytes = list_all is_blank_byte bytes

-- more bytes than a line may have, without its line feed
abbrev pub is_too_long : List ℕ → Bool
is_too_long bytes = nat_lt 16777216 (length bytes)

-- a line as it is given to who takes it: nothing of one that is too long
abbrev pub given_as : List ℕ → Option (List ℕ)
given_as bytes = cond (is_too_long bytes) None (Some bytes)

-- what a line says that was read, or refused by its reading
abbrev pub said_of : Result ScriptLine LineRefusal → Said
said_of (Ok line) = Asks line
said_of (Err refusal) = Refuses refusal

-- what a line says as it is given; it may be the first of a script or a later one
abbrev pub said : Option (List ℕ) → Bool → Said
said None first = Refuses TooLongLine
said (Some bytes) first = cond (is_blank bytes) Nothing (said_of (line_of bytes first))
