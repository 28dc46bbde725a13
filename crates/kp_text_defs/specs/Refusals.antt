-- Refusals of lines as the program prints them (this project's choice).
use Rattle.std.specs.Prelude.{ℕ, List, ◌++◌, codes, decimal}
use Rattle.kp_json.specs.declared.fault.Why.{Why}
use Rattle.kp_json.specs.declared.fault.Why.TheVariants.{Missing, WrongType, OutOfRange, BadName, BadAddress, BadCidr, DuplicatePort, TooMany}
use Rattle.kp_json.specs.declared.fault.BadField.{BadField}
use Rattle.kp_text_defs.specs.declared.line_refusal.LineRefusal.{LineRefusal}
use Rattle.kp_text_defs.specs.declared.line_refusal.LineRefusal.TheVariants as refusal
use Rattle.kp_text_defs.specs.Keys.{json_text}
use Rattle.kp_text_defs.specs.Live.{clash_text}

-- what is wrong with a member, before its path
abbrev pub why_text : Why → List ℕ
why_text Missing = codes "missing "
why_text WrongType = codes "wrong type at "
why_text OutOfRange = codes "out of range at "
why_text BadName = codes "bad name at "
why_text BadAddress = codes "bad address at "
why_text BadCidr = codes "bad range at "
why_text DuplicatePort = codes "duplicate port at "
why_text TooMany = codes "too many at "

-- what stands behind the path: how many elements there are, where they are too many
abbrev pub count_text : Why → ℕ → List ℕ
count_text TooMany count = codes ": " ++ decimal count
count_text _ count = codes ""

-- a member that is refused
abbrev pub bad_field_text : BadField → List ℕ
bad_field_text bad = why_text bad.why ++ json_text bad.path ++ count_text bad.why bad.count

-- why a line is refused
abbrev pub refusal_words : LineRefusal → List ℕ
refusal_words refusal.BadJson = codes "bad json"
refusal_words refusal.NotEvent = codes "not an event"
refusal_words (refusal.UnsupportedKind kind) = codes "kind " ++ json_text kind ++ codes " is not supported"
refusal_words (refusal.Bad bad) = bad_field_text bad
refusal_words (refusal.UnknownOp op) = codes "op " ++ json_text op ++ codes " is not known"
refusal_words refusal.ConfigLate = codes "config is not the first line"
refusal_words refusal.TooLongLine = codes "longer than 16777216 bytes"
refusal_words (refusal.JournalFull count) = codes "journal full at " ++ decimal count
refusal_words (refusal.ChainClash clash) = clash_text clash
refusal_words (refusal.NotLive op) = codes "op " ++ json_text op ++ codes " is not for live"
refusal_words refusal.StreamsFull = codes "more than 64 streams"

-- a refused line, by its number
abbrev pub refusal_text : ℕ → LineRefusal → List ℕ
refusal_text number refused =
    codes "line " ++ decimal number ++ codes ": refused: " ++ refusal_words refused ++ codes "\n"
