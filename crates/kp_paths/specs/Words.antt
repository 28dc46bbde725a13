-- The words of a path, by what is told of a translation and by the filter's line.
use Rattle.std.specs.Prelude.{ℕ, Bool, List, [], ◌++◌, length, codes, decimal, Option, Some, None}
use Rattle.kp_types.specs.Setting.{FamilyConfig}
use Rattle.kp_types.specs.declared.packet.Packet.{Packet}
use Rattle.kp_types.specs.declared.verdict.Verdict.TheVariants.{To}
use Rattle.kp_choice_defs.specs.AddressText.{endpoint_text}
use Rattle.kp_choice_defs.specs.Draws.{probability_text_of}
use Rattle.kp_object_defs.specs.PortInfo.{PortInfo}
use Rattle.kp_door_defs.specs.Decision.{sent_to}
use Rattle.kp_door_defs.specs.Doors.{Offer}
use Rattle.kp_door_defs.specs.Filter.{Line, Refusal, Rejects, DropsClosed, DropsNoLocal, filtered}
use Rattle.kp_door_defs.specs.Marks.{is_masqueraded}
use Rattle.kp_text_defs.specs.Answers.{choice_text, door_text}
use Rattle.kp_text_defs.specs.Printed.{verdict_text}
use Rattle.kp_decide.specs.declared.choice.Choice.{Choice}
use Rattle.kp_decide.specs.declared.translation.Translation.{Translation}
use Rattle.kp_paths.specs.declared.routes.Stand.{Stand}

-- the verdict of a refusal
abbrev pub refusal_word : Refusal → List ℕ
refusal_word Rejects = codes "rejected"
refusal_word DropsClosed = codes "dropped"
refusal_word DropsNoLocal = codes "dropped"

-- what keeps a packet from the endpoints of the door that refuses it
abbrev pub refusal_cause : Refusal → List ℕ
refusal_cause Rejects = codes " has no endpoints"
refusal_cause DropsClosed = codes " is closed to the source"
refusal_cause DropsNoLocal = codes " has no local endpoints"

-- a line of the filter
abbrev pub refused_words : Line → List ℕ
refused_words line =
    refusal_word line.refusal ++ codes "; "
    ++ (door_text line.door.kind line.door.info.key ++ refusal_cause line.refusal)

-- the choice in an offer
abbrev pub choice_words : Offer → Choice → List ℕ
choice_words offer c = choice_text offer.kind (length offer.endpoints) c.by c.place

-- the door of a translation, and the choice
abbrev pub chosen_words : Translation → List ℕ
chosen_words t = door_text t.door.kind t.door.info.key ++ choice_words t.offer t.choice

-- where a translation sends a packet
abbrev pub sent_to_words : Translation → List ℕ
sent_to_words t =
    codes "; sent to " ++ endpoint_text t.choice.endpoint ++ codes "; " ++ chosen_words t

-- the same, where there is a translation
abbrev pub sent_words : Option Translation → List ℕ
sent_words None = []
sent_words (Some t) = sent_to_words t

-- a translation that the filter lets pass
abbrev pub passed_words : Translation → Bool → List ℕ
passed_words t masked =
    verdict_text (To t.choice.endpoint masked) ++ codes "; " ++ chosen_words t

-- what becomes of a packet
abbrev pub decided_words : Option Line → Option Translation → Bool → List ℕ
decided_words (Some line) t masked = refused_words line ++ sent_words t
decided_words None (Some t) masked = passed_words t masked
decided_words None None masked = codes "left alone; no door decides"

-- the place of a path among all of its packet
abbrev pub place_words : Stand → List ℕ
place_words s =
    codes "path " ++ decimal s.number ++ codes " " ++ decimal s.place ++ codes " of "
    ++ decimal s.count

-- the head of a path
abbrev pub stand_words : Stand → List ℕ
stand_words s =
    place_words s ++ codes " chance " ++ probability_text_of s.chance ++ codes ": "

-- a path
abbrev pub path_words : Stand → List ℕ → List ℕ
path_words s words = stand_words s ++ words ++ codes "\n"

-- what becomes of a packet by a translation
abbrev pub route_words : FamilyConfig → List PortInfo → Packet → Translation → List ℕ
route_words config infos packet t =
    decided_words (filtered config infos (sent_to packet t.choice.endpoint)) (Some t)
    (is_masqueraded config t.door.kind t.door.info packet t.choice.endpoint)
