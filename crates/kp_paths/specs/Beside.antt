-- The endpoints of a port that a packet isn't sent to, one by one.
use Rattle.std.specs.Prelude.{ℕ, Bool, List, [], ◌++◌, codes, cond, decimal, Option, Some, None}
use Rattle.std.specs.List.{flat_map}
use Rattle.kp_base.specs.Net.{AddressParts}
use Rattle.kp_base.specs.declared.key.Endpoint.{Endpoint}
use Rattle.kp_base.specs.declared.key.PortKey.{PortKey}
use Rattle.kp_types.specs.Setting.{FamilyConfig}
use Rattle.kp_types.specs.declared.lists.Candidate.{Candidate}
use Rattle.kp_choice_defs.specs.AddressText.{endpoint_text}
use Rattle.kp_door_defs.specs.Doors.{Door, Offer}
use Rattle.kp_text_defs.specs.Keys.{port_text}
use Rattle.kp_decide.specs.declared.translation.Translation.{Translation}
use Rattle.kp_path_defs.specs.Asides.{Why, KeptElsewhere, NotAdmitted, NotReady, admits, has_endpoint, is_usable, list_at, reached_by, why_left_out}
use Rattle.kp_path_defs.specs.PathText.{why_text}

-- the endpoints that a packet may be sent to, by what is told of its translation
abbrev pub reached_told : Option Translation → List Endpoint
reached_told None = []
reached_told (Some t) = reached_by t.choice.by t.offer.endpoints t.choice.endpoint

-- why a packet isn't sent to an endpoint, by the list for its source and whether that is admitted
abbrev pub why_by : Offer → Bool → Candidate → Why
why_by offer admitted c =
    cond (is_usable c)
    (cond (has_endpoint offer.endpoints c.endpoint) (cond admitted KeptElsewhere NotAdmitted)
    (why_left_out offer.kind c))
    NotReady

-- the head of the line of an endpoint
abbrev pub aside_head : ℕ → PortKey → List ℕ
aside_head number port =
    codes "aside " ++ decimal number ++ codes " " ++ port_text port ++ codes ": "

-- the line of an endpoint, and why
abbrev pub aside_line : ℕ → PortKey → Endpoint → List ℕ → List ℕ
aside_line number port endpoint why =
    aside_head number port ++ endpoint_text endpoint ++ codes " " ++ why ++ codes "\n"

-- the line of an endpoint, unless it is one of those that the packet may be sent to
abbrev pub aside_words : ℕ → PortKey → List Endpoint → Offer → Bool → Candidate → List ℕ
aside_words number port reached offer admitted c =
    cond (has_endpoint reached c.endpoint) []
    (aside_line number port c.endpoint (why_text (why_by offer admitted c)))

-- the lines of all endpoints of a port
abbrev pub asides_text :
    ℕ → FamilyConfig → Door → AddressParts → Option Translation → List Candidate → List ℕ
asides_text number config d source t entries =
    flat_map
    (aside_words number d.info.key (reached_told t) (list_at config d.kind d.info source)
    (admits d.kind d.info source))
    entries
