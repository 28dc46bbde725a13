-- Words for kinds of sources, and for the pieces of their lines.
use Rattle.std.specs.Prelude.{ℕ, Bool, List, [], ◌∷◌, ◌++◌, codes, cond, decimal, map, Option, Some, None}
use Rattle.std.specs.List.{filter, flat_map, list_any}
use Rattle.std.specs.Option.{option_to_list}
use Rattle.kp_base.specs.Net.{AddressParts, RangeParts, is_local_address, range_size}
use Rattle.kp_base.specs.declared.address.Family.{Family}
use Rattle.kp_types.specs.Setting.{FamilyConfig}
use Rattle.kp_types.specs.declared.decision.ListKind.{ListKind}
use Rattle.kp_types.specs.declared.packet.Origin.{Origin}
use Rattle.kp_types.specs.declared.packet.Origin.TheVariants as origin
use Rattle.kp_types.specs.declared.packet.Packet.{Packet}
use Rattle.kp_types.specs.declared.verdict.Verdict.{Verdict}
use Rattle.kp_types.specs.declared.verdict.Verdict.TheVariants.{LeftAlone}
use Rattle.kp_choice_defs.specs.AddressText.{address_text}
use Rattle.kp_object_defs.specs.PortInfo.{PortInfo}
use Rattle.kp_door_defs.specs.Doors.{Door, is_in_cluster, offer_of}
use Rattle.kp_door_defs.specs.Filter as filter_words
use Rattle.kp_text_defs.specs.Answers.{door_text, list_kind_text}
use Rattle.kp_decide.specs.Enough.{AreEnough}
use Rattle.kp_path_defs.specs.PathText.{cause_text, whence_by, within_text}
use Rattle.kp_path_defs.specs.Sources.{Restricted, Served, Closes, Opens, Source, cause_at, counts_of, first_in, is_within, past, verdict_of, whence_of}

-- how many addresses a range has
abbrev pub size_of : RangeParts → ℕ
size_of r = range_size r.base.family r.bits

-- the numbers at which a kind may begin by a range
abbrev pub bounds_of_range : RangeParts → List ℕ
bounds_of_range r = first_in r ∷ past r

-- the addresses of a family with these numbers
abbrev pub addresses_of : Family → List ℕ → List AddressParts
addresses_of family numbers = map (λ n. record { family = family; number = n }) numbers

-- an element behind others, if it is of another kind than all
abbrev pub with_new : {A : Type 0} → (A → A → Bool) → A → List A → List A
with_new same x xs = cond (list_any (same x) xs) xs (xs ++ x ∷ [])

-- of two the one for packets that come from here
abbrev pub by_origin : {A : Type 0} → Origin → A → A → A
by_origin origin.Wire wire node = wire
by_origin origin.Node wire node = node

-- the origin that a packet doesn't have
abbrev pub other_origin : Origin → Origin
other_origin origin.Wire = origin.Node
other_origin origin.Node = origin.Wire

-- the packet as it would come from there
abbrev pub from_elsewhere : Packet → Packet
from_elsewhere packet = record packet { from = other_origin packet.from }

-- some ports are enough for packets from each address that come from the wire, and others for
-- those of the node
pub record AreEnoughOfBoth (config : FamilyConfig) (packet : Packet) (wire node all : List PortInfo) : Type 0 where
  pub from : (o : Origin) (a : AddressParts) → AreEnough config (record packet { from = o; source = a }) (by_origin o wire node) all

-- a kind of source that gets this
abbrev pub source_by : FamilyConfig → List Restricted → AddressParts → Served → Source
source_by config rs a served = record {
  address = a;
  whence = whence_of config a;
  within = map (λ r. r.port) (filter (is_within a) rs);
  served = served;
}

-- a kind of source, where a door fits
abbrev pub sources_by : FamilyConfig → List Restricted → AddressParts → Option Served → List Source
sources_by config rs a served = map (source_by config rs a) (option_to_list served)

-- what the sender of a packet gets at a door that takes it
abbrev pub opens_at : FamilyConfig → List PortInfo → Packet → Door → Served
opens_at config infos packet d =
    let offer = offer_of config packet d in
    Opens (counts_of config infos packet d offer.endpoints) d offer

-- what a packet that no door takes comes to, by the refusal of the filter's line
abbrev pub verdict_if : Option filter_words.Refusal → Verdict
verdict_if None = LeftAlone
verdict_if (Some r) = verdict_of r

-- what the sender of a packet gets that no door takes, by the filter's line, or else by the first
-- door that fits
abbrev pub closes_by : Packet → Option filter_words.Line → Option Door → Option Served
closes_by packet (Some line) first =
    Some (Closes (verdict_of line.refusal) (cause_at line.door packet.source) line.door)
closes_by packet None (Some d) = Some (Closes LeftAlone (cause_at d packet.source) d)
closes_by packet None None = None

-- what a source's line begins with: its number, and the least address
abbrev pub start_text : ℕ → AddressParts → List ℕ
start_text line a = codes "source " ++ decimal line ++ codes " " ++ address_text a ++ codes ", "

-- where the address is
abbrev pub where_text : FamilyConfig → List Restricted → AddressParts → List ℕ
where_text config rs a =
    whence_by (is_in_cluster config a) (is_local_address config.addresses a)
    ++ flat_map within_text (map (λ r. r.port) (filter (is_within a) rs)) ++ codes ": "

-- both
abbrev pub head_text : ℕ → FamilyConfig → List Restricted → AddressParts → List ℕ
head_text line config rs a = start_text line a ++ where_text config rs a

-- a door behind another piece
abbrev pub second_text : Door → List ℕ
second_text d = codes "; " ++ door_text d.kind d.info.key

-- a list, at the end of a line
abbrev pub list_text : ListKind → List ℕ
list_text list = codes " list " ++ list_kind_text list ++ codes "\n"

-- a door and its list, at the end of a line
abbrev pub offered_text : Door → ListKind → List ℕ
offered_text d list = second_text d ++ list_text list

-- a cause and a door, at the end of a line
abbrev pub closed_text : Door → AddressParts → List ℕ
closed_text d source =
    codes ", " ++ cause_text (cause_at d source) ++ second_text d ++ codes "\n"
