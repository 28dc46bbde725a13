-- Recent lists once the endpoints of a port were looked at, and once the chosen one is remembered.
use Rattle.std.specs.Prelude.{◌≡◌, ◌⊎◌, ℕ, ◌-◌, Bool, true, false, List, cond, Option, Some, None, is_some, slice_get}
use Rattle.std.specs.List.{list_any}
use Rattle.kp_base.specs.Net.{AddressParts}
use Rattle.kp_base.specs.declared.address.Family.{Family}
use Rattle.kp_base.specs.declared.key.Endpoint.{Endpoint}
use Rattle.kp_types.specs.Packets.{family_of_packet}
use Rattle.kp_types.specs.Setting.{Setting, Settings, has_tables_of, view_of}
use Rattle.kp_types.specs.declared.packet.Packet.{Packet}
use Rattle.kp_choice_defs.specs.Names.{endpoint_chain_name}
use Rattle.kp_choice_defs.specs.Recent.{RecentParts, is_of, set_at, shard_of, sightings}
use Rattle.kp_object_defs.specs.PortInfo.{PortInfo}
use Rattle.kp_door_defs.specs.Choice.{live_endpoint, recent_name}
use Rattle.kp_door_defs.specs.Decision as definition
use Rattle.kp_door_defs.specs.Decision.{translation_of}
use Rattle.kp_door_defs.specs.Doors.{Door, Offer, offer_of, taking_door}
use Rattle.kp_decide.specs.Listed.{listed}
use Rattle.kp_decide.specs.declared.translation.Translation.{Translation}

-- what was looked at under an affinity timeout, or without one
abbrev pub looked : (Endpoint → List ℕ) → Option ℕ → AddressParts → ℕ → List Endpoint → RecentParts → RecentParts
looked name None source now endpoints lists = lists
looked name (Some seconds) source now endpoints lists =
    (live_endpoint name source now seconds 0 endpoints lists).lists

-- the source is set at an endpoint under an affinity timeout, and not without one
abbrev pub set_if : Option ℕ → List ℕ → AddressParts → ℕ → RecentParts → RecentParts
set_if None name source now lists = lists
set_if (Some seconds) name source now lists = set_at lists name source now

-- an offer is one of the port's lists, or nothing of it
abbrev pub IsOf : PortInfo → Offer → Type 0
IsOf i o = (place : ℕ) (e : Endpoint) → slice_get o.endpoints place ≡ Some e → slice_get (listed o.kind i) place ≡ Some e

-- the lists once the endpoints that a door offers were looked at
abbrev pub looked_at : Setting → Packet → RecentParts → Option Door → RecentParts
looked_at setting packet lists None = lists
looked_at setting packet lists (Some d) =
    looked (recent_name setting d.info.key) d.info.affinity packet.source packet.now
    (offer_of setting.config packet d).endpoints lists

-- the lists as they stand before a decision sets a source
abbrev pub looked_among : Setting → List PortInfo → Packet → RecentParts → RecentParts
looked_among setting infos packet lists =
    looked_at setting packet lists (taking_door setting.config infos packet)

-- a translation is at the port of this place, and its endpoint is at its place in one of that port's lists
pub record IsPlaced (infos : List PortInfo) (port : ℕ) (t : Translation) : Type 0 where
  pub port_at : slice_get infos port ≡ Some t.door.info
  pub offer_of_port : IsOf t.door.info t.offer
  pub endpoint_at : slice_get t.offer.endpoints (t.choice.place - 1) ≡ Some t.choice.endpoint

-- such lists where the node has tables of the family, and else the lists as they are
abbrev pub looked_if : Bool → Setting → List PortInfo → Packet → RecentParts → RecentParts
looked_if true setting infos packet lists = looked_among setting infos packet lists
looked_if false setting infos packet lists = lists

-- the lists as they stand before the decision on a packet by what its family knows of the ports sets a source
abbrev pub looked_for : Settings → (Family → List PortInfo) → Packet → RecentParts → RecentParts
looked_for settings infos packet lists =
    let family = family_of_packet packet in
    looked_if (has_tables_of family settings) (view_of family settings) (infos family) packet lists

-- lists stand as they were looked at, or also as before where ports may be refused
abbrev pub IsLooked : Bool → RecentParts → RecentParts → RecentParts → Type 0
IsLooked true before looked after = (after ≡ before) ⊎ (after ≡ looked)
IsLooked false before looked after = after ≡ looked

-- lists stand as a decision looks at them before it sets a source, or also as before where ports may be refused
abbrev pub IsBeforeSet :
    Bool → Bool → Settings → (Family → List PortInfo) → Packet → RecentParts → RecentParts → Type 0
IsBeforeSet refuses changes settings infos packet before after =
    IsLooked refuses before (cond changes (looked_for settings infos packet before) before) after

-- a recent list has the source
abbrev pub has_source : RecentParts → List ℕ → AddressParts → Bool
has_source lists name source = list_any (is_of source) (sightings lists (shard_of name source))

-- a source is set that its list lacks, where a translation is told: lists are changed, the port has affinity,
-- and the endpoint's list lacks the source
pub record IsNewAt (changes : Bool) (name_length : ℕ) (t : Translation) (source : AddressParts) (lists : RecentParts) : Type 0 where
  pub changed : changes ≡ true
  pub has_affinity : is_some t.door.info.affinity ≡ true
  pub lacks : has_source lists (endpoint_chain_name name_length t.door.info.key t.choice.endpoint) source ≡ false

-- a source would be set that its list lacks: lists are changed, the packet goes to an endpoint of a port with
-- affinity, and the endpoint's list, as it was looked at, lacks the packet's source
pub record IsNewSource (changes : Bool) (setting : Setting) (infos : List PortInfo) (packet : Packet) (draws : ℕ → ℕ) (before : RecentParts) : Type 0 where
  pub changed : changes ≡ true
  pub translation : definition.Translation
  pub translated : translation_of setting infos packet draws before ≡ Some translation
  pub has_affinity : is_some translation.door.info.affinity ≡ true
  pub lacks : has_source (looked_among setting infos packet before) (recent_name setting translation.door.info.key translation.chosen.endpoint) packet.source ≡ false
