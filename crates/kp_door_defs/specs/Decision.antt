-- The decision on a packet by the objects alone: the door that takes it, the endpoint, whether it is
-- masqueraded, and what the filter says of the translated packet (Kubernetes documents on virtual IPs and
-- service proxies). Reasons are this project's choice.
use Rattle.std.specs.Prelude.{ℕ, suc, Bool, true, false, List, length, Option, Some, None, option_and_then, option_map}
use Rattle.kp_base.specs.declared.address.Family.{Family}
use Rattle.kp_base.specs.declared.key.Endpoint.{Endpoint}
use Rattle.kp_types.specs.Packets.{family_of_packet}
use Rattle.kp_types.specs.Setting.{FamilyConfig, Setting, Settings, has_tables_of, view_of}
use Rattle.kp_types.specs.declared.packet.Packet.{Packet}
use Rattle.kp_types.specs.declared.verdict.Verdict.{Verdict}
use Rattle.kp_types.specs.declared.verdict.Verdict.TheVariants.{To, Rejected, Dropped, LeftAlone}
use Rattle.kp_types.specs.declared.decision.Reason.{Reason}
use Rattle.kp_types.specs.declared.decision.Reason.TheVariants as reason
use Rattle.kp_object_defs.specs.Objects.{Objects}
use Rattle.kp_object_defs.specs.PortInfo.{PortInfo, port_infos, infos_by_family}
use Rattle.kp_choice_defs.specs.Recent.{RecentParts}
use Rattle.kp_door_defs.specs.Doors.{Door, Offer, taking_door, offer_of}
use Rattle.kp_door_defs.specs.Choice.{Chosen, chosen_endpoint}
use Rattle.kp_door_defs.specs.Marks.{is_masqueraded}
use Rattle.kp_door_defs.specs.Filter.{Line, Refusal, Rejects, DropsClosed, DropsNoLocal, filtered}

-- the translation of a packet: its door, what that offered, and the chosen endpoint
pub record Translation : Type 0 where
  pub door : Door
  pub offer : Offer
  pub chosen : Chosen

-- the endpoint that a door chooses for a packet
abbrev pub choice_at : Setting → Packet → (ℕ → ℕ) → RecentParts → Door → Option Chosen
choice_at setting packet draws lists d =
    chosen_endpoint setting d.info.key d.info.affinity packet.source packet.now draws
    (offer_of setting.config packet d).endpoints lists

-- the translation at a door
abbrev pub translation_at : Setting → Packet → (ℕ → ℕ) → RecentParts → Door → Option Translation
translation_at setting packet draws lists d =
    option_map (λ c. record { door = d; offer = offer_of setting.config packet d; chosen = c })
    (choice_at setting packet draws lists d)

-- the first door that fits and offers an endpoint translates the packet
abbrev pub translation_of : Setting → List PortInfo → Packet → (ℕ → ℕ) → RecentParts → Option Translation
translation_of setting infos packet draws lists =
    option_and_then (translation_at setting packet draws lists) (taking_door setting.config infos packet)

-- what becomes of a packet, why, and the recent lists afterwards
pub record Decided : Type 0 where
  pub verdict : Verdict
  pub reason : Reason
  pub lists : RecentParts

-- the packet with the destination of an endpoint
abbrev pub sent_to : Packet → Endpoint → Packet
sent_to packet e = record packet { target = e.address; port = e.port }

-- the packet as translated
abbrev pub translated : Packet → Option Translation → Packet
translated packet None = packet
translated packet (Some t) = sent_to packet t.chosen.endpoint

-- the recent lists after a translation, or as they were
abbrev pub lists_after : Option Translation → RecentParts → RecentParts
lists_after None lists = lists
lists_after (Some t) lists = t.chosen.lists

-- the verdict and the reason of a refusal at a door
abbrev pub refused_by : Refusal → Door → RecentParts → Decided
refused_by Rejects d lists = record { verdict = Rejected; reason = reason.NoEndpoints d.kind d.info.key; lists = lists }
refused_by DropsClosed d lists = record { verdict = Dropped; reason = reason.Closed d.kind d.info.key; lists = lists }
refused_by DropsNoLocal d lists = record { verdict = Dropped; reason = reason.NoLocal d.kind d.info.key; lists = lists }

-- no door decides
abbrev pub left_alone : RecentParts → Decided
left_alone lists = record { verdict = LeftAlone; reason = reason.NoDoor; lists = lists }

-- the verdict and the reason of a packet that the filter lets pass
abbrev pub passed : FamilyConfig → Packet → Option Translation → RecentParts → Decided
passed config packet None lists = left_alone lists
passed config packet (Some t) lists = record {
  verdict = To t.chosen.endpoint (is_masqueraded config t.door.kind t.door.info packet t.chosen.endpoint);
  reason = reason.Door t.door.kind t.door.info.key t.offer.kind (length t.offer.endpoints) t.chosen.by (suc t.chosen.place);
  lists = lists;
}

-- what the filter's line says, or else the translation
abbrev pub by_filter : FamilyConfig → Packet → Option Translation → RecentParts → Option Line → Decided
by_filter config packet t lists (Some line) = refused_by line.refusal line.door lists
by_filter config packet t lists None = passed config packet t lists

-- the decision by a translation
abbrev pub decision_by : FamilyConfig → List PortInfo → Packet → RecentParts → Option Translation → Decided
decision_by config infos packet lists t =
    by_filter config packet t (lists_after t lists) (filtered config infos (translated packet t))

-- the decision by what is known of the ports
abbrev pub decision_from : Setting → List PortInfo → Packet → (ℕ → ℕ) → RecentParts → Decided
decision_from setting infos packet draws lists =
    decision_by setting.config infos packet lists (translation_of setting infos packet draws lists)

-- the decision on a packet by the objects, as one family sees them
abbrev pub decision_in : Setting → Objects → Packet → (ℕ → ℕ) → RecentParts → Decided
decision_in setting o packet draws lists =
    decision_from setting (port_infos setting.family setting.config o) packet draws lists

-- such a decision where the node has tables of the family; else the packet is left alone
abbrev pub decision_if : Bool → Setting → List PortInfo → Packet → (ℕ → ℕ) → RecentParts → Decided
decision_if true setting infos packet draws lists = decision_from setting infos packet draws lists
decision_if false setting infos packet draws lists = left_alone lists

-- the decision on a packet by what its family knows of the ports
abbrev pub decision_among :
    Settings → (Family → List PortInfo) → Packet → (ℕ → ℕ) → RecentParts → Decided
decision_among settings infos packet draws lists =
    let family = family_of_packet packet in
    decision_if (has_tables_of family settings) (view_of family settings) (infos family)
    packet draws lists

-- the decision on a packet by the objects
abbrev pub decision_of : Settings → Objects → Packet → (ℕ → ℕ) → RecentParts → Decided
decision_of settings o packet draws lists =
    decision_among settings (infos_by_family settings o) packet draws lists
