-- What a map answers, and what becomes of recent lists that it looks at.
use Rattle.std.proofs.Common.{◌≡◌, ◌%◌, ℕ, suc, Bool, true, false, cond, List, [], ◌∷◌, Option}
use Rattle.std.proofs.Common.{Some, None, Ok, Err, filter, length, refl, ap, ◌∙◌}
use Rattle.std.specs.Prelude.{Result, OnOk, OnErr}
use Rattle.kp_base.specs.Net.{AddressParts}
use Rattle.kp_base.specs.declared.address.Family.{Family}
use Rattle.kp_base.specs.declared.key.Endpoint.{Endpoint}
use Rattle.kp_types.specs.Packets.{family_of_packet}
use Rattle.kp_types.specs.Setting.{Setting, Settings, has_tables_of, view_of}
use Rattle.kp_types.specs.declared.decision.Decision.{Decision}
use Rattle.kp_types.specs.declared.packet.Packet.{Packet}
use Rattle.kp_choice_defs.specs.Recent.{RecentParts, Shard, Sighting, is_live, is_within, reaped}
use Rattle.kp_choice_defs.specs.Recent.{shard_of, sightings, with_sightings}
use Rattle.kp_object_defs.specs.PortInfo.{PortInfo}
use Rattle.kp_door_defs.specs.Choice.{live_endpoint, recent_name}
use Rattle.kp_door_defs.specs.Decision.{Decided}
use Rattle.kp_door_defs.specs.Doors.{Door, offer_of, taking_door}
use Rattle.kp_decide.specs.Looked.{looked, looked_at, looked_for, looked_if}
use Rattle.kp_decide.specs.Told.{told}
use Rattle.kp_mode.specs.Calls.{covered_by}
use Rattle.kp_modes.specs.Mapping.{map_step, mapped}
use Rattle.kp_part_laws.specs.Beside.{IsInPart}
use Rattle.kp_part_laws.proofs.Steps.{step_sized}
use Rattle.kp_plane.specs.Parts.{PlaneParts, objects_in, syncs_in}
use Rattle.kp_run_defs.specs.AnswerText.{answer_text, draws_at}
use Rattle.kp_text_defs.specs.declared.packet.PacketLine.{PacketLine}
use Rattle.kp_vmap_defs.proofs.KnownPorts.{map_decides}
use Rattle.kp_vmap_defs.specs.Remainder.{known_in, map_decision, remainder_settings}
use Rattle.kp_vmap_defs.specs.VerdictMap.{VerdictMap, map_of}
use Rattle.kp_workers.specs.Workers.{SeesAs}
use Rattle.kp_workers.proofs.AnswerLemmas.{sees_decides}
use Rattle.kp_modes.proofs.DecidesAmong.{decides_among}

-- ---- Parts of recent lists

-- an answer looks at the part of the packet's source
pub step_in_part : (m : VerdictMap) (number sync : ℕ) (p : PacketLine)
    → IsInPart (p.packet.source.number % 16) (map_step m number sync p)
step_in_part m number sync p change lists unseen =
    ap (λ (d : Decided). (answer_text number sync p d.verdict [], d.lists))
    (decides_among change (remainder_settings m.config) (known_in m) p.packet
    (draws_at number p.draws) lists
    (unseen p.packet.source refl))

-- and keeps the size of lists
pub decided_sized : (m : VerdictMap) (number : ℕ) (p : PacketLine) (lists : RecentParts)
    → (map_decision m p.packet (draws_at number p.draws) lists).lists.size ≡ lists.size
decided_sized m number p lists =
    step_sized (p.packet.source.number % 16) (map_step m number 0 p)
    (step_in_part m number 0 p) lists

sightings_sized : (lists : RecentParts) (at : Shard) (found : List Sighting)
    → (with_sightings lists at found).size ≡ lists.size
sightings_sized lists at [] = refl
sightings_sized lists at (s ∷ found) = refl

reap_sized : (lists : RecentParts) (list : List ℕ) (source : AddressParts) (now seconds : ℕ)
    → (reaped lists list source now seconds).size ≡ lists.size
reap_sized lists list source now seconds =
    sightings_sized lists (shard_of list source)
    (filter (is_within now seconds) (sightings lists (shard_of list source)))

look_sized : (name : Endpoint → List ℕ) (source : AddressParts) (now seconds place : ℕ)
    (es : List Endpoint)
    (lists : RecentParts) → (live_endpoint name source now seconds place es lists).lists.size
    ≡ lists.size
look_sized name source now seconds place [] lists = refl
look_sized name source now seconds place (e ∷ es) lists =
    let reap = reap_sized lists (name e) source now seconds in
    let rest = look_sized name source now seconds (suc place) es
    (reaped lists (name e) source now seconds) ∙ reap in
    elim (is_live lists (name e) source now seconds) as (λ b.
    (cond b (record { found = Some (e, place); lists = reaped lists (name e) source now seconds })
    (live_endpoint name source now seconds (suc place) es
    (reaped lists (name e) source now seconds))).lists.size
    ≡ lists.size) [ true ↦ reap | false ↦ rest ]

looks_sized : (name : Endpoint → List ℕ) (affinity : Option ℕ) (source : AddressParts) (now : ℕ)
    (es : List Endpoint) (lists : RecentParts) → (looked name affinity source now es lists).size
    ≡ lists.size
looks_sized name None source now es lists = refl
looks_sized name (Some seconds) source now es lists = look_sized name source now seconds 0 es lists

door_sized : (setting : Setting) (packet : Packet) (lists : RecentParts) (d : Option Door)
    → (looked_at setting packet lists d).size ≡ lists.size
door_sized setting packet lists None = refl
door_sized setting packet lists (Some d) =
    looks_sized (recent_name setting d.info.key) d.info.affinity packet.source packet.now
    (offer_of setting.config packet d).endpoints lists

if_sized : (b : Bool) (setting : Setting) (infos : List PortInfo) (packet : Packet)
    (lists : RecentParts)
    → (looked_if b setting infos packet lists).size ≡ lists.size
if_sized true setting infos packet lists =
    door_sized setting packet lists (taking_door setting.config infos packet)
if_sized false setting infos packet lists = refl

-- so does a look
pub looked_sized : (settings : Settings) (infos : Family → List PortInfo) (packet : Packet)
    (lists : RecentParts)
    → (looked_for settings infos packet lists).size ≡ lists.size
looked_sized settings infos packet lists =
    let family = family_of_packet packet in
    if_sized (has_tables_of family settings) (view_of family settings) (infos family) packet lists

-- ---- Answers

-- a map of the objects that are covered answers as the mode does
pub packet_alike : (p : PlaneParts) (m : VerdictMap) (sync number : ℕ) (line : PacketLine)
    (lists : RecentParts)
    → m ≡ map_of p.config (objects_in p) → sync ≡ syncs_in p
    → map_step m number sync line lists
    ≡ (
      answer_text number (length p.counts) line
          (mapped (covered_by p) number line lists).verdict [],
      (mapped (covered_by p) number line lists).lists,
    )
packet_alike p m sync number line lists is syncs =
    (λ i. map_step (is i) number (syncs i) line lists)
    ∙ ap (λ (d : Decided). (answer_text number (length p.counts) line d.verdict [], d.lists))
    (map_decides p.config (objects_in p) line.packet (draws_at number line.draws) lists)

-- what a decision tells
abbrev pub told_of : Decided → Decision
told_of d = record { verdict = d.verdict; reason = d.reason }

-- and explains as the mode does, by lists that have in the part of the packet's source what all
-- have
pub explained_alike : (p : PlaneParts) (m : VerdictMap) (number : ℕ) (line : PacketLine)
    (own all : RecentParts)
    → m ≡ map_of p.config (objects_in p) → SeesAs line.packet.source own all
    → told (map_decision m line.packet (draws_at number line.draws) own)
    ≡ told_of (mapped (covered_by p) number line all)
explained_alike p m number line own all is sees =
    let same = sees_decides (remainder_settings p.config) (objects_in p) line.packet
    (draws_at number line.draws) own all sees in
    (λ i. told (map_decision (is i) line.packet (draws_at number line.draws) own))
    ∙ ap told (map_decides p.config (objects_in p) line.packet (draws_at number line.draws) own)
    ∙ (λ i. record { verdict = same.0 i; reason = same.1 i })

-- what follows from either result
pub of_either : {X E : Type 0} (r : Result X E) {P Q : Type 0} (R : Type 0) → OnOk r P → OnErr r Q
    → (P → R) → (Q → R) → R
of_either (Ok x) R done refused f g = f done
of_either (Err e) R done refused f g = g refused
