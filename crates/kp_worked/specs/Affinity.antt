-- Worked examples of session affinity (Kubernetes documents on virtual IPs, "Session affinity";
-- iptables-extensions, recent). The Service has two endpoints.
use Rattle.std.specs.Prelude.{◌≡◌, ℕ, false, List, [], ◌∷◌, map, Some}
use Rattle.kp_base.specs.Net.{AddressParts}
use Rattle.kp_types.specs.declared.packet.Packet.{Packet}
use Rattle.kp_types.specs.declared.service.Service.{Service}
use Rattle.kp_types.specs.declared.verdict.Verdict.{Verdict}
use Rattle.kp_types.specs.declared.verdict.Verdict.TheVariants.{To}
use Rattle.kp_types.specs.declared.decision.Decision.{Decision}
use Rattle.kp_types.specs.declared.decision.Reason.TheVariants as reason
use Rattle.kp_types.specs.declared.decision.DoorKind.TheVariants as door
use Rattle.kp_types.specs.declared.decision.ListKind.TheVariants as list_kind
use Rattle.kp_types.specs.declared.decision.ChosenBy.TheVariants.{Affinity, Draws}
use Rattle.kp_choice_defs.specs.Draws.{draw_of_list}
use Rattle.kp_choice_defs.specs.Recent.{RecentParts}
use Rattle.kp_object_defs.specs.PortInfo.{PortInfo}
use Rattle.kp_door_defs.specs.Decision.{decision_from}
use Rattle.kp_worked.specs.Setting.{ipv4, setting, web, web_port, infos, ep1, ep2, empty_lists, other_pod, to_web}
use Rattle.kp_worked.specs.Decisions.{two}

-- the decisions on packets with their draws, one after another
abbrev pub answers : List PortInfo → List (Packet × List ℕ) → RecentParts → List Decision
answers ports [] lists = []
answers ports (p ∷ ps) lists =
    let d = decision_from setting ports p.0 (draw_of_list p.1) lists in
    (record { verdict = d.verdict; reason = d.reason }) ∷ answers ports ps d.lists

-- the Service under session affinity with a timeout
abbrev pub under_affinity : ℕ → Service
under_affinity seconds = record web { affinity = Some seconds }

-- the verdicts on packets, where the timeout is three hours and so many sources are remembered
abbrev pub verdicts : ℕ → List (Packet × List ℕ) → List Verdict
verdicts size packets = map (λ a. a.verdict) (answers (infos (under_affinity 10800) two) packets (empty_lists size))

-- a packet of a source at a moment
abbrev pub from_at : AddressParts → ℕ → Packet
from_at source now = record (to_web source) { now = now }

-- packets of one source: the first is drawn to the first endpoint, and the next ages are 10800 and 10801
abbrev pub in_time : List (Packet × List ℕ)
in_time = (from_at other_pod 100, 0 ∷ []) ∷ (from_at other_pod 10900, []) ∷ (from_at other_pod 21701, []) ∷ []

-- a source that was set within 10800 seconds stays, and is set again; after 10801 it is drawn anew
abbrev pub Timeout : Type 0
Timeout = verdicts 100 in_time ≡ To ep1 false ∷ To ep1 false ∷ To ep2 false ∷ []

-- packets of three sources that are in one part
abbrev pub of_one_part : List (Packet × List ℕ)
of_one_part =
    (from_at (ipv4 10 244 9 1) 100, 0 ∷ [])
    ∷ (from_at (ipv4 10 244 9 17) 100, 0 ∷ [])
    ∷ (from_at (ipv4 10 244 9 33) 100, 0 ∷ [])
    ∷ (from_at (ipv4 10 244 9 1) 100, [])
    ∷ (from_at (ipv4 10 244 9 17) 100, [])
    ∷ []

-- a full part of a recent list loses the source that was set first
abbrev pub FullPart : Type 0
FullPart =
    verdicts 2 of_one_part
    ≡ To ep1 false ∷ To ep1 false ∷ To ep1 false ∷ To ep2 false ∷ To ep1 false ∷ []

-- packets of one source, the last of which is past a timeout of a minute
abbrev pub in_minutes : List (Packet × List ℕ)
in_minutes = (from_at other_pod 100, 0 ∷ []) ∷ (from_at other_pod 160, []) ∷ (from_at other_pod 221, []) ∷ []

-- the reasons tell how the endpoint was chosen
abbrev pub Reasons : Type 0
Reasons =
    map (λ a. a.reason) (answers (infos (under_affinity 60) two) in_minutes (empty_lists 100))
    ≡ reason.Door door.Cluster web_port list_kind.Cluster 2 Draws 1
    ∷ reason.Door door.Cluster web_port list_kind.Cluster 2 Affinity 1
    ∷ reason.Door door.Cluster web_port list_kind.Cluster 2 Draws 2
    ∷ []
