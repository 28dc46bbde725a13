-- The lines of the worked runs as they are typed, and what they read as.
use Rattle.std.specs.Prelude.{◌≡◌, ℕ, Bool, true, false, List, [], ◌∷◌, ◌++◌, codes, Option, Some, None}
use Rattle.kp_base.specs.declared.address.Family.TheVariants.{V4}
use Rattle.kp_base.specs.declared.config.Config.{Config}
use Rattle.kp_types.specs.Setting.{FamilyConfig, config_for}
use Rattle.kp_types.specs.declared.packet.Packet.{Packet}
use Rattle.kp_text_defs.specs.declared.draws.Draws.{Draws}
use Rattle.kp_text_defs.specs.declared.script.Op.{Op}
use Rattle.kp_text_defs.specs.declared.script.Op.TheVariants as op
use Rattle.kp_text_defs.specs.declared.script.Shown.TheVariants.{Nat}
use Rattle.kp_text_defs.specs.SaidLines.{said}
use Rattle.kp_text_defs.specs.declared.said.Said.TheVariants.{Nothing, Asks, Refuses}
use Rattle.kp_run_defs.specs.LiveLines.{reading_of}
use Rattle.kp_run_defs.specs.LegalRuns.{LiveRun}
use Rattle.kp_run_defs.specs.WorkedLive.{Read}
use Rattle.kp_worked.specs.Setting.{config, first, second}
use Rattle.kp_worked.specs.Events.{apply_web}
use Rattle.kp_worked_runs.specs.Runs.{main, plain, apply_slice, feeds, sent, showing, refused_at_end}

-- the configuration, with more members
abbrev pub config_with : List ℕ → List ℕ
config_with more =
    codes "{\"op\":\"config\",\"node\":\"n1\",\"nodeAddresses\":[\"10.0.0.1\"],"
    ++ codes "\"clusterCIDR\":\"10.244.0.0/16\"" ++ more ++ codes "}"

-- names of chains of their prefixes alone
abbrev pub plain_text : List ℕ
plain_text = config_with (codes ",\"nameLength\":0")

-- what is shown
abbrev pub show_text : List ℕ
show_text = codes "{\"op\":\"show\",\"what\":\"nat\"}"

-- the Service
abbrev pub web_text : List ℕ
web_text =
    codes "{\"apiVersion\":\"v1\",\"kind\":\"Service\",\"metadata\":{\"name\":\"web\"},"
    ++ codes "\"spec\":{\"clusterIP\":\"10.96.0.10\","
    ++ codes "\"ports\":[{\"port\":80,\"targetPort\":8080}]}}"

-- its slice, with these endpoints
abbrev pub slice_text : List ℕ → List ℕ
slice_text endpoints =
    codes "{\"apiVersion\":\"discovery.k8s.io/v1\",\"kind\":\"EndpointSlice\","
    ++ codes "\"metadata\":{\"name\":\"web-x\","
    ++ codes "\"labels\":{\"kubernetes.io/service-name\":\"web\"}},"
    ++ codes "\"addressType\":\"IPv4\",\"ports\":[{\"port\":8080}],\"endpoints\":[" ++ endpoints
    ++ codes "]}"

-- the first endpoint
abbrev pub first_text : List ℕ
first_text = codes "{\"addresses\":[\"10.244.1.2\"],\"nodeName\":\"n1\"}"

-- the second
abbrev pub second_text : List ℕ
second_text = codes "{\"addresses\":[\"10.244.2.3\"],\"nodeName\":\"n2\"}"

-- a sync
abbrev pub sync_text : List ℕ
sync_text = codes "{\"op\":\"sync\"}"

-- a packet of a pod to the Service
abbrev pub sent_text : List ℕ
sent_text =
    codes "{\"op\":\"packet\",\"src\":\"10.244.9.9\",\"dst\":\"10.96.0.10\","
    ++ codes "\"dport\":80,\"draws\":[]}"

-- the line of a sync
abbrev pub SyncReads : Type 0
SyncReads = said (Some sync_text) false ≡ main op.Sync

-- of what is shown
abbrev pub ShowReads : Type 0
ShowReads = said (Some show_text) false ≡ main (op.Show Nat)

-- of the Service
abbrev pub WebReads : Type 0
WebReads = said (Some web_text) false ≡ feeds apply_web

-- of its slice
abbrev pub SliceReads : Type 0
SliceReads = said (Some (slice_text first_text)) false ≡ feeds (apply_slice (first ∷ []))

-- of its slice with the other endpoint
abbrev pub OtherSliceReads : Type 0
OtherSliceReads = said (Some (slice_text second_text)) false ≡ feeds (apply_slice (second ∷ []))

-- ---- Lines with bounds of numbers, beside these

-- the packet of an operation that sends one
abbrev pub packet_in : Op → Option (Packet × (Draws × Bool))
packet_in (op.Config c) = None
packet_in (op.Events events) = None
packet_in op.Sync = None
packet_in (op.Packet p) = Some (p.packet, (p.draws, p.trail))
packet_in (op.Explain p) = None
packet_in (op.Show what) = None

-- what a configuration tells, and its sizes
abbrev pub told_by : Config → FamilyConfig × List ℕ
told_by c =
    (config_for V4 c, c.max_per_slice ∷ c.max_events ∷ c.recent_size ∷ c.name_length ∷ [])

-- the configuration of an operation that is one
abbrev pub config_in : Op → Option (FamilyConfig × List ℕ)
config_in (op.Config c) = Some (told_by c)
config_in (op.Events events) = None
config_in op.Sync = None
config_in (op.Packet p) = None
config_in (op.Explain p) = None
config_in (op.Show what) = None

-- the operation of a line that reads
abbrev pub op_in : {A : Type 0} → (Op → Option A) → Read → Option A
op_in of Nothing = None
op_in of (Asks line) = of line.op
op_in of (Refuses why) = None

-- the line of a packet
abbrev pub SentReads : Type 0
SentReads =
    op_in packet_in (said (Some sent_text) false) ≡ Some (sent.packet, (sent.draws, sent.trail))

-- of the configuration
abbrev pub ConfigReads : Type 0
ConfigReads = op_in config_in (said (Some (config_with [])) true) ≡ Some (told_by config)

-- of the same with names of chains of their prefixes alone
abbrev pub PlainReads : Type 0
PlainReads = op_in config_in (said (Some plain_text) true) ≡ Some (told_by plain)

-- ---- Whole inputs

-- lines as they are typed read as a worked run does
abbrev pub ReadsAs : LiveRun → List (List ℕ) → Type 0
ReadsAs run typed =
    let r = reading_of typed in
    (r.lines ≡ run.reading.lines) × (r.refused ≡ run.reading.refused)
    × (r.streams ≡ run.reading.streams) × (told_by r.config ≡ told_by run.reading.config)

-- what is shown and the Service, behind a configuration
abbrev pub ShowingTyped : Type 0
ShowingTyped = ReadsAs showing (config_with [] ∷ show_text ∷ web_text ∷ [])

-- the Service and its slice of two endpoints
abbrev pub RefusedTyped : Type 0
RefusedTyped =
    ReadsAs refused_at_end
    (plain_text ∷ web_text ∷ slice_text (first_text ++ codes "," ++ second_text) ∷ [])
