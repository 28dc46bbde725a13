-- Whom a destination serves: each address is of one kind of source, and addresses of one kind get
-- the same.
use Rattle.std.specs.Prelude.{◌≡◌, ◌<◌, ◌≤◌, ◌^◌, ◌&&◌, ℕ, nat_lt, Bool, true, false, List, [], ◌∷◌, map, Contains, count_by, Option, Some, None}
use Rattle.std.specs.List.{list_all, list_any}
use Rattle.kp_base.specs.Net.{AddressParts, same_address, width}
use Rattle.kp_base.specs.declared.address.Family.{Family}
use Rattle.kp_base.specs.declared.key.Endpoint.{Endpoint}
use Rattle.kp_types.specs.Setting.{FamilyConfig, Setting}
use Rattle.kp_types.specs.declared.packet.Packet.{Packet}
use Rattle.kp_types.specs.declared.verdict.Verdict.{Verdict}
use Rattle.kp_types.specs.declared.verdict.Verdict.TheVariants.{To}
use Rattle.kp_choice_defs.specs.Recent.{RecentParts}
use Rattle.kp_choice_defs.specs.Settings.{pick_by_draws}
use Rattle.kp_object_defs.specs.PortInfo.{PortInfo}
use Rattle.kp_door_defs.specs.Decision.{Translation, decision_from, sent_to, translation_of}
use Rattle.kp_door_defs.specs.Doors.{Door, offer_of, taking_door}
use Rattle.kp_door_defs.specs.Filter.{Line, filtered}
use Rattle.kp_decide.specs.Findings.{fitting_doors}
use Rattle.kp_decide.specs.Looked.{has_source}
use Rattle.kp_decide.specs.Told.{told}
use Rattle.kp_path_defs.specs.Paths.{refusing_door}
use Rattle.kp_path_defs.specs.Sources.{Closes, Opens, Restricted, Served, Source, asked_from, cause_at, counts_of, is_masked_at, kinds_of, restricted, same_kind, served_of, sources_of, verdict_of, whence_of}
use Rattle.kp_path_laws.specs.EndpointLaws.{FitsDoor}

-- the load balancers with source ranges whose doors a packet fits
abbrev pub asked_of : FamilyConfig → List PortInfo → Packet → List Restricted
asked_of config infos packet = restricted (fitting_doors config infos packet)

-- Each address of a family is of exactly one of the kinds.
abbrev pub OneKind : Type 0
OneKind =
    (family : Family) (config : FamilyConfig) (rs : List Restricted) (a : AddressParts)
    → a.family ≡ family → a.number < 2 ^ width family
    → count_by (same_kind config rs a) (kinds_of family config rs) ≡ 1

-- each number is below all that stand behind it
abbrev pub are_rising : List ℕ → Bool
are_rising [] = true
are_rising (n ∷ ns) = list_all (nat_lt n) ns && are_rising ns

-- Kinds stand in rising order of their addresses,
abbrev pub KindsRise : Type 0
KindsRise =
    (family : Family) (config : FamilyConfig) (rs : List Restricted)
    → are_rising (map (λ k. k.number) (kinds_of family config rs)) ≡ true

-- each by the least address of its kind that the family has.
abbrev pub LeastOfKind : Type 0
LeastOfKind =
    (family : Family) (config : FamilyConfig) (rs : List Restricted) (a k : AddressParts)
    → a.family ≡ family → a.number < 2 ^ width family
    → Contains (kinds_of family config rs) k → same_kind config rs a k ≡ true
    → (k.family ≡ family) × (k.number ≤ a.number)

-- So where a door fits, an address of a family is of the kind of exactly one source.
abbrev pub OneSource : Type 0
OneSource =
    (family : Family) (config : FamilyConfig) (infos : List PortInfo) (packet : Packet)
    (a : AddressParts)
    → FitsDoor config infos packet → a.family ≡ family → a.number < 2 ^ width family
    → count_by (λ s. same_kind config (asked_of config infos packet) a s.address)
    (sources_of family config infos packet)
    ≡ 1

-- Two addresses of one kind are served alike, as a line on them says it.
abbrev pub ServedAlike : Type 0
ServedAlike =
    (config : FamilyConfig) (infos : List PortInfo) (packet : Packet) (a b : AddressParts)
    → same_kind config (asked_of config infos packet) a b ≡ true
    → served_of config infos (asked_from config packet a)
    ≡ served_of config infos (asked_from config packet b)

-- no recent list has a source
abbrev pub IsUnseen : RecentParts → AddressParts → Type 0
IsUnseen lists source = (name : List ℕ) → has_source lists name source ≡ false

-- the endpoints that the door that takes a packet offers it, if one does
abbrev pub offered_by : FamilyConfig → Packet → Option Door → List Endpoint
offered_by config packet None = []
offered_by config packet (Some d) = (offer_of config packet d).endpoints

-- a packet's source is the address of none of them
abbrev pub IsNoEndpoint : FamilyConfig → List PortInfo → Packet → Type 0
IsNoEndpoint config infos packet =
    list_any (λ e. same_address e.address packet.source)
    (offered_by config packet (taking_door config infos packet))
    ≡ false

-- Two addresses of one kind that are no endpoints and in no recent list get the same verdict for the
-- same reason by the same draws.
abbrev pub DecidedAlike : Type 0
DecidedAlike =
    (setting : Setting) (infos : List PortInfo) (packet : Packet) (draws : ℕ → ℕ)
    (lists : RecentParts) (a b : AddressParts)
    → same_kind setting.config (asked_of setting.config infos packet) a b ≡ true
    → IsUnseen lists a → IsUnseen lists b
    → IsNoEndpoint setting.config infos (asked_from setting.config packet a)
    → IsNoEndpoint setting.config infos (asked_from setting.config packet b)
    → told (decision_from setting infos (asked_from setting.config packet a) draws lists)
    ≡ told (decision_from setting infos (asked_from setting.config packet b) draws lists)

-- the verdict on a packet that is sent to an endpoint: the filter's, or else that it goes there,
-- masked or not
abbrev pub verdict_sent : FamilyConfig → Packet → Door → Endpoint → Option Line → Verdict
verdict_sent config packet d e (Some line) = verdict_of line.refusal
verdict_sent config packet d e None = To e (is_masked_at config d packet e)

-- What a line says of a packet: the door that translates it, its list, the counts there and the
-- verdict at the endpoint that is picked; or that none does, the verdict, the door that refuses it,
-- and why that offers nothing.
abbrev pub Says :
    FamilyConfig → List PortInfo → Packet → Served → Option Translation → Verdict → Type 0
Says config infos packet (Opens counts d offer) translation verdict =
    (t : Translation) × (translation ≡ Some t) × (t.door ≡ d) × (t.offer ≡ offer)
    × (counts ≡ counts_of config infos packet d offer.endpoints)
    × Contains offer.endpoints t.chosen.endpoint
    × (verdict
    ≡ verdict_sent config packet d t.chosen.endpoint
    (filtered config infos (sent_to packet t.chosen.endpoint)))
Says config infos packet (Closes closed cause d) translation verdict =
    (translation ≡ None) × (verdict ≡ closed)
    × (refusing_door config infos packet ≡ Some d) × (cause ≡ cause_at d packet.source)

-- An address of the kind of a source that is no endpoint is where the source is, and gets what it
-- says.
abbrev pub AsSaid : Type 0
AsSaid =
    (family : Family) (setting : Setting) (infos : List PortInfo) (packet : Packet)
    (draws : ℕ → ℕ) (lists : RecentParts) (a : AddressParts) (s : Source)
    → setting.pick ≡ pick_by_draws
    → Contains (sources_of family setting.config infos packet) s
    → same_kind setting.config (asked_of setting.config infos packet) a s.address ≡ true
    → IsNoEndpoint setting.config infos (asked_from setting.config packet a)
    → (whence_of setting.config a ≡ s.whence)
    × Says setting.config infos (asked_from setting.config packet a) s.served
    (translation_of setting infos (asked_from setting.config packet a) draws lists)
    (decision_from setting infos (asked_from setting.config packet a) draws lists).verdict
