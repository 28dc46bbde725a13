-- Whom a destination serves: of all addresses of a family, each kind that a decision may tell from the others,
-- and what it gets (Kubernetes documents on virtual IPs, "Source IP for Services"; on traffic policies; on
-- `loadBalancerSourceRanges`). Kinds and their order are this project's choice.
use Rattle.std.specs.Prelude.{ℕ, ◌+◌, ◌*◌, ◌/◌, ◌^◌, ◌==◌, ◌&&◌, nat_lt, Bool, true, false, List, [], ◌∷◌, ◌++◌, length, map, not, cond, count_by, Option, Some, None, is_some}
use Rattle.std.specs.List.{filter, flat_map, list_all, list_any}
use Rattle.std.specs.Option.{option_to_list}
use Rattle.kp_base.specs.Net.{AddressParts, RangeParts, is_local_address, loopback_range, range_contains, range_size, same_family, single_range, width}
use Rattle.kp_base.specs.declared.address.Family.{Family}
use Rattle.kp_base.specs.declared.key.Endpoint.{Endpoint}
use Rattle.kp_base.specs.declared.key.PortKey.{PortKey}
use Rattle.kp_types.specs.Setting.{FamilyConfig}
use Rattle.kp_types.specs.declared.decision.DoorKind.{DoorKind}
use Rattle.kp_types.specs.declared.decision.DoorKind.TheVariants as door
use Rattle.kp_types.specs.declared.packet.Origin.{Origin}
use Rattle.kp_types.specs.declared.packet.Origin.TheVariants as origin
use Rattle.kp_types.specs.declared.packet.Packet.{Packet}
use Rattle.kp_types.specs.declared.verdict.Verdict.{Verdict}
use Rattle.kp_types.specs.declared.verdict.Verdict.TheVariants.{Dropped, LeftAlone, Rejected}
use Rattle.kp_object_defs.specs.PortInfo.{PortInfo}
use Rattle.kp_door_defs.specs.Decision.{sent_to}
use Rattle.kp_door_defs.specs.Doors.{Door, Offer, is_in_cluster, offer_of, taking_door}
use Rattle.kp_door_defs.specs.Filter.{DropsClosed, DropsNoLocal, Line, Refusal, Rejects, filtered}
use Rattle.kp_door_defs.specs.Marks.{leaves_node, marked_at}
use Rattle.kp_path_defs.specs.Asides.{admits}
use Rattle.kp_decide.specs.Findings.{fitting_doors}
use Rattle.kp_path_defs.specs.Paths.{refusing_door}

-- ---- Kinds of addresses

-- where an address is: outside, in the cluster's range, of the node, or both
pub record Whence : Type 0 where
  pub cluster : Bool
  pub node : Bool

abbrev pub whence_of : FamilyConfig → AddressParts → Whence
whence_of config a = record {
  cluster = is_in_cluster config a;
  node = is_local_address config.addresses a;
}

-- packets of the node's own addresses come from the node, and all others from the wire
abbrev pub origin_by : Bool → Origin
origin_by true = origin.Node
origin_by false = origin.Wire

-- the source ranges of a door: those of a load balancer that has some
abbrev pub ranges_at : DoorKind → PortInfo → Option (List RangeParts)
ranges_at door.Balancer i = i.ranges
ranges_at door.Cluster i = None
ranges_at door.External i = None
ranges_at door.Node i = None

-- the ports of load balancers with these source ranges, door by door
pub record Restricted : Type 0 where
  pub port : PortKey
  pub ranges : List RangeParts

abbrev pub restricted_if : PortKey → Option (List RangeParts) → List Restricted
restricted_if port None = []
restricted_if port (Some ranges) = record { port = port; ranges = ranges } ∷ []

abbrev pub restricted : List Door → List Restricted
restricted doors = flat_map (λ d. restricted_if d.info.key (ranges_at d.kind d.info)) doors

-- one of the ranges has an address
abbrev pub is_within : AddressParts → Restricted → Bool
is_within a r = list_any (λ range. range_contains range a) r.ranges

-- two truth values are one
abbrev pub same_bool : Bool → Bool → Bool
same_bool true b = b
same_bool false b = not b

-- Two addresses are of one kind: no decision tells one from the other. What is asked is whether they are in the
-- cluster's range, of the node, and in the source ranges of each load balancer that fits.
abbrev pub same_kind : FamilyConfig → List Restricted → AddressParts → AddressParts → Bool
same_kind config rs a b =
    same_bool (is_in_cluster config a) (is_in_cluster config b)
    && (same_bool (is_local_address config.addresses a) (is_local_address config.addresses b)
    && list_all (λ r. same_bool (is_within a r) (is_within b r)) rs)

-- ---- The least address of each kind

-- the number of the first address of a range
abbrev pub first_in : RangeParts → ℕ
first_in r = let size = range_size r.base.family r.bits in (r.base.number / size) * size

-- the number of the first address past it, where the family has that
abbrev pub past : RangeParts → List ℕ
past r =
    let next = first_in r + range_size r.base.family r.bits in
    cond (nat_lt next (2 ^ width r.base.family)) (next ∷ []) []

-- the ranges that are asked: the cluster's, loopback, each address of the node, and those of load balancers
abbrev pub asked_ranges : Family → FamilyConfig → List Restricted → List RangeParts
asked_ranges family config rs =
    option_to_list config.cluster ++ loopback_range family
    ∷ map single_range (filter (λ a. same_family a.family family) config.addresses)
    ++ flat_map (λ r. r.ranges) rs

-- the numbers at which a kind may begin
abbrev pub bounds : List RangeParts → List ℕ
bounds ranges = 0 ∷ flat_map (λ r. first_in r ∷ past r) ranges

-- a number in a rising list, if it isn't there
abbrev pub placed : ℕ → List ℕ → List ℕ
placed n [] = n ∷ []
placed n (m ∷ ms) =
    cond (nat_lt n m) (n ∷ m ∷ ms) (cond (n == m) (m ∷ ms) (m ∷ placed n ms))

-- numbers in rising order, each once
abbrev pub rising : List ℕ → List ℕ
rising [] = []
rising (n ∷ ns) = placed n (rising ns)

-- those of a list of which none before is of the same kind
abbrev pub first_of_kinds : {A : Type 0} → (A → A → Bool) → List A → List A → List A
first_of_kinds same seen [] = []
first_of_kinds same seen (x ∷ xs) =
    cond (list_any (same x) seen) (first_of_kinds same seen xs)
    (x ∷ first_of_kinds same (x ∷ seen) xs)

-- the least address of each kind that a family has, in order
abbrev pub kinds_of : Family → FamilyConfig → List Restricted → List AddressParts
kinds_of family config rs =
    first_of_kinds (same_kind config rs) []
    (map (λ n. record { family = family; number = n })
    (rising (bounds (asked_ranges family config rs))))

-- ---- What a kind gets

-- of the endpoints of its list, those that it may use, those of them at which it is masqueraded, and those at which
-- the filter refuses it
pub record Counts : Type 0 where
  pub served : ℕ
  pub masked : ℕ
  pub refused : ℕ

-- why it gets none
pub data Cause : Type 0 where
  NoEndpoints : Cause
  NotAdmitted : Cause
  NoLocalEndpoints : Cause

-- what a kind gets at its door
pub data Served : Type 0 where
  Opens : Counts → Door → Offer → Served
  Closes : Verdict → Cause → Door → Served

-- a kind of source, by its least address: where it is, the load balancers in whose ranges it is, and what it gets
pub record Source : Type 0 where
  pub address : AddressParts
  pub whence : Whence
  pub within : List PortKey
  pub served : Served

-- the packet from this address
abbrev pub asked_from : FamilyConfig → Packet → AddressParts → Packet
asked_from config packet a =
    record packet { from = origin_by (is_local_address config.addresses a); source = a }

-- the filter refuses a packet at an endpoint
abbrev pub is_refused_at : FamilyConfig → List PortInfo → Packet → Endpoint → Bool
is_refused_at config infos packet e = is_some (filtered config infos (sent_to packet e))

-- it is marked at the door, and leaves the node for the endpoint
abbrev pub is_masked_at : FamilyConfig → Door → Packet → Endpoint → Bool
is_masked_at config d packet e =
    marked_at config d.kind d.info packet.source && leaves_node config packet e.address

-- the counts of a list of endpoints
abbrev pub counts_of : FamilyConfig → List PortInfo → Packet → Door → List Endpoint → Counts
counts_of config infos packet d endpoints =
    let served = filter (λ e. not (is_refused_at config infos packet e)) endpoints in
    record {
      served = length served;
      masked = count_by (is_masked_at config d packet) served;
      refused = count_by (is_refused_at config infos packet) endpoints;
    }

-- why a door offers nothing to a source
abbrev pub cause_at : Door → AddressParts → Cause
cause_at d source =
    cond d.info.lists.has_any
    (cond (admits d.kind d.info source) NoLocalEndpoints NotAdmitted)
    NoEndpoints

-- the verdict of a refusal
abbrev pub verdict_of : Refusal → Verdict
verdict_of Rejects = Rejected
verdict_of DropsClosed = Dropped
verdict_of DropsNoLocal = Dropped

-- what a packet that no door takes comes to, by the filter's line
abbrev pub verdict_untaken : Option Line → Verdict
verdict_untaken None = LeftAlone
verdict_untaken (Some line) = verdict_of line.refusal

-- what a packet gets, by the door that takes it, or else by the one that refuses it
abbrev pub served_by : FamilyConfig → List PortInfo → Packet → Option Door → Option Door → Option Served
served_by config infos packet (Some d) other =
    let offer = offer_of config packet d in
    Some (Opens (counts_of config infos packet d offer.endpoints) d offer)
served_by config infos packet None (Some d) =
    Some (Closes (verdict_untaken (filtered config infos packet)) (cause_at d packet.source) d)
served_by config infos packet None None = None

-- what a packet gets
abbrev pub served_of : FamilyConfig → List PortInfo → Packet → Option Served
served_of config infos packet =
    served_by config infos packet (taking_door config infos packet)
    (refusing_door config infos packet)

-- a source of this address
abbrev pub source_at : FamilyConfig → List PortInfo → Packet → List Restricted → AddressParts → List Source
source_at config infos packet rs a =
    map (λ served. record {
      address = a;
      whence = whence_of config a;
      within = map (λ r. r.port) (filter (is_within a) rs);
      served = served;
    }) (option_to_list (served_of config infos (asked_from config packet a)))

-- whom the destination of a packet serves: each kind of source, by its least address, in order
abbrev pub sources_of : Family → FamilyConfig → List PortInfo → Packet → List Source
sources_of family config infos packet =
    let rs = restricted (fitting_doors config infos packet) in
    flat_map (source_at config infos packet rs) (kinds_of family config rs)
