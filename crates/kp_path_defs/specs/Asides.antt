-- The endpoints of a port that a packet isn't sent to, and why (Kubernetes documents on EndpointSlices,
-- "Conditions"; on traffic policies; on topology hints; KEP-1669; what is said first is this project's choice).
use Rattle.std.specs.Prelude.{◌==◌, ◌&&◌, ◌||◌, Bool, true, false, List, [], ◌∷◌, map, not, cond, Option, Some, None}
use Rattle.std.specs.List.{filter, list_any}
use Rattle.std.specs.FinMap as finite
use Rattle.kp_base.specs.Net.{AddressParts, same_address}
use Rattle.kp_base.specs.declared.address.Family.{Family}
use Rattle.kp_base.specs.declared.key.Endpoint.{Endpoint}
use Rattle.kp_base.specs.declared.key.PortKey.{PortKey}
use Rattle.kp_types.specs.Setting.{FamilyConfig}
use Rattle.kp_types.specs.declared.decision.ChosenBy.{ChosenBy}
use Rattle.kp_types.specs.declared.decision.ChosenBy.TheVariants.{Affinity, Draws}
use Rattle.kp_types.specs.declared.decision.DoorKind.{DoorKind}
use Rattle.kp_types.specs.declared.decision.DoorKind.TheVariants as door
use Rattle.kp_types.specs.declared.decision.ListKind.{ListKind}
use Rattle.kp_types.specs.declared.decision.ListKind.TheVariants as list_kind
use Rattle.kp_types.specs.declared.lists.Candidate.{Candidate}
use Rattle.kp_types.specs.declared.service.Service.{Service}
use Rattle.kp_object_defs.specs.Entries.{entries_of}
use Rattle.kp_object_defs.specs.Lists.{is_ready, is_serving_terminating}
use Rattle.kp_object_defs.specs.Objects.{Objects}
use Rattle.kp_object_defs.specs.PortInfo.{PortInfo}
use Rattle.kp_door_defs.specs.Decision.{Translation}
use Rattle.kp_door_defs.specs.Doors.{Door, Offer, is_admitted, offer_by_policy, outer_offer}

-- why an endpoint is none that a packet goes to
pub data Why : Type 0 where
  NotReady : Why
  OtherNode : Why
  Terminating : Why
  OtherZone : Why
  NotAdmitted : Why
  KeptElsewhere : Why

-- an endpoint of a port, and why
pub record Aside : Type 0 where
  pub endpoint : Endpoint
  pub why : Why

-- whether two endpoints are one
abbrev pub same_endpoint : Endpoint → Endpoint → Bool
same_endpoint a b = same_address a.address b.address && (a.port == b.port)

-- a list has an endpoint
abbrev pub has_endpoint : List Endpoint → Endpoint → Bool
has_endpoint endpoints e = list_any (same_endpoint e) endpoints

-- the list of a door of this kind for a source, whoever is admitted
abbrev pub list_at : FamilyConfig → DoorKind → PortInfo → AddressParts → Offer
list_at config door.Cluster i source = offer_by_policy i i.internal
list_at config door.External i source = outer_offer config i i.outer source
list_at config door.Balancer i source = outer_offer config i i.outer source
list_at config door.Node i source = outer_offer config i i.outer source

-- only load balancers ask who is admitted
abbrev pub admits : DoorKind → PortInfo → AddressParts → Bool
admits door.Cluster i source = true
admits door.External i source = true
admits door.Balancer i source = is_admitted i.ranges source
admits door.Node i source = true

-- an endpoint may be used: it is ready, or still serves
abbrev pub is_usable : Candidate → Bool
is_usable c = is_ready c || is_serving_terminating c

-- an endpoint is of another node than a list is for
abbrev pub is_elsewhere : ListKind → Candidate → Bool
is_elsewhere list_kind.Local c = not c.local
is_elsewhere list_kind.Cluster c = false

-- why a list leaves out an endpoint that may be used
abbrev pub why_left_out : ListKind → Candidate → Why
why_left_out kind c =
    cond (is_elsewhere kind c) OtherNode (cond (is_ready c) OtherZone Terminating)

-- why a packet isn't sent to an endpoint of its list
abbrev pub why_listed : FamilyConfig → Door → AddressParts → Why
why_listed config d source = cond (admits d.kind d.info source) KeptElsewhere NotAdmitted

-- why a packet from a source isn't sent to an endpoint of the port of the door that answers it
abbrev pub why_of : FamilyConfig → Door → AddressParts → Candidate → Why
why_of config d source c =
    let offer = list_at config d.kind d.info source in
    cond (is_usable c)
    (cond (has_endpoint offer.endpoints c.endpoint) (why_listed config d source)
    (why_left_out offer.kind c))
    NotReady

-- the endpoints that draws may pick, or the one that affinity keeps
abbrev pub reached_by : ChosenBy → List Endpoint → Endpoint → List Endpoint
reached_by Draws endpoints e = endpoints
reached_by Affinity endpoints e = e ∷ []

-- the endpoints that a packet may be sent to
abbrev pub reached : Option Translation → List Endpoint
reached None = []
reached (Some t) = reached_by t.chosen.by t.offer.endpoints t.chosen.endpoint

-- the endpoints of a port of a Service, if it is there
abbrev pub entries_at : Family → FamilyConfig → Objects → PortKey → Option Service → List Candidate
entries_at family config o key None = []
entries_at family config o key (Some s) = entries_of family config o s key

-- the endpoints of a port
abbrev pub entries_of_port : Family → FamilyConfig → Objects → PortKey → List Candidate
entries_of_port family config o key =
    entries_at family config o key (finite.get o.services key.object)

-- of the endpoints of the port of the door that answers a packet from a source, those that it isn't sent to, in
-- the port's order
abbrev pub asides_among :
    FamilyConfig → Door → AddressParts → Option Translation → List Candidate → List Aside
asides_among config d source t entries =
    map (λ c. record { endpoint = c.endpoint; why = why_of config d source c })
    (filter (λ c. not (has_endpoint (reached t) c.endpoint)) entries)
