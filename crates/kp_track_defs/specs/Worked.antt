-- Connections worked out by hand. A client, 10.244.9.9, calls the cluster address 10.96.0.10 at port
-- 80, of which 10.244.1.2 and 10.244.2.3 are endpoints at port 8080.
use Rattle.std.specs.Prelude.{◌≡◌, ℕ, ◌+◌, ◌*◌, true, false, List, [], ◌∷◌, not, Option, Some, None}
use Rattle.kp_base.specs.Net.{AddressParts, v4_address, v6_address}
use Rattle.kp_base.specs.declared.key.Endpoint.{Endpoint}
use Rattle.kp_base.specs.declared.port.Proto.{Proto}
use Rattle.kp_base.specs.declared.port.Proto.TheVariants.{Sctp, Tcp, Udp}
use Rattle.kp_types.specs.declared.packet.Origin.TheVariants.{Wire}
use Rattle.kp_types.specs.declared.service.Policy.TheVariants.{Cluster}
use Rattle.kp_types.specs.declared.verdict.Verdict.TheVariants.{To, Rejected, Dropped, LeftAlone}
use Rattle.kp_object_defs.specs.PortInfo.{PortInfo}
use Rattle.kp_track_defs.specs.declared.flow.Flow.{Flow}
use Rattle.kp_track_defs.specs.declared.flow.Owned.{Owned}
use Rattle.kp_track_defs.specs.declared.flow.Owned.TheVariants.{Later, Reply}
use Rattle.kp_track_defs.specs.Stands.{is_endpoint, stands_in}
use Rattle.kp_track_defs.specs.Steps.{Step, Passed, Synced, tracked_after}
use Rattle.kp_track_defs.specs.Tracking.{is_kept, owned}

-- ---- The setting

-- the IPv4 address of four numbers
abbrev pub ipv4 : ℕ → ℕ → ℕ → ℕ → AddressParts
ipv4 a b c d = v4_address (((a * 256 + b) * 256 + c) * 256 + d)

abbrev pub client : AddressParts
client = ipv4 10 244 9 9

-- an endpoint at this address
abbrev pub at_8080 : AddressParts → Endpoint
at_8080 a = record { address = a; port = 8080 }

abbrev pub ep1 : Endpoint
ep1 = at_8080 (ipv4 10 244 1 2)

abbrev pub ep2 : Endpoint
ep2 = at_8080 (ipv4 10 244 2 3)

-- the Service's door, and that of another one
abbrev pub web : Endpoint
web = record { address = ipv4 10 96 0 10; port = 80 }

abbrev pub other : Endpoint
other = record { address = ipv4 10 96 0 20; port = 80 }

-- a flow from a source and its port to an endpoint, at a moment
abbrev pub flow : Proto → AddressParts → ℕ → Endpoint → ℕ → Flow
flow proto source source_port target now = record {
  packet = record {
    from = Wire;
    source = source;
    target = target.address;
    proto = proto;
    port = target.port;
    now = now;
  };
  source_port = source_port;
}

-- the client's flow to the Service, from port 40000
abbrev pub calls : Proto → ℕ → Flow
calls proto now = flow proto client 40000 web now

-- what the first endpoint sends back to it
abbrev pub replies : Proto → ℕ → Flow
replies proto now = flow proto ep1.address ep1.port (record { address = client; port = 40000 }) now

-- the client's flow once it was sent to the first endpoint
abbrev pub sent : Flow → Step
sent f = Passed f (To ep1 false)

-- a flow that the rules leave alone
abbrev pub left : Flow → Step
left f = Passed f LeftAlone

-- what a flow is answered after steps
abbrev pub answered : List Step → Flow → Option Owned
answered steps f = owned (tracked_after steps) f

-- a sync after which this endpoint doesn't stand
abbrev pub without : Endpoint → Step
without e = Synced (λ f. not (is_endpoint f e))

-- ---- Later flows and replies

-- a flow that nobody owns is answered by the rules
abbrev pub NobodyOwns : Type 0
NobodyOwns = answered [] (calls Tcp 0) ≡ None

-- the next packet goes where the first went
abbrev pub LaterFollows : Type 0
LaterFollows = answered (sent (calls Tcp 0) ∷ []) (calls Tcp 1) ≡ Some (Later ep1 false)

-- a reply has the door as its source
abbrev pub ReplyHasDoor : Type 0
ReplyHasDoor = answered (sent (calls Tcp 0) ∷ []) (replies Tcp 1) ≡ Some (Reply web)

-- whatever the rules say by then, a later flow follows the first
abbrev pub LaterVerdictIsUnseen : Type 0
LaterVerdictIsUnseen =
    answered (sent (calls Tcp 0) ∷ Passed (calls Tcp 1) (To ep2 false) ∷ []) (calls Tcp 2)
    ≡ Some (Later ep1 false)

-- a masked opener has later flows, and no replies
abbrev pub MaskedLater : Type 0
MaskedLater =
    answered (Passed (calls Tcp 0) (To ep1 true) ∷ []) (calls Tcp 1) ≡ Some (Later ep1 true)

abbrev pub MaskedHasNoReply : Type 0
MaskedHasNoReply = answered (Passed (calls Tcp 0) (To ep1 true) ∷ []) (replies Tcp 1) ≡ None

-- a flow whose source port isn't told has later flows, and no replies
abbrev pub PortZeroLater : Type 0
PortZeroLater =
    answered (sent (flow Tcp client 0 web 0) ∷ []) (flow Tcp client 0 web 1)
    ≡ Some (Later ep1 false)

abbrev pub PortZeroHasNoReply : Type 0
PortZeroHasNoReply =
    answered (sent (flow Tcp client 0 web 0) ∷ [])
    (flow Tcp ep1.address 8080 (record { address = client; port = 0 }) 1)
    ≡ None

-- connections differ in protocol, source, source port, target and port
abbrev pub OtherProtocol : Type 0
OtherProtocol = answered (sent (calls Tcp 0) ∷ []) (calls Udp 1) ≡ None

abbrev pub OtherSource : Type 0
OtherSource =
    answered (sent (calls Tcp 0) ∷ []) (flow Tcp (ipv4 10 244 9 10) 40000 web 1) ≡ None

abbrev pub OtherSourcePort : Type 0
OtherSourcePort = answered (sent (calls Tcp 0) ∷ []) (flow Tcp client 40001 web 1) ≡ None

abbrev pub OtherTarget : Type 0
OtherTarget = answered (sent (calls Tcp 0) ∷ []) (flow Tcp client 40000 other 1) ≡ None

abbrev pub OtherPort : Type 0
OtherPort =
    answered (sent (calls Tcp 0) ∷ []) (flow Tcp client 40000 (record web { port = 81 }) 1) ≡ None

abbrev pub OtherFamily : Type 0
OtherFamily =
    answered (sent (calls Tcp 0) ∷ [])
    (flow Tcp (v6_address client.number) 40000 (record web { address = v6_address web.address.number }) 1)
    ≡ None

-- the endpoint itself isn't the door: a packet to it has its own connection
abbrev pub EndpointIsNotDoor : Type 0
EndpointIsNotDoor = answered (sent (calls Tcp 0) ∷ []) (flow Tcp client 40000 ep1 1) ≡ None

-- ---- What is kept

-- only what was sent to an endpoint is kept
abbrev pub KeptByVerdict : Type 0
KeptByVerdict =
    (is_kept (tracked_after []) (calls Tcp 0) (To ep1 false) ≡ true)
    × (is_kept (tracked_after []) (calls Tcp 0) Rejected ≡ false)
    × (is_kept (tracked_after []) (calls Tcp 0) Dropped ≡ false)
    × (is_kept (tracked_after []) (calls Tcp 0) LeftAlone ≡ false)

abbrev pub LeftAloneOwnsNothing : Type 0
LeftAloneOwnsNothing = answered (left (calls Tcp 0) ∷ []) (calls Tcp 1) ≡ None

-- ---- Timeouts

-- an opener of UDP lives 120 seconds without a flow, and no second more
abbrev pub UdpAtTimeout : Type 0
UdpAtTimeout = answered (sent (calls Udp 0) ∷ []) (calls Udp 120) ≡ Some (Later ep1 false)

abbrev pub UdpPastTimeout : Type 0
UdpPastTimeout = answered (sent (calls Udp 0) ∷ []) (calls Udp 121) ≡ None

-- those of TCP and SCTP five days
abbrev pub TcpAtTimeout : Type 0
TcpAtTimeout = answered (sent (calls Tcp 0) ∷ []) (calls Tcp 432000) ≡ Some (Later ep1 false)

abbrev pub TcpPastTimeout : Type 0
TcpPastTimeout = answered (sent (calls Tcp 0) ∷ []) (calls Tcp 432001) ≡ None

abbrev pub SctpAtTimeout : Type 0
SctpAtTimeout = answered (sent (calls Sctp 0) ∷ []) (replies Sctp 432000) ≡ Some (Reply web)

abbrev pub SctpPastTimeout : Type 0
SctpPastTimeout = answered (sent (calls Sctp 0) ∷ []) (replies Sctp 432001) ≡ None

-- each owned flow renews its opener, a reply too
abbrev pub LaterRenews : Type 0
LaterRenews =
    answered (sent (calls Udp 0) ∷ sent (calls Udp 100) ∷ []) (calls Udp 220)
    ≡ Some (Later ep1 false)

abbrev pub LaterRenewsOnce : Type 0
LaterRenewsOnce =
    answered (sent (calls Udp 0) ∷ sent (calls Udp 100) ∷ []) (calls Udp 221) ≡ None

abbrev pub ReplyRenews : Type 0
ReplyRenews =
    answered (sent (calls Udp 0) ∷ left (replies Udp 100) ∷ []) (calls Udp 220)
    ≡ Some (Later ep1 false)

-- the moment is the greatest so far, of flows left alone too, and never falls
abbrev pub MomentStays : Type 0
MomentStays =
    answered (sent (calls Udp 0) ∷ left (flow Tcp client 50000 other 121) ∷ []) (calls Udp 0)
    ≡ None

abbrev pub EarlierMomentIsOwned : Type 0
EarlierMomentIsOwned =
    answered (sent (calls Udp 500) ∷ []) (calls Udp 0) ≡ Some (Later ep1 false)

-- a connection that ended opens anew
abbrev pub OpensAnew : Type 0
OpensAnew =
    answered (sent (calls Udp 0) ∷ Passed (calls Udp 121) (To ep2 false) ∷ []) (calls Udp 122)
    ≡ Some (Later ep2 false)

-- ---- Several openers

-- of two openers with one reply the earlier answers, while it lives
abbrev pub two_doors : List Step
two_doors = sent (calls Udp 0) ∷ sent (flow Udp client 40000 other 100) ∷ []

abbrev pub EarlierReplies : Type 0
EarlierReplies = answered two_doors (replies Udp 120) ≡ Some (Reply web)

abbrev pub LaterOneReplies : Type 0
LaterOneReplies = answered two_doors (replies Udp 121) ≡ Some (Reply other)

-- a connection's owner comes before a reply's
abbrev pub ConnectionBeforeReply : Type 0
ConnectionBeforeReply =
    answered
    (Passed (replies Tcp 0) (To ep2 false) ∷ sent (calls Tcp 0) ∷ []) (replies Tcp 1)
    ≡ Some (Later ep2 false)

-- ---- Syncs

-- a sync ends what was open of UDP with an endpoint that went
abbrev pub UdpIsCleared : Type 0
UdpIsCleared = answered (sent (calls Udp 0) ∷ without ep1 ∷ []) (calls Udp 1) ≡ None

abbrev pub UdpReplyIsCleared : Type 0
UdpReplyIsCleared = answered (sent (calls Udp 0) ∷ without ep1 ∷ []) (replies Udp 1) ≡ None

-- and then it is sent anew
abbrev pub UdpIsSentAnew : Type 0
UdpIsSentAnew =
    answered
    (sent (calls Udp 0) ∷ without ep1 ∷ Passed (calls Udp 1) (To ep2 false) ∷ [])
    (calls Udp 2)
    ≡ Some (Later ep2 false)

-- TCP and SCTP stay with an endpoint that went
abbrev pub TcpStays : Type 0
TcpStays = answered (sent (calls Tcp 0) ∷ without ep1 ∷ []) (calls Tcp 1) ≡ Some (Later ep1 false)

abbrev pub SctpStays : Type 0
SctpStays =
    answered (sent (calls Sctp 0) ∷ without ep1 ∷ []) (calls Sctp 1) ≡ Some (Later ep1 false)

-- UDP stays with an endpoint that stands
abbrev pub UdpStays : Type 0
UdpStays = answered (sent (calls Udp 0) ∷ without ep2 ∷ []) (calls Udp 1) ≡ Some (Later ep1 false)

-- an endpoint that comes back brings nothing back
abbrev pub NothingComesBack : Type 0
NothingComesBack =
    answered (sent (calls Udp 0) ∷ without ep1 ∷ without ep2 ∷ []) (calls Udp 1) ≡ None

-- ---- Endpoints that stand

-- a port of this protocol with these lists
abbrev pub port_of : Proto → List Endpoint → List Endpoint → PortInfo
port_of proto cluster local = record {
  key = record {
    object = record { namespace = []; name = [] };
    port_name = [];
    proto = proto;
  };
  number = 80;
  address = web.address;
  external = [];
  balancer = [];
  node_port = None;
  ranges = None;
  affinity = None;
  internal = Cluster;
  outer = Cluster;
  lists = record { cluster = cluster; local = local; has_any = true };
}

-- an endpoint stands by either list of a UDP port
abbrev pub StandsByCluster : Type 0
StandsByCluster = stands_in (port_of Udp (ep1 ∷ []) [] ∷ []) ep1 ≡ true

abbrev pub StandsByLocal : Type 0
StandsByLocal = stands_in (port_of Udp [] (ep1 ∷ []) ∷ []) ep1 ≡ true

-- not by one of TCP, nor by another address or port
abbrev pub TcpStandsForNothing : Type 0
TcpStandsForNothing = stands_in (port_of Tcp (ep1 ∷ []) (ep1 ∷ []) ∷ []) ep1 ≡ false

abbrev pub OthersStandAlone : Type 0
OthersStandAlone =
    stands_in (port_of Udp (ep2 ∷ record ep1 { port = 8081 } ∷ []) [] ∷ []) ep1 ≡ false

-- what one port loses may stand by another
abbrev pub StandsByAnotherPort : Type 0
StandsByAnotherPort = stands_in (port_of Udp [] [] ∷ port_of Udp (ep1 ∷ []) [] ∷ []) ep1 ≡ true
