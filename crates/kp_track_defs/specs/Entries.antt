-- Connections, and what is kept of the flow that opened one: where it was sent, and which flows are
-- its replies (netfilter's connection tracking: the original and the reply direction). The timeouts
-- are those of an established connection of TCP and SCTP and of a UDP stream; that they are the same
-- from the first packet on is this project's choice.
use Rattle.std.specs.Prelude.{ℕ, ◌-◌, ◌==◌, ◌&&◌, ◌||◌, nat_le, Bool, false, List, [], ◌∷◌, cond, Option, Some, None}
use Rattle.kp_base.specs.Net.{same_address}
use Rattle.kp_base.specs.Keys.{same_proto}
use Rattle.kp_base.specs.declared.key.Endpoint.{Endpoint}
use Rattle.kp_base.specs.declared.port.Proto.{Proto}
use Rattle.kp_base.specs.declared.port.Proto.TheVariants.{Sctp, Tcp, Udp}
use Rattle.kp_track_defs.specs.declared.flow.Connection.{Connection}
use Rattle.kp_track_defs.specs.declared.flow.Entry.{Entry}
use Rattle.kp_track_defs.specs.declared.flow.Flow.{Flow}
use Rattle.kp_track_defs.specs.declared.flow.Owned.{Owned}
use Rattle.kp_track_defs.specs.declared.flow.Owned.TheVariants.{Later, Reply}

-- after how many seconds without a flow a connection ends
abbrev pub timeout_of : Proto → ℕ
timeout_of Tcp = 432000
timeout_of Udp = 120
timeout_of Sctp = 432000

-- the connection of a flow
abbrev pub connection_of : Flow → Connection
connection_of f = record {
  proto = f.packet.proto;
  source = f.packet.source;
  source_port = f.source_port;
  target = f.packet.target;
  port = f.packet.port;
}

-- whether two connections are one
abbrev pub same_connection : Connection → Connection → Bool
same_connection a b =
    same_proto a.proto b.proto
    && (same_address a.source b.source
    && (same_address a.target b.target && ((a.source_port == b.source_port) && (a.port == b.port))))

-- the door that the opening flow was sent to
abbrev pub door_of : Entry → Endpoint
door_of e = record { address = e.connection.target; port = e.connection.port }

-- the connection that replies have: from the endpoint to the source
abbrev pub reply_from : Entry → Connection
reply_from e = record {
  proto = e.connection.proto;
  source = e.endpoint.address;
  source_port = e.endpoint.port;
  target = e.connection.source;
  port = e.connection.source_port;
}

-- a source that is masqueraded, or whose port isn't told, is sent no reply
abbrev pub has_no_reply : Entry → Bool
has_no_reply e = e.masked || (e.connection.source_port == 0)

-- the connection of the replies, where there are any
abbrev pub reply_of : Entry → Option Connection
reply_of e = cond (has_no_reply e) None (Some (reply_from e))

-- an entry is of a connection
abbrev pub has_connection : Connection → Entry → Bool
has_connection c e = same_connection e.connection c

-- a connection is this one, where there is one
abbrev pub is_connection : Connection → Option Connection → Bool
is_connection c None = false
is_connection c (Some r) = same_connection r c

-- an entry has replies of a connection
abbrev pub is_replied_by : Connection → Entry → Bool
is_replied_by c e = is_connection c (reply_of e)

-- the latest flow of an entry is no longer ago than its timeout
abbrev pub is_within : ℕ → Entry → Bool
is_within now e = nat_le (now - e.latest) (timeout_of e.connection.proto)

-- an entry once one more flow of its connection came
abbrev pub renewed : ℕ → Entry → Entry
renewed now e = record e { latest = now }

-- what a flow is answered, by the entry of its connection and by the one whose reply it is: the
-- first counts before the second
abbrev pub answer_by : Option Entry → Option Entry → Option Owned
answer_by (Some e) reply = Some (Later e.endpoint e.masked)
answer_by None (Some e) = Some (Reply (door_of e))
answer_by None None = None

-- a list with its first element changed that passes a test
abbrev pub change_first : {A : Type 0} → (A → Bool) → (A → A) → List A → List A
change_first test change [] = []
change_first test change (x ∷ xs) =
    cond (test x) (change x ∷ xs) (x ∷ change_first test change xs)
