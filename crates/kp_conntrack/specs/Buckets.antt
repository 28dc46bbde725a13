-- Where entries stand among the lists of a tracker. The hash is SipHash-1-3 with the key 0, so who
-- picks flows can have them share a bucket; what that costs is a longer search.
use Rattle.std.specs.Prelude.{ℕ, ◌%◌, Bool, false, cond, ◌==◌, Option, None, Some, option_map}
use Rattle.std.specs.List.{fold}
use Rattle.std.specs.Hash.DefaultHasher as sip
use Rattle.kp_base.specs.Keys.{same_proto}
use Rattle.kp_base.specs.contracts.key.EndpointHash.TheImpl as endpoint_hash
use Rattle.kp_base.specs.declared.key.Endpoint.{Endpoint}
use Rattle.kp_base.specs.declared.port.Proto.{Proto}
use Rattle.kp_base.specs.declared.port.Proto.TheVariants.{Sctp, Tcp, Udp}
use Rattle.kp_track_defs.specs.contracts.flow.ConnectionHash.TheImpl as connection_hash
use Rattle.kp_track_defs.specs.declared.flow.Connection.{Connection}
use Rattle.kp_track_defs.specs.declared.flow.Entry.{Entry}
use Rattle.kp_track_defs.specs.Entries.{reply_of}

-- the bucket of a connection
unfoldable pub connection_bucket : Connection → ℕ
connection_bucket c = sip.finish (fold sip.write sip.initial (connection_hash.ghosts.hash_input c)) % 262144

-- the bucket of an endpoint
unfoldable pub endpoint_bucket : Endpoint → ℕ
endpoint_bucket e = sip.finish (fold sip.write sip.initial (endpoint_hash.ghosts.hash_input e)) % 262144

-- where an entry is found by its connection
abbrev pub connection_place : Entry → Option ℕ
connection_place e = Some (connection_bucket e.connection)

-- where it is found by the connection of its replies
abbrev pub reply_place : Entry → Option ℕ
reply_place e = option_map connection_bucket (reply_of e)

-- where one of UDP is found by its endpoint
abbrev pub endpoint_place : Entry → Option ℕ
endpoint_place e =
    cond (same_proto e.connection.proto Udp) (Some (endpoint_bucket e.endpoint)) None

-- the list of entries that have the timeout of a protocol
abbrev pub age_of : Proto → ℕ
age_of Udp = 0
age_of Tcp = 1
age_of Sctp = 1

-- the list that an entry is in by its age
abbrev pub age_list : Entry → ℕ
age_list e = age_of e.connection.proto

-- a place is this one
abbrev pub is_placed : ℕ → Option ℕ → Bool
is_placed b None = false
is_placed b (Some place) = place == b
