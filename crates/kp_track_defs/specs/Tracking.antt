-- Connection tracking as a stateful node does it: the flow that opens a connection is answered by the
-- rules, and the later flows and the replies follow it (netfilter's connection tracking). Nothing is
-- ever taken from the list of openers: which of them are live is told by moments alone.
use Rattle.std.specs.Prelude.{ℕ, ◌-◌, ◌&&◌, max, nat_le, nat_lt, Bool, true, false, List, [], ◌∷◌, ◌++◌, not, map, cond, count_by, Option, Some, None, option_map, is_some}
use Rattle.std.specs.List.{find, list_any}
use Rattle.std.specs.Option.{option_to_list}
use Rattle.kp_base.specs.Keys.{same_proto}
use Rattle.kp_base.specs.declared.key.Endpoint.{Endpoint}
use Rattle.kp_base.specs.declared.port.Proto.TheVariants.{Udp}
use Rattle.kp_types.specs.declared.verdict.Verdict.{Verdict}
use Rattle.kp_types.specs.declared.verdict.Verdict.TheVariants.{To, Rejected, Dropped, LeftAlone}
use Rattle.kp_track_defs.specs.declared.flow.Connection.{Connection}
use Rattle.kp_track_defs.specs.declared.flow.Entry.{Entry}
use Rattle.kp_track_defs.specs.declared.flow.Flow.{Flow}
use Rattle.kp_track_defs.specs.declared.flow.Owned.{Owned}
use Rattle.kp_track_defs.specs.Entries.{answer_by, change_first, connection_of, has_connection, is_replied_by, renewed, timeout_of}

-- ---- Openers

-- A flow that opened a connection and was kept: its entry, the moments of its connection's flows
-- before the latest, the newest first, and whether a sync has cleared it since.
pub record Opener : Type 0 where
  pub entry : Entry
  pub earlier : List ℕ
  pub cleared : Bool

-- how many openers may be live
abbrev pub most_openers : ℕ
most_openers = 65536

-- no two neighbours of these moments, the newest first, are further apart than so many seconds
abbrev pub unbroken : ℕ → ℕ → List ℕ → Bool
unbroken seconds now [] = true
unbroken seconds now (m ∷ ms) = nat_le (now - m) seconds && unbroken seconds m ms

-- an opener is live at a moment: from its own flow on until then there was no gap of more than the
-- timeout, and no sync has cleared it
abbrev pub is_live : ℕ → Opener → Bool
is_live now o =
    not o.cleared
    && unbroken (timeout_of o.entry.connection.proto) now (o.entry.latest ∷ o.earlier)

-- a live opener has a connection
abbrev pub live_with : ℕ → Connection → Opener → Bool
live_with now c o = is_live now o && has_connection c o.entry

-- a live opener has replies of a connection
abbrev pub live_replied_by : ℕ → Connection → Opener → Bool
live_replied_by now c o = is_live now o && is_replied_by c o.entry

-- an opener once it owned one more flow
abbrev pub heard : ℕ → Opener → Opener
heard now o = record o { entry = renewed now o.entry; earlier = o.entry.latest ∷ o.earlier }

-- ---- The state

-- the openers that were kept, in order, and the greatest moment of the flows so far
pub record Tracked : Type 0 where
  pub openers : List Opener
  pub moment : ℕ

-- before the first flow
abbrev pub nothing_tracked : Tracked
nothing_tracked = record { openers = []; moment = 0 }

-- the moment of a flow
abbrev pub moment_at : ℕ → Flow → ℕ
moment_at moment f = max moment f.packet.now

-- ---- Owned flows

-- the entry of the first opener that passes a test
abbrev pub entry_of_first : (Opener → Bool) → List Opener → Option Entry
entry_of_first test openers = option_map (λ o. o.entry) (find test openers)

-- what a flow of a connection is answered at a moment, where somebody owns it: the live opener of its
-- connection does, or else the earliest live one whose reply it is
abbrev pub owned_at : ℕ → Connection → List Opener → Option Owned
owned_at now c openers =
    answer_by (entry_of_first (live_with now c) openers)
    (entry_of_first (live_replied_by now c) openers)

-- the openers once the owner of a flow has heard of it
abbrev pub heard_at : ℕ → Connection → List Opener → List Opener
heard_at now c openers =
    cond (list_any (live_with now c) openers)
    (change_first (live_with now c) (heard now) openers)
    (change_first (live_replied_by now c) (heard now) openers)

-- what a flow is answered, where somebody owns it
abbrev pub owned : Tracked → Flow → Option Owned
owned t f = owned_at (moment_at t.moment f) (connection_of f) t.openers

-- what is tracked after a flow that somebody owns
abbrev pub after_owned : Tracked → Flow → Tracked
after_owned t f = record {
  openers = heard_at (moment_at t.moment f) (connection_of f) t.openers;
  moment = moment_at t.moment f;
}

-- ---- Flows that open

-- fewer openers are live than may be
abbrev pub has_room : ℕ → List Opener → Bool
has_room now openers = nat_lt (count_by (is_live now) openers) most_openers

-- the entry of a flow that opens, by its verdict: one that is sent nowhere has none
abbrev pub entry_by : ℕ → Flow → Verdict → Option Entry
entry_by now f (To endpoint masked) =
    Some (record {
      connection = connection_of f;
      endpoint = endpoint;
      masked = masked;
      latest = now;
    })
entry_by now f Rejected = None
entry_by now f Dropped = None
entry_by now f LeftAlone = None

-- an opener that has just opened
abbrev pub opener_of : Entry → Opener
opener_of e = record { entry = e; earlier = []; cleared = false }

-- the opener that is kept of a flow that opens, where there is room
abbrev pub kept_opener : Tracked → Flow → Verdict → Option Opener
kept_opener t f verdict =
    cond (has_room (moment_at t.moment f) t.openers)
    (option_map opener_of (entry_by (moment_at t.moment f) f verdict))
    None

-- whether a flow that opens is kept
abbrev pub is_kept : Tracked → Flow → Verdict → Bool
is_kept t f verdict = is_some (kept_opener t f verdict)

-- what is tracked after a flow that opens
abbrev pub after_opened : Tracked → Flow → Verdict → Tracked
after_opened t f verdict = record {
  openers = t.openers ++ option_to_list (kept_opener t f verdict);
  moment = moment_at t.moment f;
}

-- ---- Syncs

-- a UDP opener whose endpoint doesn't stand is cleared
abbrev pub loses : (Endpoint → Bool) → Entry → Bool
loses stands e = same_proto e.connection.proto Udp && not (stands e.endpoint)

-- an opener after a sync, by which endpoints stand
abbrev pub cleared_by : (Endpoint → Bool) → Opener → Opener
cleared_by stands o = cond (loses stands o.entry) (record o { cleared = true }) o

-- what is tracked after a sync
abbrev pub after_sync : (Endpoint → Bool) → Tracked → Tracked
after_sync stands t = record t { openers = map (cleared_by stands) t.openers }
