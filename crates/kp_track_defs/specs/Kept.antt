-- What a tracker keeps: the entries of live openers alone, in their order. It answers as the list of
-- all openers does (`TrackLaws`).
use Rattle.std.specs.Prelude.{ℕ, ◌&&◌, nat_lt, Bool, List, [], ◌++◌, length, not, map, cond, Option, None, is_some}
use Rattle.std.specs.List.{filter, find, fold, list_any}
use Rattle.std.specs.Option.{option_to_list}
use Rattle.kp_base.specs.Keys.{same_proto}
use Rattle.kp_base.specs.declared.key.Endpoint.{Endpoint}
use Rattle.kp_base.specs.declared.port.Proto.TheVariants.{Udp}
use Rattle.kp_types.specs.declared.verdict.Verdict.{Verdict}
use Rattle.kp_track_defs.specs.declared.flow.Connection.{Connection}
use Rattle.kp_track_defs.specs.declared.flow.Entry.{Entry}
use Rattle.kp_track_defs.specs.declared.flow.Flow.{Flow}
use Rattle.kp_track_defs.specs.declared.flow.Owned.{Owned}
use Rattle.kp_track_defs.specs.Entries.{answer_by, change_first, connection_of, has_connection, is_replied_by, is_within, renewed}
use Rattle.kp_track_defs.specs.Stands.{is_endpoint}
use Rattle.kp_track_defs.specs.Tracking.{Tracked, entry_by, is_live, loses, moment_at, most_openers}

-- the entries of live openers, and the greatest moment of the flows so far
pub record Kept : Type 0 where
  pub entries : List Entry
  pub moment : ℕ

-- before the first flow
abbrev pub nothing_kept : Kept
nothing_kept = record { entries = []; moment = 0 }

-- what a tracker keeps of all that is tracked
abbrev pub kept_part : Tracked → Kept
kept_part t = record {
  entries = map (λ o. o.entry) (filter (is_live t.moment) t.openers);
  moment = t.moment;
}

-- what is left at the moment of a flow: entries within their timeouts
abbrev pub at_flow : Kept → Flow → Kept
at_flow k f = record {
  entries = filter (is_within (moment_at k.moment f)) k.entries;
  moment = moment_at k.moment f;
}

-- what a flow of a connection is answered, where somebody owns it
abbrev pub kept_answer : Connection → List Entry → Option Owned
kept_answer c entries =
    answer_by (find (has_connection c) entries) (find (is_replied_by c) entries)

-- the entries once the owner of a flow has heard of it
abbrev pub kept_heard : ℕ → Connection → List Entry → List Entry
kept_heard now c entries =
    cond (list_any (has_connection c) entries)
    (change_first (has_connection c) (renewed now) entries)
    (change_first (is_replied_by c) (renewed now) entries)

-- what a flow is answered, where somebody owns it
abbrev pub kept_owned : Kept → Flow → Option Owned
kept_owned k f = kept_answer (connection_of f) (at_flow k f).entries

-- what is kept after a flow that somebody owns; of another one its moment
abbrev pub kept_after_owned : Kept → Flow → Kept
kept_after_owned k f =
    let left = at_flow k f in
    record left { entries = kept_heard left.moment (connection_of f) left.entries }

-- the entry that is kept of a flow that opens, where there is room
abbrev pub kept_entry : Kept → Flow → Verdict → Option Entry
kept_entry k f verdict =
    cond (nat_lt (length (at_flow k f).entries) most_openers)
    (entry_by (at_flow k f).moment f verdict)
    None

-- whether a flow that opens is kept
abbrev pub keeps : Kept → Flow → Verdict → Bool
keeps k f verdict = is_some (kept_entry k f verdict)

-- what is kept after a flow that opens
abbrev pub kept_after_opened : Kept → Flow → Verdict → Kept
kept_after_opened k f verdict =
    let left = at_flow k f in
    record left { entries = left.entries ++ option_to_list (kept_entry k f verdict) }

-- what is kept after a flow
abbrev pub kept_after_flow : Kept → Flow → Verdict → Kept
kept_after_flow k f verdict =
    cond (is_some (kept_owned k f)) (kept_after_owned k f) (kept_after_opened k f verdict)

-- what is kept after a sync, by which endpoints stand
abbrev pub kept_after_sync : (Endpoint → Bool) → Kept → Kept
kept_after_sync stands k =
    record k { entries = filter (λ e. not (loses stands e)) k.entries }

-- an entry of UDP was sent to an endpoint
abbrev pub is_sent_to : Endpoint → Entry → Bool
is_sent_to endpoint e = same_proto e.connection.proto Udp && is_endpoint e.endpoint endpoint

-- what is kept without what was sent to an endpoint of UDP
abbrev pub without_endpoint : Endpoint → Kept → Kept
without_endpoint endpoint k =
    record k { entries = filter (λ e. not (is_sent_to endpoint e)) k.entries }

-- what is kept once endpoints were cleared one after the other
abbrev pub without_endpoints : List Endpoint → Kept → Kept
without_endpoints endpoints k = fold (λ left endpoint. without_endpoint endpoint left) k endpoints
