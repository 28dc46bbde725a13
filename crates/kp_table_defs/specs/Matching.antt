-- Which packets a rule's matches take (iptables(8) and iptables-extensions(8): addrtype, mark, statistic,
-- recent). Matches are tried from the left, and the first that fails ends the trying.
use Rattle.std.specs.Prelude.{ℕ, ◌+◌, ◌-◌, ◌^◌, ◌==◌, ◌&&◌, Bool, true, false, List, [], ◌∷◌, not, cond, min}
use Rattle.kp_base.specs.Net.{AddressParts, range_contains, is_local_address}
use Rattle.kp_base.specs.declared.port.Proto as protocol
use Rattle.kp_types.specs.Ports.{same_proto}
use Rattle.kp_types.specs.declared.packet.Origin.{Origin}
use Rattle.kp_types.specs.declared.rule.Match.{Match}
use Rattle.kp_types.specs.declared.rule.Match.TheVariants.{Src, Dst, Proto, Port, SrcLocal, DstLocal, Marked, Statistic, Seen, SetSeen}
use Rattle.kp_choice_defs.specs.Draws.{draw_at, draw_matches}
use Rattle.kp_choice_defs.specs.Recent.{RecentParts, is_live, reaped, set_at}

-- where a walk stands: the source, the destination and its port as they are by now, the mark, how many
-- draws were used, and the recent lists
pub record WalkState : Type 0 where
  pub source : AddressParts
  pub target : AddressParts
  pub port : ℕ
  pub marked : Bool
  pub used : ℕ
  pub lists : RecentParts

-- what a walk may ask: the node's addresses, what no rule changes of the packet, and its draws
pub record Surroundings : Type 0 where
  pub node_addresses : List AddressParts
  pub from : Origin
  pub proto : protocol.Proto
  pub now : ℕ
  pub draws : ℕ → ℕ

-- whether a match holds, and the state after it was tried
pub record Tried : Type 0 where
  pub holds : Bool
  pub state : WalkState

-- a test, or its negation
abbrev pub negated_if : Bool → Bool → Bool
negated_if true b = not b
negated_if false b = b

-- a match that changes nothing
abbrev pub tried_as : WalkState → Bool → Tried
tried_as s b = record { holds = b; state = s }

-- the state with one more draw used; the count stands still at its type's end
abbrev pub with_draw : WalkState → WalkState
with_draw s = record s { used = min (s.used + 1) (2 ^ 32 - 1) }

-- the state with other recent lists
abbrev pub with_lists : WalkState → RecentParts → WalkState
with_lists s lists = record s { lists = lists }

-- one match
abbrev pub try_match : Surroundings → Match → WalkState → Tried
try_match e (Src range negated) s = tried_as s (negated_if negated (range_contains range s.source))
try_match e (Dst range negated) s = tried_as s (negated_if negated (range_contains range s.target))
try_match e (Proto proto) s = tried_as s (same_proto proto e.proto)
try_match e (Port proto port) s = tried_as s (same_proto proto e.proto && (port == s.port))
try_match e SrcLocal s = tried_as s (is_local_address e.node_addresses s.source)
try_match e DstLocal s = tried_as s (is_local_address e.node_addresses s.target)
try_match e (Marked negated) s = tried_as s (negated_if negated s.marked)
try_match e (Statistic p) s = tried_as (with_draw s) (draw_matches p (draw_at e.draws s.used))
try_match e (Seen list seconds) s =
    tried_as (with_lists s (reaped s.lists list s.source e.now seconds))
    (is_live s.lists list s.source e.now seconds)
try_match e (SetSeen list) s =
    tried_as (with_lists s (set_at s.lists list s.source e.now)) true

-- the matches behind one that was tried
abbrev pub and_also : Tried → (WalkState → Tried) → Tried
and_also t next = cond t.holds (next t.state) t

-- all matches of a rule
abbrev pub try_all : Surroundings → List Match → WalkState → Tried
try_all e [] s = tried_as s true
try_all e (m ∷ ms) s = and_also (try_match e m s) (try_all e ms)
