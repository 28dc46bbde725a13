-- The walk of a packet through the tables of its address family (iptables(8), ip6tables(8)). The
-- order of the hooks is ours: a kernel has the same verdicts, since no rule of the filter asks for the
-- source that POSTROUTING changes. A chain is walked with a bound on the jumps, and what a jump does is
-- a parameter, so that a law can speak of one chain at a time. All that follows speaks of the tables as
-- IPv4 has them; those of the packet's family take their place in the look-up of chains.
use Rattle.std.specs.Prelude.{ℕ, suc, zero, Bool, true, false, List, [], ◌∷◌, ◌++◌, not, codes, Option, Some, None}
use Rattle.kp_base.specs.Net.{AddressParts, is_local_address}
use Rattle.kp_base.specs.declared.key.Endpoint.{Endpoint}
use Rattle.kp_types.specs.Packets.{family_of_packet}
use Rattle.kp_types.specs.Places.{place_in}
use Rattle.kp_types.specs.declared.chain.TableName.{TableName}
use Rattle.kp_types.specs.declared.chain.TableName.TheVariants.{Nat, Filter}
use Rattle.kp_types.specs.declared.chain.ChainAt.{ChainAt}
use Rattle.kp_types.specs.declared.packet.Packet.{Packet}
use Rattle.kp_types.specs.declared.packet.Origin.{Origin}
use Rattle.kp_types.specs.declared.packet.Origin.TheVariants.{Wire, Node}
use Rattle.kp_types.specs.declared.rule.Rule.{Rule}
use Rattle.kp_types.specs.declared.rule.Target.{Target}
use Rattle.kp_types.specs.declared.rule.Target.TheVariants as target
use Rattle.kp_types.specs.declared.verdict.Verdict.{Verdict}
use Rattle.kp_types.specs.declared.verdict.Verdict.TheVariants.{To, Rejected, Dropped, LeftAlone}
use Rattle.kp_types.specs.declared.walk.Ending.{Ending}
use Rattle.kp_types.specs.declared.walk.Ending.TheVariants as ending
use Rattle.kp_choice_defs.specs.Recent.{RecentParts}
use Rattle.kp_table_defs.specs.Matching.{WalkState, Surroundings, Tried, try_all}

-- The outcome of a rule, of rules or of a chain: the walk goes on behind it; the chain is left; a rule ended
-- the traversal of the hook, on the way through these chains; or a jump goes to no chain, or too deep.
pub data Outcome : Type 0 where
  Next : WalkState → Outcome
  Left : WalkState → Outcome
  Ended : Ending → List (List ℕ) → WalkState → Outcome
  Stuck : Outcome

-- on at Next
abbrev pub and_then : Outcome → (WalkState → Outcome) → Outcome
and_then (Next s) next = next s
and_then (Left s) next = Left s
and_then (Ended end path s) next = Ended end path s
and_then Stuck next = Stuck

-- a chain that is left goes on behind the jump, and an end inside it is on the way through it
abbrev pub returned_from : List ℕ → Outcome → Outcome
returned_from chain (Next s) = Next s
returned_from chain (Left s) = Next s
returned_from chain (Ended end path s) = Ended end (chain ∷ path) s
returned_from chain Stuck = Stuck

-- a rule's target
abbrev pub target_outcome : (List ℕ → WalkState → Outcome) → Target → WalkState → Outcome
target_outcome jump (target.Jump chain) s = jump chain s
target_outcome jump target.Return s = Left s
target_outcome jump target.Accept s = Ended ending.Accept [] s
target_outcome jump target.Drop s = Ended ending.Drop [] s
target_outcome jump target.Reject s = Ended ending.Reject [] s
target_outcome jump target.SetMark s = Next (record s { marked = true })
target_outcome jump target.FlipMark s = Next (record s { marked = not s.marked })
target_outcome jump (target.Dnat endpoint) s = Ended (ending.Dnat endpoint) [] s
target_outcome jump target.Masquerade s = Ended ending.Masquerade [] s

-- a target where the matches held, and else on behind the rule
abbrev pub target_if : Bool → (List ℕ → WalkState → Outcome) → Target → WalkState → Outcome
target_if true jump t s = target_outcome jump t s
target_if false jump t s = Next s

-- a rule whose matches were tried
abbrev pub matched_outcome : (List ℕ → WalkState → Outcome) → Target → Tried → Outcome
matched_outcome jump t tried = target_if tried.holds jump t tried.state

-- one rule
abbrev pub rule_outcome : Surroundings → (List ℕ → WalkState → Outcome) → Rule → WalkState → Outcome
rule_outcome e jump r s = matched_outcome jump r.target (try_all e r.matches.items s)

-- rules, in order
abbrev pub rules_outcome : Surroundings → (List ℕ → WalkState → Outcome) → List Rule → WalkState → Outcome
rules_outcome e jump [] s = Next s
rules_outcome e jump (r ∷ rs) s = and_then (rule_outcome e jump r s) (rules_outcome e jump rs)

-- the rules that a look-up found, as a chain
abbrev pub found_outcome : Surroundings → (List ℕ → WalkState → Outcome) → List ℕ → Option (List Rule) → WalkState → Outcome
found_outcome e jump chain None s = Stuck
found_outcome e jump chain (Some rules) s = returned_from chain (rules_outcome e jump rules s)

-- a chain of a table, with at most so many chains on the way
abbrev pub chain_outcome : Surroundings → (ChainAt → Option (List Rule)) → TableName → ℕ → List ℕ → WalkState → Outcome
chain_outcome e at table zero chain s = Stuck
chain_outcome e at table (suc n) chain s =
    found_outcome e (chain_outcome e at table n) chain (at (record { table = table; chain = chain })) s

-- as many chains stand on a way as there are ranks
abbrev pub most_chains : ℕ
most_chains = 8

-- where a packet is on its way through the hooks: its state, the endpoint it was translated to, whether it
-- was masqueraded, what stopped it, and the trail
pub record Journey : Type 0 where
  pub state : WalkState
  pub translated : Option Endpoint
  pub masked : Bool
  pub stopped : Option Verdict
  pub trail : List (List (List ℕ))

-- what a hook is to the walk: the first, where packets are translated; one of the filter; the last, where
-- they are masqueraded
pub data Stage : Type 0 where
  Translating : Stage
  Filtering : Stage
  Masquerading : Stage

-- the state with the destination of an endpoint
abbrev pub sent_to : WalkState → Endpoint → WalkState
sent_to s e = record s { target = e.address; port = e.port }

-- the end of a hook by a translation or a masquerade, which count in their own stage alone
abbrev pub ended_by : Stage → Ending → Journey → Journey
ended_by Translating (ending.Dnat endpoint) j = record j { state = sent_to j.state endpoint; translated = Some endpoint }
ended_by Filtering (ending.Dnat endpoint) j = j
ended_by Masquerading (ending.Dnat endpoint) j = j
ended_by Masquerading ending.Masquerade j = record j { masked = true }
ended_by Translating ending.Masquerade j = j
ended_by Filtering ending.Masquerade j = j
ended_by stage ending.Accept j = j
ended_by stage ending.Drop j = record j { stopped = Some Dropped }
ended_by stage ending.Reject j = record j { stopped = Some Rejected }

-- a journey in a state
abbrev pub in_state : Journey → WalkState → Journey
in_state j s = record j { state = s }

-- the journey after a hook: the end of a built-in chain accepts, and then no rule stands in the trail
abbrev pub after_hook : Stage → Journey → Outcome → Journey
after_hook stage j (Next s) = in_state j s
after_hook stage j (Left s) = in_state j s
after_hook stage j (Ended end path s) =
    ended_by stage end (record (in_state j s) { trail = j.trail ++ path ∷ [] })
after_hook stage j Stuck = record j { stopped = Some LeftAlone }

-- a hook, unless something stopped the packet before
abbrev pub through_unless : Option Verdict → Surroundings → (ChainAt → Option (List Rule)) → Stage → TableName → List ℕ → Journey → Journey
through_unless (Some v) e at stage table chain j = j
through_unless None e at stage table chain j =
    after_hook stage j (chain_outcome e at table most_chains chain j.state)

-- a hook of a packet that is still on its way
abbrev pub through : Surroundings → (ChainAt → Option (List Rule)) → Stage → TableName → List ℕ → Journey → Journey
through e at stage table chain j = through_unless j.stopped e at stage table chain j

-- the hook that a packet meets first
abbrev pub first_hook : Origin → List ℕ
first_hook Wire = codes "PREROUTING"
first_hook Node = codes "OUTPUT"

-- INPUT for the node's own addresses, and FORWARD for others
abbrev pub routed_hook : Bool → List ℕ
routed_hook true = codes "INPUT"
routed_hook false = codes "FORWARD"

-- whether the packet's destination is the node's own by now
abbrev pub is_for_node : Surroundings → Journey → Bool
is_for_node e j = is_local_address e.node_addresses j.state.target

-- INPUT, where the destination is the node's own
abbrev pub input_if : Bool → Surroundings → (ChainAt → Option (List Rule)) → Journey → Journey
input_if true e at j = through e at Filtering Filter (codes "INPUT") j
input_if false e at j = j

-- the hooks of the filter table
abbrev pub filter_hooks : Origin → Surroundings → (ChainAt → Option (List Rule)) → Journey → Journey
filter_hooks Wire e at j = through e at Filtering Filter (routed_hook (is_for_node e j)) j
filter_hooks Node e at j =
    input_if (is_for_node e j) e at (through e at Filtering Filter (codes "OUTPUT") j)

-- a packet from this node, or to elsewhere, leaves it
abbrev pub is_leaving : Origin → Bool → Bool
is_leaving Node for_node = true
is_leaving Wire for_node = not for_node

-- POSTROUTING, where the packet leaves the node
abbrev pub postrouting_if : Bool → Surroundings → (ChainAt → Option (List Rule)) → Journey → Journey
postrouting_if true e at j = through e at Masquerading Nat (codes "POSTROUTING") j
postrouting_if false e at j = j

-- the whole way after the first hook
abbrev pub onward : Surroundings → (ChainAt → Option (List Rule)) → Journey → Journey
onward e at j =
    let filtered = filter_hooks e.from e at j in
    postrouting_if (is_leaving e.from (is_for_node e j)) e at filtered

-- the whole way
abbrev pub journey_of : Surroundings → (ChainAt → Option (List Rule)) → WalkState → Journey
journey_of e at s =
    onward e at (through e at Translating Nat (first_hook e.from)
    (record { state = s; translated = None; masked = false; stopped = None; trail = [] }))

-- what becomes of the packet, by what stopped it and where it was translated to
abbrev pub verdict_by : Option Verdict → Option Endpoint → Bool → Verdict
verdict_by (Some v) translated masked = v
verdict_by None None masked = LeftAlone
verdict_by None (Some endpoint) masked = To endpoint masked

-- the verdict of a walk, its trail, and the recent lists afterwards
pub record Walked : Type 0 where
  pub verdict : Verdict
  pub trail : List (List (List ℕ))
  pub lists : RecentParts

-- a walk that is over
abbrev pub walked_by : Journey → Walked
walked_by j = record { verdict = verdict_by j.stopped j.translated j.masked; trail = j.trail; lists = j.state.lists }

-- the state that a packet begins in
abbrev pub initial_state : Packet → RecentParts → WalkState
initial_state packet lists = record {
  source = packet.source;
  target = packet.target;
  port = packet.port;
  marked = false;
  used = 0;
  lists = lists;
}

-- what the walk of a packet may ask
abbrev pub surroundings_of : List AddressParts → Packet → (ℕ → ℕ) → Surroundings
surroundings_of node_addresses packet draws = record {
  node_addresses = node_addresses;
  from = packet.from;
  proto = packet.proto;
  now = packet.now;
  draws = draws;
}

-- the walk of a packet, over the chains that a look-up finds in the tables of its family
abbrev pub walk_of : (ChainAt → Option (List Rule)) → List AddressParts → Packet → (ℕ → ℕ) → RecentParts → Walked
walk_of at node_addresses packet draws lists =
    walked_by (journey_of (surroundings_of node_addresses packet draws)
    (λ place. at (place_in (family_of_packet packet) place)) (initial_state packet lists))
