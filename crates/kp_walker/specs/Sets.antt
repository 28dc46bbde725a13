-- Where a walk sets a source that its list lacks (iptables-extensions(8), recent): nothing else needs memory.
-- Each of these says that the walk from a state comes to such a set, and that these are the recent lists by then.
use Rattle.std.specs.Prelude.{◌≡◌, ℕ, zero, suc, Bool, true, false, List, [], ◌∷◌, Option, Some, None, ◌⊎◌, codes}
use Rattle.std.specs.List.{list_any}
use Rattle.kp_base.specs.Net.{AddressParts}
use Rattle.kp_types.specs.Packets.{family_of_packet}
use Rattle.kp_types.specs.Places.{place_in}
use Rattle.kp_types.specs.declared.chain.TableName.{TableName}
use Rattle.kp_types.specs.declared.chain.TableName.TheVariants.{Nat, Filter}
use Rattle.kp_types.specs.declared.chain.ChainAt.{ChainAt}
use Rattle.kp_types.specs.declared.packet.Origin.{Origin}
use Rattle.kp_types.specs.declared.packet.Origin.TheVariants.{Wire, Node}
use Rattle.kp_types.specs.declared.packet.Packet.{Packet}
use Rattle.kp_types.specs.declared.rule.Match.{Match}
use Rattle.kp_types.specs.declared.rule.Match.TheVariants.{Src, Dst, Proto, Port, SrcLocal, DstLocal, Marked, Statistic, Seen, SetSeen}
use Rattle.kp_types.specs.declared.rule.Rule.{Rule}
use Rattle.kp_types.specs.declared.rule.Target.{Target}
use Rattle.kp_types.specs.declared.rule.Target.TheVariants as target
use Rattle.kp_types.specs.declared.verdict.Verdict.{Verdict}
use Rattle.kp_choice_defs.specs.Recent.{RecentParts, is_of, sightings, shard_of}
use Rattle.kp_table_defs.specs.Matching.{WalkState, Surroundings, try_match, try_all}
use Rattle.kp_table_defs.specs.Walk.{Outcome, Next, Left, Ended, Stuck, Journey, Translating, Filtering, rule_outcome, chain_outcome, most_chains, through, filter_hooks, first_hook, routed_hook, is_for_node, is_leaving, initial_state, surroundings_of}

-- a fact of the state where matches held
abbrev pub OnHeld : Bool → Type 0 → Type 0
OnHeld true fact = fact
OnHeld false fact = ⊥

-- a fact of the state where the walk goes on
abbrev pub OnNext : Outcome → (WalkState → Type 0) → Type 0
OnNext (Next s) fact = fact s
OnNext (Left s) fact = ⊥
OnNext (Ended end path s) fact = ⊥
OnNext Stuck fact = ⊥

-- the list has the source
abbrev pub has_source : RecentParts → List ℕ → AddressParts → Bool
has_source lists list source = list_any (is_of source) (sightings lists (shard_of list source))

-- a match
abbrev pub MatchSets : Match → WalkState → RecentParts → Type 0
MatchSets (Src range negated) s lists = ⊥
MatchSets (Dst range negated) s lists = ⊥
MatchSets (Proto proto) s lists = ⊥
MatchSets (Port proto port) s lists = ⊥
MatchSets SrcLocal s lists = ⊥
MatchSets DstLocal s lists = ⊥
MatchSets (Marked negated) s lists = ⊥
MatchSets (Statistic p) s lists = ⊥
MatchSets (Seen list seconds) s lists = ⊥
MatchSets (SetSeen list) s lists = (has_source s.lists list s.source ≡ false) × (lists ≡ s.lists)

-- matches, tried from the left
abbrev pub MatchesSet : Surroundings → List Match → WalkState → RecentParts → Type 0
MatchesSet e [] s lists = ⊥
MatchesSet e (m ∷ ms) s lists =
    MatchSets m s lists
    ⊎ OnHeld (try_match e m s).holds (MatchesSet e ms (try_match e m s).state lists)

-- a rule's target
abbrev pub TargetSets : (List ℕ → WalkState → RecentParts → Type 0) → Target → WalkState → RecentParts → Type 0
TargetSets jump (target.Jump chain) s lists = jump chain s lists
TargetSets jump target.Return s lists = ⊥
TargetSets jump target.Accept s lists = ⊥
TargetSets jump target.Drop s lists = ⊥
TargetSets jump target.Reject s lists = ⊥
TargetSets jump target.SetMark s lists = ⊥
TargetSets jump target.FlipMark s lists = ⊥
TargetSets jump (target.Dnat endpoint) s lists = ⊥
TargetSets jump target.Masquerade s lists = ⊥

-- a rule
abbrev pub RuleSets : Surroundings → (List ℕ → WalkState → RecentParts → Type 0) → Rule → WalkState → RecentParts → Type 0
RuleSets e jump r s lists =
    MatchesSet e r.matches.items s lists
    ⊎ OnHeld (try_all e r.matches.items s).holds
    (TargetSets jump r.target (try_all e r.matches.items s).state lists)

-- rules, in order
abbrev pub RulesSet : Surroundings → (List ℕ → WalkState → Outcome) → (List ℕ → WalkState → RecentParts → Type 0) → List Rule → WalkState → RecentParts → Type 0
RulesSet e jump sets [] s lists = ⊥
RulesSet e jump sets (r ∷ rs) s lists =
    RuleSets e sets r s lists
    ⊎ OnNext (rule_outcome e jump r s) (λ t. RulesSet e jump sets rs t lists)

-- the rules that a look-up found
abbrev pub FoundSets : Surroundings → (List ℕ → WalkState → Outcome) → (List ℕ → WalkState → RecentParts → Type 0) → Option (List Rule) → WalkState → RecentParts → Type 0
FoundSets e jump sets None s lists = ⊥
FoundSets e jump sets (Some rules) s lists = RulesSet e jump sets rules s lists

-- a chain of a table, with at most so many chains on the way
abbrev pub ChainSets : Surroundings → (ChainAt → Option (List Rule)) → TableName → ℕ → List ℕ → WalkState → RecentParts → Type 0
ChainSets e at table zero chain s lists = ⊥
ChainSets e at table (suc n) chain s lists =
    FoundSets e (chain_outcome e at table n) (ChainSets e at table n)
    (at (record { table = table; chain = chain })) s lists

-- a hook, unless something stopped the packet before
abbrev pub ThroughSets : Option Verdict → Surroundings → (ChainAt → Option (List Rule)) → TableName → List ℕ → WalkState → RecentParts → Type 0
ThroughSets (Some v) e at table chain s lists = ⊥
ThroughSets None e at table chain s lists = ChainSets e at table most_chains chain s lists

-- a hook
abbrev pub HookSets : Surroundings → (ChainAt → Option (List Rule)) → TableName → List ℕ → Journey → RecentParts → Type 0
HookSets e at table chain j lists = ThroughSets j.stopped e at table chain j.state lists

-- INPUT behind OUTPUT, where the destination is the node's own
abbrev pub InputSets : Bool → Surroundings → (ChainAt → Option (List Rule)) → Journey → RecentParts → Type 0
InputSets true e at j lists = HookSets e at Filter (codes "INPUT") j lists
InputSets false e at j lists = ⊥

-- the hooks of the filter table
abbrev pub FilterSets : Origin → Surroundings → (ChainAt → Option (List Rule)) → Journey → RecentParts → Type 0
FilterSets Wire e at j lists = HookSets e at Filter (routed_hook (is_for_node e j)) j lists
FilterSets Node e at j lists =
    HookSets e at Filter (codes "OUTPUT") j lists
    ⊎ InputSets (is_for_node e j) e at (through e at Filtering Filter (codes "OUTPUT") j) lists

-- POSTROUTING, where the packet leaves the node
abbrev pub PostroutingSets : Bool → Surroundings → (ChainAt → Option (List Rule)) → Journey → RecentParts → Type 0
PostroutingSets true e at j lists = HookSets e at Nat (codes "POSTROUTING") j lists
PostroutingSets false e at j lists = ⊥

-- the whole way after the first hook
abbrev pub OnwardSets : Surroundings → (ChainAt → Option (List Rule)) → Journey → RecentParts → Type 0
OnwardSets e at j lists =
    FilterSets e.from e at j lists
    ⊎ PostroutingSets (is_leaving e.from (is_for_node e j)) e at (filter_hooks e.from e at j) lists

-- the whole way
abbrev pub JourneySets : Surroundings → (ChainAt → Option (List Rule)) → WalkState → RecentParts → Type 0
JourneySets e at s lists =
    let start : Journey = record { state = s; translated = None; masked = false; stopped = None; trail = [] } in
    HookSets e at Nat (first_hook e.from) start lists
    ⊎ OnwardSets e at (through e at Translating Nat (first_hook e.from) start) lists

-- The walk of a packet in the tables of its family comes to a set of its source in a list that lacks it, and
-- these are the recent lists by then: as the walk's tests and sets before it left them.
abbrev pub ComesToSet : (ChainAt → Option (List Rule)) → List AddressParts → Packet → (ℕ → ℕ) → RecentParts → RecentParts → Type 0
ComesToSet at node_addresses packet draws lists left =
    JourneySets (surroundings_of node_addresses packet draws)
    (λ place. at (place_in (family_of_packet packet) place)) (initial_state packet lists) left
