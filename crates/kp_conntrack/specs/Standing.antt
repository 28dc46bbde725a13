-- Which endpoints stand by a table.
use Rattle.std.specs.Prelude.{◌||◌, Bool, true, false, List, [], cond, Option, Some, None}
use Rattle.std.specs.List.{filter_map, flat_map, list_any}
use Rattle.std.specs.FinMap as finite
use Rattle.kp_base.specs.Keys.{same_proto}
use Rattle.kp_base.specs.declared.key.Endpoint.{Endpoint}
use Rattle.kp_base.specs.declared.port.Proto.TheVariants.{Udp}
use Rattle.kp_types.specs.declared.chain.ChainAt.{ChainAt}
use Rattle.kp_types.specs.declared.chain.TableName.{TableName}
use Rattle.kp_types.specs.declared.chain.TableName.TheVariants.{Nat, Filter, Nat6, Filter6}
use Rattle.kp_types.specs.declared.rule.Match.{Match}
use Rattle.kp_types.specs.declared.rule.Match.TheVariants.{Src, Dst, Proto, Port, SrcLocal, DstLocal, Marked, Statistic, Seen, SetSeen}
use Rattle.kp_types.specs.declared.rule.Target.{Target}
use Rattle.kp_types.specs.declared.rule.Target.TheVariants as target
use Rattle.kp_types.specs.declared.rule.Rule.{Rule}
use Rattle.kp_table_defs.specs.Rebuild.{Chains}
use Rattle.kp_track_defs.specs.Stands.{is_endpoint}

-- a table translates destinations
abbrev pub is_nat : TableName → Bool
is_nat Nat = true
is_nat Nat6 = true
is_nat Filter = false
is_nat Filter6 = false

-- a match asks for UDP, with a port or without
abbrev pub is_udp : Match → Bool
is_udp (Proto proto) = same_proto proto Udp
is_udp (Port proto port) = same_proto proto Udp
is_udp (Src range negated) = false
is_udp (Dst range negated) = false
is_udp SrcLocal = false
is_udp DstLocal = false
is_udp (Marked negated) = false
is_udp (Statistic p) = false
is_udp (Seen list seconds) = false
is_udp (SetSeen list) = false

-- where a target sends packets to
abbrev pub sent_by : Target → Option Endpoint
sent_by (target.Dnat endpoint) = Some endpoint
sent_by (target.Jump chain) = None
sent_by target.Return = None
sent_by target.Accept = None
sent_by target.Drop = None
sent_by target.Reject = None
sent_by target.SetMark = None
sent_by target.FlipMark = None
sent_by target.Masquerade = None

-- where a rule sends packets of UDP to
abbrev pub udp_target : Rule → Option Endpoint
udp_target rule = cond (list_any is_udp rule.matches.items) (sent_by rule.target) None

-- where the rules of a chain do, if there is one
abbrev pub udp_targets_of : Option (List Rule) → List Endpoint
udp_targets_of None = []
udp_targets_of (Some rules) = filter_map udp_target rules

-- where the chain at a place of a table does
abbrev pub udp_targets_at : Chains → ChainAt → List Endpoint
udp_targets_at chains at = cond (is_nat at.table) (udp_targets_of (finite.get chains at)) []

-- where all chains do
abbrev pub udp_targets : Chains → List Endpoint
udp_targets chains = flat_map (udp_targets_at chains) (finite.keys chains)

-- an endpoint stands where a rule of nat or nat6 matches UDP and has it as its target
abbrev pub table_stands : Chains → Endpoint → Bool
table_stands chains endpoint = list_any (is_endpoint endpoint) (udp_targets chains)
