-- Ranks of chains. A jump goes to a chain of greater rank, so a packet passes at most one chain of each rank on
-- its way, and no walk goes round. The built-in chains are those of iptables(8); the ranks are this project's
-- choice.
use Rattle.std.specs.Prelude.{ℕ, Bool, true, false, List, [], ◌∷◌, ◌&&◌, cond, codes, bytes_eq, nat_eq, nat_lt, Option, Some, None, is_some}
use Rattle.std.specs.FinMap as finite
use Rattle.std.specs.List.{list_all, list_any, starts_with}
use Rattle.std.specs.Map.{lookup}
use Rattle.std.specs.Option.{option_or}
use Rattle.kp_base.specs.declared.address.Family.{Family}
use Rattle.kp_base.specs.declared.address.Family.TheVariants.{V4}
use Rattle.kp_types.specs.Places.{nat_of, filter_of}
use Rattle.kp_types.specs.declared.chain.TableName.{TableName}
use Rattle.kp_types.specs.declared.chain.TableName.TheVariants.{Nat, Filter, Nat6, Filter6}
use Rattle.kp_types.specs.declared.chain.ChainAt.{ChainAt}
use Rattle.kp_types.specs.declared.rule.Rule.{Rule}
use Rattle.kp_types.specs.declared.rule.Target.{Target}
use Rattle.kp_types.specs.declared.rule.Target.TheVariants as target
use Rattle.kp_table_defs.specs.Layout.{mark_masq, kube_services, kube_node_ports, kube_postrouting, kube_external_services, kube_forward, kube_proxy_firewall}
use Rattle.kp_table_defs.specs.Rebuild.{Chains}

-- the built-in chains of nat tables
abbrev pub nat_chains : List (List ℕ)
nat_chains = codes "PREROUTING" ∷ codes "INPUT" ∷ codes "OUTPUT" ∷ codes "POSTROUTING" ∷ []

-- those of filter tables
abbrev pub filter_chains : List (List ℕ)
filter_chains = codes "INPUT" ∷ codes "FORWARD" ∷ codes "OUTPUT" ∷ []

-- the built-in chains of a table
abbrev pub built_in_chains : TableName → List (List ℕ)
built_in_chains Nat = nat_chains
built_in_chains Filter = filter_chains
built_in_chains Nat6 = nat_chains
built_in_chains Filter6 = filter_chains

-- the shared chains
abbrev pub shared_ranks : List (List ℕ × ℕ)
shared_ranks =
    (kube_services, 1) ∷ (kube_external_services, 1) ∷ (kube_proxy_firewall, 1) ∷ (kube_forward, 1)
    ∷ (kube_postrouting, 1) ∷ (kube_node_ports, 2) ∷ (mark_masq, 7) ∷ []

-- the chains of ports and endpoints, by what their names begin with
abbrev pub prefix_ranks : List (List ℕ × ℕ)
prefix_ranks =
    (codes "KUBE-FW-", 3) ∷ (codes "KUBE-EXT-", 4) ∷ (codes "KUBE-SVC-", 5) ∷ (codes "KUBE-SVL-", 5)
    ∷ (codes "KUBE-SEP-", 6) ∷ []

-- whether a chain is built in
abbrev pub is_built_in : TableName → List ℕ → Bool
is_built_in table chain = list_any (bytes_eq chain) (built_in_chains table)

-- the rank of a name that isn't built in
abbrev pub rank_of_name : List ℕ → Option ℕ
rank_of_name chain = option_or (lookup (bytes_eq chain) shared_ranks) (lookup (starts_with nat_eq chain) prefix_ranks)

-- the rank of a chain, if it has one
abbrev pub rank_of : ChainAt → Option ℕ
rank_of at = cond (is_built_in at.table at.chain) (Some 0) (rank_of_name at.chain)

-- whether this is a rank, and a greater one
abbrev pub is_above : ℕ → Option ℕ → Bool
is_above rank None = false
is_above rank (Some other) = nat_lt rank other

-- whether a jump may go to a place: there is a chain, and it has a greater rank
abbrev pub is_reached : Chains → ℕ → ChainAt → Bool
is_reached chains rank to = is_some (finite.get chains to) && is_above rank (rank_of to)

-- whether a target in a chain of this rank goes on to a greater one, if it is a jump
abbrev pub goes_on : Chains → TableName → ℕ → Target → Bool
goes_on chains table rank (target.Jump chain) = is_reached chains rank (record { table = table; chain = chain })
goes_on chains table rank target.Return = true
goes_on chains table rank target.Accept = true
goes_on chains table rank target.Drop = true
goes_on chains table rank target.Reject = true
goes_on chains table rank target.SetMark = true
goes_on chains table rank target.FlipMark = true
goes_on chains table rank (target.Dnat endpoint) = true
goes_on chains table rank target.Masquerade = true

-- whether each jump of a chain's rules goes on
abbrev pub jumps_go_on : Chains → TableName → Option ℕ → List Rule → Bool
jumps_go_on chains table None rules = false
jumps_go_on chains table (Some rank) rules = list_all (λ r. goes_on chains table rank r.target) rules

-- whether a chain has a rank and its jumps go on
abbrev pub is_ranked_chain : Chains → ChainAt × List Rule → Bool
is_ranked_chain chains (at, rules) = jumps_go_on chains at.table (rank_of at) rules

-- whether all chains of a table are so
abbrev pub is_ranked : Chains → Bool
is_ranked chains = list_all (is_ranked_chain chains) (finite.entries chains)

-- whether a table has all its built-in chains
abbrev pub has_built_in : Chains → TableName → Bool
has_built_in chains table =
    list_all (λ chain. is_some (finite.get chains (record { table = table; chain = chain }))) (built_in_chains table)

-- whether both tables of a family do
abbrev pub has_chains_of : Family → Chains → Bool
has_chains_of family chains = has_built_in chains (nat_of family) && has_built_in chains (filter_of family)

-- whether those of IPv4 do
abbrev pub has_built_in_chains : Chains → Bool
has_built_in_chains chains = has_chains_of V4 chains
