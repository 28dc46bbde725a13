-- Worked examples of syncs: how many chains are written and removed between two full tables.
use Rattle.std.specs.Prelude.{◌≡◌, ℕ, not, List, [], ◌∷◌, codes, Some, count_by}
use Rattle.kp_types.specs.declared.rule.Edit.{Edit}
use Rattle.kp_types.specs.declared.service.ServiceKind.TheVariants.{LoadBalancer}
use Rattle.kp_types.specs.declared.service.Service.{Service}
use Rattle.kp_types.specs.declared.slice.SliceEndpoint.{SliceEndpoint}
use Rattle.kp_object_defs.specs.PortInfo.{PortInfo}
use Rattle.kp_table_defs.specs.Edits.{changes_between, is_write}
use Rattle.kp_table_defs.specs.Rebuild.{full_chains}
use Rattle.kp_worked.specs.Setting.{setting, web, first, second, third, terminating, hinted, with_endpoints, infos_in, infos}
use Rattle.kp_worked.specs.Decisions.{two, three, local_inside, local_node_port, with_external, balanced}

-- how many chains are written and removed
pub record Counts : Type 0 where
  pub written : ℕ
  pub removed : ℕ

-- those of a batch
abbrev pub counted : List Edit → Counts
counted edits = record { written = count_by is_write edits; removed = count_by (λ e. not (is_write e)) edits }

-- those between the full tables of some ports and of others
abbrev pub counts_between : List PortInfo → List PortInfo → Counts
counts_between before after =
    counted (changes_between (full_chains setting before) (full_chains setting after))

-- so many are written, and so many removed
abbrev pub are : ℕ → ℕ → Counts
are written removed = record { written = written; removed = removed }

-- those of a first sync
abbrev pub first_sync : Service → List SliceEndpoint → Counts
first_sync s endpoints = counts_between [] (infos s endpoints)

-- ---- First syncs

-- two endpoints: their chains, that of the Service, and KUBE-SERVICES of nat
abbrev pub TwoEndpoints : Type 0
TwoEndpoints = first_sync web two ≡ are 4 0

-- one more endpoint is one more chain
abbrev pub ThreeEndpoints : Type 0
ThreeEndpoints = first_sync web three ≡ are 5 0

-- no endpoint: KUBE-SERVICES of filter
abbrev pub NoEndpoints : Type 0
NoEndpoints = first_sync web [] ≡ are 1 0

-- no local endpoint under the internal policy Local: the same
abbrev pub NoLocalEndpoint : Type 0
NoLocalEndpoint = first_sync local_inside (second ∷ []) ≡ are 1 0

-- a node port under the external policy Local, with an endpoint elsewhere: the chains of the Service, of what
-- comes in from outside and of the endpoint, KUBE-SERVICES and KUBE-NODEPORTS, and KUBE-EXTERNAL-SERVICES
abbrev pub LocalNodePort : Type 0
LocalNodePort = first_sync local_node_port (second ∷ []) ≡ are 6 0

-- an external address without endpoints: KUBE-SERVICES of filter and KUBE-EXTERNAL-SERVICES
abbrev pub ExternalOfNone : Type 0
ExternalOfNone = first_sync with_external [] ≡ are 2 0

-- a load balancer with source ranges and two endpoints: four chains as before, those of what comes in from
-- outside and of the ranges, and KUBE-PROXY-FIREWALL
abbrev pub SourceRanges : Type 0
SourceRanges = first_sync balanced two ≡ are 7 0

-- without endpoints: KUBE-SERVICES of filter and KUBE-EXTERNAL-SERVICES
abbrev pub SourceRangesOfNone : Type 0
SourceRangesOfNone = first_sync balanced [] ≡ are 2 0

-- ---- Later syncs

-- a load balancer with a node port under the external policy Local
abbrev pub local_balancer : Service
local_balancer = record local_node_port { kind = LoadBalancer }

-- its first sync, with an endpoint on the node and one elsewhere
abbrev pub LocalBalancer : Type 0
LocalBalancer = first_sync local_balancer two ≡ are 7 0

-- the one on the node goes: its chain and the local one are removed; the Service's chain, that of what comes in
-- from outside and KUBE-EXTERNAL-SERVICES change
abbrev pub LastLocalGoes : Type 0
LastLocalGoes = counts_between (infos local_balancer two) (infos local_balancer (second ∷ [])) ≡ are 3 2

-- the ports while both endpoints terminate
abbrev pub both_terminating : List PortInfo
both_terminating = infos web (terminating first ∷ terminating second ∷ [])

-- and once the second is ready
abbrev pub second_ready : List PortInfo
second_ready = infos web (terminating first ∷ second ∷ [])

-- one of two endpoints goes: its chain, and the Service's chain changes
abbrev pub OneGoes : Type 0
OneGoes = counts_between both_terminating second_ready ≡ are 1 1

-- it comes back within one sync
abbrev pub ComesBack : Type 0
ComesBack = counts_between (infos web two) (infos web two) ≡ are 0 0

-- the ports in the zone a
abbrev pub ports_in_a : List SliceEndpoint → List PortInfo
ports_in_a endpoints = infos_in (Some (codes "a")) (with_endpoints web endpoints ∷ [])

-- while one of three endpoints has no hint
abbrev pub one_without_hint : List PortInfo
one_without_hint = ports_in_a (hinted (codes "a") first ∷ hinted (codes "a") second ∷ third ∷ [])

-- and once it hints another zone
abbrev pub all_with_hints : List PortInfo
all_with_hints = ports_in_a (hinted (codes "a") first ∷ hinted (codes "a") second ∷ hinted (codes "b") third ∷ [])

-- a hint leaves out one of three
abbrev pub HintLeavesOut : Type 0
HintLeavesOut = counts_between one_without_hint all_with_hints ≡ are 1 1

-- the last endpoint goes: a reject stands in place of the drop
abbrev pub RejectForDrop : Type 0
RejectForDrop = counts_between (infos local_inside (second ∷ [])) (infos local_inside []) ≡ are 1 0

-- the Service goes, with its chain and those of two endpoints
abbrev pub ServiceGoes : Type 0
ServiceGoes = counts_between (infos web two) [] ≡ are 1 3
