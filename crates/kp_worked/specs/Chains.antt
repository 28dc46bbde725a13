-- Worked examples of full tables: the chains of a Service with one endpoint in nat, rule by rule, as kube-proxy
-- in its iptables mode has them. Names of chains are their prefixes alone.
use Rattle.std.specs.Prelude.{◌≡◌, ℕ, true, false, List, [], ◌∷◌, map, codes, Option, Some}
use Rattle.std.specs.FinMap as finite
use Rattle.kp_base.specs.Net.{RangeParts, single_range}
use Rattle.kp_base.specs.declared.port.Proto.TheVariants.{Tcp}
use Rattle.kp_types.specs.Places.{chain_cmp}
use Rattle.kp_types.specs.Rules.{rule_of}
use Rattle.kp_types.specs.declared.chain.ChainAt.{ChainAt}
use Rattle.kp_types.specs.declared.chain.TableName.{TableName}
use Rattle.kp_types.specs.declared.chain.TableName.TheVariants.{Nat, Filter}
use Rattle.kp_types.specs.declared.rule.Match.TheVariants as match
use Rattle.kp_types.specs.declared.rule.Rule.{Rule}
use Rattle.kp_types.specs.declared.rule.Target.TheVariants as target
use Rattle.kp_object_defs.specs.Order.{in_order}
use Rattle.kp_table_defs.specs.Layout.{rows_of}
use Rattle.kp_worked.specs.Setting.{ipv4, plain_setting, web, first, infos, ep1}

-- the chains of the full table
abbrev pub rows : List (ChainAt × List Rule)
rows = rows_of plain_setting (infos web (first ∷ []))

-- the rules of one of them
abbrev pub chain : TableName → List ℕ → Option (List Rule)
chain table name = finite.find chain_cmp (record { table = table; chain = name }) rows

-- a jump
abbrev pub jump : List ℕ → Rule
jump name = rule_of [] (target.Jump name)

-- the range of the pods
abbrev pub pods : RangeParts
pods = record { base = ipv4 10 244 0 0; bits = 16 }

-- all places, nat first, in the order of their names
abbrev pub AllPlaces : Type 0
AllPlaces =
    map (λ e. e.0) (in_order chain_cmp rows)
    ≡ record { table = Nat; chain = codes "INPUT" }
    ∷ record { table = Nat; chain = codes "KUBE-MARK-MASQ" }
    ∷ record { table = Nat; chain = codes "KUBE-NODEPORTS" }
    ∷ record { table = Nat; chain = codes "KUBE-POSTROUTING" }
    ∷ record { table = Nat; chain = codes "KUBE-SEP-" }
    ∷ record { table = Nat; chain = codes "KUBE-SERVICES" }
    ∷ record { table = Nat; chain = codes "KUBE-SVC-" }
    ∷ record { table = Nat; chain = codes "OUTPUT" }
    ∷ record { table = Nat; chain = codes "POSTROUTING" }
    ∷ record { table = Nat; chain = codes "PREROUTING" }
    ∷ record { table = Filter; chain = codes "FORWARD" }
    ∷ record { table = Filter; chain = codes "INPUT" }
    ∷ record { table = Filter; chain = codes "KUBE-EXTERNAL-SERVICES" }
    ∷ record { table = Filter; chain = codes "KUBE-FORWARD" }
    ∷ record { table = Filter; chain = codes "KUBE-PROXY-FIREWALL" }
    ∷ record { table = Filter; chain = codes "KUBE-SERVICES" }
    ∷ record { table = Filter; chain = codes "OUTPUT" }
    ∷ []

-- -A PREROUTING -j KUBE-SERVICES
abbrev pub Prerouting : Type 0
Prerouting = chain Nat (codes "PREROUTING") ≡ Some (jump (codes "KUBE-SERVICES") ∷ [])

-- -A POSTROUTING -j KUBE-POSTROUTING
abbrev pub Postrouting : Type 0
Postrouting = chain Nat (codes "POSTROUTING") ≡ Some (jump (codes "KUBE-POSTROUTING") ∷ [])

-- -A KUBE-MARK-MASQ -j MARK --or-mark 0x4000
abbrev pub MarkMasq : Type 0
MarkMasq = chain Nat (codes "KUBE-MARK-MASQ") ≡ Some (rule_of [] target.SetMark ∷ [])

-- -A KUBE-POSTROUTING -m mark ! --mark 0x4000/0x4000 -j RETURN
-- -A KUBE-POSTROUTING -j MARK --xor-mark 0x4000
-- -A KUBE-POSTROUTING -j MASQUERADE
abbrev pub KubePostrouting : Type 0
KubePostrouting =
    chain Nat (codes "KUBE-POSTROUTING")
    ≡ Some
    (rule_of (match.Marked true ∷ []) target.Return ∷ rule_of [] target.FlipMark ∷ rule_of [] target.Masquerade ∷ [])

-- -A KUBE-SERVICES -d 10.96.0.10/32 -p tcp -m tcp --dport 80 -j KUBE-SVC-
-- -A KUBE-SERVICES ! -d 127.0.0.0/8 -m addrtype --dst-type LOCAL -j KUBE-NODEPORTS
abbrev pub KubeServices : Type 0
KubeServices =
    chain Nat (codes "KUBE-SERVICES")
    ≡ Some
    (rule_of (match.Dst (single_range (ipv4 10 96 0 10)) false ∷ match.Port Tcp 80 ∷ []) (target.Jump (codes "KUBE-SVC-"))
    ∷ rule_of (match.Dst (record { base = ipv4 127 0 0 0; bits = 8 }) true ∷ match.DstLocal ∷ [])
    (target.Jump (codes "KUBE-NODEPORTS"))
    ∷ [])

-- -A KUBE-SVC- ! -s 10.244.0.0/16 -d 10.96.0.10/32 -p tcp -m tcp --dport 80 -j KUBE-MARK-MASQ
-- -A KUBE-SVC- -j KUBE-SEP-
abbrev pub ServiceChain : Type 0
ServiceChain =
    chain Nat (codes "KUBE-SVC-")
    ≡ Some
    (rule_of (match.Src pods true ∷ match.Dst (single_range (ipv4 10 96 0 10)) false ∷ match.Port Tcp 80 ∷ [])
    (target.Jump (codes "KUBE-MARK-MASQ"))
    ∷ jump (codes "KUBE-SEP-") ∷ [])

-- -A KUBE-SEP- -s 10.244.1.2/32 -j KUBE-MARK-MASQ
-- -A KUBE-SEP- -p tcp -j DNAT --to-destination 10.244.1.2:8080
abbrev pub EndpointChain : Type 0
EndpointChain =
    chain Nat (codes "KUBE-SEP-")
    ≡ Some
    (rule_of (match.Src (single_range (ipv4 10 244 1 2)) false ∷ []) (target.Jump (codes "KUBE-MARK-MASQ"))
    ∷ rule_of (match.Proto Tcp ∷ []) (target.Dnat ep1) ∷ [])

-- -A FORWARD -j KUBE-PROXY-FIREWALL
-- -A FORWARD -j KUBE-EXTERNAL-SERVICES
-- -A FORWARD -j KUBE-SERVICES
-- -A FORWARD -j KUBE-FORWARD
abbrev pub Forward : Type 0
Forward =
    chain Filter (codes "FORWARD")
    ≡ Some
    (jump (codes "KUBE-PROXY-FIREWALL") ∷ jump (codes "KUBE-EXTERNAL-SERVICES") ∷ jump (codes "KUBE-SERVICES")
    ∷ jump (codes "KUBE-FORWARD") ∷ [])

-- -A KUBE-FORWARD -m mark --mark 0x4000/0x4000 -j ACCEPT
abbrev pub KubeForward : Type 0
KubeForward = chain Filter (codes "KUBE-FORWARD") ≡ Some (rule_of (match.Marked false ∷ []) target.Accept ∷ [])

-- no rule stands in KUBE-SERVICES of filter
abbrev pub NoRefusal : Type 0
NoRefusal = chain Filter (codes "KUBE-SERVICES") ≡ Some []
