-- Parts of the fixed chains.
use Rattle.std.specs.Prelude.{List, [], ◌∷◌, codes, false, true}
use Rattle.kp_base.specs.declared.address.Family.{Family}
use Rattle.kp_types.specs.Places.{nat_of, filter_of}
use Rattle.kp_types.specs.Rules.{rule_of}
use Rattle.kp_types.specs.declared.chain.ChainAt.{ChainAt}
use Rattle.kp_types.specs.declared.rule.Match.TheVariants as match
use Rattle.kp_types.specs.declared.rule.Target.TheVariants as target
use Rattle.kp_types.specs.declared.rule.Rule.{Rule}
use Rattle.kp_table_defs.specs.Layout.{row, jump_to, kube_services, kube_postrouting, kube_proxy_firewall, kube_external_services, kube_forward, mark_masq}

-- the built-in chains of a family's nat
abbrev pub nat_hooks : Family → List (ChainAt × List Rule)
nat_hooks family =
    row (nat_of family) (codes "PREROUTING") (jump_to kube_services ∷ [])
    ∷ row (nat_of family) (codes "INPUT") []
    ∷ row (nat_of family) (codes "OUTPUT") (jump_to kube_services ∷ [])
    ∷ row (nat_of family) (codes "POSTROUTING") (jump_to kube_postrouting ∷ [])
    ∷ []

-- the rules of KUBE-POSTROUTING
abbrev pub masquerade_rules : List Rule
masquerade_rules =
    rule_of (match.Marked true ∷ []) target.Return ∷ rule_of [] target.FlipMark ∷ rule_of [] target.Masquerade ∷ []

-- the chains that mark and masquerade
abbrev pub nat_marks : Family → List (ChainAt × List Rule)
nat_marks family =
    row (nat_of family) mark_masq (rule_of [] target.SetMark ∷ [])
    ∷ row (nat_of family) kube_postrouting masquerade_rules
    ∷ []

-- the rules of KUBE-FORWARD
abbrev pub accept_rules : List Rule
accept_rules = rule_of (match.Marked false ∷ []) target.Accept ∷ []

-- the rules of FORWARD
abbrev pub forward_rules : List Rule
forward_rules =
    jump_to kube_proxy_firewall ∷ jump_to kube_external_services ∷ jump_to kube_services ∷ jump_to kube_forward ∷ []

-- the built-in chains of a family's filter
abbrev pub filter_hooks : Family → List (ChainAt × List Rule)
filter_hooks family =
    row (filter_of family) (codes "INPUT")
    (jump_to kube_proxy_firewall ∷ jump_to kube_external_services ∷ [])
    ∷ row (filter_of family) (codes "FORWARD") forward_rules
    ∷ row (filter_of family) (codes "OUTPUT")
    (jump_to kube_proxy_firewall ∷ jump_to kube_services ∷ [])
    ∷ []
