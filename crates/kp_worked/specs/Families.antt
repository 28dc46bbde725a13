-- Worked examples of the configuration as an address family sees it: of the cluster's ranges its own alone
-- (kube-proxy's option --cluster-cidr, of which each family takes its range).
use Rattle.std.specs.Prelude.{◌≡◌, ◌^◌, ◌*◌, false, [], ◌∷◌, codes, Some, None}
use Rattle.std.specs.FinMap.{find}
use Rattle.kp_base.specs.Net.{RangeParts}
use Rattle.kp_base.specs.declared.address.Family.{Family}
use Rattle.kp_base.specs.declared.address.Family.TheVariants.{V4, V6}
use Rattle.kp_base.specs.declared.config.Config.{Config}
use Rattle.kp_types.specs.Places.{chain_cmp}
use Rattle.kp_types.specs.Rules.{rule_of}
use Rattle.kp_types.specs.declared.chain.TableName.TheVariants.{Nat}
use Rattle.kp_types.specs.declared.rule.Target.TheVariants.{Jump}
use Rattle.kp_types.specs.declared.verdict.Verdict.TheVariants.{To}
use Rattle.kp_types.specs.Setting.{view_of}
use Rattle.kp_choice_defs.specs.Settings.{setting_of, settings_of}
use Rattle.kp_table_defs.specs.Layout.{rows_of}
use Rattle.kp_worked.specs.Setting.{config, setting_under, web, first, infos, ep1, client, to_web}
use Rattle.kp_worked.specs.Decisions.{two}
use Rattle.kp_worked.specs.Masquerades.{verdict_under}

-- the range fd00::/8
abbrev pub range_of_ipv6 : RangeParts
range_of_ipv6 = record { base = record { family = V6; number = 253 * 2 ^ 120 }; bits = 8 }

-- the range of the pods is one of IPv4, which sees it
abbrev pub OwnRange : Type 0
OwnRange = (setting_of V4 config).config.cluster ≡ config.cluster

-- and IPv6 doesn't
abbrev pub OtherRange : Type 0
OtherRange = (setting_of V6 config).config.cluster ≡ None

-- which sees a range of its own
abbrev pub OtherOwnRange : Type 0
OtherOwnRange =
    (setting_of V6 (record config { cluster6 = Some range_of_ipv6 })).config.cluster ≡ Some range_of_ipv6

-- what is told of a family of a node is the family's own setting
abbrev pub ViewIsSetting : Type 0
ViewIsSetting =
    (family : Family) (c : Config) → view_of family (settings_of c) ≡ setting_of family c

-- the node's addresses are seen by both
abbrev pub AllAddresses : Type 0
AllAddresses = (setting_of V6 config).config.addresses ≡ config.addresses

-- the node's configuration with this range alone
abbrev pub with_ipv6 : Config
with_ipv6 = record config { cluster = Some range_of_ipv6 }

-- as where no range is known, what comes from outside keeps its source
abbrev pub KeepsSource : Type 0
KeepsSource = verdict_under with_ipv6 web two (to_web client) ≡ To ep1 false

-- and no rule of the Service's chain marks
abbrev pub NoMark : Type 0
NoMark =
    find chain_cmp (record { table = Nat; chain = codes "KUBE-SVC-web" })
    (rows_of (setting_under with_ipv6) (infos web (first ∷ [])))
    ≡ Some (rule_of [] (Jump (codes "KUBE-SEP-web2")) ∷ [])
