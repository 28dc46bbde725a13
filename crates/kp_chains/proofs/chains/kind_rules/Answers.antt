use Rattle.std.proofs.Common.{◌≡◌, List, sym, ◌∙◌}
use Rattle.std.proofs.lemmas.Result.{IfOk-weaker}
use Rattle.kp_base.specs.declared.address.Family.{Family}
use Rattle.kp_types.specs.declared.rule.Rule.{Rule}
use Rattle.kp_choice_defs.specs.Settings.{setting_of}
use Rattle.kp_table_defs.specs.Layout.{firewall_chain_rules}
use Rattle.kp_chains.specs.Named.{kind_rules}
use Rattle.kp_chains.proofs.chains.kind_rules.Goals as goal

pub returns-in-Fw : goal.returns-in-Fw
returns-in-Fw c =
    let config = c.args.config.now in
    let info = c.args.info.now in
    let rules_as = kind_rules (setting_of c.args.family config) info c.args.cluster.now c.args.local.now in
    IfOk-weaker c.firewall_chain_rules.result (λ (rules : List Rule). (family : Family)
    → rules ≡ firewall_chain_rules (setting_of family config) info info.ranges)
    (λ rules. rules ≡ rules_as c.args.kind)
    (λ rules are. are c.args.family ∙ sym (λ k. rules_as (c.in-Fw.is k)))
    c.firewall_chain_rules.ensures
