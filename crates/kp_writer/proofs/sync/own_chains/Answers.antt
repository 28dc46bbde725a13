use Rattle.std.proofs.Common.{◌+◌, ◌≤◌, rules, Bor, arith, map, ap, ◌∙◌}
use Rattle.kp_choice_defs.specs.Settings.{setting_of}
use Rattle.kp_object_defs.specs.PortInfo.{PortInfo}
use Rattle.kp_writer.specs.Own.{left, own_rule_count, written}
use Rattle.kp_writer.specs.Sync.{infos_at}
use Rattle.kp_writer.specs.Written.{newest_in}
use Rattle.kp_writer.proofs.sync.own_chains.Goals as goal

pub returns-clause-next : goal.returns-clause-next
returns-clause-next g c =
    let s = setting_of c.args.family c.args.config.now in
    let was = c.args.table.now.chains in
    let gone = ap (map (λ (i : Bor PortInfo). i.now)) c.deref.ensures.value
    ∙ c.in_ok-gone.ensures in
    let made = ap (map (λ (i : Bor PortInfo). i.now)) c.deref-2.ensures.value
    ∙ c.in_ok-made.ensures in
    let start = c.in_ok-leave_all.ensures ∙ (λ i. left s (c.new-next.ensures i) (gone i)) in
    c.in_ok-write_all.ensures.next ∙ (λ i. written was s (start i) (made i))

pub returns-clause-made : goal.returns-clause-made
returns-clause-made g c =
    let s = setting_of c.args.family c.args.config.now in
    let made = ap (map (λ (i : Bor PortInfo). i.now)) c.deref-2.ensures.value
    ∙ c.in_ok-made.ensures in
    omega (arith, c.in_ok-write_all.ensures.made, ap (own_rule_count s) made)

pub returns-in_err-write_all-clause-steps : goal.returns-in_err-write_all-clause-steps
returns-in_err-write_all-clause-steps g c =
    let s = setting_of c.args.family c.args.config.now in
    let made = ap (map (λ (i : Bor PortInfo). i.now)) c.deref-2.ensures.value
    ∙ c.in_ok-made.ensures in
    let few : c.write_all.new.steps ≤ c.args.steps.now
    + own_rule_count s (infos_at (newest_in c.args.ports.now) (map (λ k. k.now) c.args.keys.now)) =
    omega (arith, c.in_err-write_all.ensures.steps, ap (own_rule_count s) made) in
    search rules
