use Rattle.std.proofs.Common.{◌≡◌, ◌+◌, map, take}
use Rattle.kp_choice_defs.specs.Settings.{setting_of}
use Rattle.kp_writer.specs.Own.{own_rule_count, written}
use Rattle.kp_writer.proofs.own.write_all.Given as goal

-- the ports so far have their chains, with a step for each rule
abbrev pub invariant-loop-info : goal.invariant-loop-info
invariant-loop-info g l = record {
  next :
      l.next
      ≡ written l.before.chains (setting_of l.family l.config) l.fn.next
      (map (λ i. i.now) (take l.info-index l.infos));
  steps :
      l.steps
      ≡ l.fn.steps + own_rule_count (setting_of l.family l.config)
      (map (λ i. i.now) (take l.info-index l.infos));
}
