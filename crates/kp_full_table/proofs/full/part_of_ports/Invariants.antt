use Rattle.std.proofs.Common.{◌≡◌, ◌+◌, take}
use Rattle.kp_choice_defs.specs.Settings.{setting_of}
use Rattle.kp_full_table.specs.Parts.{IsPartOf, all_rule_count}
use Rattle.kp_full_table.proofs.full.part_of_ports.Given as goal

-- what the ports so far contribute, with a step for each of their rules
abbrev pub invariant-loop-info : goal.invariant-loop-info
invariant-loop-info g l = record {
  part : IsPartOf (setting_of l.family l.config) (take l.info-index l.infos) l.part;
  steps : l.steps ≡ l.fn.steps + all_rule_count (setting_of l.family l.config) (take l.info-index l.infos);
}
