use Rattle.std.proofs.Common.{◌≡◌, map, take}
use Rattle.std.specs.FinMap.{get}
use Rattle.kp_base.specs.declared.config.Config.{Config}
use Rattle.kp_choice_defs.specs.Settings.{setting_of}
use Rattle.kp_writer.specs.Shared as spec
use Rattle.kp_writer.specs.Written.{AreBlocksOf, AreOldBlocks, newest_in, written_in}
use Rattle.kp_writer.proofs.shared.touched_by.Given as goal

-- the chains that the ports so far touch
abbrev pub invariant-loop-key : goal.invariant-loop-key
invariant-loop-key l =
    (config : Config)
    → AreBlocksOf (setting_of l.family config) (newest_in l.ports) l.blocks
    → AreOldBlocks (setting_of l.family config) (written_in l.ports) (newest_in l.ports)
    l.aside
    → l.touched
    ≡ spec.touched_by (setting_of l.family config) (map (λ k. (
      get (written_in l.ports) k.now,
      get (newest_in l.ports) k.now,
    )) (take l.key-index l.keys))
