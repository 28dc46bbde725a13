-- The modes beside a replay (this project's choice).
use Rattle.std.specs.Prelude.{ℕ, List, []}
use Rattle.kp_base.specs.declared.config.Config.{Config}
use Rattle.kp_choice_defs.specs.Settings.{settings_of}
use Rattle.kp_object_defs.specs.Objects.{Objects}
use Rattle.kp_object_defs.specs.PortInfo.{infos_by_family}
use Rattle.kp_change_defs.specs.ChangeText.{change_text}
use Rattle.kp_health_defs.specs.AcceptRules.{accept_text}
use Rattle.kp_health_defs.specs.HealthText.{health_lines}
use Rattle.kp_mode_defs.specs.Mode.{Mode, beside}
pub use Rattle.kp_mode_defs.specs.Summing.{summing}

-- what a sync changed for those who connect
abbrev pub change_lines : Config → Objects → Objects → List ℕ
change_lines config before now =
    change_text (settings_of config) (infos_by_family (settings_of config) before)
    (infos_by_family (settings_of config) now)

-- `changes`: after a sync, what it changed for those who connect
abbrev pub changing : Mode (Unit {0})
changing = beside change_lines (λ config now. [])

-- `health`: after a sync, what the node's health ports answer, and at the end the rules that accept
-- their packets
abbrev pub healthy : Mode (Unit {0})
healthy = beside (λ config before now. health_lines config now) accept_text
