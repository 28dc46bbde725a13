-- Ports are told apart by what is known of them.
use Rattle.std.specs.Prelude.{◌≡◌, ◌↔◌, true}
use Rattle.kp_object_defs.specs.PortInfo.{PortInfo}
use Rattle.kp_history_defs.specs.DirtyPorts.{same_info}

-- The same is known of two ports exactly where they are equal.
abbrev pub InfosAreTold : Type 0
InfosAreTold = (a b : PortInfo) → (same_info a b ≡ true) ↔ (a ≡ b)
