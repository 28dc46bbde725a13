-- What is so in both families is so in each.
use Rattle.kp_base.specs.declared.address.Family.{Family}
use Rattle.kp_base.specs.declared.address.Family.TheVariants.{V4, V6}

pub in_each : (P : Family → Type 0) → P V4 → P V6 → (family : Family) → P family
in_each P four six V4 = four
in_each P four six V6 = six
