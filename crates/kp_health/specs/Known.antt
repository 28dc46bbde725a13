-- What the health ports of Services answer, as it is kept.
use Rattle.std.specs.Prelude.{◌≡◌, ◌⊎◌, Bool, false}
use Rattle.std.specs.Coded.{Coded}
use Rattle.std.specs.FinMap as finite
use Rattle.kp_base.specs.Keys.{key_cmp}
use Rattle.kp_base.specs.contracts.key.ObjectKey as key_row
use Rattle.kp_base.specs.declared.config.Config.{Config}
use Rattle.kp_base.specs.declared.key.ObjectKey.{ObjectKey}
use Rattle.kp_object_defs.specs.Objects.{Objects}
use Rattle.kp_health_defs.specs.HealthPorts.{health_at}
use Rattle.kp_health_defs.specs.contracts.health.Health as health_row
use Rattle.kp_health_defs.specs.declared.health.Health.{Health}

-- answers by their Services
abbrev pub Answers : Type 0
Answers = finite.FinMap key_cmp Health

-- they are stored as finite maps are
abbrev pub answers_code : Coded Answers
answers_code = finite.code key_row.the_row.coded health_row.the_row.coded

-- the answer for the Service of a key is that of its health port now, or there is none
abbrev pub IsKnownAt : Config → Objects → Answers → ObjectKey → Type 0
IsKnownAt config o answers key = finite.get answers key ≡ health_at config o key

-- that for each Service is
abbrev pub AreKnown : Config → Objects → Answers → Type 0
AreKnown config o answers = (key : ObjectKey) → IsKnownAt config o answers key

-- that for each Service is which a test doesn't tell
abbrev pub AreKnownBut : (ObjectKey → Bool) → Config → Objects → Answers → Type 0
AreKnownBut test config o answers =
    (key : ObjectKey) → test key ≡ false → IsKnownAt config o answers key

-- each answer is as before, or is that of the health port now
pub record AreNewer (config : Config) (o : Objects) (old new : Answers) : Type 0 where
  pub each :
      (key : ObjectKey) → (finite.get new key ≡ finite.get old key) ⊎ IsKnownAt config o new key

-- each answer is that of the health port by the first of these objects, or by the second
abbrev pub AreBetween : Config → Objects → Objects → Answers → Type 0
AreBetween config before now answers =
    (key : ObjectKey) → IsKnownAt config before answers key ⊎ IsKnownAt config now answers key
