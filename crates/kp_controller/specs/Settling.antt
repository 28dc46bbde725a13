-- What packing touched Services alone rests on.
use Rattle.std.specs.Prelude.{◌≡◌, ℕ, Bool, List, [], map, cond, Contains, Some}
use Rattle.std.specs.List.{filter}
use Rattle.std.specs.FinMap as finite
use Rattle.kp_base.specs.declared.key.ObjectKey.{ObjectKey}
use Rattle.kp_types.specs.declared.service.Service.{Service}
use Rattle.kp_object_defs.specs.Desired.{has_selector}
use Rattle.kp_object_defs.specs.Objects.{Objects}
use Rattle.kp_object_defs.specs.SlicesNow.{Slices, is_leftover}
use Rattle.kp_settle_laws.specs.Settled.{AreSettledBut, without_each}
use Rattle.kp_controller.specs.Clashing.{may_clash}

-- each of the Services is the one that the objects have at its key
abbrev pub AreOf : Objects → List Service → Type 0
AreOf o services = (s : Service) → Contains services s → finite.get o.services s.key ≡ Some s

-- Where these are Services of the objects, those of them with a selector are settled too, in each
-- family.
abbrev pub Settles : ℕ → Objects → List Service → Slices → Slices → Type 0
Settles most o services before after =
    AreOf o services → (picked : ObjectKey → Bool) → AreSettledBut picked most o before
    → AreSettledBut (without_each (filter has_selector services) picked) most o after

-- the keys of the slices near to a Service that are left over, where the Service is absent
abbrev pub left_near : Objects → Slices → ObjectKey → List ObjectKey
left_near o m service =
    cond (finite.contains_key o.services service) []
    (map (λ s. s.key) (filter (is_leftover o) (filter (may_clash service) (finite.values m))))
