-- The Services so far were packed, so they are settled.
use Rattle.std.proofs.Common.{◌≡◌, Bool, map, take, filter}
use Rattle.std.specs.List.{fold}
use Rattle.kp_base.specs.declared.key.ObjectKey.{ObjectKey}
use Rattle.kp_object_defs.specs.Desired.{has_selector}
use Rattle.kp_types.specs.Setting.{both_families}
use Rattle.kp_settle_laws.specs.Settled.{AreSettledBut, after_each, without_each}
use Rattle.kp_controller.specs.Settling.{AreOf}
use Rattle.kp_controller.proofs.step.pack_services.Given as goal

abbrev pub invariant-loop-service : goal.invariant-loop-service
invariant-loop-service l =
    (l.slices
    ≡ fold (after_each both_families l.config.max_per_slice l.objects) l.fn.slices
    (filter has_selector (map (λ s. s.now) (take l.service-index l.services))))
    × (AreOf l.objects (map (λ s. s.now) l.services) → (picked : ObjectKey → Bool)
    → AreSettledBut picked l.config.max_per_slice l.objects l.fn.slices
    → AreSettledBut
    (without_each (filter has_selector (map (λ s. s.now) (take l.service-index l.services))) picked)
    l.config.max_per_slice l.objects l.slices)
