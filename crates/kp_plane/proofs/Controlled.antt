-- Slices stay as the controller left them while events come, but for the Services that these touch.
use Rattle.std.proofs.Common.{◌≡◌, ◌&&◌, ◌↔◌, Bool, true, false, true≢false, refl, sym, subst, ◌∙◌}
use Rattle.std.specs.Prelude.{IsFalse}
use Rattle.kp_base.specs.declared.config.Config.{Config}
use Rattle.kp_types.specs.declared.event.Event.{Event}
use Rattle.kp_object_defs.specs.Objects.{Objects, objects_step}
use Rattle.kp_object_defs.specs.OwnKeys.{AreUnderOwnKeys}
use Rattle.kp_object_defs.specs.SlicesNow.{Slices, slices_step}
use Rattle.kp_touch_defs.specs.Touches.{touches}
use Rattle.kp_settle_laws.specs.Settled.{IsControlledBut, none, touches_slices}
use Rattle.kp_settle_laws.specs.SettleLaws.{AreOwn, MoreArePicked, ObjectsTouch, SlicesTouch}
use Rattle.kp_store.specs.Touched.{AddsTo, is_touched}
use Rattle.kp_store.specs.declared.touched.Touched.{Touched}

-- where the slices are as the controller left them, any Services may be touched
pub controlled_by_none : MoreArePicked → (config : Config) (o : Objects) (m : Slices) (t : Touched)
    → IsControlledBut none config o m → IsControlledBut (is_touched t) config o m
controlled_by_none more config o m t is =
    more none (is_touched t) config o m (λ k yes. absurd (true≢false (sym yes))) is

module _ (more : MoreArePicked) (config : Config) (event : Event) (t u : Touched) where
  -- an event changes the objects, or it doesn't
  pub objects_controlled : ObjectsTouch → (o p : Objects) (m : Slices) (changed : Bool)
      → AreUnderOwnKeys o → (IsFalse changed ↔ (objects_step o event ≡ o))
      → p ≡ objects_step o event
      → AddsTo (λ k. changed && touches config.node config.controller o event k) t u
      → IsControlledBut (is_touched t) config o m → IsControlledBut (is_touched u) config p m
  objects_controlled touch o p m true own same step adds is =
      subst (λ q. IsControlledBut (is_touched u) config q m) (sym step)
      (more _ (is_touched u) config (objects_step o event) m (λ k yes. adds k ∙ yes)
      (touch (is_touched t) config o m event own is))
  objects_controlled touch o p m false own same step adds is =
      subst (λ q. IsControlledBut (is_touched u) config q m) (sym (step ∙ same.0 refl))
      (more (is_touched t) (is_touched u) config o m (λ k yes. adds k ∙ yes) is)

  -- and it changes the slices
  pub slices_controlled : SlicesTouch → (o : Objects) (m n : Slices) → AreOwn m
      → n ≡ slices_step m event → AddsTo (touches_slices m event) t u
      → IsControlledBut (is_touched t) config o m → IsControlledBut (is_touched u) config o n
  slices_controlled touch o m n own step adds is =
      subst (IsControlledBut (is_touched u) config o) (sym step)
      (more _ (is_touched u) config o (slices_step m event) (λ k yes. adds k ∙ yes)
      (touch (is_touched t) config o m event own is))
