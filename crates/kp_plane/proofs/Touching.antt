-- Events leave what is known of the ports of each Service that they don't touch.
use Rattle.std.proofs.Common.{◌≡◌, ◌&&◌, ◌||◌, ◌↔◌, Bool, true, false, refl, sym, ap, subst, ◌∙◌}
use Rattle.std.specs.Prelude.{IsFalse}
use Rattle.std.proofs.lemmas.Bool.{or_parts}
use Rattle.kp_base.specs.declared.address.Family.{Family}
use Rattle.kp_base.specs.declared.config.Config.{Config}
use Rattle.kp_base.specs.declared.key.ObjectKey.{ObjectKey}
use Rattle.kp_types.specs.Setting.{Setting, Settings, view_of}
use Rattle.kp_types.specs.declared.event.Event.{Event}
use Rattle.kp_choice_defs.specs.Settings.{setting_of}
use Rattle.kp_object_defs.specs.Objects.{Objects, objects_step}
use Rattle.kp_object_defs.specs.OwnKeys.{AreUnderOwnKeys}
use Rattle.kp_object_defs.specs.PortByKey.{info_at}
use Rattle.kp_touch_laws.specs.TouchLaws.{UntouchedInfos, known_at, touches_in}
use Rattle.kp_writer.specs.Written.{WriterParts}
use Rattle.kp_plane.specs.Families.{Both, KnowsRest}
use Rattle.kp_plane.specs.Known.{LeavesUntouched}
use Rattle.kp_plane.specs.declared.per_family.PerFamily.{PerFamily}
use Rattle.kp_plane.proofs.Each.{both_from}

-- no test has both answers
pub both_answers : (b : Bool) → b ≡ true → b ≡ false → ⊥
both_answers true e f = cc
both_answers false e f = cc

module _ (setting : Setting) where
  -- no event touches nothing
  pub leaves_all : (o : Objects) (t : ObjectKey → Bool) → LeavesUntouched setting o t o t
  leaves_all o t = λ key none. (none, refl)

  -- what is left by some and then by others is left by all
  pub leaves_both : (o p q : Objects) (t u v : ObjectKey → Bool) → LeavesUntouched setting o t p u
      → LeavesUntouched setting p u q v → LeavesUntouched setting o t q v
  leaves_both o p q t u v first then = λ key none.
      let second = then key none in
      let before = first key second.0 in
      (before.0, second.1 ∙ before.1)

  -- where the same objects stay, and the same Services were touched, all is left
  pub leaves_same : (o p q : Objects) (t u v : ObjectKey → Bool) → LeavesUntouched setting o t p u
      → q ≡ p → ((k : ObjectKey) → v k ≡ u k) → LeavesUntouched setting o t q v
  leaves_same o p q t u v leaves is same = λ key none.
      let left = leaves key (sym (same key.object) ∙ none) in
      (left.0, ap (λ o. info_at setting.family setting.config o key) is ∙ left.1)

-- ---- What writers know of the ports that are left

-- it is still so
pub all_know_on : (config : Config) (o p : Objects) (t u : ObjectKey → Bool)
    → ((family : Family) → LeavesUntouched (setting_of family config) o t p u)
    → (x : PerFamily WriterParts) → Both (λ family w. w.config ≡ config) x
    → Both (KnowsRest o t) x → Both (KnowsRest p u) x
all_know_on config o p t u leaves x =
    both_from (λ family w. w.config ≡ config) (KnowsRest o t) (KnowsRest p u) x
    (λ family w is knows key none.
    let left = subst (λ c. LeavesUntouched (setting_of w.family c) o t p u) (sym is)
    (leaves w.family) key none in
    knows key left.0 ∙ sym left.1)

-- and where the same Services were touched
pub knows_same : (o : Objects) (t u : ObjectKey → Bool) (family : Family) (w : WriterParts)
    → ((k : ObjectKey) → t k ≡ u k) → KnowsRest o t family w → KnowsRest o u family w
knows_same o t u family w same knows = λ key none. knows key (same key.object ∙ none)

module _ (settings : Settings) (family : Family) where
  -- what an event leaves in a family, where the Services that it touches are added
  pub leaves_one : UntouchedInfos → (o after : Objects) (t u : ObjectKey → Bool) (e : Event)
      → (changed : Bool) → AreUnderOwnKeys o → (IsFalse changed ↔ (objects_step o e ≡ o))
      → after ≡ objects_step o e
      → ((k : ObjectKey) → u k ≡ (changed && touches_in settings o e k) || t k)
      → LeavesUntouched (view_of family settings) o t after u
  leaves_one stay o after t u e true own same is adds = λ key none.
      let parts = or_parts (touches_in settings o e key.object) (t key.object)
      (sym (adds key.object) ∙ none) in (
        parts.1,
        ap (λ p. known_at family settings p key) is ∙ stay family settings o e key own parts.0,
      )
  leaves_one stay o after t u e false own same is adds = λ key none.
      let parts = or_parts false (t key.object) (sym (adds key.object) ∙ none) in
      (parts.1, ap (λ p. known_at family settings p key) (is ∙ same.0 refl))
