-- Events that lead past Services, one after the other.
use Rattle.std.proofs.Common.{◌≡◌, ◌&&◌, ◌||◌, ◌↔◌, Bool, true, false, List, [], ◌∷◌, ◌++◌}
use Rattle.std.proofs.Common.{refl, sym, ap, ◌∙◌}
use Rattle.std.specs.Prelude.{IsFalse}
use Rattle.std.specs.List.{fold}
use Rattle.std.proofs.lemmas.Bool.{or_parts}
use Rattle.std.proofs.lemmas.List.Sums.{fold_push}
use mathlib.Core.Bool.{or_assoc}
use Rattle.kp_base.specs.declared.key.ObjectKey.{ObjectKey}
use Rattle.kp_types.specs.Setting.{Settings}
use Rattle.kp_types.specs.declared.event.Event.{Event}
use Rattle.kp_object_defs.specs.Objects.{Objects, objects_step}
use Rattle.kp_touch_laws.specs.TouchLaws.{touches_in, touches_one}
use Rattle.kp_plane.specs.Past.{GoesOnPast, LeadPast}
use Rattle.kp_plane.proofs.Touching.{both_answers}

-- neither of two
pub neither : (a b : Bool) → a ≡ false → b ≡ false → a || b ≡ false
neither a b none other = ap (λ c. c || b) none ∙ other

-- what a test doesn't tell later it didn't tell before, where it still tells what it told
pub untold : (a b : Bool) → (a ≡ true → b ≡ true) → b ≡ false → a ≡ false
untold true b stays none = absurd (both_answers b (stays refl) none)
untold false b stays none = refl

module _ (settings : Settings) where
  -- events and then others touch what either touch
  pub touches_both : (o : Objects) (es more : List Event) (k : ObjectKey)
      → touches_one settings o (es ++ more) k
      ≡ touches_one settings o es k || touches_one settings (fold objects_step o es) more k
  touches_both o [] more k = refl
  touches_both o (e ∷ es) more k =
      ap (λ b. touches_in settings o e k || b) (touches_both (objects_step o e) es more k)
      ∙ sym (or_assoc (touches_in settings o e k) (touches_one settings (objects_step o e) es k)
      (touches_one settings (fold objects_step (objects_step o e) es) more k))

  -- no event leads from objects to themselves
  pub past_none : (o p : Objects) (k : ObjectKey) → p ≡ o → LeadPast settings o p k
  past_none o p k same = record { events = []; leads = same; past = refl }

  same_end : (o p q : Objects) (k : ObjectKey) → q ≡ p → LeadPast settings o p k
      → LeadPast settings o q k
  same_end o p q k same is = record {
    events = is.events;
    leads = same ∙ is.leads;
    past = is.past;
  }

  -- one event more
  one_more : (o p q : Objects) (e : Event) (k : ObjectKey) → q ≡ objects_step p e
      → touches_in settings p e k ≡ false → LeadPast settings o p k → LeadPast settings o q k
  one_more o p q e k next none is = record {
    events = is.events ++ e ∷ [];
    leads = next ∙ ap (λ r. objects_step r e) is.leads
        ∙ sym (fold_push objects_step o is.events e);
    past = touches_both o is.events (e ∷ []) k
        ∙ ap (λ b. b || (touches_in settings (fold objects_step o is.events) e k || false)) is.past
        ∙ ap (λ r. touches_in settings r e k || false) (sym is.leads)
        ∙ ap (λ b. b || false) none;
  }

  -- ---- From objects to later ones

  pub past_all : (o : Objects) (t : ObjectKey → Bool) → GoesOnPast settings o t o t
  past_all o t = λ from k none. (none, λ led. led)

  -- an event, where the Services that it touches are added
  pub past_one : (o p : Objects) (t u : ObjectKey → Bool) (e : Event) (changed : Bool)
      → (IsFalse changed ↔ (objects_step o e ≡ o)) → p ≡ objects_step o e
      → ((k : ObjectKey) → u k ≡ (changed && touches_in settings o e k) || t k)
      → GoesOnPast settings o t p u
  past_one o p t u e true same is adds = λ from k none.
      let parts = or_parts (touches_in settings o e k) (t k) (sym (adds k) ∙ none) in
      (parts.1, λ led. one_more from o p e k is parts.0 led)
  past_one o p t u e false same is adds = λ from k none.
      let parts = or_parts false (t k) (sym (adds k) ∙ none) in
      (parts.1, λ led. same_end from o p k (is ∙ same.0 refl) led)

  module _ (o p : Objects) (t u : ObjectKey → Bool) (goes : GoesOnPast settings o t p u) where
    pub past_both : (q : Objects) (v : ObjectKey → Bool) → GoesOnPast settings p u q v
        → GoesOnPast settings o t q v
    past_both q v then = λ from k none.
        let second = then from k none in
        let first = goes from k second.0 in
        (first.0, λ led. second.1 (first.1 led))

    -- where the objects stay, and the same Services are told
    pub past_same : (q : Objects) (v : ObjectKey → Bool) → q ≡ p → ((k : ObjectKey) → v k ≡ u k)
        → GoesOnPast settings o t q v
    past_same q v is same = λ from k none.
        let left = goes from k (sym (same k) ∙ none) in
        (left.0, λ led. same_end from p q k is (left.1 led))

    -- where others are told too, and still are
    pub past_with : (s r : ObjectKey → Bool) → ((k : ObjectKey) → r k ≡ false → s k ≡ false)
        → GoesOnPast settings o (λ k. s k || t k) p (λ k. r k || u k)
    past_with s r stay = λ from k none.
        let parts = or_parts (r k) (u k) none in
        let left = goes from k parts.1 in
        (neither (s k) (t k) (stay k parts.0) left.0, left.1)

    -- where those that are told are added to others
    pub past_added : (s r v joined : ObjectKey → Bool) → ((k : ObjectKey) → joined k ≡ u k)
        → ((k : ObjectKey) → r k ≡ joined k || s k)
        → GoesOnPast settings o (λ k. s k || t k) p (λ k. r k || v k)
    past_added s r v joined same adds = λ from k none.
        let parts = or_parts (r k) (v k) none in
        let both = or_parts (joined k) (s k) (sym (adds k) ∙ parts.0) in
        let left = goes from k (sym (same k) ∙ both.0) in
        (neither (s k) (t k) both.1 left.0, left.1)
