use Rattle.std.proofs.Common.{◌≡◌, ◌+◌, ◌++◌, ◌∷◌, [], ◌||◌, Bool, true, false, take}
use Rattle.std.proofs.Common.{ap, sym, subst, ◌∙◌, refl}
use Rattle.std.specs.Ordering.{eq_by_cmp}
use Rattle.kp_base.specs.Keys.{key_cmp}
use Rattle.kp_base.specs.declared.key.ObjectKey.{ObjectKey}
use Rattle.kp_base.proofs.KeyOrder.{key_exact, key_ties}
use Rattle.kp_lemmas.proofs.Orders.{equal_from_test}
use Rattle.kp_controller.specs.Replaced.{AreGone, has_key}
use Rattle.kp_controller.proofs.Gone.{goes, stays}
use Rattle.kp_controller.proofs.replaced.keys_gone.Goals as goal
use Rattle.kp_controller.proofs.replaced.keys_gone.Goals.{in-Some}
use Rattle.kp_controller.proofs.replaced.keys_gone.Goals.{in_default+in_ok-copy-in_default+in_ok-push-in_default}

neither_first : (a b : Bool) → (a || b) ≡ false → a ≡ false
neither_first true b none = none
neither_first false b none = refl

neither_other : (a b : Bool) → (a || b) ≡ false → b ≡ false
neither_other true b none = absurd (cc)
neither_other false b none = none

-- one slice more
pub loop-slice-preserved : goal.loop-slice-preserved
loop-slice-preserved c =
    let before = c.args.before.now in
    let after = c.args.after.now in
    let i = c.loop-slice.slice-index in
    let s = c.slice-item.result in
    let so_far = c.loop-slice.invariant in
    elim c.match-split_first.branch [
      | in-Some w ↦
          let next = w.in-Some.next.now in
          let is = w.in-Some.ensures.cases.0 in
          let same : next.key ≡ s.key = key_exact next.key s.key
          (equal_from_test (key_cmp next.key s.key)
          (sym (key_ties next.key s.key) ∙ sym w.eq.ensures ∙ w.if-eq.true)) in
          let others = w.in-Some.others.now in
          let none_left : (key : ObjectKey) → has_key after key ≡ false
          → has_key (next ∷ others) key ≡ false =
          (λ key none. ap (λ r. has_key r key) (sym is) ∙ so_far.rest key none) in
          record {
            gone = subst (AreGone (take (i + 1) before) after) (sym (ap (λ g. g.items) w.gone-is))
                (stays before after i s c.loop-slice-test.true c.slice-item.is
                c.loop-slice.gone.items so_far.gone
                (λ key none. ap (eq_by_cmp key_cmp key) (sym same)
                ∙ neither_first (eq_by_cmp key_cmp key next.key) (has_key others key)
                (none_left key none)));
            rest = λ key none. ap (λ r. has_key r.now key) w.rest-is
                ∙ neither_other (eq_by_cmp key_cmp key next.key) (has_key others key)
                (none_left key none);
          }
      | in_default+in_ok-copy-in_default+in_ok-push-in_default w ↦ record {
        gone = subst (AreGone (take (i + 1) before) after)
            (sym (ap (λ g. g.items) w.gone-is ∙ w.in_ok-push-in_default.ensures.items
            ∙ ap (λ k. c.loop-slice.gone.items ++ k ∷ []) w.in_ok-copy-in_default.ensures))
            (goes before after i s c.loop-slice-test.true c.slice-item.is
            c.loop-slice.gone.items so_far.gone);
        rest = λ key none. ap (λ r. has_key r.now key) w.rest-is ∙ so_far.rest key none;
      }
    ]
