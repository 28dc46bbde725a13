use Rattle.std.proofs.Common.{◌≡◌, Option, Some, None, option_copied, refl, sym, ap, ◌∙◌, Bor}
use Rattle.std.proofs.lemmas.Result.{on_ok_weaker}
use Rattle.std.specs.FinMap as finite
use Rattle.std.specs.List.{list_any}
use Rattle.std.specs.Ordering.{eq_by_cmp}
use Rattle.kp_base.specs.Keys.{key_cmp}
use Rattle.kp_base.specs.declared.key.ObjectKey.{ObjectKey}
use Rattle.kp_types.specs.declared.pod.Pod.{Pod}
use Rattle.kp_types.specs.declared.service.Service.{Service}
use Rattle.kp_object_defs.specs.Desired.{selects}
use Rattle.kp_touch_defs.specs.Touches.{is_selected, selects_pod}
use Rattle.kp_store.proofs.Adding.{as_well, by_same, none_added}
use Rattle.kp_store.proofs.Found.{passes, passing_keys}
use Rattle.kp_store.proofs.touching.add_selecting_one.Goals as goal

-- a Service, if there is one, passes where it selects the pod
selecting : (pod : Pod) (s : Option Service) → passes (λ s. selects s pod) s ≡ selects_pod s pod
selecting pod None = refl
selecting pod (Some s) = refl

pub returns-in_ok-keys-in-Some : goal.returns-in_ok-keys-in-Some
returns-in_ok-keys-in-Some c =
    let o = c.args.objects.now in
    let old = c.args.touched.now in
    let new = c.add_each.new.self in
    let pod = c.in-Some.pod.now in
    let found = c.in_ok-keys-in-Some.ensures in
    let listed = λ (k : ObjectKey). list_any (eq_by_cmp key_cmp k) c.as_slice.result.now in
    by_same c.add_each.result old new
    (λ (p : Option (Bor Pod)). is_selected o (option_copied p)) (sym c.in-Some.is)
    (on_ok_weaker c.add_each.result (λ adds.
    as_well old new listed adds (is_selected o (Some pod)) (λ k.
    ap (list_any (eq_by_cmp key_cmp k)) (c.as_slice.ensures ∙ found.found)
    ∙ passing_keys (λ (s : Service). s.key) (λ s. selects s pod) o.services found.own_keys.services k
    ∙ selecting pod (finite.get o.services k))) c.add_each.ensures.ok)

pub returns-in-None : goal.returns-in-None
returns-in-None c =
    let o = c.args.objects.now in
    none_added c.args.touched.now (is_selected o (option_copied c.args.pod)) (λ k.
    ap (λ (p : Option (Bor Pod)). is_selected o (option_copied p) k) c.in-None.is)
