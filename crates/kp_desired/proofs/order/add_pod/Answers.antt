use Rattle.std.proofs.Common.{cond, ap, sym, refl, ◌∙◌}
use Rattle.std.specs.FinMap.{put}
use Rattle.kp_base.specs.Keys.{key_cmp}
use Rattle.kp_object_defs.proofs.InOrder.{insert-through}
use Rattle.kp_desired.specs.ByName.{shown}
use Rattle.kp_desired.proofs.order.add_pod.Goals as goal

pub returns-in_ok-insert : goal.returns-in_ok-insert
returns-in_ok-insert c =
    let pod = c.args.pod.now in
    let entries = shown c.args.by_name.now.entries in
    ap shown c.in_ok-insert.ensures.entries
    ∙ insert-through key_cmp (λ b. b.now) (λ b. b.now) (λ a b. refl) c.args.by_name.now.entries _ _
    ∙ sym (ap (λ b. cond b (put key_cmp pod.key pod entries) entries) (sym c.selects.ensures ∙ c.if-selects.true))
