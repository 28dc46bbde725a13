use Rattle.std.proofs.Common.{◌&&◌, ◌||◌, Bool, option_copied, sym, ap}
use Rattle.std.proofs.lemmas.Result.{on_ok_weaker}
use Rattle.kp_touch_defs.specs.Touches.{is_selected}
use Rattle.kp_store.proofs.Adding.{and_then, by_same, none_added}
use Rattle.kp_store.proofs.touching.add_selecting.Goals as goal

pub returns-in_ok-add_selecting_one : goal.returns-in_ok-add_selecting_one
returns-in_ok-add_selecting_one c =
    let before = is_selected c.args.objects.now (option_copied c.args.before) in
    let after = is_selected c.args.objects.now (option_copied c.args.after) in
    let r = c.add_selecting_one-then-config.result in
    let old = c.args.touched.now in
    let between = c.add_selecting_one.new.touched in
    let new = c.add_selecting_one-then-config.new.touched in
    by_same r old new (λ (b : Bool) k. b && (before k || after k)) (sym c.if-config.true)
    (on_ok_weaker r (and_then old between before c.in_ok-add_selecting_one.ensures new after)
    c.add_selecting_one-then-config.ensures)

pub returns-else-config : goal.returns-else-config
returns-else-config c =
    let before = is_selected c.args.objects.now (option_copied c.args.before) in
    let after = is_selected c.args.objects.now (option_copied c.args.after) in
    none_added c.args.touched.now (λ k. c.args.config.now.controller && (before k || after k))
    (λ k. ap (λ b. b && (before k || after k)) c.if-config.false)
