use Rattle.std.proofs.Common.{Option, option_copied, sym, ap, Bor}
use Rattle.kp_types.specs.declared.slice.Slice.{Slice}
use Rattle.kp_touch_defs.specs.Touches.{names_service}
use Rattle.kp_store.proofs.Adding.{by_same, none_added}
use Rattle.kp_controller.proofs.touching.add_owner.Goals as goal

pub returns-in-Some : goal.returns-in-Some
returns-in-Some c =
    by_same c.add_label.result c.args.touched.now c.add_label.new.touched
    (λ (s : Option (Bor Slice)). names_service (option_copied s)) (sym c.in-Some.is)
    c.add_label.ensures

pub returns-in-None : goal.returns-in-None
returns-in-None c =
    none_added c.args.touched.now (names_service (option_copied c.args.slice)) (λ k.
    ap (λ (s : Option (Bor Slice)). names_service (option_copied s) k) c.in-None.is)
