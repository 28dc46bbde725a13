use Rattle.std.proofs.Common.{Some, sym, ap, ◌∙◌}
use Rattle.std.proofs.lemmas.Result.{on_ok_weaker}
use Rattle.kp_base.specs.declared.key.ObjectKey.{ObjectKey}
use Rattle.kp_object_defs.specs.Entries.{is_of_service}
use Rattle.kp_store.proofs.Adding.{as_well, none_added}
use Rattle.kp_touch_defs.specs.Touches.{is_key}
use Rattle.kp_controller.proofs.Labels.{named_one, none_named}
use Rattle.kp_controller.proofs.touching.add_label.Goals as goal

pub returns-in_ok-copy-in-Some-2 : goal.returns-in_ok-copy-in-Some-2
returns-in_ok-copy-in-Some-2 c =
    let slice = c.args.slice.now in
    let key : ObjectKey = record {
      namespace = c.in_ok-copy-in-Some.field-0;
      name = c.in_ok-copy-in-Some-2.field-0;
    } in
    on_ok_weaker c.add.result (λ adds.
    as_well c.args.touched.now c.add.new.self (is_key key) adds (λ k. is_of_service k slice)
    (named_one slice key c.in_ok-copy-in-Some.ensures
    (c.in-Some.is ∙ ap Some (sym c.in_ok-copy-in-Some-2.ensures))))
    c.add.ensures.ok

pub returns-in-None : goal.returns-in-None
returns-in-None c =
    none_added c.args.touched.now (λ k. is_of_service k c.args.slice.now)
    (none_named c.args.slice.now c.in-None.is)
