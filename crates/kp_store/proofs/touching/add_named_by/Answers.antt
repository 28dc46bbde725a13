use Rattle.std.proofs.Common.{Option, option_copied, sym, ap, ◌∙◌, Bor}
use Rattle.std.proofs.lemmas.Result.{on_ok_weaker}
use Rattle.std.specs.List.{list_any}
use Rattle.std.specs.Ordering.{eq_by_cmp}
use Rattle.kp_base.specs.Keys.{key_cmp}
use Rattle.kp_base.specs.declared.key.ObjectKey.{ObjectKey}
use Rattle.kp_types.specs.declared.slice.Slice.{Slice}
use Rattle.kp_object_defs.specs.Entries.{is_of_service}
use Rattle.kp_touch_defs.specs.Touches.{names_service}
use Rattle.kp_store.proofs.Adding.{as_well, by_same, none_added}
use Rattle.kp_store.proofs.Owners.{owned}
use Rattle.kp_store.proofs.touching.add_named_by.Goals as goal

pub returns-in_ok-owners-in-Some : goal.returns-in_ok-owners-in-Some
returns-in_ok-owners-in-Some c =
    let old = c.args.touched.now in
    let new = c.add_each.new.self in
    let slice = c.in-Some.slice.now in
    let listed = λ (k : ObjectKey). list_any (eq_by_cmp key_cmp k) c.as_slice.result.now in
    by_same c.add_each.result old new
    (λ (s : Option (Bor Slice)). names_service (option_copied s)) (sym c.in-Some.is)
    (on_ok_weaker c.add_each.result (λ adds.
    as_well old new listed adds (λ k. is_of_service k slice) (λ k.
    ap (list_any (eq_by_cmp key_cmp k)) (c.as_slice.ensures ∙ c.in_ok-owners-in-Some.ensures)
    ∙ owned k slice)) c.add_each.ensures.ok)

pub returns-in-None : goal.returns-in-None
returns-in-None c =
    none_added c.args.touched.now (names_service (option_copied c.args.slice)) (λ k.
    ap (λ (s : Option (Bor Slice)). names_service (option_copied s) k) c.in-None.is)
