use Rattle.std.proofs.Common.{◌≡◌, ◌+◌, ◌∙◌, ◌++◌, ◌∷◌, [], Bool, cond, not, take, ap, sym, filter}
use Rattle.std.specs.List.{list_any}
use Rattle.std.proofs.lemmas.List.{map-append, append-nil}
use Rattle.std.proofs.lemmas.List.Elements.{filter_more}
use Rattle.kp_types.specs.declared.slice.Slice.{Slice}
use Rattle.kp_object_defs.specs.Packing.{is_in_group}
use Rattle.kp_packer.specs.Views.{shown}
use Rattle.kp_packer.proofs.groups.left_over.Goals.{then-not-branch+in_ok-push, else-not-branch}
use Rattle.kp_packer.proofs.groups.left_over.Goals as goal

pub loop-slice-preserved : goal.loop-slice-preserved
loop-slice-preserved c =
    let keys = c.args.groups.now.keys in
    let slices = c.args.slices.now in
    let i = c.loop-slice.slice-index in
    let x = c.slice-item.result in
    let p : Slice → Bool = λ s. not (list_any (λ g. is_in_group g.items s.ports) keys) in
    let next : filter p (take (i + 1) slices) ≡ filter p (take i slices) ++ cond (p x) (x ∷ []) [] =
    filter_more p slices i x c.loop-slice-test.true ∙ ap (λ y. filter p (take i slices) ++ cond (p y) (y ∷ []) []) (sym c.slice-item.is) in
    let test : p x ≡ not c.in_ok-has_group.field-0 = ap not (sym c.in_ok-has_group.ensures) in
    elim c.if-not-branch.branch [
      | then-not-branch+in_ok-push w ↦
          let pushed : shown c.if-not-branch.over.items ≡ shown c.loop-slice.over.items ++ x ∷ [] =
          ap (λ v. shown v.items) w.over-is ∙ ap shown w.in_ok-push.ensures.items ∙ map-append (λ b. b.now) c.loop-slice.over.items (_ ∷ []) in
          pushed ∙ ap (λ l. l ++ x ∷ []) c.loop-slice.invariant
          ∙ sym (next ∙ ap (λ b. filter p (take i slices) ++ cond b (x ∷ []) []) (test ∙ ap not w.if-not-branch.true))
      | else-not-branch w ↦
          ap (λ v. shown v.items) w.over-is ∙ c.loop-slice.invariant
          ∙ sym (next ∙ ap (λ b. filter p (take i slices) ++ cond b (x ∷ []) []) (test ∙ ap not w.if-not-branch.false) ∙ append-nil (filter p (take i slices)))
    ]
