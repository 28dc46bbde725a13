use Rattle.std.proofs.Common.{rules, ◌≡◌, ◌+◌, ◌∙◌, ◌++◌, ◌∷◌, [], Bool, ℕ, cond, max, Some, unwrap_or, ap, sym, map, take, length}
use Rattle.std.proofs.lemmas.List.{take_more, map-append, length-map}
use Rattle.kp_object_defs.specs.Packing as spec
use Rattle.kp_packer.specs.Views.{filling_of}
use Rattle.kp_packer.proofs.Placing.{greatest, greatest_more}
use Rattle.kp_packer.proofs.place.fullest.Goals.{then-has_room, else-has_room}
use Rattle.kp_packer.proofs.place.fullest.Goals as goal

pub loop-fill-preserved : goal.loop-fill-preserved
loop-fill-preserved c =
    let fills = c.args.fills.now in
    let i = c.loop-fill.fill-index in
    let x = c.fill-item.result in
    let before = map filling_of (take i fills) in
    let p : spec.Filling → Bool = spec.has_room c.args.most c.args.more in
    let n : spec.Filling → ℕ = λ f. length f.endpoints in
    let next : map filling_of (take (i + 1) fills) ≡ before ++ filling_of x ∷ [] =
    ap (map filling_of) (take_more fills i x c.loop-fill-test.true ∙ ap (λ y. take i fills ++ y ∷ []) (sym c.fill-item.is)) ∙ map-append filling_of (take i fills) (x ∷ []) in
    let step : c.if-has_room.fullest ≡ cond (p (filling_of x)) (Some (max (unwrap_or (greatest p n before) 0) (n (filling_of x)))) (greatest p n before) =
    elim c.if-has_room.branch [
      | then-has_room w ↦
          let is : c.if-has_room.fullest ≡ Some (max (unwrap_or c.loop-fill.fullest 0) (length x.endpoints.items)) = search rules in
          is
          ∙ (λ j. Some (max (unwrap_or (c.loop-fill.invariant j) 0) (sym (length-map x.endpoints.items (λ b. b.now)) j)))
          ∙ sym (ap (λ b. cond b (Some (max (unwrap_or (greatest p n before) 0) (n (filling_of x)))) (greatest p n before)) (sym c.has_room.ensures ∙ w.if-has_room.true))
      | else-has_room w ↦
          w.fullest-is ∙ c.loop-fill.invariant
          ∙ sym (ap (λ b. cond b (Some (max (unwrap_or (greatest p n before) 0) (n (filling_of x)))) (greatest p n before)) (sym c.has_room.ensures ∙ w.if-has_room.false))
    ] in
    step ∙ sym (ap (greatest p n) next ∙ greatest_more p n before (filling_of x))
