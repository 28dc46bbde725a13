use Rattle.std.proofs.Common.{rules, ◌≡◌, ◌≤◌, ◌<◌, ◌+◌, ◌∙◌, ◌++◌, ◌∷◌, [], ℕ, List, min, length, map, take, drop, ap, sym, arith, append_assoc}
use Rattle.std.specs.List.{zip}
use Rattle.std.proofs.lemmas.List.{append-nil, length-map}
use Rattle.kp_types.specs.declared.slice.Slice.{Slice}
use Rattle.kp_object_defs.specs.Packing as spec
use Rattle.kp_packer.specs.Views.{new_slice_of}
use Rattle.kp_packer.proofs.Naming.{zip_step, zip_end, zip_take}
use Rattle.kp_packer.proofs.names.new_slices.Goals as goal

pub loop-place-preserved : goal.loop-place-preserved
loop-place-preserved c =
    let names = c.in_ok-names.names.items in
    let made = c.args.made.now in
    let i = c.loop-place.place in
    let slices = c.loop-place.slices.items in
    let f : List ℕ × spec.NewSlice → Slice = spec.new_slice c.args.family c.args.service.now in
    let x = c.index.result.now in
    let y = c.index-made-place.result in
    let rest = map f (zip (drop (i + 1) names) (map new_slice_of (drop (i + 1) made))) in
    let counted : c.len.result ≡ length names = search rules in
    let within : i < length names = omega (arith, c.loop-place-test.true, c.min-place-end.ensures, counted) in
    let inside : i < length made = omega (arith, c.loop-place-test.true, c.min-place-end.ensures) in
    let pushed : c.push.new.self.items ≡ slices ++ c.in_ok-new_slice.field-0 ∷ [] = search rules in
    ap (λ l. l ++ rest) (pushed ∙ ap (λ s. slices ++ s ∷ []) c.in_ok-new_slice.ensures)
    ∙ append_assoc slices (f (x, new_slice_of y) ∷ []) rest
    ∙ ap (λ l. slices ++ l) (sym (zip_step f new_slice_of names made i x y within inside c.index.ensures c.index-made-place.is))
    ∙ c.loop-place.invariant

pub returns : goal.returns
returns c =
    let names = c.in_ok-names.names.items in
    let made = c.args.made.now in
    let i = c.loop-place.place in
    let slices = c.loop-place.slices.items in
    let f : List ℕ × spec.NewSlice → Slice = spec.new_slice c.args.family c.args.service.now in
    let counted : c.len.result ≡ length names = search rules in
    let past : min (length names) (length made) ≤ i = omega (arith, c.loop-place-test.false, c.min-place-end.ensures, counted) in
    let more = map new_slice_of made in
    sym (append-nil slices)
    ∙ ap (λ l. slices ++ l) (sym (zip_end f new_slice_of names made i past))
    ∙ c.loop-place.invariant
    ∙ (λ j. map f (zip (c.in_ok-names.ensures j) more))
    ∙ ap (λ n. map f (zip (take n (spec.free_names c.args.service.now c.args.taken.now n)) more)) (sym (length-map made new_slice_of))
    ∙ ap (map f) (zip_take (spec.free_names c.args.service.now c.args.taken.now (length more)) more)
