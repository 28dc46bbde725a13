use Rattle.std.proofs.Common.{rules, ◌≡◌, ◌+◌, ◌-◌, ◌≤◌, ◌∙◌, ◌++◌, ◌∷◌, [], ap, sym, map, take, drop, length, arith}
use Rattle.std.proofs.lemmas.List.{length-map, length-drop, drop-drop}
use Rattle.std.specs.List.{take-map, drop-map}
use Rattle.kp_object_defs.specs.Packing as spec
use Rattle.kp_packer.specs.Views.{shown, with_made}
use Rattle.kp_packer.proofs.Placing.{chunked}
use Rattle.kp_packer.proofs.place.full_chunks.Goals as goal

pub loop-used-preserved : goal.loop-used-preserved
loop-used-preserved c =
    let left = c.args.left.now in
    let used = c.loop-used.used in
    let most = c.args.most in
    let rest = shown (drop used left) in
    let made = map (λ v. shown v.items) c.loop-used.made.items in
    let many : most ≤ length left - used = search rules in
    let behind_used : c.split_at.result.1.now ≡ drop used left = search rules in
    let longer : map (λ v. shown v.items) c.add_chunk.new.made.items ≡ made ++ take most rest ∷ [] =
    c.in_ok-add_chunk.ensures
    ∙ ap (λ l. made ++ shown (take most l) ∷ []) behind_used
    ∙ ap (λ l. made ++ l ∷ []) (sym (take-map (λ b. b.now) most (drop used left))) in
    let behind : shown (drop (used + most) left) ≡ drop most rest =
    ap shown (sym (drop-drop most used left)) ∙ sym (drop-map (λ b. b.now) most (drop used left)) in
    let count : length rest ≡ length left - used = length-map (drop used left) (λ b. b.now) ∙ length-drop used left in
    record {
      used = omega (arith, many, c.loop-used.invariant.used);
      made = λ fs.
          chunked most c.requires.some fs (spec.place_left (length (shown left)) most fs (shown left)) made rest (omega (arith, many, count)) (c.loop-used.invariant.made fs)
          ∙ sym (λ i. with_made (longer i) (spec.place_left (length (behind i)) most fs (behind i)));
    }
