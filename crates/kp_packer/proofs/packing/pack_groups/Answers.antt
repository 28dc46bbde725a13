use Rattle.std.proofs.Common.{◌≡◌, ◌+◌, ◌<◌, ◌∙◌, ◌++◌, ◌∷◌, map, drop, length, ap, sym, subst, append_assoc}
use Rattle.std.specs.List.{flat_map}
use Rattle.std.proofs.lemmas.List.{drop_more}
use Rattle.kp_object_defs.specs.Packing as spec
use Rattle.kp_packer.specs.Views.{shown, filling_of, new_slice_of, placed_of, packing_of, packings_of}
use Rattle.kp_packer.proofs.packing.pack_groups.Goals as goal

pub loop-group-preserved : goal.loop-group-preserved
loop-group-preserved c =
    let most = c.args.most in
    let groups = c.args.groups.now in
    let slices = c.args.slices.now in
    let wanted = c.args.wanted.now in
    let i = c.loop-group.group in
    let g = c.index-groups-group.result in
    let s = c.index-slices-group.result in
    let w = c.index-wanted-group.result in
    let in_slices : i < length slices = subst (λ n. i < n) (sym c.requires.slices) c.loop-group-test.true in
    let in_wanted : i < length wanted = subst (λ n. i < n) (sym c.requires.wanted) c.loop-group-test.true in
    let rest = packings_of most (map (λ g. g.items) (drop (i + 1) groups)) (map (λ v. shown v.items) (drop (i + 1) slices)) (map (λ v. shown v.items) (drop (i + 1) wanted)) in
    let gs : drop i groups ≡ g ∷ drop (i + 1) groups = drop_more groups i g c.loop-group-test.true ∙ ap (λ x. x ∷ drop (i + 1) groups) (sym c.index-groups-group.is) in
    let ss : drop i slices ≡ s ∷ drop (i + 1) slices = drop_more slices i s in_slices ∙ ap (λ x. x ∷ drop (i + 1) slices) (sym c.index-slices-group.is) in
    let ws : drop i wanted ≡ w ∷ drop (i + 1) wanted = drop_more wanted i w in_wanted ∙ ap (λ x. x ∷ drop (i + 1) wanted) (sym c.index-wanted-group.is) in
    let step : packings_of most (map (λ g. g.items) (drop i groups)) (map (λ v. shown v.items) (drop i slices)) (map (λ v. shown v.items) (drop i wanted)) ≡ packing_of most g.items (shown s.items) (shown w.items) ∷ rest =
    λ j. packings_of most (map (λ g. g.items) (gs j)) (map (λ v. shown v.items) (ss j)) (map (λ v. shown v.items) (ws j)) in
    let placed : placed_of c.in_ok-placed.placed ≡ spec.packed_group most (shown s.items) (shown w.items) =
    c.in_ok-placed.ensures ∙ (λ j. spec.packed_group most (shown (c.deref.ensures.value j)) (shown (c.deref-in-loop-group.ensures.value j))) in
    let fills = map filling_of c.loop-group.packing.fills.items in
    let made = map new_slice_of c.loop-group.packing.made.items in
    record {
      fills =
          ap (λ l. l ++ flat_map (λ g. g.fillings) rest) (c.in_ok-add_group.ensures.fills ∙ ap (λ p. fills ++ p.fillings) placed)
          ∙ append_assoc fills (packing_of most g.items (shown s.items) (shown w.items)).fillings (flat_map (λ g. g.fillings) rest)
          ∙ ap (λ l. fills ++ flat_map (λ g. g.fillings) l) (sym step)
          ∙ c.loop-group.invariant.fills;
      made =
          ap (λ l. l ++ flat_map (λ g. g.made) rest) (c.in_ok-add_group.ensures.made ∙ ap (λ p. made ++ map (λ more. record { ports = g.items; wanted = more }) p.made) placed)
          ∙ append_assoc made (packing_of most g.items (shown s.items) (shown w.items)).made (flat_map (λ g. g.made) rest)
          ∙ ap (λ l. made ++ flat_map (λ g. g.made) l) (sym step)
          ∙ c.loop-group.invariant.made;
    }
