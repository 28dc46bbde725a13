-- The groups so far are packed, and the others are to come.
use Rattle.std.proofs.Common.{◌≡◌, ◌++◌, map, drop}
use Rattle.std.specs.List.{flat_map}
use Rattle.kp_packer.specs.Views.{shown, filling_of, new_slice_of, packings_of}
use Rattle.kp_packer.proofs.packing.pack_groups.Given as goal

abbrev pub invariant-loop-group : goal.invariant-loop-group
invariant-loop-group l = record {
  fills : map filling_of l.packing.fills.items
      ++ flat_map (λ g. g.fillings) (packings_of l.most (map (λ g. g.items) (drop l.group l.groups)) (map (λ v. shown v.items) (drop l.group l.slices)) (map (λ v. shown v.items) (drop l.group l.wanted)))
      ≡ flat_map (λ g. g.fillings) (packings_of l.most (map (λ g. g.items) l.groups) (map (λ v. shown v.items) l.slices) (map (λ v. shown v.items) l.wanted));
  made : map new_slice_of l.packing.made.items
      ++ flat_map (λ g. g.made) (packings_of l.most (map (λ g. g.items) (drop l.group l.groups)) (map (λ v. shown v.items) (drop l.group l.slices)) (map (λ v. shown v.items) (drop l.group l.wanted)))
      ≡ flat_map (λ g. g.made) (packings_of l.most (map (λ g. g.items) l.groups) (map (λ v. shown v.items) l.slices) (map (λ v. shown v.items) l.wanted));
}
