use Rattle.std.proofs.Common.{◌≡◌, ◌∙◌, map, length, ap, sym, filter}
use Rattle.std.specs.List.{flat_map}
use Rattle.std.proofs.lemmas.List.{length-map}
use Rattle.std.proofs.lemmas.Result.{IfOk-weaker}
use Rattle.kp_object_defs.specs.Packing as spec
use Rattle.kp_object_defs.specs.Packing.{is_in_group}
use Rattle.kp_object_defs.specs.PackingLaws.{are_distinct}
use Rattle.kp_packer.specs.Views.{shown, packings_of}
use Rattle.kp_packer.proofs.Grouping.{first_distinct}
use Rattle.kp_packer.proofs.Whole.{all_packings, lists_own}
use Rattle.kp_packer.proofs.packing.pack_all.Goals as goal

pub grouped-requires : goal.grouped-requires
grouped-requires c = record {
  distinct = ap (are_distinct spec.same_ports) c.requires.groups
      ∙ first_distinct spec.same_ports (map (λ w. spec.sorted_ports w.ports) c.args.wanted.now);
}

pub grouped-requires-2 : goal.grouped-requires-2
grouped-requires-2 c = record {
  distinct = ap (are_distinct spec.same_ports) c.requires.groups
      ∙ first_distinct spec.same_ports (map (λ w. spec.sorted_ports w.ports) c.args.wanted.now);
}

pub pack_groups-requires : goal.pack_groups-requires
pack_groups-requires c =
    let wanted = c.args.wanted.now in
    let keys = c.args.groups.now.keys in
    let slices_at : map (λ v. shown v.items) c.deref-3.result.now ≡ map (λ k. filter (λ s. is_in_group k.items s.ports) (spec.in_slice_order c.args.before.now)) keys =
    ap (map (λ v. shown v.items)) c.deref-3.ensures.value ∙ c.in_ok-slices.ensures
    ∙ ap (λ l. map (λ k. filter (λ s. is_in_group k.items s.ports) l) keys) (ap shown c.deref.ensures.value ∙ c.in_ok-sorted.ensures) in
    let wanted_at : map (λ v. shown v.items) c.deref-4.result.now ≡ map (λ k. filter (λ w. is_in_group k.items w.ports) wanted) keys =
    ap (map (λ v. shown v.items)) c.deref-4.ensures.value ∙ c.in_ok-endpoints.ensures
    ∙ ap (λ l. map (λ k. filter (λ w. is_in_group k.items w.ports) l) keys) (ap shown c.deref-2.ensures.value ∙ c.in_ok-references.ensures) in
    record {
      some = c.requires.some;
      slices = sym (length-map c.deref-3.result.now (λ v. shown v.items)) ∙ ap length slices_at ∙ length-map keys _ ∙ sym (ap length c.as_slice.ensures.keys);
      wanted = sym (length-map c.deref-4.result.now (λ v. shown v.items)) ∙ ap length wanted_at ∙ length-map keys _ ∙ sym (ap length c.as_slice.ensures.keys);
      pods = lists_own (λ k. k.items) (λ v. shown v.items) wanted c.requires.pods keys c.deref-4.result.now wanted_at;
    }

pub returns : goal.returns
returns c =
    let wanted = c.args.wanted.now in
    let keys = c.args.groups.now.keys in
    let most = c.args.most in
    let sorted = spec.in_slice_order c.args.before.now in
    let slices_at : map (λ v. shown v.items) c.deref-3.result.now ≡ map (λ k. filter (λ s. is_in_group k.items s.ports) sorted) keys =
    ap (map (λ v. shown v.items)) c.deref-3.ensures.value ∙ c.in_ok-slices.ensures
    ∙ ap (λ l. map (λ k. filter (λ s. is_in_group k.items s.ports) l) keys) (ap shown c.deref.ensures.value ∙ c.in_ok-sorted.ensures) in
    let wanted_at : map (λ v. shown v.items) c.deref-4.result.now ≡ map (λ k. filter (λ w. is_in_group k.items w.ports) wanted) keys =
    ap (map (λ v. shown v.items)) c.deref-4.ensures.value ∙ c.in_ok-endpoints.ensures
    ∙ ap (λ l. map (λ k. filter (λ w. is_in_group k.items w.ports) l) keys) (ap shown c.deref-2.ensures.value ∙ c.in_ok-references.ensures) in
    let packings : packings_of most (map (λ k. k.items) c.as_slice.result.now) (map (λ v. shown v.items) c.deref-3.result.now) (map (λ v. shown v.items) c.deref-4.result.now) ≡ spec.pack_groups most sorted wanted =
    (λ j. packings_of most (map (λ k. k.items) (c.as_slice.ensures.keys j)) (slices_at j) (wanted_at j))
    ∙ all_packings (λ k. k.items) most sorted wanted keys
    ∙ ap (map (spec.pack_group most sorted wanted)) c.requires.groups in
    record {
      fills = IfOk-weaker c.pack_groups.result _ _ (λ p is. is ∙ ap (flat_map (λ g. g.fillings)) packings) c.pack_groups.ensures.fills;
      made = IfOk-weaker c.pack_groups.result _ _ (λ p is. is ∙ ap (flat_map (λ g. g.made)) packings) c.pack_groups.ensures.made;
    }
