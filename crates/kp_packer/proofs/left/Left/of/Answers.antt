use Rattle.std.proofs.Common.{rules, ◌≡◌, ◌+◌, ◌++◌, ◌∷◌, [], Some, false, cond, take, length, get_or, sym, ap, subst, ◌∙◌}
use Rattle.std.specs.List.{list_any}
use Rattle.std.proofs.lemmas.List.{take_more, map-append, length-append}
use Rattle.kp_base.specs.declared.key.ObjectKey.{ObjectKey}
use Rattle.kp_object_defs.specs.Packing.{same_object}
use Rattle.kp_packer.specs.Views.{shown, left_in, place_in, AtOwnPlaces}
use Rattle.kp_packer.proofs.Places.{Within, left-push, pods_apart, within_more, own_more}
use Rattle.kp_packer.proofs.left.Left.of.Goals as goal

pub loop-endpoint-preserved : goal.loop-endpoint-preserved
loop-endpoint-preserved c =
    let wanted = c.args.wanted.now in
    let i = c.loop-endpoint.endpoint-index in
    let x = c.endpoint-item.result in
    let places = c.loop-endpoint.places.items in
    let old = c.loop-endpoint.by_pod.entries in
    let new = c.insert.new.self.entries in
    let after : c.push.new.self.items ≡ places ++ Some x ∷ [] = search rules in
    let is : x ≡ get_or wanted i x = c.endpoint-item.is in
    let front : take (i + 1) wanted ≡ take i wanted ++ x ∷ [] = take_more wanted i x c.loop-endpoint-test.true ∙ ap (λ y. take i wanted ++ y ∷ []) (sym is) in
    let counted : c.len.result ≡ length places = search rules in
    let updates : (q : ObjectKey) → place_in new q ≡ cond (same_object x.now.pod q) (Some (length places)) (place_in old q) =
    λ q. c.in_ok-insert.ensures.updates.0 (record { ref_ptr = c.args.wanted.ref_ptr; now = q }) ∙ (λ j. cond (same_object x.now.pod q) (Some (counted j)) (place_in old q)) in
    let none : list_any (λ v. same_object v.pod x.now.pod) (left_in places) ≡ false =
    ap (list_any (λ v. same_object v.pod x.now.pod)) c.loop-endpoint.invariant.all ∙ pods_apart wanted i x c.loop-endpoint-test.true is c.requires.pods in
    let longer : length c.push.new.self.items ≡ length places + 1 = ap length after ∙ length-append places (Some x ∷ []) in
    record {
      all = ap left_in after ∙ left-push places x ∙ ap (λ l. l ++ x.now ∷ []) c.loop-endpoint.invariant.all
          ∙ sym (ap shown front ∙ map-append (λ b. b.now) (take i wanted) (x ∷ []));
      count = longer ∙ ap (λ n. n + 1) c.loop-endpoint.invariant.count;
      own = subst (AtOwnPlaces new) (sym after) (own_more old new places x updates c.loop-endpoint.invariant.own c.loop-endpoint.invariant.within none);
      within = subst (Within new) (sym longer) (within_more old new places x updates c.loop-endpoint.invariant.within);
    }
