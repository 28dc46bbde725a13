use Rattle.std.proofs.Common.{rules, ◌≡◌, ◌+◌, ◌∙◌, ◌<◌, ◌++◌, ◌∷◌, [], refl, IfSome, map, take, length, ap, sym, subst, filter, replicate}
use Rattle.std.specs.List.{position}
use Rattle.std.proofs.lemmas.List.{take_more, map-append, length-map}
use Rattle.kp_object_defs.specs.Packing.{is_in_group}
use Rattle.kp_packer.specs.Views.{shown, added_at}
use Rattle.kp_packer.proofs.Grouping.{one_grown, all_empty}
use Rattle.kp_packer.proofs.groups.grouped.Goals as goal

pub loop-value-init : goal.loop-value-init
loop-value-init g c =
    let keys = c.args.groups.now.keys in
    let count : c.len.result ≡ length keys = search rules in
    c.in_ok-lists.ensures ∙ ap (λ n. replicate n []) count ∙ all_empty _ (λ k. refl) keys

pub add_at-requires : goal.add_at-requires
add_at-requires g c =
    let keys = c.args.groups.now.keys in
    let lists = c.loop-value.lists.items in
    let same : length keys ≡ length lists =
    sym (sym (length-map lists (λ v. shown v.items)) ∙ ap length c.loop-value.invariant ∙ length-map keys _) in
    record { within = subst (λ n. IfSome c.in_ok-group_of.field-0 (λ i. i < n)) same c.in_ok-group_of.ensures.within }

pub loop-value-preserved : goal.loop-value-preserved
loop-value-preserved g c =
    let keys = c.args.groups.now.keys in
    let all = c.args.all.now in
    let i = c.loop-value.value-index in
    let x = c.value-item.result in
    let ports : c.ports.result.now ≡ g.T.HasPorts.ports_of x.now = search rules in
    let next : shown (take (i + 1) all) ≡ shown (take i all) ++ x.now ∷ [] =
    ap shown (take_more all i x c.loop-value-test.true ∙ ap (λ y. take i all ++ y ∷ []) (sym c.value-item.is)) ∙ map-append (λ b. b.now) (take i all) (x ∷ []) in
    c.in_ok-add_at.ensures
    ∙ (λ j. added_at ((c.in_ok-group_of.ensures.found ∙ ap (λ p. position (λ k. is_in_group k.items p) keys) ports) j) x.now (c.loop-value.invariant j))
    ∙ sym (one_grown (λ k. k.items) g.T.HasPorts.ports_of (shown (take i all)) x.now keys c.requires.distinct)
    ∙ sym (ap (λ l. map (λ k. filter (λ y. is_in_group k.items (g.T.HasPorts.ports_of y)) l) keys) next)
