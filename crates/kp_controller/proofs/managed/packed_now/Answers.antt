use Rattle.std.proofs.Common.{map, filter, length, bytes_eq, ap, subst, ◌∙◌, arith}
use Rattle.std.specs.FinMap as finite
use Rattle.kp_object_defs.specs.Packing.{packed_slices}
use Rattle.kp_object_defs.specs.PackingLaws.{IsPackingOf, are_taken, is_managed_for}
use Rattle.kp_controller.proofs.Narrowed.{narrowed, own_taken}
use Rattle.kp_controller.proofs.managed.packed_now.Goals as goal

pub pack-requires-clause-taken : goal.pack-requires-clause-taken
pack-requires-clause-taken c =
    (λ i. are_taken (c.requires.near i) (c.requires.managed i))
    ∙ own_taken c.args.service.now.key c.args.before.now.family (finite.values c.args.slices.now)

pub returns-clause-packed : goal.returns-clause-packed
returns-clause-packed c =
    let key = c.args.service.now.key in
    let family = c.args.before.now.family in
    let most = c.args.config.now.max_per_slice in
    let all = finite.values c.args.slices.now in
    let own = filter (is_managed_for family key) all in
    let near = c.requires.near in
    ap (λ p. p.slices)
    (c.in_ok-packed.ensures.exact
    ∙ (λ i. packed_slices family key (c.requires.managed i) c.in_ok-wanted.wanted most (near i))
    ∙ narrowed key family own c.in_ok-wanted.wanted most all c.args.config.now.slice_from
    (omega (arith, ap length near, ap length c.as_slice.ensures, c.fits_memory.ensures))
    (omega (arith, ap length c.as_slice-2.ensures, c.fits_memory-2.ensures))
    ∙ ap (λ wanted. packed_slices family key own wanted most
    (map (λ s. s.key.name) (filter (λ s. bytes_eq s.key.namespace key.namespace) all)))
    c.in_ok-wanted.ensures)

pub returns-clause-packing : goal.returns-clause-packing
returns-clause-packing c =
    let most = c.args.config.now.max_per_slice in
    subst (λ wanted. IsPackingOf most wanted c.in_ok-packed.packed.slices)
    c.in_ok-wanted.ensures c.in_ok-packed.ensures.packing

pub returns-clause-fits : goal.returns-clause-fits
returns-clause-fits c = (c.in_ok-packed.ensures.next.managed, c.in_ok-packed.ensures.next.names)
