use Rattle.std.proofs.Common.{◌+◌, ◌<◌, ◌^◌, length, sym, subst, arith}
use Rattle.std.proofs.lemmas.Result.{IfOk-weaker}
use Rattle.kp_object_defs.specs.PackingLaws.{IsPackingOf, CanGoOn}
use Rattle.kp_packer.proofs.packing.pack.Goals as goal

pub returns-clause-packing : goal.returns-clause-packing
returns-clause-packing c =
    let wanted : length c.args.wanted.now < 2 ^ 64 = subst (λ l. length l < 2 ^ 64) c.as_slice.ensures c.fits_memory.ensures in
    let taken : length c.args.taken.now < 2 ^ 64 = subst (λ l. length l < 2 ^ 64) c.as_slice-2.ensures c.fits_memory-2.ensures in
    let few : length c.args.taken.now + length c.args.wanted.now < 10 ^ 64 = omega (arith, wanted, taken) in
    IfOk-weaker c.packed.result _ _ (λ p is.
    subst (λ q. IsPackingOf c.args.most c.args.wanted.now q.slices) (sym is)
    (c.packing_places_each.ensures c.args.family c.args.service.now c.args.before.now c.args.wanted.now c.args.most c.args.taken.now c.requires.some few c.requires.names c.requires.taken))
    c.packed.ensures.exact

pub returns-clause-next : goal.returns-clause-next
returns-clause-next c =
    let wanted : length c.args.wanted.now < 2 ^ 64 = subst (λ l. length l < 2 ^ 64) c.as_slice.ensures c.fits_memory.ensures in
    let taken : length c.args.taken.now < 2 ^ 64 = subst (λ l. length l < 2 ^ 64) c.as_slice-2.ensures c.fits_memory-2.ensures in
    let few : length c.args.taken.now + length c.args.wanted.now < 10 ^ 64 = omega (arith, wanted, taken) in
    IfOk-weaker c.packed.result _ _ (λ p is.
    subst (CanGoOn c.args.family c.args.service.now c.args.wanted.now c.args.taken.now) (sym is)
    (c.packing_goes_on.ensures c.args.family c.args.service.now c.args.before.now c.args.wanted.now c.args.most c.args.taken.now c.requires.some few c.requires.managed c.requires.names c.requires.taken))
    c.packed.ensures.exact
