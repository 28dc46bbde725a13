use Rattle.std.proofs.Common.{set, subst, sym}
use Rattle.std.specs.Int.NonZero.{non_zero_usize_get}
use Rattle.std.proofs.lemmas.Option.{slice_get_read}
use Rattle.kp_part_laws.specs.Beside.{united}
use Rattle.kp_recent.specs.Shelves.{HasShelfOf, shelf_of}
use Rattle.kp_recent.proofs.Shelves.{has_shelf_of}
use Rattle.kp_recent.proofs.lists.RecentLists.swap_shelf.Goals as goal

pub returns-clause-own : goal.returns-clause-own
returns-clause-own c =
    let size = non_zero_usize_get c.self.inside.size in
    let other_size = non_zero_usize_get c.other.inside.size in
    let own = c.self.inside.shelves.items in
    let others = c.other.inside.shelves.items in
    let n = c.args.part in
    let shelf = c.index_mut-2.result.now in
    let at = slice_get_read others 16 n shelf (sym c.other.invariant.long) c.requires.part
    c.index_mut-2.ensures.value in
    let after = united shelf_of size (set own n c.swap.new.x) in
    subst (λ o. HasShelfOf n o c.args.self.now after) c.other.view_is
    (subst (λ s. HasShelfOf n (united shelf_of other_size others) s after) c.self.view_is
    (subst (λ x. HasShelfOf n (united shelf_of other_size others) (united shelf_of size own)
    (united shelf_of size (set own n x))) (sym c.swap.ensures.x_after)
    (has_shelf_of size own c.self.invariant other_size others n shelf c.requires.part at)))

pub returns-clause-other : goal.returns-clause-other
returns-clause-other c =
    let size = non_zero_usize_get c.other.inside.size in
    let other_size = non_zero_usize_get c.self.inside.size in
    let own = c.other.inside.shelves.items in
    let others = c.self.inside.shelves.items in
    let n = c.args.part in
    let shelf = c.index_mut.result.now in
    let at = slice_get_read others 16 n shelf (sym c.self.invariant.long) c.requires.part
    c.index_mut.ensures.value in
    let after = united shelf_of size (set own n c.swap.new.y) in
    subst (λ o. HasShelfOf n o c.args.other.now after) c.self.view_is
    (subst (λ s. HasShelfOf n (united shelf_of other_size others) s after) c.other.view_is
    (subst (λ x. HasShelfOf n (united shelf_of other_size others) (united shelf_of size own)
    (united shelf_of size (set own n x))) (sym c.swap.ensures.y_after)
    (has_shelf_of size own c.other.invariant other_size others n shelf c.requires.part at)))
