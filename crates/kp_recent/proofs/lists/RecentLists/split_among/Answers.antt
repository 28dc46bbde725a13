use Rattle.std.proofs.Common.{◌≡◌, ◌+◌, ◌%◌, ◌<◌, suc, ap, arith, length, replicate, set}
use Rattle.std.proofs.Common.{subst, sym, IfSome, ◌∙◌}
use Rattle.std.proofs.lemmas.List.{length-replicate, length-set}
use Rattle.std.proofs.lemmas.Nat.{mod_below}
use Rattle.std.proofs.lemmas.Option.{slice_get_read}
use Rattle.kp_recent.specs.Held.{no_sources}
use Rattle.kp_recent.specs.Shelves.{AreCut, HasOf, first_of, is_after}
use Rattle.kp_recent.proofs.Shelves.{cut_after, cut_at_first, cut_at_last, own_after, own_at_first}
use Rattle.kp_recent.proofs.Shelves.{own_at_last}
use Rattle.kp_recent.proofs.lists.RecentLists.split_among.Goals as goal

pub loop-part-init : goal.loop-part-init
loop-part-init c =
    let lists = c.args.self.now in
    let empty = c.in_ok-values.ensures
    ∙ ap (λ r. replicate c.args.count (no_sources r.size)) c.self.view_is in
    record {
      own = own_at_first lists;
      cut = subst (AreCut 0 c.args.count lists) (sym empty)
          (cut_at_first c.args.count lists c.args.count);
      long = ap length empty ∙ length-replicate c.args.count (no_sources lists.size);
    }

pub swap_shelf-requires-clause-size : goal.swap_shelf-requires-clause-size
swap_shelf-requires-clause-size c =
    let w = c.loop-part.part % c.args.count in
    let value = c.index_mut.result.now in
    let at = slice_get_read c.loop-part.values.items c.args.count w value
    (sym c.loop-part.invariant.long) (mod_below c.loop-part.part c.args.count c.requires.some)
    c.index_mut.ensures.value in
    let has = subst
    (λ o. IfSome o (HasOf (first_of c.loop-part.part c.args.count w) c.args.self.now)) at
    (c.loop-part.invariant.cut w) in
    has.size ∙ sym c.loop-part.invariant.own.size

pub loop-part-preserved : goal.loop-part-preserved
loop-part-preserved c =
    let n = c.loop-part.part in
    let count = c.args.count in
    let lists = c.args.self.now in
    let values = c.loop-part.values.items in
    let value = c.index_mut.result.now in
    let low = mod_below n count c.requires.some in
    let within = subst (λ k. n % count < k) (sym c.loop-part.invariant.long) low in
    let at = slice_get_read values count (n % count) value (sym c.loop-part.invariant.long) low
    c.index_mut.ensures.value in
    let next : suc n ≡ n + 1 = omega arith in
    record {
      own = subst (λ k. HasOf (is_after k) lists c.swap_shelf.new.self) next
          (own_after n count lists c.loop-part.self c.swap_shelf.new.self values value
          c.swap_shelf.new.other within at c.loop-part.invariant.own c.loop-part.invariant.cut
          c.swap_shelf.ensures.own c.swap_shelf.ensures.other);
      cut = subst (λ k. AreCut k count lists (set values (n % count) c.swap_shelf.new.other)) next
          (cut_after n count lists c.loop-part.self c.swap_shelf.new.self values value
          c.swap_shelf.new.other within at c.loop-part.invariant.own c.loop-part.invariant.cut
          c.swap_shelf.ensures.own c.swap_shelf.ensures.other);
      long = length-set values (n % count) c.swap_shelf.new.other ∙ c.loop-part.invariant.long;
    }

pub returns-clause-parts : goal.returns-clause-parts
returns-clause-parts c =
    let lists = c.args.self.now in
    let all : c.loop-part.part ≡ 16 =
    omega (arith, c.loop-part-test.false, c.loop-part.auto.part-end) in
    cut_at_last c.args.count lists c.from_vec.result
    (subst (AreCut 16 c.args.count lists) (sym c.from_vec.ensures)
    (subst (λ k. AreCut k c.args.count lists c.loop-part.values.items) all
    c.loop-part.invariant.cut))

pub returns-clause-rest : goal.returns-clause-rest
returns-clause-rest c =
    let lists = c.args.self.now in
    let all : c.loop-part.part ≡ 16 =
    omega (arith, c.loop-part-test.false, c.loop-part.auto.part-end) in
    own_at_last lists c.loop-part.self
    (subst (λ k. HasOf (is_after k) lists c.loop-part.self) all c.loop-part.invariant.own)
