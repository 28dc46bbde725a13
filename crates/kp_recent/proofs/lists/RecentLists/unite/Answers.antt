use Rattle.std.proofs.Common.{◌≡◌, ◌+◌, ◌%◌, ◌<◌, suc, ap, arith, length, set, subst, sym, refl}
use Rattle.std.proofs.Common.{◌∙◌}
use Rattle.std.proofs.lemmas.List.{length-set}
use Rattle.std.proofs.lemmas.Nat.{mod_below}
use Rattle.std.proofs.lemmas.Option.{slice_get_read}
use Rattle.kp_part_laws.specs.Beside.{AreSized, united, worker_of}
use Rattle.kp_part_laws.proofs.United.{within_some}
use Rattle.kp_recent.specs.Shelves.{AreLeft, HasFirst}
use Rattle.kp_recent.proofs.Shelves.{first_after, first_at_first, first_at_last}
use Rattle.kp_recent.proofs.Shelves.{left_after, left_at, left_at_first}
use Rattle.kp_recent.proofs.lists.RecentLists.unite.Goals as goal

pub loop-part-init : goal.loop-part-init
loop-part-init c =
    let values = c.into_vec-values.result.items in
    let lists = c.args.self.now in
    record {
      own = first_at_first values lists c.requires.none;
      left = left_at_first lists.size values
          (subst (AreSized lists.size) (sym c.into_vec-values.ensures) c.requires.sized);
      long = refl;
    }

pub swap_shelf-requires-clause-size : goal.swap_shelf-requires-clause-size
swap_shelf-requires-clause-size c =
    let n = c.loop-part.part in
    let count = c.len-count.result in
    let before = c.into_vec-values.result.items in
    let now = c.loop-part.values.items in
    let many : count ≡ length before = c.len-count.ensures ∙ c.into_vec-values.result.ok.0 in
    let some = subst (λ k. 0 < k) (sym (many ∙ ap length c.into_vec-values.ensures))
    c.requires.some in
    let low = subst (λ k. n % count < k) many (mod_below n count some) in
    let old = within_some before (n % count) low in
    let at = slice_get_read now (length before) (n % count) c.index_mut.result.now
    (sym c.loop-part.invariant.long) low c.index_mut.ensures.value in
    let left = left_at n c.args.self.now.size (n % count) before now c.index_mut.result.now old.0
    at old.1 c.loop-part.invariant.left in
    left.size_is ∙ sym c.loop-part.invariant.own.size

pub loop-part-preserved : goal.loop-part-preserved
loop-part-preserved c =
    let n = c.loop-part.part in
    let count = c.len-count.result in
    let lists = c.args.self.now in
    let before = c.into_vec-values.result.items in
    let now = c.loop-part.values.items in
    let value = c.index_mut.result.now in
    let many : count ≡ length before = c.len-count.ensures ∙ c.into_vec-values.result.ok.0 in
    let some = subst (λ k. 0 < k) (sym (many ∙ ap length c.into_vec-values.ensures))
    c.requires.some in
    let low = subst (λ k. n % count < k) many (mod_below n count some) in
    let old = within_some before (n % count) low in
    let at = slice_get_read now (length before) (n % count) value
    (sym c.loop-part.invariant.long) low c.index_mut.ensures.value in
    let within = subst (λ k. n % count < k) (sym c.loop-part.invariant.long) low in
    let next : suc n ≡ n + 1 = omega arith in
    record {
      own = subst (λ k. HasFirst k before lists c.swap_shelf.new.self) next
          (first_after n count lists c.loop-part.self c.swap_shelf.new.self before now value
          c.swap_shelf.new.other old.0 within (sym many) at old.1 c.loop-part.invariant.own
          c.loop-part.invariant.left c.swap_shelf.ensures.own c.swap_shelf.ensures.other);
      left = subst
          (λ k. AreLeft k lists.size before (set now (n % count) c.swap_shelf.new.other)) next
          (left_after n count lists c.loop-part.self c.swap_shelf.new.self before now value
          c.swap_shelf.new.other old.0 within (sym many) at old.1 c.loop-part.invariant.own
          c.loop-part.invariant.left c.swap_shelf.ensures.own c.swap_shelf.ensures.other);
      long = length-set now (n % count) c.swap_shelf.new.other ∙ c.loop-part.invariant.long;
    }

pub returns : goal.returns
returns c =
    let values = c.into_vec-values.result.items in
    let lists = c.args.self.now in
    let all : c.loop-part.part ≡ 16 =
    omega (arith, c.loop-part-test.false, c.loop-part.auto.part-end) in
    first_at_last values lists c.loop-part.self
    (subst (λ k. HasFirst k values lists c.loop-part.self) all c.loop-part.invariant.own)
    ∙ ap (λ xs. united (worker_of (length xs)) lists.size xs) c.into_vec-values.ensures
