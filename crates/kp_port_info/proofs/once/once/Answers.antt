use Rattle.std.proofs.lemmas.Cmp.{eq_by_cmp_equiv}
use Rattle.kp_port_info.proofs.FirstPlaces.{next_found, next_seen}
use Rattle.kp_port_info.proofs.once.once.Goals as goal

pub loop-item-preserved : goal.loop-item-preserved
loop-item-preserved g c =
    let equal = eq_by_cmp_equiv g.met.T.Ord.total in
    let so_far = c.loop-item.invariant in
    let found = c.loop-item.found.items in
    let item = c.item-item.result in
    let added = c.in_ok-push_new.ensures.found in
    record {
      found = next_found equal c.args.items.now c.loop-item.item-index item found _ _ (so_far.seen item) added so_far.found c.loop-item-test.true c.item-item.is;
      seen = λ x. next_seen equal x item found _ _ _ _ (so_far.seen item) added (so_far.seen x) (c.in_ok-push_new.ensures.seen x);
    }
