use Rattle.std.proofs.Common.{◌&&◌, not, Some, rules, sym, ap, subst, ◌∙◌}
use Rattle.std.specs.Option.{unwrap_or}
use Rattle.std.specs.Ordering.{eq_by_cmp}
use Rattle.std.specs.FinMap as finite
use Rattle.kp_base.specs.Keys.{key_cmp}
use Rattle.kp_store.proofs.Buckets.{removed, none_removed}
use Rattle.kp_store.proofs.Filled.{filled_beside}
use Rattle.kp_store.specs.Indexes.{AreFilledBut, has}
use Rattle.kp_store.proofs.index.take_key.Goals as goal

pub returns : goal.returns
returns g c =
    let w = c.take.new.self in
    let same = g.T.PartialEq.eq in
    let key = c.args.key.now in
    let es = c.args.buckets.now.entries in
    let put = ((c.get_mut.follows.holds w).3 (search rules)).0 in
    let found = ap (λ o. unwrap_or o finite.empty) c.in-Some.ensures.value in
    record {
      keys = removed same g.met.T.Eq.laws es (c.get_mut.follows.lender w).entries c.args.tag.now w put key (λ q. c.take.ensures q ∙ ap (λ m. not (eq_by_cmp key_cmp q key) && finite.contains_key m q) found);
      others = filled_beside same es (c.get_mut.follows.lender w).entries c.args.tag.now (Some w) put;
    }

pub returns-in-None : goal.returns-in-None
returns-in-None g c =
    let same = g.T.PartialEq.eq in
    record {
      keys = λ t k. ap (λ m. has same m.entries t k) c.get_mut.follows.holds-at-none
          ∙ none_removed same g.met.T.Eq.laws c.args.buckets.now.entries c.args.tag.now c.args.key.now (sym c.in-None.ensures.value) t k;
      others = λ filled. subst (λ m. AreFilledBut same c.args.tag.now m.entries) (sym c.get_mut.follows.holds-at-none) (λ t e. filled t);
    }
