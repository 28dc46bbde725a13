use Rattle.std.proofs.Common.{◌||◌, Some, rules, sym, ap, ◌∙◌}
use Rattle.std.proofs.lemmas.Option.{same_Some}
use Rattle.std.proofs.lemmas.Result.{on_ok_weaker, on_err_weaker}
use Rattle.std.specs.Option.{unwrap_or}
use Rattle.std.specs.Ordering.{eq_by_cmp}
use Rattle.std.specs.FinMap as finite
use Rattle.kp_base.specs.Keys.{key_cmp}
use Rattle.kp_store.proofs.Buckets.{added, stayed}
use Rattle.kp_store.proofs.Filled.{filled_still, added_or_not}
use Rattle.kp_store.specs.Indexes.{has, is_pair}
use Rattle.kp_store.proofs.index.Index.add.Goals as goal

pub returns-in-Some-clause-ok : goal.returns-in-Some-clause-ok
returns-in-Some-clause-ok g c =
    let w = c.add.new.self in
    let same = g.T.PartialEq.eq in
    let key = c.args.key.now in
    let found = ap (λ o. unwrap_or o finite.empty) c.in-Some.ensures.value in
    on_ok_weaker c.add.result (λ is t k. added same g.met.T.Eq.laws c.self.inside.buckets.entries (c.get_mut.follows.lender w).entries c.args.tag.now w ((c.get_mut.follows.holds w).3 (search rules)).0 key (λ q. is q ∙ ap (λ m. eq_by_cmp key_cmp q key || finite.contains_key m q) found) t k
    ∙ ap (λ es. is_pair same c.args.tag.now key t k || has same es t k) c.self.view_is) c.add.ensures.ok

pub returns-in-Some-clause-err : goal.returns-in-Some-clause-err
returns-in-Some-clause-err g c =
    let w = c.add.new.self in
    let same = g.T.PartialEq.eq in
    let found = ap (λ o. unwrap_or o finite.empty) c.in-Some.ensures.value in
    on_err_weaker c.add.result (λ is t k. stayed same g.met.T.Eq.laws c.self.inside.buckets.entries (c.get_mut.follows.lender w).entries c.args.tag.now w ((c.get_mut.follows.holds w).3 (search rules)).0 (is ∙ found) t k
    ∙ ap (λ es. has same es t k) c.self.view_is) c.add.ensures.err

pub invariant_of-self : goal.invariant_of-self
invariant_of-self g c =
    let w = c.add.new.self in
    let es = c.self.inside.buckets.entries in
    let put = ((c.get_mut.follows.holds w).3 (search rules)).0 in
    let found = c.in-Some.ensures.value in
    filled_still g.T.PartialEq.eq es (c.get_mut.follows.lender w).entries c.args.tag.now (Some w) put c.self.invariant
    (λ none. added_or_not c.add.result _ _ c.args.key.now c.add.ensures.ok c.add.ensures.err (λ was. c.self.invariant c.args.tag.now (sym found ∙ ap Some was)) (same_Some _ _ none))
