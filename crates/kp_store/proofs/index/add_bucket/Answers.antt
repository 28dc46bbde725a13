use Rattle.std.proofs.Common.{◌≡◌, ◌||◌, false, Some, sym, ap, ◌∙◌}
use Rattle.std.proofs.lemmas.Option.{same_Some}
use Rattle.std.specs.Map.{lookup}
use Rattle.std.specs.Option.{unwrap_or}
use Rattle.std.specs.Ordering.{eq_by_cmp}
use Rattle.std.specs.FinMap as finite
use Rattle.kp_base.specs.Keys.{key_cmp}
use Rattle.kp_base.specs.declared.key.ObjectKey.{ObjectKey}
use Rattle.kp_store.specs.Indexes.{Keys, has, is_pair}
use Rattle.kp_store.proofs.Buckets.{added}
use mathlib.Core.Bool.{or-false}
use Rattle.kp_store.proofs.Ordered.{none_before}
use Rattle.kp_store.proofs.Filled.{filled_still, not_empty}
use Rattle.kp_lemmas.proofs.Orders.{tie_of_itself}
use Rattle.kp_base.proofs.KeyOrder.{key_total}
use Rattle.kp_store.proofs.index.add_bucket.Goals as goal

pub returns-clause-ok : goal.returns-clause-ok
returns-clause-ok g c = λ t k.
    let same = g.T.PartialEq.eq in
    let key = c.args.key.now in
    let es = c.args.buckets.now.entries in
    let absent : (q : ObjectKey) → finite.contains_key (unwrap_or {T = Keys} (lookup (same c.in_ok-copy.field-0) es) finite.empty) q ≡ false = λ q. ap (λ x. finite.contains_key (unwrap_or {T = Keys} (lookup (same x) es) finite.empty) q) c.in_ok-copy.ensures
    ∙ ap (λ o. finite.contains_key (unwrap_or {T = Keys} o finite.empty) q) c.requires ∙ none_before q in
    added same g.met.T.Eq.laws es c.insert.new.self.entries c.in_ok-copy.field-0 c.in_ok-bucket.bucket c.in_ok-insert.ensures.updates.0 key (λ q. c.in_ok-bucket.ensures q ∙ sym (ap (λ b. eq_by_cmp key_cmp q key || b) (absent q) ∙ or-false (eq_by_cmp key_cmp q key))) t k
    ∙ ap (λ x. is_pair same x key t k || has same es t k) c.in_ok-copy.ensures

pub returns-clause-filled : goal.returns-clause-filled
returns-clause-filled g c = λ filled.
    let key = c.args.key.now in
    let bucket = c.in_ok-bucket.bucket in
    filled_still g.T.PartialEq.eq c.args.buckets.now.entries c.insert.new.self.entries c.in_ok-copy.field-0 (Some bucket) c.in_ok-insert.ensures.updates.0 filled
    (λ none. not_empty bucket key (c.in_ok-bucket.ensures key ∙ tie_of_itself key_total key) (same_Some _ _ none))
