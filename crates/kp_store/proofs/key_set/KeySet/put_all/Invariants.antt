-- The keys from here on were put.
use Rattle.std.proofs.Common.{◌≡◌, ◌||◌, drop}
use Rattle.std.specs.List.{list_any}
use Rattle.std.specs.Ordering.{eq_by_cmp}
use Rattle.std.specs.FinMap as finite
use Rattle.kp_base.specs.Keys.{key_cmp}
use Rattle.kp_base.specs.declared.key.ObjectKey.{ObjectKey}
use Rattle.kp_store.proofs.key_set.KeySet.put_all.Given as goal

abbrev pub invariant-loop-i : goal.invariant-loop-i
invariant-loop-i g l =
    (k : ObjectKey) → finite.contains_key l.self k ≡ list_any (λ q. eq_by_cmp key_cmp k (g.K.Name.key_of q.now)) (drop l.i l.names) || finite.contains_key l.fn.self k
