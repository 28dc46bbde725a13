use Rattle.std.proofs.Common.{◌≡◌, take}
use Rattle.std.specs.BTreeSet.{contains}
use Rattle.std.specs.List.{list_any}
use Rattle.std.specs.Ordering.{eq_by_cmp}
use Rattle.kp_object_defs.specs.Order.{first_places}
use Rattle.kp_port_info.proofs.once.once.Given as goal

-- the elements so far stand once, and the set has them
abbrev pub invariant-loop-item : goal.invariant-loop-item
invariant-loop-item g l = record {
  found : l.found.items ≡ first_places (eq_by_cmp g.T.Ord.cmp) (take l.item-index l.items);
  seen : (x : _) → contains g.T.Ord.cmp l.seen x ≡ list_any (λ z. eq_by_cmp g.T.Ord.cmp z x) l.found.items;
}
