use Rattle.std.proofs.Common.{◌≡◌, map}
use Rattle.std.specs.BTreeSet.{IsOrdered}
use Rattle.std.specs.List.{list_any}
use Rattle.std.specs.Ordering.{eq_by_cmp}
use Rattle.kp_types.specs.declared.chain.ChainAt.{ChainAt}
use Rattle.kp_types.specs.contracts.chain.ChainAtOrd.TheImpl as order
use Rattle.kp_rules.specs.Placed.{has_place}
use Rattle.kp_rules.proofs.places.copied.Given as goal

-- the places so far are there
abbrev pub invariant-loop-at : goal.invariant-loop-at
invariant-loop-at l = record {
  sorted : IsOrdered order.ghosts.cmp l.copy;
  same : (q : ChainAt) → has_place l.copy q ≡ list_any (eq_by_cmp order.ghosts.cmp q) (map (λ p. p.now) l.yielded);
}
