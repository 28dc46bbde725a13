-- A port that was given a block has again what it had.
use Rattle.std.proofs.Common.{◌≡◌, Bool, true, false, cond, Option, Some, None, is_some, Result}
use Rattle.std.proofs.Common.{Ok, Err, refl, sym, ap, ◌∙◌}
use Rattle.std.specs.Ordering.{eq_by_cmp}
use Rattle.std.specs.Result.{OnOk, OnErr}
use Rattle.std.specs.FinMap.{get, get-insert, get-remove, insert, remove, same_map}
use Rattle.kp_lemmas.proofs.Orders.{one_from_tie}
use Rattle.kp_base.specs.Keys.{port_key_cmp}
use Rattle.kp_base.specs.declared.key.PortKey.{PortKey}
use Rattle.kp_base.proofs.KeyOrder.{port_key_total, port_key_exact}
use Rattle.kp_blocks.specs.Joined.{Block, BlocksByPort}

module _ (m n : BlocksByPort) (k : PortKey) (block : Block) (is : n ≡ insert m k block) where
  again : (q : PortKey) (had : Option Block) → had ≡ get m k → (b : Bool)
      → eq_by_cmp port_key_cmp q k ≡ b
      → cond b had (cond b (Some block) (get m q)) ≡ get m q
  again q had was true tie = was ∙ ap (get m) (sym (one_from_tie port_key_exact q k tie))
  again q had was false tie = refl

  -- what is found among the blocks that were changed
  found : (q : PortKey) → get n q ≡ cond (eq_by_cmp port_key_cmp q k) (Some block) (get m q)
  found q = ap (λ o. get o q) is ∙ get-insert port_key_total m k block q

  pub removed_again : None ≡ get m k → remove n k ≡ m
  removed_again was =
      same_map port_key_total port_key_exact (remove n k) m (λ q.
      get-remove port_key_total n k q
      ∙ ap (cond (eq_by_cmp port_key_cmp q k) None) (found q) ∙ again q None was _ refl)

  pub put_again : (had : Block) → Some had ≡ get m k → insert n k had ≡ m
  put_again had was =
      same_map port_key_total port_key_exact (insert n k had) m (λ q.
      get-insert port_key_total n k had q
      ∙ ap (cond (eq_by_cmp port_key_cmp q k) (Some had)) (found q) ∙ again q (Some had) was _ refl)

-- what a present key can't be refused
pub since_present : {X E Y : Type 0} (r : Result X E) (P : Type 0) (o : Option Y) → OnOk r P
    → OnErr r (o ≡ None) → is_some o ≡ true → P
since_present (Ok x) P o ok err is = ok
since_present (Err e) P o ok err is = absurd (true_false (sym is ∙ ap is_some err))
  where
    true_false : true ≡ false → ⊥
    true_false h = absurd (cc)
