-- A port has a block once it was given one.
use Rattle.std.proofs.Common.{◌≡◌, cond, Some, is_some, true, ap, ◌∙◌}
use Rattle.std.specs.FinMap.{get, get-insert, insert}
use Rattle.kp_lemmas.proofs.Orders.{tie_of_itself}
use Rattle.kp_base.specs.declared.key.PortKey.{PortKey}
use Rattle.kp_base.proofs.KeyOrder.{port_key_total}
use Rattle.kp_blocks.specs.Joined.{Block, BlocksByPort}

pub present : (m n : BlocksByPort) (k l : PortKey) (block : Block) → n ≡ insert m k block → l ≡ k
    → is_some (get n l) ≡ true
present m n k l block is key =
    ap (λ o. is_some (get o l)) is ∙ ap (λ q. is_some (get (insert m k block) q)) key
    ∙ ap is_some (get-insert port_key_total m k block k)
    ∙ ap (λ b. is_some (cond b (Some block) (get m k))) (tie_of_itself port_key_total k)
