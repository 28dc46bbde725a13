use Rattle.std.proofs.Common.{◌≡◌, take}
use Rattle.kp_base.proofs.items.ItemsCopied.copy.Given as goal

-- what was copied so far is the front of the list
abbrev pub invariant-loop-item : goal.invariant-loop-item
invariant-loop-item g l = l.copies.items ≡ take l.item-index l.item-items
