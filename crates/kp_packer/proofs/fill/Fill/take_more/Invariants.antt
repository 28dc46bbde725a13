-- The endpoints so far were added.
use Rattle.std.proofs.Common.{◌≡◌, ◌++◌, map, take}
use Rattle.kp_packer.specs.Views.{shown}
use Rattle.kp_packer.proofs.fill.Fill.take_more.Given as goal

abbrev pub invariant-loop-wanted : goal.invariant-loop-wanted
invariant-loop-wanted l = record {
  endpoints : shown l.self.endpoints.items ≡ shown l.fn.self.endpoints.items ++ map (λ w. w.entry) (shown (take l.wanted-index l.more));
  slice : l.self.slice.now ≡ l.fn.self.slice.now;
}
