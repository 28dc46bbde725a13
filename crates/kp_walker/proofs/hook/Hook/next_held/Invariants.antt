use Rattle.std.proofs.Common.{◌≡◌, ℕ, ◌≤◌, ◌-◌, length}
use Rattle.kp_choice_defs.specs.Draws.{AreDraws}
use Rattle.kp_walker.specs.Held.{Passes}
use Rattle.kp_walker.specs.Progress.{state_of}
use Rattle.kp_walker.proofs.hook.Hook.next_held.Given as goal

-- the rules from a place on do what those from the first do
abbrev pub invariant-loop-next : goal.invariant-loop-next
invariant-loop-next g l = record {
  run : (draws : ℕ → ℕ) (depth : ℕ)
      → AreDraws (λ number k draw. g.F.Fn.post l.self.around.now.draws.now (number, (k, tt)) draw)
      l.self.around.now.number draws
      → Passes l.self draws depth l.chain l.from l.place
      (state_of l.self.header l.fn.progress l.fn.lists) (state_of l.self.header l.progress l.lists);
  on : l.from ≤ l.place;
  size : l.lists.size ≡ l.fn.lists.size;
}

-- and each time fewer of them are left
abbrev pub decreases-loop-next : goal.decreases-loop-next
decreases-loop-next g l = length l.chain - l.place
