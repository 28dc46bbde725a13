use Rattle.std.proofs.Common.{◌≡◌, ℕ, drop}
use Rattle.kp_choice_defs.specs.Draws.{AreDraws}
use Rattle.kp_choice_defs.specs.Recent.{RecentParts}
use Rattle.kp_table_defs.specs.Matching as walk
use Rattle.kp_walker.specs.Progress.{state_of}
use Rattle.kp_walker.specs.Sets.{MatchesSet}
use Rattle.kp_walker.specs.Surroundings.{surroundings_of}
use Rattle.kp_walker.proofs.hook.Hook.try_all.Given as goal

-- what is left does from here what all do from the start
abbrev pub invariant-loop-matched : goal.invariant-loop-matched
invariant-loop-matched g l = record {
  same : (draws : ℕ → ℕ)
      → AreDraws (λ number k draw. g.F.Fn.post l.self.around.now.draws.now (number, (k, tt)) draw)
      l.self.around.now.number draws
      → walk.try_all (surroundings_of l.self.around.now draws) (drop l.matched-index l.matches)
      (state_of l.self.header l.progress l.lists)
      ≡ walk.try_all (surroundings_of l.self.around.now draws) l.matches
      (state_of l.self.header l.fn.progress l.fn.lists);
  sets : (draws : ℕ → ℕ)
      → AreDraws (λ number k draw. g.F.Fn.post l.self.around.now.draws.now (number, (k, tt)) draw)
      l.self.around.now.number draws
      → (left : RecentParts) → MatchesSet (surroundings_of l.self.around.now draws)
      (drop l.matched-index l.matches) (state_of l.self.header l.progress l.lists) left
      → MatchesSet (surroundings_of l.self.around.now draws) l.matches
      (state_of l.self.header l.fn.progress l.fn.lists) left;
  size : l.lists.size ≡ l.fn.lists.size;
}
