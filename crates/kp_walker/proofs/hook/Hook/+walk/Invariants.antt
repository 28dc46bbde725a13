use Rattle.std.proofs.Common.{◌≡◌, ℕ, ◌+◌, ◌-◌, ◌*◌, [], drop, length}
use Rattle.kp_choice_defs.specs.Draws.{AreDraws}
use Rattle.kp_choice_defs.specs.Recent.{RecentParts}
use Rattle.kp_table_defs.specs.Walk.{rules_outcome}
use Rattle.kp_walker.specs.Flow.{jump_of, sets_of}
use Rattle.kp_walker.specs.Progress.{state_of}
use Rattle.kp_walker.specs.Sets.{RulesSet}
use Rattle.kp_walker.specs.Surroundings.{surroundings_of}
use Rattle.kp_walker.proofs.hook.Hook.+walk.Given as goal

-- a jump has one chain less before it
abbrev pub decreases-run_chain : goal.decreases-run_chain
decreases-run_chain g l = 3 * l.depth

abbrev pub decreases-run_rules : goal.decreases-run_rules
decreases-run_rules g l = 3 * l.depth + 2

abbrev pub decreases-run_target : goal.decreases-run_target
decreases-run_target g l = 3 * l.depth + 1

-- the rules from a place on do what all do from the start
abbrev pub invariant-run_rules-loop-next : goal.invariant-run_rules-loop-next
invariant-run_rules-loop-next g l = record {
  same : (draws : ℕ → ℕ)
      → AreDraws (λ number k draw. g.F.Fn.post l.self.around.now.draws.now (number, (k, tt)) draw)
      l.self.around.now.number draws
      → rules_outcome (surroundings_of l.self.around.now draws) (jump_of l.self draws l.depth)
      (drop l.from l.chain) (state_of l.self.header l.progress l.lists)
      ≡ rules_outcome (surroundings_of l.self.around.now draws) (jump_of l.self draws l.depth)
      l.chain (state_of l.self.header l.fn.progress l.fn.lists);
  sets : (draws : ℕ → ℕ)
      → AreDraws (λ number k draw. g.F.Fn.post l.self.around.now.draws.now (number, (k, tt)) draw)
      l.self.around.now.number draws
      → (left : RecentParts) → RulesSet (surroundings_of l.self.around.now draws)
      (jump_of l.self draws l.depth) (sets_of l.self draws l.depth)
      (drop l.from l.chain) (state_of l.self.header l.progress l.lists) left
      → RulesSet (surroundings_of l.self.around.now draws)
      (jump_of l.self draws l.depth) (sets_of l.self draws l.depth)
      l.chain (state_of l.self.header l.fn.progress l.fn.lists) left;
  new : g.R.Recorder.way l.recorder ≡ [];
  trail : g.R.Recorder.trail l.recorder ≡ g.R.Recorder.trail l.fn.recorder;
  size : l.lists.size ≡ l.fn.lists.size;
}

-- and each time fewer of them are left
abbrev pub decreases-run_rules-loop-next : goal.decreases-run_rules-loop-next
decreases-run_rules-loop-next g l = length l.chain - l.from
