-- The tags of the numbers so far were added: those of the others stand behind them.
use Rattle.std.proofs.Common.{◌≡◌, ◌++◌, drop}
use Rattle.kp_store.specs.Tags.{path_tags}
use Rattle.kp_store.proofs.tags.add_path_tags.Given as goal

abbrev pub invariant-loop-place : goal.invariant-loop-place
invariant-loop-place l =
    l.tags.items ++ path_tags l.at (drop l.place l.numbers) ≡ l.initial.tags.items ++ path_tags l.start l.numbers
