use Rattle.std.proofs.Common.{◌≡◌, ℕ, List, take}
use Rattle.std.specs.Prelude.{Ok}
use Rattle.kp_live.specs.Runs.{AreLeft, telling}
use Rattle.kp_live.specs.Told.{Told}
use Rattle.kp_live.specs.Written.{Prints}
use Rattle.kp_live.proofs.parts.print_lines.Given as goal

-- what the first lines print was written, and the rest of the answers is left
abbrev pub invariant-loop-line : goal.invariant-loop-line
invariant-loop-line g l =
    (all : ℕ → List Told) → AreLeft all l.initial.told → record {
      left : AreLeft (telling l.refusals all (take l.line-index l.lines)).left l.told;
      denied : l.denied ≡ (telling l.refusals all (take l.line-index l.lines)).denied;
      printed :
          Prints {T = Unit {0}} (Ok tt) (telling l.refusals all (take l.line-index l.lines)).text
          (g.K.Sink.output l.initial.sink) (g.K.Sink.output l.sink);
    }
