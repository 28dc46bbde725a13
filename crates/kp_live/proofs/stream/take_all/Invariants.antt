use Rattle.std.proofs.Common.{map, take}
use Rattle.kp_live.specs.Streams.{RunsOn}
use Rattle.kp_live.proofs.stream.take_all.Given as goal

-- the first lines were taken
abbrev pub invariant-loop-line : goal.invariant-loop-line
invariant-loop-line g l =
    RunsOn g.J.Publication.start g.J.Sharing.config (map (λ x. x.now) (take l.line-index l.lines))
    l.initial.standing l.standing
