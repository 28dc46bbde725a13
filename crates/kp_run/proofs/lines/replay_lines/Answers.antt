use Rattle.kp_replay.specs.Steps.{standing_of, Follows}
use Rattle.kp_run.proofs.StandLemmas.{came, stands_first, took}
use Rattle.kp_run.proofs.lines.replay_lines.Goals as goal

-- before the first line
pub lines-init : goal.lines-init
lines-init g c =
    stands_first g.M.Mode.mode (Follows (g.M.Mode.stands c.args.mode.now)) (standing_of c.args.replay.now)
    c.args.reader.now (g.S.Source.input c.args.source.now) (g.K.Sink.output c.args.sink.now) c.requires.start
    c.requires.follows c.requires.fresh c.requires.room

pub take_next-requires : goal.take_next-requires
take_next-requires g c = c.lines.invariant.come.ready

-- a line was taken
pub lines-preserved : goal.lines-preserved
lines-preserved g c =
    took g.M.Mode.mode (Follows (g.M.Mode.stands c.take_next.new.mode)) _ _ _ _ _ _ c.in-Some.is
    (c.in_ok-take_next.ensures.step _ _ c.lines.invariant)

-- the input is at its end
pub returns-in-None : goal.returns-in-None
returns-in-None g c =
    came g.M.Mode.mode (Follows (g.M.Mode.stands c.take_next.new.mode)) _ _ _ _ _ _ c.in-None.is
    (c.in_ok-take_next.ensures.step _ _ c.lines.invariant)
