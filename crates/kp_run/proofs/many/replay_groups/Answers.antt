use Rattle.std.proofs.Common.{rules, ◌≡◌, Err, subst, sym}
use Rattle.kp_mode_defs.specs.Mode.{replaying}
use Rattle.kp_replay.specs.Steps.{standing_of}
use Rattle.kp_run.specs.Given.{anywhere}
use Rattle.kp_run.specs.Stand.{ComesOrStops}
use Rattle.kp_run.proofs.StandLemmas.{came, stands_first, took}
use Rattle.kp_run.proofs.many.replay_groups.Goals as goal

-- before the first line
pub lines-init : goal.lines-init
lines-init g c =
    stands_first replaying anywhere (standing_of c.args.replay.now) c.args.reader.now (g.S.Source.input c.args.source.now)
    (g.K.Sink.output c.args.sink.now) c.requires.start tt c.requires.fresh c.requires.room

pub take_next-requires : goal.take_next-requires
take_next-requires g c = c.lines.invariant.come.ready

-- a line was taken, and then those that are held
pub take_held-requires-clause-ready : goal.take_held-requires-clause-ready
take_held-requires-clause-ready g c κs within = (took replaying anywhere _ _ _ _ _ _ c.in-Some.is (c.in_ok-number.ensures.step _ _ c.lines.invariant)).come.ready

pub take_held-requires-clause-room : goal.take_held-requires-clause-room
take_held-requires-clause-room g c κs within = (took replaying anywhere _ _ _ _ _ _ c.in-Some.is (c.in_ok-number.ensures.step _ _ c.lines.invariant)).room

pub lines-preserved : goal.lines-preserved
lines-preserved g c =
    c.in_ok-take_held-in-Some.ensures.goes _ _ (g.S.Source.input c.take_next.new.source)
    (took replaying anywhere _ _ _ _ _ _ c.in-Some.is (c.in_ok-number.ensures.step _ _ c.lines.invariant))

-- those can't be taken or written
pub returns-in_err-take_held-in-Some : goal.returns-in_err-take_held-in-Some
returns-in_err-take_held-in-Some g c =
    let from = g.S.Source.input c.args.source.now in
    let to = g.K.Sink.output c.args.sink.now in
    let input = g.S.Source.input c.take_next.new.source in
    let is : c.from_residual-in_err-take_held-in-Some.result ≡ Err c.in_err-take_held-in-Some.field-0.0 = search rules in
    subst (λ r. ComesOrStops replaying anywhere (standing_of c.take_held.new.replay) r from to input (g.K.Sink.output c.take_held.new.sink)) (sym is)
    (c.in_err-take_held-in-Some.ensures.goes from to input
    (took replaying anywhere _ _ _ _ _ _ c.in-Some.is (c.in_ok-number.ensures.step _ _ c.lines.invariant)))

-- the input is at its end
pub returns-in-None : goal.returns-in-None
returns-in-None g c = came replaying anywhere _ _ _ _ _ _ c.in-None.is (c.in_ok-number.ensures.step _ _ c.lines.invariant)
