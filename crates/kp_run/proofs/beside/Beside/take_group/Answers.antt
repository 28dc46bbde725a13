use Rattle.std.proofs.Common.{rules, arith, ◌≡◌, subst}
use Rattle.kp_mode_defs.specs.Mode.{replaying}
use Rattle.kp_replay.specs.Steps.{standing_of}
use Rattle.kp_run.specs.Given.{anywhere}
use Rattle.kp_run.specs.Stand.{WritesOrStops}
use Rattle.kp_run.proofs.StandLemmas.{stops_same}
use Rattle.kp_run.proofs.HeldSteps.{count_held, further_group, goes_group, whole_held, within_held}
use Rattle.kp_run.proofs.beside.Beside.take_group.Goals as goal

pub pass_lines-requires-clause-held : goal.pass_lines-requires-clause-held
pass_lines-requires-clause-held g c =
    within_held c.args.reader.now c.args.number c.held_lines.result.now c.in-Ok.bytes c.in-Ok.lines
    (standing_of c.args.replay.now) (standing_of c.answer_group.new.replay)
    c.answer_group.new.self.text.items c.in-Ok.ensures c.requires.number c.held_lines.ensures.front

pub pass_lines-requires-clause-whole : goal.pass_lines-requires-clause-whole
pass_lines-requires-clause-whole g c =
    whole_held c.args.reader.now c.args.number c.held_lines.result.now c.in-Ok.bytes c.in-Ok.lines
    (standing_of c.args.replay.now) (standing_of c.answer_group.new.replay)
    c.answer_group.new.self.text.items c.in-Ok.ensures c.requires.number c.held_lines.ensures.front

pub pass_lines-requires-clause-lines : goal.pass_lines-requires-clause-lines
pass_lines-requires-clause-lines g c =
    count_held c.args.reader.now c.args.number c.held_lines.result.now c.in-Ok.bytes c.in-Ok.lines
    (standing_of c.args.replay.now) (standing_of c.answer_group.new.replay)
    c.answer_group.new.self.text.items c.in-Ok.ensures c.requires.number c.held_lines.ensures.front

pub pass_lines-requires-clause-short : goal.pass_lines-requires-clause-short
pass_lines-requires-clause-short g c =
    omega (arith, c.in-Ok.ensures.within, c.held_lines.ensures.room, c.requires.room)

-- the group was taken, and written or a front of it
pub returns-in-Ok-clause-goes : goal.returns-in-Ok-clause-goes
returns-in-Ok-clause-goes g c = λ from to input stands.
    let start = g.K.Sink.output c.args.sink.now in
    let end = g.K.Sink.output c.write_text.new.sink in
    let text : c.as_slice.result.now ≡ c.answer_group.new.self.text.items = search rules in
    goes_group c.args.reader.now c.args.number c.held_lines.result.now c.in-Ok.bytes c.in-Ok.lines
    (standing_of c.args.replay.now) (standing_of c.answer_group.new.replay)
    c.answer_group.new.self.text.items c.in-Ok.ensures c.requires.number c.held_lines.ensures.front
    c.pass_lines.new.self c.pass_lines.ensures.passed c.pass_lines.ensures.come from to input start end
    stands c.write_text.result c.pass_lines.ensures.feeds
    (subst (λ t. WritesOrStops c.write_text.result t start end) text c.write_text.ensures)

pub returns-in-Ok-clause-further : goal.returns-in-Ok-clause-further
returns-in-Ok-clause-further g c =
    further_group c.args.reader.now c.in-Ok.bytes c.in-Ok.lines c.pass_lines.new.self
    c.pass_lines.ensures.passed c.write_text.result

-- memory was wanted before it was written
pub returns-in-Err-clause-goes : goal.returns-in-Err-clause-goes
returns-in-Err-clause-goes g c = λ from to input stands. stops_same replaying anywhere _ _ _ _ _ _ c.in-Err.refused stands
