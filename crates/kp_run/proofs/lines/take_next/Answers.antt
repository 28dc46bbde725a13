use Rattle.std.proofs.Common.{rules, ◌≡◌, Ok, Err, ap, sym, ◌∙◌, subst}
use Rattle.kp_replay.specs.Steps.{standing_of, Follows}
use Rattle.kp_run.specs.Stand.{TakesStep}
use Rattle.kp_run.proofs.StandLemmas.{after_given, comes_to_end, gives_line, gives_none, stops_given, stops_long, stops_read, stops_unread, stops_wanted}
use Rattle.kp_run.proofs.lines.take_next.Goals as goal

-- what is known can't be handed on
pub returns-in_err-number-clause-step : goal.returns-in_err-number-clause-step
returns-in_err-number-clause-step g c = λ from to stands.
    let input = g.S.Source.input c.next_known.new.source in
    let later = g.K.Sink.output c.next_known.new.sink in
    let stop = c.in_err-number.field-0.0 in
    let is : c.from_residual.result ≡ Err stop = search rules in
    subst (λ r. TakesStep g.M.Mode.mode (Follows (g.M.Mode.stands c.args.mode.now)) from to r (standing_of c.args.replay.now) c.next_known.new.reader input later) (sym is)
    (stops_unread g.M.Mode.mode (Follows (g.M.Mode.stands c.args.mode.now)) stands stop input later c.in_err-number.ensures.hands)

-- a line was taken
pub returns-in_ok-replay_line-in-Ok-Line-clause-step : goal.returns-in_ok-replay_line-in-Ok-Line-clause-step
returns-in_ok-replay_line-in-Ok-Line-clause-step g c = λ from to stands.
    let later = g.K.Sink.output c.next_known.new.sink in
    let given =
    gives_line g.M.Mode.mode (Follows (g.M.Mode.stands c.args.mode.now)) stands later c.in_ok-number.ensures.next c.in_ok-number.ensures.hands
    c.in-Ok-Line.number c.bytes-line.result.now (c.in-Ok-Line.is ∙ ap Ok c.in-Ok-Line.field-0-is) c.bytes-line.ensures in
    after_given g.M.Mode.mode (Follows (g.M.Mode.stands c.args.mode.now)) stands later c.in_ok-number.ensures.next c.in_ok-number.ensures.hands given
    (g.K.Sink.output c.replay_line.new.sink) (Follows (g.M.Mode.stands c.replay_line.new.mode)) (standing_of c.replay_line.new.replay)
    (c.in_ok-replay_line-in-Ok-Line.ensures stands.come.state stands.come.kept)

pub returns-in_err-replay_line-in-Ok-Line-clause-step : goal.returns-in_err-replay_line-in-Ok-Line-clause-step
returns-in_err-replay_line-in-Ok-Line-clause-step g c = λ from to stands.
    let input = g.S.Source.input c.next_known.new.source in
    let later = g.K.Sink.output c.next_known.new.sink in
    let last = g.K.Sink.output c.replay_line.new.sink in
    let given =
    gives_line g.M.Mode.mode (Follows (g.M.Mode.stands c.args.mode.now)) stands later c.in_ok-number.ensures.next c.in_ok-number.ensures.hands
    c.in-Ok-Line.number c.bytes-line.result.now (c.in-Ok-Line.is ∙ ap Ok c.in-Ok-Line.field-0-is) c.bytes-line.ensures in
    let stop = c.in_err-replay_line-in-Ok-Line.field-0.0 in
    let is : c.from_residual-in_err-replay_line-in-Ok-Line.result ≡ Err stop = search rules in
    subst (λ r. TakesStep g.M.Mode.mode (Follows (g.M.Mode.stands c.replay_line.new.mode)) from to r (standing_of c.replay_line.new.replay) c.next_known.new.reader input last) (sym is)
    (stops_given g.M.Mode.mode (Follows (g.M.Mode.stands c.args.mode.now)) stands later c.in_ok-number.ensures.next c.in_ok-number.ensures.hands given last stop
    (Follows (g.M.Mode.stands c.replay_line.new.mode)) (standing_of c.replay_line.new.replay)
    (c.in_err-replay_line-in-Ok-Line.ensures stands.come.state stands.come.kept))

-- a line that is too long was refused
pub returns-in_ok-replay_line-in-Err-TooLongLine-clause-step : goal.returns-in_ok-replay_line-in-Err-TooLongLine-clause-step
returns-in_ok-replay_line-in-Err-TooLongLine-clause-step g c = λ from to stands.
    let later = g.K.Sink.output c.next_known.new.sink in
    let given =
    gives_none g.M.Mode.mode (Follows (g.M.Mode.stands c.args.mode.now)) stands later c.in_ok-number.ensures.next c.in_ok-number.ensures.hands
    c.in-Err-TooLongLine.number (c.in-Err-TooLongLine.is ∙ ap Err c.in-Err-TooLongLine.field-0-is) in
    after_given g.M.Mode.mode (Follows (g.M.Mode.stands c.args.mode.now)) stands later c.in_ok-number.ensures.next c.in_ok-number.ensures.hands given
    (g.K.Sink.output c.replay_line-in-Err-TooLongLine.new.sink) (Follows (g.M.Mode.stands c.replay_line-in-Err-TooLongLine.new.mode)) (standing_of c.replay_line-in-Err-TooLongLine.new.replay)
    (c.in_ok-replay_line-in-Err-TooLongLine.ensures stands.come.state stands.come.kept)

pub returns-in_err-replay_line-in-Err-TooLongLine-clause-step : goal.returns-in_err-replay_line-in-Err-TooLongLine-clause-step
returns-in_err-replay_line-in-Err-TooLongLine-clause-step g c = λ from to stands.
    let input = g.S.Source.input c.next_known.new.source in
    let later = g.K.Sink.output c.next_known.new.sink in
    let last = g.K.Sink.output c.replay_line-in-Err-TooLongLine.new.sink in
    let given =
    gives_none g.M.Mode.mode (Follows (g.M.Mode.stands c.args.mode.now)) stands later c.in_ok-number.ensures.next c.in_ok-number.ensures.hands
    c.in-Err-TooLongLine.number (c.in-Err-TooLongLine.is ∙ ap Err c.in-Err-TooLongLine.field-0-is) in
    let stop = c.in_err-replay_line-in-Err-TooLongLine.field-0.0 in
    let is : c.from_residual-in_err-replay_line-in-Err-TooLongLine.result ≡ Err stop = search rules in
    subst (λ r. TakesStep g.M.Mode.mode (Follows (g.M.Mode.stands c.replay_line-in-Err-TooLongLine.new.mode)) from to r (standing_of c.replay_line-in-Err-TooLongLine.new.replay) c.next_known.new.reader input last) (sym is)
    (stops_given g.M.Mode.mode (Follows (g.M.Mode.stands c.args.mode.now)) stands later c.in_ok-number.ensures.next c.in_ok-number.ensures.hands given last stop
    (Follows (g.M.Mode.stands c.replay_line-in-Err-TooLongLine.new.mode)) (standing_of c.replay_line-in-Err-TooLongLine.new.replay)
    (c.in_err-replay_line-in-Err-TooLongLine.ensures stands.come.state stands.come.kept))

-- no line comes
pub returns-in-Ok-End-clause-step : goal.returns-in-Ok-End-clause-step
returns-in-Ok-End-clause-step g c = λ from to stands.
    comes_to_end g.M.Mode.mode (Follows (g.M.Mode.stands c.args.mode.now)) stands (g.K.Sink.output c.next_known.new.sink) c.in_ok-number.ensures.next
    c.in_ok-number.ensures.hands c.in-Ok-End.field-0-0 (c.in-Ok-End.is ∙ ap Ok c.in-Ok-End.field-0-is)

pub returns-in-Err-ReadFault-clause-step : goal.returns-in-Err-ReadFault-clause-step
returns-in-Err-ReadFault-clause-step g c = λ from to stands.
    stops_read g.M.Mode.mode (Follows (g.M.Mode.stands c.args.mode.now)) stands (g.K.Sink.output c.next_known.new.sink) c.in_ok-number.ensures.next
    c.in_ok-number.ensures.hands (c.in-Err-ReadFault.is ∙ ap Err c.in-Err-ReadFault.field-0-is)

pub returns-in-Err-InputTooLong-clause-step : goal.returns-in-Err-InputTooLong-clause-step
returns-in-Err-InputTooLong-clause-step g c = λ from to stands.
    stops_long g.M.Mode.mode (Follows (g.M.Mode.stands c.args.mode.now)) stands (g.K.Sink.output c.next_known.new.sink) c.in_ok-number.ensures.next
    c.in_ok-number.ensures.hands (c.in-Err-InputTooLong.is ∙ ap Err c.in-Err-InputTooLong.field-0-is)

pub returns-in-Err-NoMemory-clause-step : goal.returns-in-Err-NoMemory-clause-step
returns-in-Err-NoMemory-clause-step g c = λ from to stands.
    stops_wanted g.M.Mode.mode (Follows (g.M.Mode.stands c.args.mode.now)) stands (g.K.Sink.output c.next_known.new.sink) c.in_ok-number.ensures.next
    c.in_ok-number.ensures.hands c.in-Err-NoMemory.refused (c.in-Err-NoMemory.is ∙ ap Err c.in-Err-NoMemory.field-0-is)
