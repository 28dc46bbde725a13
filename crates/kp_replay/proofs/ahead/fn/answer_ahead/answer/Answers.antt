use Rattle.kp_replay.proofs.AnsweringLemmas.{read_in_part}
use Rattle.kp_replay.proofs.ahead.fn.answer_ahead.answer.Goals as goal

pub answer_all-requires-clause-local : goal.answer_all-requires-clause-local
answer_all-requires-clause-local g c κs within = read_in_part c.captures.work.now.snapshot
