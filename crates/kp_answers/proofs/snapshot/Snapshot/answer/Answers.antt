use Rattle.std.specs.Prelude.{string_bytes}
use Rattle.std.proofs.lemmas.Result.{on_ok_weaker}
use Rattle.kp_answers.specs.Walks.{walk_in}
use Rattle.kp_answers.proofs.AnswerLemmas.{traced, untraced}
use Rattle.kp_answers.proofs.snapshot.Snapshot.answer.Goals as goal

pub returns-in_ok-push_answer-clause-text : goal.returns-in_ok-push_answer-clause-text
returns-in_ok-push_answer-clause-text c =
    on_ok_weaker c.push_trail.result
    (traced c.args.number c.args.self.now.sync c.args.line.now
    (walk_in c.args.self.now c.args.number c.args.line.now c.args.lists.now)
    (string_bytes c.args.text.now) (string_bytes c.push_answer.new.text)
    (string_bytes c.push_trail.new.text) c.in_ok-answer.answer c.walk.new.lists
    c.if-line.true c.in_ok-answer.ensures.walk c.in_ok-push_answer.ensures.added) c.push_trail.ensures.added

pub returns-in_ok-verdict-clause-text : goal.returns-in_ok-verdict-clause-text
returns-in_ok-verdict-clause-text c =
    on_ok_weaker c.push_answer-else-line.result
    (untraced c.args.number c.args.self.now.sync c.args.line.now
    (walk_in c.args.self.now c.args.number c.args.line.now c.args.lists.now)
    (string_bytes c.args.text.now) (string_bytes c.args.text.now)
    (string_bytes c.push_answer-else-line.new.text) c.in_ok-verdict.verdict
    c.if-line.false c.in_ok-verdict.ensures.verdict) c.push_answer-else-line.ensures.added
