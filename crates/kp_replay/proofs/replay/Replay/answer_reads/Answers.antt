use Rattle.std.proofs.Common.{◌||◌, ap, refl}
use Rattle.kp_replay.proofs.KeptLemmas.{stays}
use Rattle.kp_replay.proofs.AnsweringLemmas.{answered_all}
use Rattle.kp_replay.proofs.OkLemmas.{both_ok}
use Rattle.kp_replay.proofs.replay.Replay.answer_reads.Goals as goal

pub returns-clause-takes : goal.returns-clause-takes
returns-clause-takes g c =
    let snapshot = c.snapshot_of.ensures in
    both_ok _ _ _ c.answer_ahead.result c.answer_ahead.ensures.lists c.answer_ahead.ensures.text (λ lists text.
    answered_all c.args.self.now c.snapshot_of.result snapshot.sync
    (λ number line all. snapshot.walked number line all)
    (λ number line all. snapshot.decided number line all)
    c.args.reads.now c.requires.aside c.answer_ahead.new.lists (c.args.self.now.refused || c.any_refused.result)
    c.args.text.now.items c.answer_ahead.new.text.items
    (ap (λ refused. c.args.self.now.refused || refused) c.any_refused.ensures)
    lists text)

pub returns-clause-kept : goal.returns-clause-kept
returns-clause-kept g c =
    stays refl refl refl
