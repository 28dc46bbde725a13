use Rattle.std.proofs.Common.{refl}
use Rattle.std.proofs.lemmas.Result.{on_err_weaker}
use Rattle.kp_replay.proofs.KeptLemmas.{stays}
use Rattle.kp_replay.proofs.replay.Replay.refuse.Goals as goal

pub returns-clause-kept : goal.returns-clause-kept
returns-clause-kept c =
    on_err_weaker c.push_refusal.result (λ f. stays refl refl refl) c.push_refusal.ensures.front
