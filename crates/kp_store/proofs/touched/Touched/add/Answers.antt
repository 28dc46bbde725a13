use Rattle.std.proofs.lemmas.Result.{on_ok_weaker}
use Rattle.kp_store.proofs.Adding.{one_more}
use Rattle.kp_store.proofs.touched.Touched.add.Goals as goal

pub returns-clause-ok : goal.returns-clause-ok
returns-clause-ok c =
    on_ok_weaker c.put.result (one_more c.args.self.now c.put.new.self c.args.key) c.put.ensures.ok
