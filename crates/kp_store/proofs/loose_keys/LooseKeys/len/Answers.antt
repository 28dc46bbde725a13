use Rattle.std.proofs.Common.{sym, ap, ◌∙◌}
use Rattle.std.specs.FinMap as finite
use Rattle.kp_store.proofs.Once.{count_distinct}
use Rattle.kp_store.proofs.loose_keys.LooseKeys.len.Goals as goal

pub returns-clause-len : goal.returns-clause-len
returns-clause-len c =
    c.len.ensures.len
    ∙ sym (count_distinct c.self.inside.entries.entries c.len.ensures.unique)
    ∙ ap finite.len c.self.view_is
