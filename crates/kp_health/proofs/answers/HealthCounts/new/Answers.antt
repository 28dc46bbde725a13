use Rattle.std.proofs.Common.{sym, ap, subst}
use Rattle.std.specs.FinMap as finite
use Rattle.kp_base.specs.Keys.{key_cmp}
use Rattle.kp_object_defs.specs.Objects.{no_objects}
use Rattle.kp_health.specs.Known.{AreKnown}
use Rattle.kp_health.proofs.KnownAnswers.{known_of_none}
use Rattle.kp_health.proofs.answers.HealthCounts.new.Goals as goal

pub returns-clause-known : goal.returns-clause-known
returns-clause-known c config =
    subst (AreKnown config no_objects)
    (sym (ap (finite.from_entries {R = key_cmp}) c.new.ensures.empty)) (known_of_none config)
