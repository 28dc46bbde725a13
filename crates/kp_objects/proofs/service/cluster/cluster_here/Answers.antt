use Rattle.std.proofs.Common.{sym, ◌∙◌}
use Rattle.kp_json.specs.Views.{place_of}
use Rattle.kp_objects.proofs.NoneText.{none_here}
use Rattle.kp_objects.proofs.service.cluster.cluster_here.Goals as goal

pub returns-then-eq : goal.returns-then-eq
returns-then-eq c =
    none_here (place_of c.args.spot.now) c.in_ok-str_at.field-0.now c.in_ok-str_at.ensures
    (sym c.eq.ensures ∙ c.if-eq.true)
