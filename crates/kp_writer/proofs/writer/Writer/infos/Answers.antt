use Rattle.std.proofs.Common.{Bor, List, map, ap, sym, ◌∙◌}
use Rattle.std.proofs.lemmas.Result.{IfOk-weaker}
use Rattle.std.specs.FinMap.{keys, values}
use Rattle.kp_base.specs.declared.key.PortKey.{PortKey}
use Rattle.kp_writer.specs.Sync.{infos_at}
use Rattle.kp_writer.specs.Written.{newest_in}
use Rattle.kp_writer.proofs.OwnValues.{all_found}
use Rattle.kp_writer.proofs.writer.Writer.infos.Goals as goal

pub returns : goal.returns
returns c =
    let ports = newest_in c.self.inside.ports in
    let same = ap (λ w. w.newest) c.self.view_is in
    IfOk-weaker c.newest_infos.result _ _
    (λ infos are. are
    ∙ ap (λ (ks : List (Bor PortKey)). infos_at ports (map (λ k. k.now) ks)) c.deref.ensures.value
    ∙ ap (infos_at ports) c.in_ok-ports.ensures
    ∙ ap (λ m. infos_at ports (keys m)) (sym same)
    ∙ all_found ports ∙ ap values same)
    c.newest_infos.ensures
