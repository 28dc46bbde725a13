use Rattle.std.proofs.Common.{◌++◌, ap, subst, sym, ◌∙◌}
use Rattle.std.specs.Prelude.{string_bytes}
use Rattle.std.proofs.lemmas.Result.{on_ok_weaker}
use Rattle.kp_base.specs.declared.address.Family.TheVariants.{V4}
use Rattle.kp_health.specs.Known.{AreKnown}
use Rattle.kp_health_defs.specs.AcceptRules.{accept_text}
use Rattle.kp_mode_defs.specs.Mode.{objects_at}
use Rattle.kp_restore_defs.specs.BatchText.{batch_text_of}
use Rattle.kp_modes.proofs.healthy.HealthyMode.ending.Goals as goal

pub returns-clause-text : goal.returns-clause-text
returns-clause-text c = λ covered state same known.
    let config = c.args._config.now in
    let o = objects_at covered in
    on_ok_weaker c.push.result (λ added.
    added
    ∙ ap (λ text. string_bytes c.args.text.now ++ text)
    (c.as_str.ensures ∙ c.in_ok-batch-2.ensures
    ∙ ap (batch_text_of V4) (c.in_ok-batch.ensures config o
    (subst (AreKnown config o) (sym c.self.view_is) known))
    ∙ (λ i. accept_text (sym same i) o))) c.push.ensures.added
