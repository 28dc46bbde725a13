use Rattle.std.proofs.Common.{◌≡◌, option_map, sym, ap, ◌∙◌}
use Rattle.std.proofs.lemmas.Result.{IfOk-weaker}
use Rattle.kp_choice_defs.specs.Settings.{settings_of}
use Rattle.kp_object_defs.specs.Packing.{same_option}
use Rattle.kp_history_defs.specs.Inputs.{inputs_in, keeps_inputs, same_inputs}
use Rattle.kp_vmap.proofs.FoundInputs.{inputs_at}
use Rattle.kp_vmap.proofs.between.keeps_inputs.Goals as goal

pub returns-in-Some-Some : goal.returns-in-Some-Some
returns-in-Some-Some c =
    let settings = settings_of c.args.config.now in
    let before = c.args.before.now in
    let after = c.args.after.now in
    let key = c.args.key.now in
    let found = c.in-Some-Some.found in
    let again = c.in-Some-Some.again in
    let was = inputs_at settings before key found.0.now found.1.now
    (ap (option_map (λ f. (f.0.now, f.1.now))) (sym c.in-Some-Some.is-0) ∙ c.port_found.ensures) in
    let is = inputs_at settings after key again.0.now again.1.now
    (ap (option_map (λ f. (f.0.now, f.1.now))) (sym c.in-Some-Some.is-1)
    ∙ c.port_found-2.ensures) in
    IfOk-weaker c.has_same_inputs.result
    (λ same. same ≡ same_inputs (inputs_in settings before found.0.now found.1.now)
    (inputs_in settings after again.0.now again.1.now))
    (λ same. same ≡ keeps_inputs settings before after key)
    (λ same h. h ∙ sym (λ i. same_option same_inputs (was i) (is i)))
    c.has_same_inputs.ensures
