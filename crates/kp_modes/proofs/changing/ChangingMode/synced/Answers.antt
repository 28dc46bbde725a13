use Rattle.std.proofs.Common.{◌∙◌}
use Rattle.std.specs.Prelude.{string_bytes}
use Rattle.kp_lemmas.proofs.Results.{err_anyhow, ok_anyhow}
use Rattle.kp_mode.proofs.CallLemmas.{adds, adds_none}
use Rattle.kp_modes.proofs.Synced.{changed, changes_of}
use Rattle.kp_modes.proofs.changing.ChangingMode.synced.Goals as goal

pub returns : goal.returns
returns c = λ state stands.
    adds c.push_changes.result (λ s. Unit {0}) (Unit {0}) c.args.text.now c.push_changes.new.text
    (changes_of c.args.plane.now) state
    (changed c.own_keys.ensures.after_events c.args.plane.now c.config.result.now c.objects.result.now
    c.as_slice.result.now c.as_slice-2.result.now c.push_changes.result (string_bytes c.args.text.now)
    (string_bytes c.push_changes.new.text) c.config.ensures c.objects.ensures
    (c.as_slice.ensures ∙ c.in_ok-four.ensures) (c.as_slice-2.ensures ∙ c.in_ok-six.ensures)
    c.push_changes.ensures.added) (ok_anyhow c.push_changes.result (Unit {0}) tt)
    c.push_changes.ensures.front (err_anyhow c.push_changes.result (Unit {0}) tt)

pub returns-in_err-four : goal.returns-in_err-four
returns-in_err-four c = λ state stands.
    adds_none _ (λ s. Unit {0}) (Unit {0}) c.args.text.now (changes_of c.args.plane.now) state
    c.from_residual.result c.from_residual.ensures.1 tt

pub returns-in_err-six : goal.returns-in_err-six
returns-in_err-six c = λ state stands.
    adds_none _ (λ s. Unit {0}) (Unit {0}) c.args.text.now (changes_of c.args.plane.now) state
    c.from_residual-in_err-six.result c.from_residual-in_err-six.ensures.1 tt
