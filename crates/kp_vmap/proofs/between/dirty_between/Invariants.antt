use Rattle.std.proofs.Common.{◌≡◌, filter, not, take}
use Rattle.kp_choice_defs.specs.Settings.{settings_of}
use Rattle.kp_history_defs.specs.Inputs.{keeps_inputs}
use Rattle.kp_vmap.proofs.between.dirty_between.Given as goal

-- those of the ports so far whose inputs differ
abbrev pub invariant-loop-key : goal.invariant-loop-key
invariant-loop-key l =
    l.changed.items
    ≡ filter (λ key. not (keeps_inputs (settings_of l.config) l.before l.after key))
    (take l.key-index l.key-items)
