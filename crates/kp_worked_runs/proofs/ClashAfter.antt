-- The two chains of the clash never stand the other way round.
use Rattle.std.proofs.Common.{◌≡◌, ℕ, zero, suc, List, [], ◌∷◌, take, Option, Some, None, refl}
use Rattle.std.proofs.Common.{ap, sym, arith, ◌∙◌}
use Rattle.kp_types.specs.declared.chain.ChainKey.{ChainKey}
use Rattle.kp_types.specs.declared.chain.ChainKey.TheVariants.{Port, Sep}
use Rattle.kp_types.specs.declared.chain.Clash.{Clash}
use Rattle.kp_types.specs.declared.event.Event.{Event}
use Rattle.kp_table_defs.specs.Rebuild.{clash_of}
use Rattle.kp_object_defs.specs.Objects.{objects_after}
use Rattle.kp_run_defs.specs.LegalRuns.{LiveRun, Refuses, events_in, settings_in}
use Rattle.kp_worked.specs.Events.{apply_web}
use Rattle.kp_worked_runs.specs.Clashes.{apply_both, sync_shows, turned}
use Rattle.kp_worked_runs.proofs.ByLists.{clash_after, clash_by}

-- the run that is refused the other way round
abbrev run : LiveRun
run = sync_shows (Refuses turned)

-- the address of an endpoint's chain
abbrev address_of : ChainKey → ℕ
address_of (Port kind port) = 0
address_of (Sep port e) = e.address.number

-- that of the first chain of a clash
abbrev first_address : Option Clash → ℕ
first_address None = 0
first_address (Some clash) = address_of clash.first

none_left : (n : ℕ) → ◌≡◌ {A = List Event} (take n []) []
none_left zero = refl
none_left (suc n) = refl

pub never_turned : (n : ℕ)
    → clash_of (settings_in run) (objects_after (take n (events_in run))) ≡ Some turned → ⊥
never_turned zero h =
    let none : None ≡ Some turned = sym (clash_after run 0) ∙ h in cc
never_turned (suc zero) h =
    let none : None ≡ Some turned = sym (clash_after run 1) ∙ h in cc
never_turned (suc (suc n)) h =
    let address : ◌≡◌ {A = ℕ} 183763202 183763459 = ap first_address (
    sym (clash_after run (suc (suc n))
    ∙ ap (λ rest. clash_by run (apply_web ∷ apply_both ∷ rest)) (none_left n))
    ∙ h) in
    omega (arith, address)
