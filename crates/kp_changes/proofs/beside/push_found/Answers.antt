use Rattle.std.proofs.Common.{refl, sym, subst}
use Rattle.std.specs.Prelude.{IsSome}
use Rattle.std.proofs.lemmas.Result.{on_ok_weaker}
use Rattle.kp_changes.specs.After.{After, keeping, kept_at}
use Rattle.kp_changes.specs.Neighbours.{destination_of}
use Rattle.kp_changes.proofs.Kept.{found_again}
use Rattle.kp_changes.proofs.beside.push_found.Goals as goal

pub returns-clause-kept : goal.returns-clause-kept
returns-clause-kept c =
    let a = c.args.after.now in
    let crowd = c.in_ok-crowd.crowd in
    let q = destination_of c.args.family c.args.door.now in
    on_ok_weaker c.keep.result
    (λ kept many.
    subst (λ (new : After). IsSome (kept_at q new.crowds)) (sym kept)
    (subst (λ at. IsSome (kept_at q (keeping at crowd a).crowds)) (sym c.destination_of.ensures)
    (subst IsSome (sym (found_again a.crowds q crowd)) refl)))
    c.keep.ensures.kept
