use Rattle.std.proofs.Common.{cond, Some, None, refl, sym, ap, ◌∙◌}
use Rattle.kp_door_defs.specs.Doors.{door_at}
use Rattle.kp_decide.proofs.DoorsInPlace.{fitting}
use Rattle.kp_decide.proofs.doors.fitting_at.Goals as goal

pub returns-then-is_for : goal.returns-then-is_for
returns-then-is_for c own =
    let packet = c.args.packet.now in
    let i = c.args.info.now in
    ap Some c.door_at.ensures
    ∙ sym (fitting packet c.args.kind i own _ refl c.args.addresses.now
    ∙ ap (λ b. cond b (Some (door_at c.args.kind i packet.target)) None) (sym c.is_for.ensures ∙ c.if-is_for.true))

pub returns-else-is_for : goal.returns-else-is_for
returns-else-is_for c own =
    let packet = c.args.packet.now in
    let i = c.args.info.now in
    sym (fitting packet c.args.kind i own _ refl c.args.addresses.now
    ∙ ap (λ b. cond b (Some (door_at c.args.kind i packet.target)) None) (sym c.is_for.ensures ∙ c.if-is_for.false))
