use Rattle.std.proofs.Common.{rules, take, map}
use Rattle.kp_door_defs.specs.Doors.{door_at}
use Rattle.kp_lemmas.proofs.Results.{err_anyhow}
use Rattle.kp_decide.proofs.doors.add_doors_at.Goals as goal

-- the doors at the addresses before stand
pub returns-in_err-push-clause-front : goal.returns-in_err-push-clause-front
returns-in_err-push-clause-front c =
    err_anyhow c.from_residual.result _ (
      map (door_at c.args.kind c.args.info.now) (take c.loop-address.address-index c.args.addresses.now),
      search rules,
    )
