use Rattle.std.proofs.Common.{◌++◌, take}
use Rattle.std.specs.List.{flat_map}
use Rattle.kp_door_defs.specs.Doors.{address_doors}
use Rattle.kp_lemmas.proofs.ListFacts.{added_twice}
use Rattle.kp_lemmas.proofs.Results.{err_anyhow}
use Rattle.kp_decide.proofs.doors.add_address_doors.Goals as goal

-- some doors of a port come after those of the ports before it
pub returns-in_err-add_doors_of-clause-front : goal.returns-in_err-add_doors_of-clause-front
returns-in_err-add_doors_of-clause-front c =
    let before = flat_map address_doors (take c.loop-info.info-index c.args.infos.now) in
    let some = c.in_err-add_doors_of.ensures.front in
    err_anyhow c.from_residual.result _ (
      before ++ some.0,
      added_twice c.args.doors.now.items c.loop-info.doors.items c.add_doors_of.new.doors.items
          before some.0 c.loop-info.invariant some.1,
    )
