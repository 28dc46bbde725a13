use Rattle.std.proofs.Common.{option_copied, refl, sym, ap}
use Rattle.kp_store.proofs.Unchanged.{of_found, of_none, of_some}
use Rattle.kp_store.proofs.changes.is_one.Goals as goal

pub returns-in-Some : goal.returns-in-Some
returns-in-Some g c =
    of_found (ap option_copied (sym c.in-Some.is)) refl (of_some c.is_same.ensures)

pub returns-in-None : goal.returns-in-None
returns-in-None g c =
    of_found (ap option_copied (sym c.in-None.is)) refl (of_none c.args.object.now)
