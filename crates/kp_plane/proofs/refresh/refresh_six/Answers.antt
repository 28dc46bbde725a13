use Rattle.std.proofs.Common.{IfSome, subst}
use Rattle.kp_base.specs.declared.address.Family.TheVariants.{V6}
use Rattle.kp_plane.specs.Families.{IsWritten}
use Rattle.kp_plane.proofs.refresh.refresh_six.Goals as goal

pub returns-in-Some-clause-written : goal.returns-in-Some-clause-written
returns-in-Some-clause-written g c = λ config o is.
    c.refresh.ensures.written config o V6
    (subst (λ w. IfSome w (IsWritten config o V6)) c.in-Some.is is)
