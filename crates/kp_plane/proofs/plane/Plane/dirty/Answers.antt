use Rattle.std.proofs.Common.{sym, ap, ◌∙◌}
use Rattle.std.proofs.lemmas.Result.{IfOk-weaker}
use Rattle.std.specs.Option.{option_copied}
use Rattle.kp_plane.specs.Invariant.{parts_of}
use Rattle.kp_plane.specs.Parts.{dirty_in}
use Rattle.kp_plane.proofs.Dirty.{found, listed}
use Rattle.kp_plane.proofs.plane.Plane.dirty.Goals as goal

pub returns-in-Some : goal.returns-in-Some
returns-in-Some c =
    let s = c.self.inside in
    let p = parts_of s.config s.journal s.history in
    IfOk-weaker c.told.result _ _
    (λ ports same. same ∙ c.as_slice.ensures
    ∙ ap listed (sym (ap option_copied c.in-Some.is) ∙ c.dirty_of.ensures)
    ∙ found p c.args.family s.ports c.self.invariant.holds.ports.dirty
    ∙ ap (dirty_in c.args.family) c.self.view_is)
    c.told.ensures

pub returns-in-None : goal.returns-in-None
returns-in-None c =
    let s = c.self.inside in
    let p = parts_of s.config s.journal s.history in
    c.new.ensures
    ∙ ap listed (sym (ap option_copied c.in-None.is) ∙ c.dirty_of.ensures)
    ∙ found p c.args.family s.ports c.self.invariant.holds.ports.dirty
    ∙ ap (dirty_in c.args.family) c.self.view_is
