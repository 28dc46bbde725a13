-- The dirty ports of one family, among those of all that the node has tables of.
use Rattle.std.proofs.Common.{◌≡◌, Bool, true, false, cond, List, [], ◌∷◌, Option, Some, None}
use Rattle.std.proofs.Common.{refl, ap, ◌∙◌}
use Rattle.std.specs.List.{list_any}
use Rattle.kp_base.specs.Net.{same_family}
use Rattle.kp_base.specs.declared.address.Family.{Family}
use Rattle.kp_base.specs.declared.address.Family.TheVariants.{V4, V6}
use Rattle.kp_types.specs.Setting.{both_families}
use Rattle.kp_history_defs.specs.declared.dirty.DirtyPort.{DirtyPort}
use Rattle.kp_plane.specs.Families.{of_family, per_family}
use Rattle.kp_plane.specs.Parts.{PlaneParts, dirty_after, dirty_in}
use Rattle.kp_plane.specs.declared.per_family.PerFamily.{PerFamily}
use Rattle.kp_plane.specs.declared.ports_at.PortsAt.{PortsAt}

-- a list, if there is one
abbrev pub listed : {X : Type 0} → Option (List X) → List X
listed None = []
listed (Some xs) = xs

-- what stands for a family is its own, where the node has tables of it
of_one : {X : Type 0} (of : Family → List X) (family : Family) (dual : Bool)
    → listed (of_family family (record { four = of V4; six = cond dual (Some (of V6)) None }))
    ≡ cond (list_any (same_family family) (cond dual both_families (V4 ∷ []))) (of family) []
of_one of V4 true = refl
of_one of V4 false = refl
of_one of V6 true = refl
of_one of V6 false = refl

pub found : (p : PlaneParts) (family : Family) (s : PortsAt)
    → s.dirty ≡ per_family p.config (λ f. dirty_after f p)
    → listed (of_family family s.dirty) ≡ dirty_in family p
found p family s dirty =
    ap (λ (ds : PerFamily (List DirtyPort)). listed (of_family family ds)) dirty
    ∙ of_one (λ f. dirty_after f p) family p.config.dual
