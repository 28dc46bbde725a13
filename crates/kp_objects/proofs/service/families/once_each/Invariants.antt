use Rattle.std.proofs.Common.{◌≡◌, take}
use Rattle.kp_base.specs.Net.{same_family}
use Rattle.kp_lemmas.specs.Lists.{first_places}
use Rattle.kp_objects.proofs.service.families.once_each.Given as goal

-- the families so far stand once each
abbrev pub invariant-loop-family : goal.invariant-loop-family
invariant-loop-family l = l.found.items ≡ first_places same_family (take l.family-index l.families)
