use Rattle.std.proofs.Common.{◌≡◌, true, take}
use Rattle.std.specs.List.{list_any}
use Rattle.std.specs.Ordering.{eq_by_cmp}
use Rattle.kp_base.specs.Keys.{key_cmp}
use Rattle.kp_base.specs.declared.key.ObjectKey.{ObjectKey}
use Rattle.kp_health.specs.Known.{AreNewer, IsKnownAt}
use Rattle.kp_health.proofs.answers.HealthCounts.make_listed.Given as goal

-- the answers for the Services so far are known, what was known stays so, and
-- what isn't made anew is as before
abbrev pub invariant-loop-service : goal.invariant-loop-service
invariant-loop-service l = record {
  made : (k : ObjectKey)
      → list_any (eq_by_cmp key_cmp k) (take l.service-index l.services) ≡ true
      → IsKnownAt l.config l.objects l.self k;
  kept : (k : ObjectKey) → IsKnownAt l.config l.objects l.initial.self k
      → IsKnownAt l.config l.objects l.self k;
  newer : AreNewer l.config l.objects l.initial.self l.self;
}
