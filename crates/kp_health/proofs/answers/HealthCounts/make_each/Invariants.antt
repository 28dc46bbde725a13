use Rattle.std.proofs.Common.{◌≡◌, true, map, take}
use Rattle.std.specs.List.{list_any}
use Rattle.std.specs.Ordering.{eq_by_cmp}
use Rattle.kp_base.specs.Keys.{key_cmp}
use Rattle.kp_base.specs.declared.key.ObjectKey.{ObjectKey}
use Rattle.kp_health.specs.Known.{AreNewer, IsKnownAt}
use Rattle.kp_health.proofs.answers.HealthCounts.make_each.Given as goal

-- the answers for the keys so far are known, what was known stays so, and
-- what isn't made anew is as before
abbrev pub invariant-loop-key : goal.invariant-loop-key
invariant-loop-key l = record {
  made : (k : ObjectKey)
      → list_any (eq_by_cmp key_cmp k) (map (λ q. q.now) (take l.key-index l.keys)) ≡ true
      → IsKnownAt l.config l.objects l.self k;
  kept : (k : ObjectKey) → IsKnownAt l.config l.objects l.initial.self k
      → IsKnownAt l.config l.objects l.self k;
  newer : AreNewer l.config l.objects l.initial.self l.self;
}
