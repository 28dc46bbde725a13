use Rattle.std.proofs.Common.{◌≡◌, ℕ, ◌+◌, suc, subst, arith}
use Rattle.kp_feed.proofs.Rules.{feeds}
use Rattle.kp_feed.proofs.queue.Feed.feed.Goals as goal

pub push_as-requires-clause-rule : goal.push_as-requires-clause-rule
push_as-requires-clause-rule g c =
    let count = c.pass.inside.count in
    λ n. feeds n _ _ _ c.pass.invariant.2 c.pass.invariant.3 (subst (λ (m : ℕ). count + 1 ≡ suc m) c.pass.invariant.4 (omega arith))
