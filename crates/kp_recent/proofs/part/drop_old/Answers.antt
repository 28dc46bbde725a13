use Rattle.std.proofs.Common.{◌≡◌, ◌+◌, ◌-◌, true, false, drop, leb, Some, None, IfSome, if◌then◌else◌, subst, sym, ◌∙◌, ap, arith}
use Rattle.lru.specs.LruCache.{lru_cache, last_entry}
use Rattle.std.proofs.lemmas.Bool.Decides.{nat_tests}
use Rattle.kp_recent.specs.Moments.{is_recent, recent_pairs, AreFalling, AreUpTo, turned}
use Rattle.kp_recent.proofs.Turn.{falls_on, falls_still, next_turn}
use Rattle.kp_recent.proofs.part.drop_old.Goals as goal
use Rattle.kp_recent.proofs.part.drop_old.Goals.{in-Some+then-falling, in-Some+else-falling, in_default}

-- the last of the sources that had no turn has one
pub loop-turn-preserved : goal.loop-turn-preserved
loop-turn-preserved c =
    let j = c.len-turn-end.result - c.loop-turn._turn in
    let k = c.len-turn-end.result - (c.loop-turn._turn + 1) in
    let step = next_turn c.args.now c.args.seconds c.args.seen.now.entries k j (omega arith) (omega arith) in
    let kept = recent_pairs c.args.now c.args.seconds (drop j c.args.seen.now.entries) in
    let at : last_entry c.loop-turn.seen.entries ≡ Some step.0 = ap last_entry c.loop-turn.invariant.turned ∙ step.1 in
    let went : c.turn_last.new.seen ≡ lru_cache (turned c.args.now c.args.seconds step.0 c.loop-turn.seen.entries) c.loop-turn.seen.cap =
    subst (λ o. IfSome o (λ s. c.turn_last.new.seen ≡ lru_cache (turned c.args.now c.args.seconds s c.loop-turn.seen.entries) c.loop-turn.seen.cap)) at c.turn_last.ensures.entries in
    let told : c.turn_last.result ≡ (if is_recent c.args.now c.args.seconds step.0.1 then Some step.0.1 else None) =
    subst (λ o. IfSome o (λ s. c.turn_last.result ≡ (if is_recent c.args.now c.args.seconds s.1 then Some s.1 else None))) at c.turn_last.ensures.kept in
    let falls : c.match-turn_last.falling ≡ true → AreFalling (recent_pairs c.args.now c.args.seconds (drop k c.args.seen.now.entries)) × AreUpTo c.match-turn_last.newest (recent_pairs c.args.now c.args.seconds (drop k c.args.seen.now.entries)) =
    λ h. elim c.match-turn_last.branch [
      | in-Some+then-falling w ↦ subst (λ n. AreFalling (recent_pairs c.args.now c.args.seconds (drop k c.args.seen.now.entries)) × AreUpTo n (recent_pairs c.args.now c.args.seconds (drop k c.args.seen.now.entries))) (sym w.newest-is)
          (falls_on c.args.now c.args.seconds step.0 kept _ c.turn_last.result c.loop-turn.newest w.in-Some.moment step.3 told w.in-Some.is
          (let test : leb c.loop-turn.newest w.in-Some.moment ≡ true = sym w.falling-is ∙ h in grind (arith, nat_tests, test))
          (c.loop-turn.invariant.order w.if-falling.true) (c.loop-turn.invariant.newest w.if-falling.true))
      | in-Some+else-falling w ↦ absurd (let no : true ≡ false = sym h ∙ w.falling-is ∙ w.if-falling.false in cc)
      | in_default w ↦ subst (λ n. AreFalling (recent_pairs c.args.now c.args.seconds (drop k c.args.seen.now.entries)) × AreUpTo n (recent_pairs c.args.now c.args.seconds (drop k c.args.seen.now.entries))) (sym w.newest-is)
          (falls_still c.args.now c.args.seconds step.0 kept _ c.turn_last.result c.loop-turn.newest step.3 told w.in_default.is
          (c.loop-turn.invariant.order (sym w.falling-is ∙ h)) (c.loop-turn.invariant.newest (sym w.falling-is ∙ h)))
    ] in
    record {
      turned = ap (λ x. x.entries) went ∙ ap (turned c.args.now c.args.seconds step.0) c.loop-turn.invariant.turned ∙ step.2;
      cap = ap (λ x. x.cap) went ∙ c.loop-turn.invariant.cap;
      order = λ h. (falls h).0;
      newest = λ h. (falls h).1;
    }
