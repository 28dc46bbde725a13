use Rattle.std.proofs.Common.{◌≡◌, IfSome, Some, subst, sym, ◌∙◌, ap}
use Rattle.lru.specs.LruCache.{lru_cache, last_entry}
use Rattle.kp_recent.specs.Moments.{turned}
use Rattle.kp_recent.proofs.Turn.{kept_turn, promoted_last}
use Rattle.kp_recent.proofs.part.turn_last.Goals as goal

pub returns-then-is_within-clause-entries : goal.returns-then-is_within-clause-entries
returns-then-is_within-clause-entries c =
    let at : last_entry c.args.seen.now.entries ≡ Some (c.in_ok-source.source, c.in_ok-source.moment) = sym c.last_of.ensures.value ∙ c.in_ok-source.was in
    subst (λ o. IfSome o (λ s. c.promote.new.self ≡ lru_cache (turned c.args.now c.args.seconds s c.args.seen.now.entries) c.args.seen.now.cap)) (sym at)
    (c.promote.ensures.entries
    ∙ ap (λ es. lru_cache es c.args.seen.now.cap) (promoted_last c.args.seen.now.entries (c.in_ok-source.source, c.in_ok-source.moment) at c.last_of.ensures.distinct
    ∙ kept_turn c.args.now c.args.seconds c.args.seen.now.entries (c.in_ok-source.source, c.in_ok-source.moment) (sym c.is_within.ensures ∙ c.if-is_within.true)))
