use Rattle.std.proofs.Common.{sym, ◌∙◌, ap}
use Rattle.kp_recent.specs.Moments.{recent_pairs}
use Rattle.kp_recent.proofs.Falling.{falling_take, kept_whole, none_last, reaped_but_last}
use Rattle.kp_recent.proofs.Put.{same_cache}
use Rattle.kp_recent.proofs.part.drop_last_old.Goals as goal

-- the last is not too old, so none is
pub returns-then-is_within : goal.returns-then-is_within
returns-then-is_within c = same_cache _ _ _
    (sym (kept_whole c.args.now c.args.seconds c.loop-moment.seen.entries (c.in-Some.field-0-0, c.in-Some.moment) c.loop-moment.invariant.order (sym c.last_of.ensures.value ∙ c.in-Some.is) (sym c.is_within.ensures ∙ c.if-is_within.true)) ∙ c.loop-moment.invariant.kept)
    c.loop-moment.invariant.cap

-- the last is too old, and goes
pub loop-moment-preserved : goal.loop-moment-preserved
loop-moment-preserved c = rw c.pop_lru.ensures.entries (record {
  order = falling_take _ c.loop-moment.seen.entries c.loop-moment.invariant.order;
  kept = reaped_but_last c.args.now c.args.seconds c.loop-moment.seen.entries (c.in-Some.field-0-0, c.in-Some.moment) (sym c.last_of.ensures.value ∙ c.in-Some.is) (sym c.is_within.ensures ∙ c.if-is_within.false) ∙ c.loop-moment.invariant.kept;
  cap = c.loop-moment.invariant.cap;
})

-- none is left
pub returns : goal.returns
returns c = same_cache _ _ _
    (none_last c.loop-moment.seen.entries (sym c.last_of.ensures.value ∙ c.in_default.is)
    ∙ sym (ap (recent_pairs c.args.now c.args.seconds) (none_last c.loop-moment.seen.entries (sym c.last_of.ensures.value ∙ c.in_default.is)))
    ∙ c.loop-moment.invariant.kept)
    c.loop-moment.invariant.cap
