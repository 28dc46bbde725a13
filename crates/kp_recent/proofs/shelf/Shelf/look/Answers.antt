use Rattle.std.proofs.Common.{Some, None, is_some, refl, sym, ◌∙◌, ap, subst}
use Rattle.std.specs.Int.NonZero.{non_zero_usize_get}
use Rattle.std.specs.Map.{lookup}
use Rattle.kp_choice_defs.specs.Recent.{is_live, reaped, shard_of}
use Rattle.kp_recent.specs.Moments.{has_recent, recent}
use Rattle.kp_recent.proofs.Parts.{Changes, held_after, held_at, none_shown, part_dropped, part_is, part_put, same_part, some_left, stays, twice, viewed}
use Rattle.kp_recent.proofs.shelf.Shelf.look.Goals as goal
use Rattle.kp_recent.proofs.shelf.Shelf.look.Goals.{in-Some-1, in-None-1}

-- ---- the part is empty by now, and goes

pub invariant_of-self-then-is_empty : goal.invariant_of-self-then-is_empty
invariant_of-self-then-is_empty c =
    let size = non_zero_usize_get c.self.inside.size in
    let key = shard_of c.args.list.now c.args.source.now in
    let old = c.self.inside.parts.entries in
    let mid = (c.get_mut.follows.lender c.look-is_live.new.self).entries in
    let new = c.swap_remove.new.self.entries in
    let change = subst (λ k. Changes old mid k (Some c.look-is_live.new.self)) c.of-key.ensures ((c.get_mut.follows.holds c.look-is_live.new.self).3 (ap is_some (sym c.in-Some.ensures.value))).0 in
    let gone = subst (λ k. Changes mid new k None) c.of-key.ensures c.swap_remove.ensures.updates.0 in
    held_after size old new key None (twice old mid new key (Some c.look-is_live.new.self) None change gone) tt c.self.invariant

pub returns-then-is_empty-clause-live : goal.returns-then-is_empty-clause-live
returns-then-is_empty-clause-live c =
    let es = c.self.inside.parts.entries in
    let at = ap (λ k. lookup (same_part k) es) (sym c.of-key.ensures) ∙ sym c.in-Some.ensures.value in
    c.look-is_live.ensures.live
    ∙ ap (has_recent c.args.now c.args.seconds c.args.source.now) (sym (part_is (non_zero_usize_get c.self.inside.size) es (shard_of c.args.list.now c.args.source.now) (Some c.in-Some.part.now) at))
    ∙ ap (λ r. is_live r c.args.list.now c.args.source.now c.args.now c.args.seconds) c.self.view_is

pub returns-then-is_empty-clause-lists : goal.returns-then-is_empty-clause-lists
returns-then-is_empty-clause-lists c =
    let size = non_zero_usize_get c.self.inside.size in
    let key = shard_of c.args.list.now c.args.source.now in
    let old = c.self.inside.parts.entries in
    let mid = (c.get_mut.follows.lender c.look-is_live.new.self).entries in
    let new = c.swap_remove.new.self.entries in
    let at = ap (λ k. lookup (same_part k) old) (sym c.of-key.ensures) ∙ sym c.in-Some.ensures.value in
    let change = subst (λ k. Changes old mid k (Some c.look-is_live.new.self)) c.of-key.ensures ((c.get_mut.follows.holds c.look-is_live.new.self).3 (ap is_some (sym c.in-Some.ensures.value))).0 in
    let gone = subst (λ k. Changes mid new k None) c.of-key.ensures c.swap_remove.ensures.updates.0 in
    let all = part_dropped size old key (Some c.in-Some.part.now) at new (recent c.args.now c.args.seconds)
    (twice old mid new key (Some c.look-is_live.new.self) None change gone)
    (sym c.look-is_live.ensures.sources ∙ none_shown c.look-is_live.new.self (sym c.is_empty.ensures ∙ c.if-is_empty.true))
    ∙ ap (λ r. reaped r c.args.list.now c.args.source.now c.args.now c.args.seconds) c.self.view_is in
    elim c.match-swap_remove.branch [
      | in-Some-1 w ↦ w.self-is ∙ all
      | in-None-1 w ↦ w.self-is ∙ all
    ]

-- ---- it has sources left

pub invariant_of-self-else-is_empty : goal.invariant_of-self-else-is_empty
invariant_of-self-else-is_empty c =
    let size = non_zero_usize_get c.self.inside.size in
    let key = shard_of c.args.list.now c.args.source.now in
    let old = c.self.inside.parts.entries in
    let new = (c.get_mut.follows.lender c.look-is_live.new.self).entries in
    let at = ap (λ k. lookup (same_part k) old) (sym c.of-key.ensures) ∙ sym c.in-Some.ensures.value in
    let change = subst (λ k. Changes old new k (Some c.look-is_live.new.self)) c.of-key.ensures ((c.get_mut.follows.holds c.look-is_live.new.self).3 (ap is_some (sym c.in-Some.ensures.value))).0 in
    held_after size old new key (Some c.look-is_live.new.self) change
    (c.look-is_live.ensures.cap ∙ (held_at size old c.self.invariant key c.in-Some.part.now at).0, some_left c.look-is_live.new.self (sym c.is_empty.ensures ∙ c.if-is_empty.false))
    c.self.invariant

pub returns-else-is_empty-clause-live : goal.returns-else-is_empty-clause-live
returns-else-is_empty-clause-live c =
    let es = c.self.inside.parts.entries in
    let at = ap (λ k. lookup (same_part k) es) (sym c.of-key.ensures) ∙ sym c.in-Some.ensures.value in
    c.look-is_live.ensures.live
    ∙ ap (has_recent c.args.now c.args.seconds c.args.source.now) (sym (part_is (non_zero_usize_get c.self.inside.size) es (shard_of c.args.list.now c.args.source.now) (Some c.in-Some.part.now) at))
    ∙ ap (λ r. is_live r c.args.list.now c.args.source.now c.args.now c.args.seconds) c.self.view_is

pub returns-else-is_empty-clause-lists : goal.returns-else-is_empty-clause-lists
returns-else-is_empty-clause-lists c =
    let size = non_zero_usize_get c.self.inside.size in
    let key = shard_of c.args.list.now c.args.source.now in
    let old = c.self.inside.parts.entries in
    let new = (c.get_mut.follows.lender c.look-is_live.new.self).entries in
    let at = ap (λ k. lookup (same_part k) old) (sym c.of-key.ensures) ∙ sym c.in-Some.ensures.value in
    let change = subst (λ k. Changes old new k (Some c.look-is_live.new.self)) c.of-key.ensures ((c.get_mut.follows.holds c.look-is_live.new.self).3 (ap is_some (sym c.in-Some.ensures.value))).0 in
    part_put size old key (Some c.in-Some.part.now) at new c.look-is_live.new.self (recent c.args.now c.args.seconds) change
    c.look-is_live.ensures.sources (some_left c.look-is_live.new.self (sym c.is_empty.ensures ∙ c.if-is_empty.false))
    ∙ ap (λ r. reaped r c.args.list.now c.args.source.now c.args.now c.args.seconds) c.self.view_is

-- ---- a part that isn't held stays so

pub returns-in_default-clause-live : goal.returns-in_default-clause-live
returns-in_default-clause-live c =
    let es = c.self.inside.parts.entries in
    let at = ap (λ k. lookup (same_part k) es) (sym c.of-key.ensures) ∙ sym c.in_default.ensures.value in
    ap (has_recent c.args.now c.args.seconds c.args.source.now) (sym (part_is (non_zero_usize_get c.self.inside.size) es (shard_of c.args.list.now c.args.source.now) None at))
    ∙ ap (λ r. is_live r c.args.list.now c.args.source.now c.args.now c.args.seconds) c.self.view_is

pub returns-in_default-clause-lists : goal.returns-in_default-clause-lists
returns-in_default-clause-lists c =
    let size = non_zero_usize_get c.self.inside.size in
    let key = shard_of c.args.list.now c.args.source.now in
    let old = c.self.inside.parts.entries in
    let at = ap (λ k. lookup (same_part k) old) (sym c.of-key.ensures) ∙ sym c.in_default.ensures.value in
    ap (λ m. record { size = size; parts = viewed m.entries }) c.get_mut.follows.holds-at-none
    ∙ part_dropped size old key None at old (recent c.args.now c.args.seconds) (stays old key None at) refl
    ∙ ap (λ r. reaped r c.args.list.now c.args.source.now c.args.now c.args.seconds) c.self.view_is
