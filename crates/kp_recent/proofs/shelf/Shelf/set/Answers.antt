use Rattle.std.proofs.Common.{Some, None, is_some, refl, sym, ◌∙◌, ap, subst}
use Rattle.std.specs.Int.NonZero.{non_zero_usize_get}
use Rattle.std.specs.List.{list_any}
use Rattle.std.specs.Map.{lookup}
use Rattle.kp_choice_defs.specs.Recent.{is_of, set_at, shard_of, sightings}
use Rattle.kp_recent.specs.Moments.{shown_in, with_set}
use Rattle.kp_recent.proofs.Parts.{Changes, held_after, held_at, none_known, on_err, on_ok, part_is, part_put, same_after, same_part, set_suits}
use Rattle.kp_recent.proofs.shelf.Shelf.set.Goals as goal

-- ---- the part is there

pub invariant_of-self : goal.invariant_of-self
invariant_of-self c =
    let size = non_zero_usize_get c.self.inside.size in
    let key = shard_of c.args.list.now c.args.source.now in
    let old = c.self.inside.parts.entries in
    let new = (c.get_mut.follows.lender c.set.new.self).entries in
    let at = ap (λ k. lookup (same_part k) old) (sym c.of-key.ensures) ∙ sym c.in-Some.ensures.value in
    let change = subst (λ k. Changes old new k (Some c.set.new.self)) c.of-key.ensures ((c.get_mut.follows.holds c.set.new.self).3 (ap is_some (sym c.in-Some.ensures.value))).0 in
    held_after size old new key (Some c.set.new.self) change
    (set_suits size c.set.result c.in-Some.part.now c.set.new.self (held_at size old c.self.invariant key c.in-Some.part.now at) c.set.ensures.cap c.set.ensures.some c.set.ensures.err)
    c.self.invariant

pub returns-in-Some-clause-ok : goal.returns-in-Some-clause-ok
returns-in-Some-clause-ok c =
    let size = non_zero_usize_get c.self.inside.size in
    let key = shard_of c.args.list.now c.args.source.now in
    let old = c.self.inside.parts.entries in
    let new = (c.get_mut.follows.lender c.set.new.self).entries in
    let part = c.in-Some.part.now in
    let at = ap (λ k. lookup (same_part k) old) (sym c.of-key.ensures) ∙ sym c.in-Some.ensures.value in
    let change = subst (λ k. Changes old new k (Some c.set.new.self)) c.of-key.ensures ((c.get_mut.follows.holds c.set.new.self).3 (ap is_some (sym c.in-Some.ensures.value))).0 in
    let cap = (held_at size old c.self.invariant key part at).0 in
    on_ok c.set.result
    (λ placed some.
    part_put size old key (Some part) at new c.set.new.self (with_set size c.args.source.now c.args.now) change
    (placed ∙ ap (λ n. with_set n c.args.source.now c.args.now (shown_in part)) cap) some
    ∙ ap (λ r. set_at r c.args.list.now c.args.source.now c.args.now) c.self.view_is)
    c.set.ensures.ok c.set.ensures.some

pub returns-in-Some-clause-err : goal.returns-in-Some-clause-err
returns-in-Some-clause-err c =
    let size = non_zero_usize_get c.self.inside.size in
    let key = shard_of c.args.list.now c.args.source.now in
    let old = c.self.inside.parts.entries in
    let new = (c.get_mut.follows.lender c.set.new.self).entries in
    let part = c.in-Some.part.now in
    let at = ap (λ k. lookup (same_part k) old) (sym c.of-key.ensures) ∙ sym c.in-Some.ensures.value in
    let change = subst (λ k. Changes old new k (Some c.set.new.self)) c.of-key.ensures ((c.get_mut.follows.holds c.set.new.self).3 (ap is_some (sym c.in-Some.ensures.value))).0 in
    on_err c.set.result
    (λ same.
    ap (λ m. record { size = size; parts = m }) (same_after old key (Some part) at new (subst (λ p. Changes old new key (Some p)) same change))
    ∙ c.self.view_is)
    c.set.ensures.err

pub returns-in-Some-clause-known : goal.returns-in-Some-clause-known
returns-in-Some-clause-known c known =
    let key = shard_of c.args.list.now c.args.source.now in
    let old = c.self.inside.parts.entries in
    let at = ap (λ k. lookup (same_part k) old) (sym c.of-key.ensures) ∙ sym c.in-Some.ensures.value in
    c.set.ensures.known
    (sym (ap (list_any (is_of c.args.source.now)) (part_is (non_zero_usize_get c.self.inside.size) old key (Some c.in-Some.part.now) at))
    ∙ ap (λ r. list_any (is_of c.args.source.now) (sightings r key)) c.self.view_is ∙ known)

-- ---- it isn't, so the source is not known

pub returns-in_err-part-clause-known : goal.returns-in_err-part-clause-known
returns-in_err-part-clause-known c known =
    let old = c.self.inside.parts.entries in
    let at = ap (λ k. lookup (same_part k) old) (sym c.of-key.ensures) ∙ sym c.in_default.ensures.value in
    absurd (none_known (non_zero_usize_get c.self.inside.size) old (shard_of c.args.list.now c.args.source.now) None at refl c.args.self.now c.self.view_is c.args.source.now known)

pub returns-in_err-set-clause-known : goal.returns-in_err-set-clause-known
returns-in_err-set-clause-known c known =
    let old = c.self.inside.parts.entries in
    let at = ap (λ k. lookup (same_part k) old) (sym c.of-key.ensures) ∙ sym c.in_default.ensures.value in
    absurd (none_known (non_zero_usize_get c.self.inside.size) old (shard_of c.args.list.now c.args.source.now) None at refl c.args.self.now c.self.view_is c.args.source.now known)

pub returns-in_err-insert-clause-known : goal.returns-in_err-insert-clause-known
returns-in_err-insert-clause-known c known =
    let old = c.self.inside.parts.entries in
    let at = ap (λ k. lookup (same_part k) old) (sym c.of-key.ensures) ∙ sym c.in_default.ensures.value in
    absurd (none_known (non_zero_usize_get c.self.inside.size) old (shard_of c.args.list.now c.args.source.now) None at refl c.args.self.now c.self.view_is c.args.source.now known)

pub invariant_of-self-2 : goal.invariant_of-self-2
invariant_of-self-2 c =
    let size = non_zero_usize_get c.self.inside.size in
    let old = c.self.inside.parts.entries in
    let new = c.insert.new.self.entries in
    let part = c.set-2.new.self in
    let change = subst (λ k. Changes old new k (Some part)) c.of-key.ensures (subst (λ m. Changes m.entries new c.of-key.result (Some part)) c.get_mut.follows.holds-at-none c.in_ok-insert.ensures.updates.0) in
    held_after size old new (shard_of c.args.list.now c.args.source.now) (Some part) change
    (c.set-2.ensures.cap ∙ ap (λ p. p.cap) c.in_ok-part.ensures, c.in_ok-set.ensures.some)
    c.self.invariant

pub returns-clause-ok : goal.returns-clause-ok
returns-clause-ok c =
    let size = non_zero_usize_get c.self.inside.size in
    let key = shard_of c.args.list.now c.args.source.now in
    let old = c.self.inside.parts.entries in
    let new = c.insert.new.self.entries in
    let part = c.set-2.new.self in
    let at = ap (λ k. lookup (same_part k) old) (sym c.of-key.ensures) ∙ sym c.in_default.ensures.value in
    let change = subst (λ k. Changes old new k (Some part)) c.of-key.ensures (subst (λ m. Changes m.entries new c.of-key.result (Some part)) c.get_mut.follows.holds-at-none c.in_ok-insert.ensures.updates.0) in
    part_put size old key None at new part (with_set size c.args.source.now c.args.now) change
    (c.in_ok-set.ensures.ok ∙ ap (λ p. with_set p.cap c.args.source.now c.args.now (shown_in p)) c.in_ok-part.ensures)
    c.in_ok-set.ensures.some
    ∙ ap (λ r. set_at r c.args.list.now c.args.source.now c.args.now) c.self.view_is
