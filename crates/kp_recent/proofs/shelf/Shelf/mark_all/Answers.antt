use Rattle.std.proofs.Common.{All, map, subst, ◌∙◌}
use Rattle.std.specs.Int.NonZero.{non_zero_usize_get}
use Rattle.std.specs.Map.Iter.{deref_pair}
use Rattle.std.proofs.lemmas.List.Elements.{All-weaker}
use Rattle.std.proofs.lemmas.Map.Iter.{iter_end}
use Rattle.kp_choice_defs.specs.Recent.{Shard, sightings}
use Rattle.kp_recent.specs.Marked.{AreMarked}
use Rattle.kp_recent.specs.Moments.{shown_in}
use Rattle.kp_recent.proofs.Marking.{all_more, entries_marked, marked_more}
use Rattle.kp_recent.proofs.shelf.Shelf.mark_all.Goals as goal

-- one part more
pub loop-key-preserved : goal.loop-key-preserved
loop-key-preserved c =
    let old = c.loop-key.marks in
    let new = c.mark_all.new.marks in
    let before = c.loop-key.yielded in
    all_more (λ e. AreMarked new e.0.list (shown_in e.1)) deref_pair before
    (c.in-Some.key, c.in-Some.part)
    (All-weaker (λ e. AreMarked old e.0.list (shown_in e.1))
    (λ e. AreMarked new e.0.list (shown_in e.1))
    (λ e. marked_more old new c.mark_all.ensures.others e.0.list (shown_in e.1))
    (map deref_pair before) c.loop-key.invariant)
    (subst (λ (k : Shard). AreMarked new k.list (shown_in c.in-Some.part.now)) c.key.view_is
    c.mark_all.ensures.own)

-- all parts are
pub returns : goal.returns
returns c q =
    let marks = c.loop-key.marks in
    let es = c.self.inside.parts.entries in
    let all = iter_end deref_pair es c.loop-key.yielded _ _ _ _
    (c.into_iter-key-iterator.ensures.into_iter_gives ∙ c.iter-key-items.ensures.rest)
    c.loop-key.yielded_by c.in-None.is c.next.ensures.steps in
    subst (λ r. AreMarked marks q.list (sightings r q)) c.self.view_is
    (entries_marked marks (non_zero_usize_get c.self.inside.size) es
    (subst (All (λ e. AreMarked marks e.0.list (shown_in e.1))) all.0 c.loop-key.invariant) q)
