use Rattle.std.proofs.Common.{ap, set, sym, ◌∙◌}
use Rattle.std.specs.Int.NonZero.{non_zero_usize_get}
use Rattle.std.specs.List.{list_any}
use Rattle.kp_choice_defs.specs.Recent.{is_of, set_at, shard_of, sightings}
use Rattle.kp_part_laws.specs.Beside.{united}
use Rattle.kp_part_laws.proofs.Steps.{set_in_part}
use Rattle.kp_recent.specs.Shelves.{shelf_of}
use Rattle.kp_recent.proofs.Parts.{on_ok}
use Rattle.kp_recent.proofs.Shelves.{shelf_there, sightings_on, step_on}
use Rattle.kp_recent.proofs.lists.RecentLists.set.Goals as goal

-- the source's shelf alone changes
pub returns-clause-ok : goal.returns-clause-ok
returns-clause-ok c =
    let size = non_zero_usize_get c.self.inside.size in
    let shelves = c.self.inside.shelves.items in
    let list = c.args.list.now in
    let source = c.args.source.now in
    let at = shelf_there size shelves c.self.invariant source.number c.shelf_at.result
    c.index_mut.result.now c.shelf_at.ensures.value c.index_mut.ensures.value in
    on_ok c.set.result
    (λ placed again.
    (λ i. united shelf_of size (set shelves (c.shelf_at.ensures.value i) (placed i)))
    ∙ sym (ap (λ r. r.1) (step_on size shelves c.self.invariant source.number
    (λ x. (source, set_at x list source c.args.now))
    (set_in_part source list source c.args.now) c.index_mut.result.now at))
    ∙ ap (λ r. set_at r list source c.args.now) c.self.view_is)
    c.set.ensures.ok c.set.ensures.ok

-- what is known is known on its shelf
pub returns-clause-known : goal.returns-clause-known
returns-clause-known c known =
    let size = non_zero_usize_get c.self.inside.size in
    let shelves = c.self.inside.shelves.items in
    let list = c.args.list.now in
    let source = c.args.source.now in
    let at = shelf_there size shelves c.self.invariant source.number c.shelf_at.result
    c.index_mut.result.now c.shelf_at.ensures.value c.index_mut.ensures.value in
    c.set.ensures.known
    (ap (list_any (is_of source))
    (sym (sightings_on size shelves c.self.invariant list source c.index_mut.result.now at)
    ∙ ap (λ r. sightings r (shard_of list source)) c.self.view_is)
    ∙ known)
