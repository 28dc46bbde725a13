use Rattle.std.proofs.Common.{ap, set, sym, ◌∙◌}
use Rattle.std.specs.Int.NonZero.{non_zero_usize_get}
use Rattle.kp_choice_defs.specs.Recent.{is_live, reaped}
use Rattle.kp_part_laws.specs.Beside.{united}
use Rattle.kp_part_laws.proofs.Steps.{look_in_part}
use Rattle.kp_recent.specs.Shelves.{shelf_of}
use Rattle.kp_recent.proofs.Shelves.{shelf_there, step_on}
use Rattle.kp_recent.proofs.lists.RecentLists.look.Goals as goal

-- the source's shelf tells what all shelves tell
pub returns-clause-live : goal.returns-clause-live
returns-clause-live c =
    let size = non_zero_usize_get c.self.inside.size in
    let shelves = c.self.inside.shelves.items in
    let list = c.args.list.now in
    let source = c.args.source.now in
    let at = shelf_there size shelves c.self.invariant source.number c.shelf_at.result
    c.index_mut.result.now c.shelf_at.ensures.value c.index_mut.ensures.value in
    c.look.ensures.live
    ∙ sym (ap (λ r. r.0) (step_on size shelves c.self.invariant source.number
    (λ x. (
      is_live x list source c.args.now c.args.seconds,
      reaped x list source c.args.now c.args.seconds,
    ))
    (look_in_part list source c.args.now c.args.seconds) c.index_mut.result.now at))
    ∙ ap (λ r. is_live r list source c.args.now c.args.seconds) c.self.view_is

-- and it alone changes
pub returns-clause-lists : goal.returns-clause-lists
returns-clause-lists c =
    let size = non_zero_usize_get c.self.inside.size in
    let shelves = c.self.inside.shelves.items in
    let list = c.args.list.now in
    let source = c.args.source.now in
    let at = shelf_there size shelves c.self.invariant source.number c.shelf_at.result
    c.index_mut.result.now c.shelf_at.ensures.value c.index_mut.ensures.value in
    (λ i. united shelf_of size
    (set shelves (c.shelf_at.ensures.value i) (c.look.ensures.lists i)))
    ∙ sym (ap (λ r. r.1) (step_on size shelves c.self.invariant source.number
    (λ x. (
      is_live x list source c.args.now c.args.seconds,
      reaped x list source c.args.now c.args.seconds,
    ))
    (look_in_part list source c.args.now c.args.seconds) c.index_mut.result.now at))
    ∙ ap (λ r. reaped r list source c.args.now c.args.seconds) c.self.view_is
