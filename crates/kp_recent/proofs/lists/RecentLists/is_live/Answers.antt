use Rattle.std.proofs.Common.{ap, sym, ◌∙◌}
use Rattle.std.specs.Int.NonZero.{non_zero_usize_get}
use Rattle.kp_choice_defs.specs.Recent.{is_live, reaped}
use Rattle.kp_part_laws.proofs.Steps.{look_in_part}
use Rattle.kp_recent.proofs.Shelves.{shelf_there, step_on}
use Rattle.kp_recent.proofs.lists.RecentLists.is_live.Goals as goal

-- the source's shelf tells what all shelves tell
pub returns : goal.returns
returns c =
    let size = non_zero_usize_get c.self.inside.size in
    let shelves = c.self.inside.shelves.items in
    let list = c.args.list.now in
    let source = c.args.source.now in
    let at = shelf_there size shelves c.self.invariant source.number c.shelf_at.result
    c.index.result.now c.shelf_at.ensures.value c.index.ensures in
    c.is_live.ensures
    ∙ sym (ap (λ r. r.0) (step_on size shelves c.self.invariant source.number
    (λ x. (
      is_live x list source c.args.now c.args.seconds,
      reaped x list source c.args.now c.args.seconds,
    ))
    (look_in_part list source c.args.now c.args.seconds) c.index.result.now at))
    ∙ ap (λ r. is_live r list source c.args.now c.args.seconds) c.self.view_is
