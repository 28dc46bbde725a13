use Rattle.std.proofs.Common.{◌≡◌, filter, refl, sym, ap, ◌∙◌, arith}
use Rattle.kp_track_defs.specs.Entries.{is_within}
use Rattle.kp_conntrack.specs.Laid.{entries_in, entry_at, kept_rows}
use Rattle.kp_conntrack.proofs.Among.{dead_without}
use Rattle.kp_conntrack.proofs.Dead.{all_pass, all_sized, all_within, front_kept}
use Rattle.kp_conntrack.proofs.Removed.{entries_removed, fewer_kept, laid_removed}
use Rattle.kp_conntrack.proofs.rows.drop_dead.Goals as goal

pub remove-requires-clause-sized : goal.remove-requires-clause-sized
remove-requires-clause-sized c = all_sized _ _ _ _ c.loop-row.invariant.0

pub loop-row-preserved : goal.loop-row-preserved
loop-row-preserved c =
    let laid = c.loop-row.invariant.0 in
    let kept = front_kept c.args.rows.now c.loop-row.order c.loop-row.index c.args.now c.in-Some.row laid c.in-Some.ensures.found in (
      laid_removed c.args.rows.now c.loop-row.order c.move_back.new.self c.loop-row.index c.remove.new.self c.args.now c.in-Some.row laid kept c.move_back.ensures c.remove.ensures,
      ap (filter (is_within c.args.now)) (entries_removed c.args.rows.now c.loop-row.order c.move_back.new.self c.loop-row.index c.remove.new.self c.args.now c.in-Some.row laid kept c.move_back.ensures c.remove.ensures)
          ∙ dead_without (entry_at c.args.rows.now) (is_within c.args.now) c.in-Some.row (kept_rows c.loop-row.order) c.in-Some.ensures.dead
          ∙ c.loop-row.invariant.1,
    )

pub loop-row-smaller : goal.loop-row-smaller
loop-row-smaller c =
    let laid = c.loop-row.invariant.0 in
    let kept = front_kept c.args.rows.now c.loop-row.order c.loop-row.index c.args.now c.in-Some.row laid c.in-Some.ensures.found in
    omega (arith, fewer_kept c.args.rows.now c.loop-row.order c.move_back.new.self c.loop-row.index c.remove.new.self c.args.now c.in-Some.row laid kept c.move_back.ensures c.remove.ensures)

pub returns-clause-entries : goal.returns-clause-entries
returns-clause-entries c =
    sym (all_pass (entry_at c.args.rows.now) (is_within c.args.now) (kept_rows c.loop-row.order)
    (all_within c.args.rows.now (kept_rows c.loop-row.order) c.loop-row.index.ages c.args.now c.loop-row.invariant.0.found.ages c.in_default.ensures.none))
    ∙ c.loop-row.invariant.1
