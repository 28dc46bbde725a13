use Rattle.std.proofs.Common.{◌∙◌, length, rules}
use Rattle.kp_chains.specs.Tables.{HasLastRows}
use Rattle.kp_chains.proofs.Popped.{popped-drop, popped-take, put_row}
use Rattle.kp_chains.proofs.table.put_rows.Goals as goal

pub loop-row-preserved : goal.loop-row-preserved
loop-row-preserved c =
    let all = c.args.rows.items in
    let old = c.loop-row.rows.items in
    let new = c.pop.new.self.items in
    let row = c.in-Some.row in
    record {
      table = put_row c.args.table.now _ _ row _ _ c.in_ok-put.ensures.ok c.loop-row.invariant.table
          (popped-drop all old new row c.in-Some.ensures.items c.loop-row.invariant.left);
      left = popped-take all old new row c.in-Some.ensures.items c.loop-row.invariant.left;
    }

pub returns-in_err-put-clause-err : goal.returns-in_err-put-clause-err
returns-in_err-put-clause-err c =
    let part : HasLastRows c.args.rows.items c.args.table.now c.put.new.self =
    (length c.loop-row.rows.items, c.in_err-put.ensures.err ∙ c.loop-row.invariant.table)
    in
    search rules
