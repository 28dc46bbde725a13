use Rattle.std.proofs.Common.{◌≡◌}
use Rattle.std.specs.List.{fold}
use Rattle.kp_chains.specs.Rows.{rows_of_texts}
use Rattle.kp_writer.specs.Next.{write}
use Rattle.kp_writer.proofs.own.write_rows.Given as goal

-- what stands, with the chains that are left, is what stands with all
abbrev pub invariant-loop-row : goal.invariant-loop-row
invariant-loop-row l =
    fold (write l.before.chains) l.next (rows_of_texts l.row-iterator.rest.items)
    ≡ fold (write l.before.chains) l.fn.next (rows_of_texts l.fn.rows.items)
