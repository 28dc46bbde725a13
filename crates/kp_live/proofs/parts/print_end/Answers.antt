use Rattle.std.proofs.Common.{ℕ, List, length}
use Rattle.std.specs.List.{flat_map}
use Rattle.kp_base.specs.declared.address.Family.{Family}
use Rattle.kp_types.specs.Setting.{table_families}
use Rattle.kp_restore_defs.specs.TableText.{table_text_of}
use Rattle.kp_text_defs.specs.Live.{final_text}
use Rattle.kp_live.proofs.Printing.{prints_as, prints_stopped, prints_then}
use Rattle.kp_live.proofs.parts.print_end.Goals as goal

-- how the run ended, and then the tables
pub returns-in-Ok : goal.returns-in-Ok
returns-in-Ok g c =
    let done = c.args.done.now in
    let text : Family → List ℕ = λ family. table_text_of family done.table.chains in
    prints_then c.in-Ok.field-0 c.print_tables.result (final_text (length done.notes) done.clash)
    (flat_map text (table_families c.args.config.now)) _ _ _ c.in-Ok.ensures
    (prints_as c.print_tables.result (flat_map text c.table_families.result.now)
    (flat_map text (table_families c.args.config.now)) _ _
    (λ i. flat_map text (c.table_families.ensures i)) c.print_tables.ensures)

pub returns-in-Err : goal.returns-in-Err
returns-in-Err g c =
    let done = c.args.done.now in
    prints_stopped {T = Unit {0}} c.in-Err.fault (final_text (length done.notes) done.clash)
    (flat_map (λ family. table_text_of family done.table.chains)
    (table_families c.args.config.now)) _ _ c.in-Err.ensures
