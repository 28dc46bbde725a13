use Rattle.std.proofs.Common.{take, drop, get_or, ◌+◌, List, ℕ}
use Rattle.std.specs.List.{flat_map}
use Rattle.std.proofs.lemmas.List.{get_or_default}
use Rattle.kp_base.specs.declared.address.Family.{Family}
use Rattle.kp_base.specs.declared.address.Family.TheVariants.{V4}
use Rattle.kp_restore_defs.specs.TableText.{table_text_of}
use Rattle.kp_live.proofs.Printing.{next_text, prints_broken, prints_next, rest_text}
use Rattle.kp_live.proofs.tables.print_tables.Goals as goal

-- the tables of one more family were written, or a front of them
pub loop-family-preserved : goal.loop-family-preserved
loop-family-preserved g c =
    let xs = c.args.families.now in
    let i = c.loop-family.family-index in
    let text : Family → List ℕ = λ f. table_text_of f c.args.table.now.chains in
    let family = get_or xs i V4 in
    prints_next (flat_map text (take i xs)) (text family) (flat_map text (take (i + 1) xs)) tt
    c.in-Ok.field-0 _ _ _
    (next_text text xs i family c.loop-family-test.true
    (get_or_default xs i V4 family c.loop-family-test.true))
    c.loop-family.invariant c.in-Ok.ensures

pub returns-in-Err : goal.returns-in-Err
returns-in-Err g c =
    let xs = c.args.families.now in
    let i = c.loop-family.family-index in
    let text : Family → List ℕ = λ f. table_text_of f c.args.table.now.chains in
    let family = get_or xs i V4 in
    prints_broken (flat_map text (take i xs)) (text family) (flat_map text (drop (i + 1) xs))
    (flat_map text xs) tt c.in-Err.fault _ _ _
    (rest_text text xs i family c.loop-family-test.true
    (get_or_default xs i V4 family c.loop-family-test.true))
    c.loop-family.invariant c.in-Err.ensures
