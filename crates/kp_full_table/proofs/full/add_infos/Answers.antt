use Rattle.std.proofs.Common.{◌≡◌, List, None, length, map, sym, ap, subst, ◌∙◌, ◌+◌}
use Rattle.std.specs.FinMap.{keys}
use Rattle.std.specs.Result.{IfErr, OnOk}
use Rattle.std.proofs.lemmas.List.{length-map}
use Rattle.kp_choice_defs.specs.Settings.{setting_of}
use Rattle.kp_object_defs.specs.PortInfo.{PortInfo}
use Rattle.kp_table_defs.specs.Rebuild.{TableParts, clash_among}
use Rattle.kp_chains.specs.Rows.{row_of}
use Rattle.kp_chains.specs.Tables.{chains_with}
use Rattle.kp_full_table.specs.Faults.{TellsClash}
use Rattle.kp_full_table.proofs.Apart.{none_share, one_number}
use Rattle.kp_full_table.proofs.full.add_infos.Goals as goal

-- each row made a chain more
pub returns-then-apart-clause-no_clash : goal.returns-then-apart-clause-no_clash
returns-then-apart-clause-no_clash g c =
    none_share (setting_of c.args.family c.args.config.now) c.args.infos.now c.args.table.now.chains
    c.put_rows_apart.new.table.chains
    (ap (λ (t : TableParts). t.chains) c.in_ok-apart.ensures.table
    ∙ ap (λ rs. chains_with rs c.args.table.now.chains) c.in_ok-rows.ensures.rows)
    (one_number _ _ (sym c.in_ok-apart.ensures.apart ∙ c.if-apart.true)
    ∙ ap (λ n. length (keys c.args.table.now.chains) + n)
    (sym (length-map _ row_of) ∙ ap length c.in_ok-rows.ensures.rows))

pub returns-clause-no_clash : goal.returns-clause-no_clash
returns-clause-no_clash g c =
    subst (λ (is : List PortInfo). OnOk c.check_names.result
    (clash_among (setting_of c.args.family c.args.config.now) is ≡ None))
    (ap (map (λ i. i.now)) c.deref.ensures.value ∙ c.in_ok-references.ensures)
    c.check_names.ensures.no_clash

pub returns-clause-clash : goal.returns-clause-clash
returns-clause-clash g c =
    subst (λ (is : List PortInfo). IfErr c.check_names.result
    (TellsClash (clash_among (setting_of c.args.family c.args.config.now) is)))
    (ap (map (λ i. i.now)) c.deref.ensures.value ∙ c.in_ok-references.ensures)
    c.check_names.ensures.clash
