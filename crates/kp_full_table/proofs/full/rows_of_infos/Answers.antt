use Rattle.kp_full_table.proofs.full.rows_of_infos.Goals as goal

pub returns-clause-rows : goal.returns-clause-rows
returns-clause-rows g c =
    c.rows_of_part.ensures c.args.config.now c.args.infos.now c.in_ok-part.ensures.part
