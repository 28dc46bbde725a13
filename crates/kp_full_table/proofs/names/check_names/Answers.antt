use Rattle.std.proofs.Common.{map, ◌∙◌}
use Rattle.kp_choice_defs.specs.Names.{chain_name, first_clash}
use Rattle.kp_table_defs.specs.Rebuild.{needed_keys}
use Rattle.kp_full_table.proofs.Clashes.{same_clash, told}
use Rattle.kp_full_table.proofs.names.check_names.Goals as goal

pub returns-in_err-check_names-clause-clash : goal.returns-in_err-check_names-clause-clash
returns-in_err-check_names-clause-clash c =
    let length = c.args.config.now.name_length in
    let needed = needed_keys (map (λ i. i.now) c.args.infos.now) in
    told c.from_residual-in_err-check_names.result c.in_err-check_names.field-0.0
    (first_clash (chain_name length) needed)
    (first_clash (chain_name c.new.result) c.in_ok-keys.keys)
    c.from_residual-in_err-check_names.ensures.1
    (same_clash length c.new.result c.in_ok-keys.keys needed c.new.ensures c.in_ok-keys.ensures)
    c.in_err-check_names.ensures.clash

pub returns-clause-no_clash : goal.returns-clause-no_clash
returns-clause-no_clash c =
    same_clash c.args.config.now.name_length c.new.result c.in_ok-keys.keys
    (needed_keys (map (λ i. i.now) c.args.infos.now)) c.new.ensures c.in_ok-keys.ensures
    ∙ c.in_ok-check_names.ensures.ok
