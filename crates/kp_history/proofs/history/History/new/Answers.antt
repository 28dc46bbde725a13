use Rattle.std.proofs.Common.{refl, ap, ◌∙◌}
use Rattle.std.specs.List.{flat_map}
use Rattle.kp_base.specs.declared.config.Config.{Config}
use Rattle.kp_choice_defs.specs.Settings.{settings_of}
use Rattle.kp_chains.specs.Tables.{fixed_rows, table_with}
use Rattle.kp_history.proofs.Start.{first_table}
use Rattle.kp_history_laws.proofs.Histories.{first_no_clash}
use Rattle.kp_history.proofs.history.History.new.Goals as goal

pub returns : goal.returns
returns c = λ events.
    let config : Config = c.args.config.now in
    record {
      counts = c.new.ensures.items;
      covered = refl;
      table = c.in_ok-fixed_chains.ensures
          ∙ ap (λ families. table_with (flat_map fixed_rows families)) c.table_families.ensures
          ∙ first_table config;
      last = refl;
      exact = record {
        counted = refl;
        exact = c.exact_histories.ensures.at_first (settings_of config) events;
      };
      no_clash = first_no_clash (settings_of config);
    }
