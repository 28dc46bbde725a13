-- The setting of the product: hashed names of the configured length, and endpoints picked by draws.
use Rattle.kp_base.specs.declared.address.Family.{Family}
use Rattle.kp_base.specs.declared.config.Config.{Config}
use Rattle.kp_types.specs.Setting.{Pick, Setting, Settings, config_for, node_config, table_families}
use Rattle.kp_choice_defs.specs.Draws.{selected_index}
use Rattle.kp_choice_defs.specs.Names.{chain_name}

-- the pick of the statistic rules of a list, whose first test has the packet's first draw
abbrev pub pick_by_draws : Pick
pick_by_draws draws n = selected_index draws 0 n

-- the setting of a configuration in a family
abbrev pub setting_of : Family → Config → Setting
setting_of family config = record {
  family = family;
  name_of = chain_name config.name_length;
  pick = pick_by_draws;
  config = config_for family config;
}

-- the settings of a configuration, whose view in a family is the setting of that family
abbrev pub settings_of : Config → Settings
settings_of config = record {
  families = table_families config;
  name_of = chain_name config.name_length;
  pick = pick_by_draws;
  config = node_config config;
}
