-- Names of chains until they are hashed: `KUBE-SVC-` alone, and `KUBE-SEP-` with eight hexadecimal digits of
-- the address and four of the port (this project's choice).
use Rattle.std.specs.Prelude.{ℕ, suc, zero, ◌+◌, ◌/◌, ◌%◌, nat_lt, List, [], ◌∷◌, ◌++◌, codes, cond}
use Rattle.kp_base.specs.declared.address.Family.{Family}
use Rattle.kp_base.specs.declared.config.Config.{Config}
use Rattle.kp_types.specs.Setting.{Setting, Settings}
use Rattle.kp_types.specs.declared.chain.ChainKey.{ChainKey}
use Rattle.kp_types.specs.declared.chain.ChainKey.TheVariants.{Port, Sep}
use Rattle.kp_choice_defs.specs.Names.{port_chain_prefix}
use Rattle.kp_choice_defs.specs.Settings.{setting_of, settings_of}

-- a lower-case hexadecimal digit
abbrev pub hex_digit : ℕ → ℕ
hex_digit d = cond (nat_lt d 10) (48 + d) (87 + d)

-- so many of the lowest hexadecimal digits of a number, the highest first
abbrev pub hex_text : ℕ → ℕ → List ℕ
hex_text zero n = []
hex_text (suc width) n = hex_text width (n / 16) ++ hex_digit (n % 16) ∷ []

-- the name of a chain
abbrev pub stand_in_name : ChainKey → List ℕ
stand_in_name (Port kind port) = port_chain_prefix kind
stand_in_name (Sep port endpoint) = codes "KUBE-SEP-" ++ hex_text 8 endpoint.address.number ++ hex_text 4 endpoint.port

-- the setting of a configuration in a family, with these names
abbrev pub stand_in_setting : Family → Config → Setting
stand_in_setting family config = record (setting_of family config) { name_of = stand_in_name }

-- those of all its families
abbrev pub stand_in_settings : Config → Settings
stand_in_settings config = record (settings_of config) { name_of = stand_in_name }
