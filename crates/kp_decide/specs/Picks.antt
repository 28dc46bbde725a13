-- The pick of an endpoint by another rule than the statistic match: the decision stays the same beside it.
use Rattle.std.specs.Prelude.{◌%◌}
use Rattle.kp_types.specs.Setting.{Pick, Setting, Settings}

-- the remainder of the first draw, as maps of verdicts pick (nft, "numgen" and "vmap")
abbrev pub pick_by_remainder : Pick
pick_by_remainder draws n = draws 0 % n

-- a setting with this pick
abbrev pub with_pick : Pick → Setting → Setting
with_pick pick setting = record setting { pick = pick }

-- settings with this pick
abbrev pub all_with_pick : Pick → Settings → Settings
all_with_pick pick settings = record settings { pick = pick }
