-- The chains of ports, as a writer leaves and writes them.
use Rattle.std.specs.Prelude.{ℕ, true, List, map}
use Rattle.std.specs.List.{flat_map, fold}
use Rattle.std.specs.FinMap as finite
use Rattle.kp_types.specs.Setting.{Setting}
use Rattle.kp_types.specs.declared.chain.ChainAt.{ChainAt}
use Rattle.kp_object_defs.specs.PortInfo.{PortInfo}
use Rattle.kp_table_defs.specs.Keys.{own_keys}
use Rattle.kp_table_defs.specs.Layout.{place_of_key, port_rows}
use Rattle.kp_table_defs.specs.Rebuild.{Chains}
use Rattle.kp_chains.specs.Rows.{rule_count}
use Rattle.kp_writer.specs.Next.{NextParts, leave, write}

-- the places of a port's own chains
abbrev pub places_of : Setting → PortInfo → List ChainAt
places_of setting i = map (place_of_key setting) (own_keys i)

-- what stands once ports are gone
abbrev pub left : Setting → NextParts → List PortInfo → NextParts
left setting next infos = fold leave next (flat_map (places_of setting) infos)

-- and once ports have their chains
abbrev pub written : Chains → Setting → NextParts → List PortInfo → NextParts
written before setting next infos = fold (write before) next (flat_map (port_rows setting) infos)

-- no place changes
abbrev pub unchanged : NextParts
unchanged = record { places = finite.empty; free = true }

-- what stands once the chains of some ports are gone, and those of others are written
abbrev pub with_own : Chains → Setting → List PortInfo → List PortInfo → NextParts
with_own before setting gone made = written before setting (left setting unchanged gone) made

-- how many rules ports have in their own chains
abbrev pub own_rule_count : Setting → List PortInfo → ℕ
own_rule_count setting infos = rule_count (flat_map (port_rows setting) infos)
