-- What stands after a sync at the places that it may change, and the edits there.
use Rattle.std.specs.Prelude.{◌&&◌, Bool, cond, List, ◌++◌, Option, Some, None, is_some, not, refl}
use Rattle.std.specs.Coded.{Coded, code_by, coded×, coded_list, coded_option, coded_bool}
use Rattle.std.specs.List.{filter_map}
use Rattle.std.specs.FinMap as finite
use Rattle.kp_base.specs.declared.address.Family.{Family}
use Rattle.kp_types.specs.Places.{chain_cmp, nat_of, filter_of}
use Rattle.kp_types.specs.contracts.chain.ChainAt as place_row
use Rattle.kp_types.specs.contracts.rule.Rule as rule_row
use Rattle.kp_types.specs.declared.chain.ChainAt.{ChainAt}
use Rattle.kp_types.specs.declared.chain.TableName.{TableName}
use Rattle.kp_types.specs.declared.rule.Edit.{Edit}
use Rattle.kp_types.specs.declared.rule.Edit.TheVariants.{Remove}
use Rattle.kp_types.specs.declared.rule.Rule.{Rule}
use Rattle.kp_table_defs.specs.Rebuild.{Chains}
use Rattle.kp_rules.specs.Changes.{is_in, write_if_found}

-- at each of some places a chain, or none
abbrev pub Next : Type 0
Next = finite.FinMap chain_cmp (Option (List Rule))

-- and whether each chain that was written there found its place free
pub record NextParts : Type 0 where
  pub places : Next
  pub free : Bool

-- they are stored as a finite map and a truth value are
abbrev pub next_code : Coded NextParts
next_code =
    code_by (Next × Bool) (coded× (finite.code place_row.the_row.coded
    (coded_option (coded_list rule_row.the_row.coded))) coded_bool)
    (λ n. (n.places, n.free)) (λ p. record { places = p.0; free = p.1 }) (λ _. refl)

-- no chain stands at a place
abbrev pub leave : NextParts → ChainAt → NextParts
leave n at = record n { places = finite.insert n.places at None }

-- whether a place is free, by what stands there after: a chain that goes leaves it free
abbrev pub is_free_by : Chains → ChainAt → Option (Option (List Rule)) → Bool
is_free_by before at None = not (is_some (finite.get before at))
is_free_by before at (Some chain) = not (is_some chain)

-- a chain stands at its place
abbrev pub write : Chains → NextParts → ChainAt × List Rule → NextParts
write before n (at, rules) = record {
  places = finite.insert n.places at (Some rules);
  free = n.free && is_free_by before at (finite.get n.places at);
}

-- a shared chain stands at its place
abbrev pub join : NextParts → ChainAt → List Rule → NextParts
join n at rules = record n { places = finite.insert n.places at (Some rules) }

-- a place with what stands there
abbrev pub Place : Type 0
Place = ChainAt × Option (List Rule)

-- the write at a place of a table, where its chain is new or has other rules
abbrev pub write_of : Chains → TableName → Place → Option Edit
write_of before table (at, chain) =
    cond (is_in table at) (write_if_found before at chain) None

-- the remove at a place of a table, where its chain is gone
abbrev pub remove_of : Chains → TableName → Place → Option Edit
remove_of before table (at, chain) =
    cond (is_some (finite.get before at)) (cond (is_in table at) (cond (is_some chain) None (Some
    (Remove at))) None) None

-- the edits of one table at places: writes, and then removes
abbrev pub table_edits : Chains → List Place → TableName → List Edit
table_edits before places table =
    filter_map (write_of before table) places ++ filter_map (remove_of before table) places

-- the edits of a family's tables at places, nat before filter
abbrev pub edits_of : Family → Chains → List Place → List Edit
edits_of family before places =
    table_edits before places (nat_of family) ++ table_edits before places (filter_of family)
