-- Where an edit of a table is made, and the edits of the tables of one family.
use Rattle.std.specs.Prelude.{Bool, List}
use Rattle.std.specs.List.{filter}
use Rattle.kp_base.specs.Net.{same_family}
use Rattle.kp_base.specs.declared.address.Family.{Family}
use Rattle.kp_types.specs.Places.{family_of_table}
use Rattle.kp_types.specs.declared.chain.ChainAt.{ChainAt}
use Rattle.kp_types.specs.declared.rule.Edit.{Edit}
use Rattle.kp_types.specs.declared.rule.Edit.TheVariants.{Write, Remove}

-- the place of an edit
abbrev pub place_of : Edit → ChainAt
place_of (Write at rules) = at
place_of (Remove at) = at

-- an edit of a table of a family
abbrev pub is_edit_in : Family → Edit → Bool
is_edit_in family e = same_family (family_of_table (place_of e).table) family

-- the edits of the tables of a family, in their order
abbrev pub edits_of_family : Family → List Edit → List Edit
edits_of_family family edits = filter (is_edit_in family) edits
