-- The places of a table's chains as a set, beside the chains.
use Rattle.std.specs.Prelude.{◌≡◌, ◌||◌, ◌&&◌, Bool, true, List}
use Rattle.std.specs.BTreeSet.{BTreeSet, IsOrdered, contains}
use Rattle.std.specs.FinMap as finite
use Rattle.std.specs.List.{list_any}
use Rattle.std.specs.Ordering.{eq_by_cmp}
use Rattle.kp_types.specs.declared.chain.ChainAt.{ChainAt}
use Rattle.kp_types.specs.declared.rule.Edit.{Edit}
use Rattle.kp_types.specs.declared.rule.Edit.TheVariants.{Write, Remove}
use Rattle.kp_types.specs.contracts.chain.ChainAtOrd.TheImpl as order
use Rattle.kp_table_defs.specs.Edits.{is_write}
use Rattle.kp_table_defs.specs.Rebuild.{Chains}

-- whether a place is among these
abbrev pub has_place : BTreeSet ChainAt → ChainAt → Bool
has_place places q = contains order.ghosts.cmp places q

-- the place of an edit
abbrev pub place_of : Edit → ChainAt
place_of (Write at rules) = at
place_of (Remove at) = at

-- whether an edit is at a place
abbrev pub is_at : ChainAt → Edit → Bool
is_at q e = eq_by_cmp order.ghosts.cmp (place_of e) q

-- whether some edit is at a place
abbrev pub is_edited : List Edit → ChainAt → Bool
is_edited edits q = list_any (is_at q) edits

-- whether some edit writes the chain at a place
abbrev pub is_written : List Edit → ChainAt → Bool
is_written edits q = list_any (λ e. is_write e && is_at q e) edits

-- the places are those that have a chain
abbrev pub ArePlaces : BTreeSet ChainAt → Chains → Type 0
ArePlaces places chains = places.keys ≡ finite.keys chains

-- all places with a chain are there, and beside them some at which there are edits
pub record AreStaged (places : BTreeSet ChainAt) (chains : Chains) (edits : List Edit) : Type 0 where
  pub sorted : IsOrdered order.ghosts.cmp places
  pub filled : (q : ChainAt) → finite.contains_key chains q ≡ true → has_place places q ≡ true
  pub edited : (q : ChainAt) → has_place places q ≡ true
      → finite.contains_key chains q || is_edited edits q ≡ true

-- all places that edits write are there
abbrev pub HaveWritten : BTreeSet ChainAt → List Edit → Type 0
HaveWritten places edits = (q : ChainAt) → is_written edits q ≡ true → has_place places q ≡ true
