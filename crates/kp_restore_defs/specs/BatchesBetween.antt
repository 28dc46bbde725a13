-- The edits that lead from one table of a family to another, as a batch that is printed and read again.
use Rattle.std.specs.Prelude.{◌≡◌, true, List}
use Rattle.std.specs.FinMap as finite
use Rattle.std.specs.List.{fold}
use Rattle.kp_base.specs.declared.address.Family.{Family}
use Rattle.kp_types.specs.declared.chain.ChainAt.{ChainAt}
use Rattle.kp_types.specs.declared.rule.Edit.{Edit}
use Rattle.kp_table_defs.specs.Edits.{chains_after_edit, changes_of}
use Rattle.kp_table_defs.specs.Ranks.{is_built_in}
use Rattle.kp_table_defs.specs.Rebuild.{Chains}
use Rattle.kp_restore_defs.specs.TableText.{is_canonical_table}
use Rattle.kp_restore_defs.specs.BatchText.{is_canonical_batch, batch_text_of}

-- each built-in chain is the same in both tables
abbrev pub HaveSameBuiltIn : Chains → Chains → Type 0
HaveSameBuiltIn before after =
    (at : ChainAt) → is_built_in at.table at.chain ≡ true
    → finite.get before at ≡ finite.get after at

-- The changes between two canonical tables that agree on the built-in chains are a canonical
-- batch.
abbrev pub ChangesAreCanonical : Type 0
ChangesAreCanonical =
    (family : Family) (before after : Chains)
    → is_canonical_table family before ≡ true → is_canonical_table family after ≡ true
    → HaveSameBuiltIn before after
    → is_canonical_batch family (changes_of family before after) ≡ true

-- What is read from the printed changes of such tables, made in the first, gives the second.
abbrev pub ReadChangesLeadOver : Type 0
ReadChangesLeadOver =
    (family : Family) (before after : Chains)
    → is_canonical_table family before ≡ true → is_canonical_table family after ≡ true
    → HaveSameBuiltIn before after
    → (edits : List Edit) → is_canonical_batch family edits ≡ true
    → batch_text_of family edits ≡ batch_text_of family (changes_of family before after)
    → fold chains_after_edit before edits ≡ after
