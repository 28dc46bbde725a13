-- A family's edits at places are its changes between two tables, where the places hold all at which
-- the tables differ, with what stands there after.
use Rattle.std.proofs.Common.{◌≡◌, cond, false, List, [], ◌∷◌, ◌++◌, map, None, Some}
use Rattle.std.proofs.Common.{is_some, refl, sym, ◌∙◌}
use Rattle.std.specs.List.{AllByRecursion, cons_option, filter_map, list_any}
use Rattle.std.specs.List.Sorted.{IsStrictlySortedBy}
use Rattle.std.specs.Ordering.{eq_by_cmp}
use Rattle.std.specs.FinMap.{get}
use Rattle.kp_base.specs.declared.address.Family.{Family}
use Rattle.kp_types.specs.Places.{chain_cmp, filter_of, nat_of}
use Rattle.kp_types.specs.declared.chain.ChainAt.{ChainAt}
use Rattle.kp_types.specs.declared.chain.TableName.{TableName}
use Rattle.kp_types.specs.declared.rule.Edit.TheVariants.{Remove}
use Rattle.kp_table_defs.specs.Edits.{changes_of}
use Rattle.kp_table_defs.specs.Rebuild.{Chains}
use Rattle.kp_rules.specs.Changes.{is_in, write_at, write_if_found}
use Rattle.kp_writer_laws.specs.LocalLaws.{ChangesAreLocal, remove_between}
use Rattle.kp_writer.specs.Next.{Place, edits_of, remove_of, write_of}

module _ (before after : Chains) where
  -- what stands at each place after
  abbrev pub StandAfter : List Place → Type 0
  StandAfter places = AllByRecursion (λ p. p.1 ≡ get after p.0) places

  writes : (table : TableName) (places : List Place) → StandAfter places
      → filter_map (write_at before after table) (map (λ p. p.0) places)
      ≡ filter_map (write_of before table) places
  writes table [] h = refl
  writes table (p ∷ places) h =
      λ i. cons_option (cond (is_in table p.0) (write_if_found before p.0 (sym h.0 i)) None)
      (writes table places h.1 i)

  removes : (table : TableName) (places : List Place) → StandAfter places
      → filter_map (remove_between before after table) (map (λ p. p.0) places)
      ≡ filter_map (remove_of before table) places
  removes table [] h = refl
  removes table (p ∷ places) h =
      λ i. cons_option (cond (is_some (get before p.0)) (cond (is_in table p.0) (cond (is_some
      (sym h.0 i)) None (Some (Remove p.0))) None) None) (removes table places h.1 i)

  pub edits_are_changes : ChangesAreLocal → (family : Family) (places : List Place)
      → IsStrictlySortedBy chain_cmp (map (λ p. p.0) places)
      → ((at : ChainAt) → list_any (eq_by_cmp chain_cmp at) (map (λ p. p.0) places) ≡ false
      → get after at ≡ get before at)
      → StandAfter places
      → edits_of family before places ≡ changes_of family before after
  edits_are_changes local family places sorted others stand =
      sym (local family before after (map (λ p. p.0) places) sorted others
      ∙ (λ i.
      (writes (nat_of family) places stand i ++ removes (nat_of family) places stand i)
      ++ (writes (filter_of family) places stand i ++ removes (filter_of family) places stand i)))
