-- Rows taken off the end of a list, and put into a table.
use Rattle.std.proofs.Common.{◌≡◌, List, [], ◌∷◌, ◌++◌, take, drop, length, append-nil, refl, ap, sym, ◌∙◌, append_assoc}
use Rattle.std.specs.FinMap as finite
use Rattle.std.proofs.lemmas.List.{take-append-drop}
use Rattle.std.proofs.Math.Seq.{drop-append_seam, take-append_seam}
use Rattle.kp_types.specs.declared.chain.ChainAt.{ChainAt}
use Rattle.kp_types.specs.declared.rule.ChainText.{ChainText}
use Rattle.kp_types.specs.declared.rule.Rule.{Rule}
use Rattle.kp_table_defs.specs.Rebuild.{TableParts}
use Rattle.kp_chains.specs.Rows.{rows_of_texts}
use Rattle.kp_chains.specs.Tables.{chains_with, with_rows}

module _ {A : Type 0} (all old new : List A) (e : A) (popped : old ≡ new ++ e ∷ []) (left : old ≡ take (length old) all) where
  whole : all ≡ new ++ (e ∷ drop (length old) all)
  whole =
      sym (take-append-drop (length old) all)
      ∙ ap (λ f. f ++ drop (length old) all) (sym left ∙ popped)
      ∙ append_assoc new (e ∷ []) (drop (length old) all)

  -- an element that was taken off the end of a front of a list
  pub popped-drop : drop (length new) all ≡ e ∷ drop (length old) all
  popped-drop = ap (λ x. drop (length new) x) whole ∙ drop-append_seam new (e ∷ drop (length old) all)

  pub popped-take : new ≡ take (length new) all
  popped-take = sym (ap (λ x. take (length new) x) whole ∙ take-append_seam new (e ∷ drop (length old) all))

module _ (start : TableParts) where
  -- one more row in front
  pub put_row : (new old : TableParts) (row : ChainText) (rows left : List ChainText)
      → new ≡ record old { chains = finite.insert old.chains row.at row.rules }
      → old ≡ with_rows (rows_of_texts rows) start → left ≡ row ∷ rows
      → new ≡ with_rows (rows_of_texts left) start
  put_row new old row rows left put so_far cut =
      put
      ∙ (λ k. record (so_far k) { chains = finite.insert (so_far k).chains row.at row.rules })
      ∙ ap (λ r. with_rows (rows_of_texts r) start) (sym cut)

-- rows that are put into a table of others come before these
pub chains_before : (rows others : List (ChainAt × List Rule))
    → chains_with rows (finite.from_entries others) ≡ finite.from_entries (rows ++ others)
chains_before [] others = refl
chains_before (r ∷ rs) others = ap (λ m. finite.insert m r.0 r.1) (chains_before rs others)

-- rows that are put into a table of none are its rows
pub chains_alone : (rows : List (ChainAt × List Rule))
    → chains_with rows finite.empty ≡ finite.from_entries rows
chains_alone rows = chains_before rows [] ∙ ap finite.from_entries (append-nil rows)
