-- The text of a table's edits, piece by piece.
use Rattle.std.proofs.Common.{◌≡◌, ℕ, suc, ◌+◌, ◌-◌, ◌<◌, ◌≤◌, ◌||◌, Bool, true, false, cond, not, List, [], ◌∷◌, ◌++◌, length, drop, get_or, map, refl, sym, ap, ◌∙◌, arith, append_assoc}
use Rattle.std.specs.BTreeSet.{insert_key}
use Rattle.std.specs.List.{flat_map, list_any}
use Rattle.std.proofs.lemmas.Bool.{cond-true, cond-false, not-true, not-false}
use Rattle.std.proofs.lemmas.Grind.{flat_map-append}
use Rattle.std.proofs.lemmas.List.{append-nil}
use Rattle.std.proofs.lemmas.List.Folds.{flat_map-map}
use Rattle.std.proofs.Math.Seq.{drop-cons}
use Rattle.kp_base.specs.Keys.{text_cmp}
use Rattle.kp_base.specs.declared.address.Family.{Family}
use Rattle.kp_types.specs.Places.{nat_of, filter_of}
use Rattle.kp_types.specs.declared.chain.TableName.{TableName}
use Rattle.kp_types.specs.declared.chain.ChainAt.{ChainAt}
use Rattle.kp_types.specs.declared.rule.Edit.{Edit}
use Rattle.kp_object_defs.specs.Order.{in_order, distinct_in_order}
use Rattle.kp_object_defs.specs.Desired.{is_empty}
use Rattle.kp_restore_defs.specs.TableText.{text_of_lines, table_line, commit_line}
use Rattle.kp_restore_defs.specs.BatchText.{place_of, written_lines, removing_lines, edits_in, edits_section, section_in, batch_text_of}
use Rattle.kp_restore_text.specs.Printed.{ended}
use Rattle.kp_restore_text.specs.PrintedEdits.{is_in, edits_text, edited_names, with_name, declared_text, written_text, removed_text}
use Rattle.kp_restore_text.proofs.Sections.{lines-append}
use Rattle.kp_lemmas.proofs.ListFacts.{added_twice}
use Rattle.kp_lemmas.proofs.Entries.{put_keys}

-- ---- names

name_step : (b : Bool) (e : Edit) (es : List Edit) → distinct_in_order text_cmp (map (λ e. (place_of e).chain) (cond b (e ∷ es) es))
    ≡ cond b (insert_key text_cmp (distinct_in_order text_cmp (map (λ e. (place_of e).chain) es)) (place_of e).chain) (distinct_in_order text_cmp (map (λ e. (place_of e).chain) es))
name_step true e es = put_keys text_cmp (place_of e).chain (place_of e).chain (in_order text_cmp (map (λ k. (k, k)) (map (λ e. (place_of e).chain) es)))
name_step false e es = refl

-- the names of edits with one more in front
pub names_before : (table : TableName) (edits : List Edit) (i : ℕ) (e : Edit) → i < length edits → e ≡ get_or edits i e → edited_names table (drop i edits) ≡ with_name table (place_of e) (edited_names table (drop (i + 1) edits))
names_before table edits i e inside is =
    let next : suc i ≡ i + 1 = omega arith in
    ap (edited_names table) (drop-cons edits i e inside ∙ (λ j. sym is j ∷ drop (next j) edits))
    ∙ name_step (is_in table (place_of e)) e (edits_in table (drop (i + 1) edits))

-- ---- lines

-- the lines of each edit of a table are those of the table's edits
lines_are : (table : TableName) (lines : Edit → List (List ℕ)) (edits : List Edit) → flat_map (λ e. cond (is_in table (place_of e)) (text_of_lines (lines e)) []) edits ≡ text_of_lines (flat_map lines (edits_in table edits))
lines_are table lines [] = refl
lines_are table lines (e ∷ es) =
    elim (is_in table (place_of e)) as (λ b. cond b (text_of_lines (lines e)) [] ++ flat_map (λ e. cond (is_in table (place_of e)) (text_of_lines (lines e)) []) es ≡ text_of_lines (flat_map lines (cond b (e ∷ edits_in table es) (edits_in table es)))) [
      | true ↦ ap (λ l. text_of_lines (lines e) ++ l) (lines_are table lines es) ∙ sym (lines-append (lines e) (flat_map lines (edits_in table es)))
      | false ↦ lines_are table lines es
    ]

-- ---- a section

-- edits of a table are there where one is
any_edited : (table : TableName) (edits : List Edit) → list_any (λ e. is_in table (place_of e)) edits ≡ not (is_empty (edits_in table edits))
any_edited table [] = refl
any_edited table (e ∷ es) =
    elim (is_in table (place_of e)) as (λ b. (b || list_any (λ e. is_in table (place_of e)) es) ≡ not (is_empty (cond b (e ∷ edits_in table es) (edits_in table es)))) [ true ↦ refl | false ↦ any_edited table es ]

pub no_edits : (table : TableName) (edits : List Edit) (old : List ℕ) → list_any (λ e. is_in table (place_of e)) edits ≡ false → old ≡ old ++ edits_text table edits
no_edits table edits old h =
    let none = cond-true (is_empty (edits_in table edits)) [] (edits_section table (edits_in table edits)) (not-false _ (sym (any_edited table edits) ∙ h)) in
    sym (ap (λ ls. old ++ text_of_lines ls) none ∙ append-nil old)

section_parts : (table : TableName) (es : List Edit) (names : List (List ℕ)) → names ≡ distinct_in_order text_cmp (map (λ e. (place_of e).chain) es) → text_of_lines (edits_section table es)
    ≡ ended (table_line table) ++ (flat_map declared_text names ++ (text_of_lines (flat_map written_lines es) ++ (text_of_lines (flat_map removing_lines es) ++ ended commit_line)))
section_parts table es names h = simp (h, flat_map-append, flat_map-map, append_assoc)

-- the pieces that are added one after the other
pub edits_added : (table : TableName) (edits : List Edit) (names : List (List ℕ)) (old s1 s2 s3 s4 new : List ℕ) → list_any (λ e. is_in table (place_of e)) edits ≡ true → names ≡ edited_names table edits
    → s1 ≡ old ++ ended (table_line table) → s2 ≡ s1 ++ flat_map declared_text names → s3 ≡ s2 ++ flat_map (written_text table) edits → s4 ≡ s3 ++ flat_map (removed_text table) edits → new ≡ s4 ++ ended commit_line
    → new ≡ old ++ edits_text table edits
edits_added table edits names old s1 s2 s3 s4 new some h a b c d e =
    let es = edits_in table edits in
    let joined : new ≡ old ++ (ended (table_line table) ++ (flat_map declared_text names ++ (flat_map (written_text table) edits ++ (flat_map (removed_text table) edits ++ ended commit_line)))) = simp (e, d, c, b, a, append_assoc) in
    joined
    ∙ (λ i. old ++ (ended (table_line table) ++ (flat_map declared_text names ++ (lines_are table written_lines edits i ++ (lines_are table removing_lines edits i ++ ended commit_line)))))
    ∙ ap (λ l. old ++ l) (sym (section_parts table es names h) ∙ ap text_of_lines (sym (cond-false (is_empty es) [] (edits_section table es) (not-true _ (sym (any_edited table edits) ∙ some)))))

-- both sections of a family
pub batch_added : (family : Family) (edits : List Edit) (n f : TableName) → n ≡ nat_of family → f ≡ filter_of family → (old s1 new : List ℕ) → s1 ≡ old ++ edits_text n edits → new ≡ s1 ++ edits_text f edits
    → new ≡ old ++ batch_text_of family edits
batch_added family edits n f is_nat is_filter old s1 new p q =
    added_twice old s1 new (edits_text n edits) (edits_text f edits) p q
    ∙ (λ i. old ++ (edits_text (is_nat i) edits ++ edits_text (is_filter i) edits))
    ∙ ap (λ l. old ++ l) (sym (lines-append (section_in (nat_of family) edits) (section_in (filter_of family) edits)))

-- the names of the edits from one place before
pub edit_before : (table : TableName) (edits : List Edit) (i : ℕ) (e : Edit) (at : ChainAt) (names : List (List ℕ)) → 0 < i → i ≤ length edits → e ≡ get_or edits (i - 1) e → at ≡ place_of e → names ≡ edited_names table (drop i edits)
    → with_name table at names ≡ edited_names table (drop (i - 1) edits)
edit_before table edits i e at names some within is p n =
    let inside : i - 1 < length edits = omega (arith, some, within) in
    let next : i ≡ i - 1 + 1 = omega (arith, some) in
    (λ j. with_name table (p j) ((n ∙ ap (λ k. edited_names table (drop k edits)) next) j)) ∙ sym (names_before table edits (i - 1) e inside is)
