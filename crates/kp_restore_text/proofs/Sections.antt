-- The text of a table's section, piece by piece.
use Rattle.std.proofs.Common.{◌≡◌, ℕ, ◌==◌, ◌&&◌, Bool, true, false, cond, not, List, [], ◌∷◌, ◌++◌, map, codes, Option, Some, None, option_map, is_some, refl, sym, ap, ◌∙◌, append_assoc}
use Rattle.std.specs.FinMap.{entries, get}
use Rattle.std.specs.List.{filter, filter_map, flat_map, cons_option, AllByRecursion}
use Rattle.std.proofs.lemmas.Grind.{flat_map-append}
use Rattle.std.proofs.lemmas.List.Concat.{flat_map_single}
use denote.Ref.{Bor}
use Rattle.std.proofs.lemmas.List.{append-nil, map-append}
use Rattle.std.proofs.lemmas.List.Elements.{filter-append}
use Rattle.kp_base.specs.declared.address.Family.{Family}
use Rattle.kp_types.specs.Places.{table_place, nat_of, filter_of}
use Rattle.kp_types.specs.declared.chain.TableName.{TableName}
use Rattle.kp_types.specs.declared.chain.ChainAt.{ChainAt}
use Rattle.kp_types.specs.declared.rule.Rule.{Rule}
use Rattle.kp_table_defs.specs.Rebuild.{Chains}
use Rattle.kp_table_defs.specs.Edits.{chains_in}
use Rattle.kp_table_defs.specs.Ranks.{nat_chains, filter_chains, built_in_chains, is_built_in}
use Rattle.kp_restore_defs.specs.RuleText.{rule_line}
use Rattle.kp_restore_defs.specs.TableText.{text_of_lines, table_line, commit_line, built_in_line, declared_line, Row, row_at, built_in_rows, other_rows, row_lines, section_of, section_text_of, table_text_of, section_lines}
use Rattle.kp_rules.proofs.ChangeLists.{Entries}
use Rattle.kp_restore_text.specs.Printed.{ended, place, if_there, places_there, built_in_places, is_other, other_places, chain_text, rules_text, rules_at}
use Rattle.kp_lemmas.proofs.ListFacts.{added_twice, all_filter}
use Rattle.kp_lemmas.proofs.Entries.{entries_found}
use Rattle.kp_types.proofs.ChainOrder.{chain_total}

-- the text of two lists of lines
pub lines-append : (a b : List (List ℕ)) → text_of_lines (a ++ b) ≡ text_of_lines a ++ text_of_lines b
lines-append a b = flat_map-append ended a b

-- ---- built-in chains

abbrev built_in_text : ChainAt → List ℕ
built_in_text = chain_text (codes " ACCEPT [0:0]")

-- the places of built-in chains have the text of their rows, where each does
built_in_are : (chains : Chains) (table : TableName) (shown : ChainAt → List ℕ) (lines : Row → List (List ℕ))
    → ((name : List ℕ) (rules : List Rule) → get chains (place table name) ≡ Some rules → shown (place table name) ≡ text_of_lines (lines (name, rules)))
    → (names : List (List ℕ)) → flat_map shown (flat_map (λ name. if_there chains (place table name)) names) ≡ text_of_lines (flat_map lines (filter_map (row_at chains table) names))
built_in_are chains table shown lines each [] = refl
built_in_are chains table shown lines each (name ∷ names) =
    by (get chains (place table name)) refl (flat_map (λ name. if_there chains (place table name)) names) (filter_map (row_at chains table) names) (built_in_are chains table shown lines each names)
  where
    by : (o : Option (List Rule)) → get chains (place table name) ≡ o → (places : List ChainAt) (rows : List Row) → flat_map shown places ≡ text_of_lines (flat_map lines rows)
        → flat_map shown (cond (is_some o) (place table name ∷ []) [] ++ places) ≡ text_of_lines (flat_map lines (cons_option (option_map (λ rules. (name, rules)) o) rows))
    by None e places rows h = h
    by (Some rules) e places rows h = (λ i. each name rules e i ++ h i) ∙ sym (lines-append (lines (name, rules)) (flat_map lines rows))

built_in_lines_are : (chains : Chains) (table : TableName) (names : List (List ℕ)) → flat_map built_in_text (flat_map (λ name. if_there chains (place table name)) names) ≡ text_of_lines (map (λ row. built_in_line row.0) (filter_map (row_at chains table) names))
built_in_lines_are chains table names =
    built_in_are chains table built_in_text (λ row. built_in_line row.0 ∷ []) (λ name rules e. sym (append-nil (ended (built_in_line name)))) names
    ∙ ap text_of_lines (flat_map_single (λ (row : Row). built_in_line row.0) (filter_map (row_at chains table) names))

-- ---- the other chains

module _ (table : TableName) where
  abbrev is_here : ChainAt × List Rule → Bool
  is_here e = table_place e.0.table == table_place table

  abbrev is_free : ChainAt × List Rule → Bool
  is_free e = not (is_built_in table e.0.chain)

  kept : (b : Bool) (e : ChainAt × List Rule) (es : Entries) → cond b (e.0 ∷ map (λ e. e.0) es) (map (λ e. e.0) es) ≡ map (λ e. e.0) (cond b (e ∷ es) es)
  kept true e es = refl
  kept false e es = refl

  kept_both : (a : Bool) (e : ChainAt × List Rule) (es : Entries) → cond (a && is_free e) (e.0 ∷ map (λ e. e.0) (filter is_free es)) (map (λ e. e.0) (filter is_free es)) ≡ map (λ e. e.0) (filter is_free (cond a (e ∷ es) es))
  kept_both true e es = kept (is_free e) e (filter is_free es)
  kept_both false e es = refl

  other_keys : (es : Entries) → filter (is_other table) (map (λ e. e.0) es) ≡ map (λ e. e.0) (filter is_free (filter is_here es))
  other_keys [] = refl
  other_keys (e ∷ es) = ap (λ ks. cond (is_here e && is_free e) (e.0 ∷ ks) ks) (other_keys es) ∙ kept_both (is_here e) e (filter is_here es)

abbrev other_text : ChainAt → List ℕ
other_text = chain_text (codes " - [0:0]")

abbrev row_of : ChainAt × List Rule → Row
row_of e = (e.0.chain, e.1)

other_lines_are : (es : Entries) → flat_map other_text (map (λ e. e.0) es) ≡ text_of_lines (map (λ row. declared_line row.0) (map row_of es))
other_lines_are [] = refl
other_lines_are (e ∷ es) = ap (λ l. ended (declared_line e.0.chain) ++ l) (other_lines_are es)

other_rules_are : (chains : Chains) (es : Entries) → AllByRecursion (λ e. get chains e.0 ≡ Some e.1) es → flat_map (rules_at chains) (map (λ e. e.0) es) ≡ text_of_lines (flat_map row_lines (map row_of es))
other_rules_are chains [] h = refl
other_rules_are chains (e ∷ es) h =
    (λ i. rules_text e.0.chain (h.0 i) ++ other_rules_are chains es h.1 i) ∙ sym (lines-append (map (rule_line e.0.chain) e.1) (flat_map row_lines (map row_of es)))

-- ---- a section

module _ (chains : Chains) (table : TableName) where
  abbrev free_entries : Entries
  free_entries = filter (is_free table) (chains_in table chains)

  others_are : other_places chains table ≡ map (λ e. e.0) free_entries
  others_are = other_keys table (entries chains)

  free_found : AllByRecursion (λ e. get chains e.0 ≡ Some e.1) free_entries
  free_found =
      all_filter (λ e. get chains e.0 ≡ Some e.1) (is_free table) (chains_in table chains) (all_filter (λ e. get chains e.0 ≡ Some e.1) (is_here table) (entries chains) (entries_found chain_total chains))

  -- the pieces of a section's text
  abbrev pub pieces : List ℕ
  pieces =
      ended (table_line table)
      ++ (flat_map built_in_text (built_in_places chains table)
      ++ (flat_map other_text (other_places chains table)
      ++ (flat_map (rules_at chains) (built_in_places chains table)
      ++ (flat_map (rules_at chains) (other_places chains table) ++ ended commit_line))))

  section_parts : (b o : List Row) → text_of_lines (section_of table b o)
      ≡ ended (table_line table)
      ++ (text_of_lines (map (λ row. built_in_line row.0) b)
      ++ (text_of_lines (map (λ row. declared_line row.0) o)
      ++ (text_of_lines (flat_map row_lines b)
      ++ (text_of_lines (flat_map row_lines o) ++ ended commit_line))))
  section_parts b o =
      let bl = map (λ (row : Row). built_in_line row.0) b in
      let ol = map (λ (row : Row). declared_line row.0) o in
      let br = flat_map row_lines b in
      let os = flat_map row_lines o in
      let all : text_of_lines (section_of table b o) ≡ ended (table_line table) ++ text_of_lines (bl ++ (ol ++ ((br ++ os) ++ commit_line ∷ []))) =
      ap text_of_lines (ap (λ rs. table_line table ∷ bl ++ ol ++ rs ++ commit_line ∷ []) (flat_map-append row_lines b o) ∙ ap (λ l. table_line table ∷ l) (append_assoc (bl ++ ol) (br ++ os) (commit_line ∷ []) ∙ append_assoc bl ol ((br ++ os) ++ commit_line ∷ []))) in
      all
      ∙ ap (λ l. ended (table_line table) ++ l)
      (lines-append bl (ol ++ ((br ++ os) ++ commit_line ∷ []))
      ∙ ap (λ l. text_of_lines bl ++ l)
      (lines-append ol ((br ++ os) ++ commit_line ∷ [])
      ∙ ap (λ l. text_of_lines ol ++ l)
      (ap text_of_lines (append_assoc br os (commit_line ∷ []))
      ∙ lines-append br (os ++ commit_line ∷ [])
      ∙ ap (λ l. text_of_lines br ++ l) (lines-append os (commit_line ∷ []) ∙ ap (λ l. text_of_lines os ++ l) (append-nil (ended commit_line))))))

  pub section_is : section_text_of chains table ≡ pieces
  section_is =
      section_parts (built_in_rows chains table) (other_rows chains table)
      ∙ (λ i. ended (table_line table)
      ++ (sym (built_in_lines_are chains table (built_in_chains table)) i
      ++ (sym (ap (flat_map other_text) others_are ∙ other_lines_are free_entries) i
      ++ (sym (built_in_are chains table (rules_at chains) row_lines (λ name rules e. ap (rules_text name) e) (built_in_chains table)) i
      ++ (sym (ap (flat_map (rules_at chains)) others_are ∙ other_rules_are chains free_entries free_found) i ++ ended commit_line)))))

-- a section whose pieces are added one after the other
pub section_added : (chains : Chains) (table : TableName) (bs os : List ChainAt) (old s1 s2 s3 s4 s5 new : List ℕ) → bs ≡ built_in_places chains table → os ≡ other_places chains table
    → s1 ≡ old ++ ended (table_line table) → s2 ≡ s1 ++ flat_map (chain_text (codes " ACCEPT [0:0]")) bs → s3 ≡ s2 ++ flat_map (chain_text (codes " - [0:0]")) os
    → s4 ≡ s3 ++ flat_map (rules_at chains) bs → s5 ≡ s4 ++ flat_map (rules_at chains) os → new ≡ s5 ++ ended commit_line → new ≡ old ++ section_text_of chains table
section_added chains table bs os old s1 s2 s3 s4 s5 new p q a b c d e f = simp (f, e, d, c, b, a, p, q, section_is, append_assoc)

-- ---- places

-- one more place
pub places_more : (table : TableName) (ps : List (Bor ChainAt)) (at : Bor ChainAt) (made more : List ChainAt)
    → made ≡ filter (is_other table) (map (λ p. p.now) ps) → more ≡ made ++ filter (is_other table) (at.now ∷ [])
    → more ≡ filter (is_other table) (map (λ p. p.now) (ps ++ at ∷ []))
places_more table ps at made more e m =
    let now : Bor ChainAt → ChainAt = λ p. p.now in
    m ∙ (ap (λ qs. qs ++ filter (is_other table) (at.now ∷ [])) e
    ∙ (sym (filter-append (is_other table) (map now ps) (at.now ∷ []))
    ∙ ap (filter (is_other table)) (sym (map-append now ps (at ∷ [])))))

-- the places of the built-in chains, one after the other
pub nat_added : (chains : Chains) (table : TableName) (old s1 s2 s3 new : List ChainAt) → s1 ≡ old ++ if_there chains (place table (codes "PREROUTING")) → s2 ≡ s1 ++ if_there chains (place table (codes "INPUT")) → s3 ≡ s2 ++ if_there chains (place table (codes "OUTPUT"))
    → new ≡ s3 ++ if_there chains (place table (codes "POSTROUTING")) → new ≡ old ++ places_there chains table nat_chains
nat_added chains table old s1 s2 s3 new a b c d = simp (d, c, b, a, append_assoc, append-nil)

pub filter_added : (chains : Chains) (table : TableName) (old s1 s2 new : List ChainAt) → s1 ≡ old ++ if_there chains (place table (codes "INPUT")) → s2 ≡ s1 ++ if_there chains (place table (codes "FORWARD")) → new ≡ s2 ++ if_there chains (place table (codes "OUTPUT"))
    → new ≡ old ++ places_there chains table filter_chains
filter_added chains table old s1 s2 new a b c = simp (c, b, a, append_assoc, append-nil)

-- both sections of a family
pub table_added : (family : Family) (chains : Chains) (n f : TableName) → n ≡ nat_of family → f ≡ filter_of family → (old s1 new : List ℕ) → s1 ≡ old ++ section_text_of chains n → new ≡ s1 ++ section_text_of chains f
    → new ≡ old ++ table_text_of family chains
table_added family chains n f is_nat is_filter old s1 new p q =
    added_twice old s1 new (section_text_of chains n) (section_text_of chains f) p q
    ∙ (λ i. old ++ (section_text_of chains (is_nat i) ++ section_text_of chains (is_filter i)))
    ∙ ap (λ l. old ++ l) (sym (lines-append (section_lines chains (nat_of family)) (section_lines chains (filter_of family))))
