-- What is taken begins the lines of sections that stand.
use Rattle.std.proofs.Common.{◌≡◌, ℕ, Bool, true, false, cond, not, ◌&&◌, ◌||◌, List, [], ◌∷◌, ◌++◌, map, Option, Some, None, bytes_eq, refl, sym, ap, subst, ◌∙◌, append_assoc, option_and_then}
use Rattle.std.specs.List.{list_all, flat_map}
use Rattle.std.proofs.lemmas.Bool.{and_parts, and_from, false≢true, not-true, or_left}
use Rattle.std.proofs.lemmas.Grind.{flat_map-append}
use Rattle.std.proofs.lemmas.List.{append-nil, map-append}
use Rattle.std.proofs.lemmas.List.Folds.{list_all-append}
use Rattle.std.proofs.lemmas.Option.{cond_some, none-some, same_Some}
use Rattle.kp_base.proofs.SameParts.{text_test_exact}
use Rattle.kp_base.specs.declared.address.Family.{Family}
use Rattle.kp_types.specs.Chains.{is_chain_name}
use Rattle.kp_types.specs.declared.chain.TableName.{TableName}
use Rattle.kp_object_defs.specs.Desired.{is_empty}
use Rattle.kp_table_defs.specs.Ranks.{is_built_in}
use Rattle.kp_table_defs.specs.Rebuild.{TableParts}
use Rattle.kp_restore.specs.Lines.{is_canonical_line}
use Rattle.kp_restore.specs.Machine.{run}
use Rattle.kp_restore.specs.Sections.{declared_part, fits, is_behind, is_section, jumps_in, lines_of, may_follow, may_open, may_remove, names_of, names_stand, open_lines, owed, removed_part, rule_parts, section_lines, sections_stand}
use Rattle.kp_restore.specs.Steps.{changed, committed, declared, fresh, heading_line, in_body, in_heading, known, line_in, may_change, opened, pass_of, sought, start, step}
use Rattle.kp_restore.specs.declared.line.Line.{Line}
use Rattle.kp_restore.specs.declared.line.Line.TheVariants as line
use Rattle.kp_restore.specs.declared.section.Form.{Form}
use Rattle.kp_restore.specs.declared.section.Row.{Row}
use Rattle.kp_restore.specs.declared.section.Section.{Section}
use Rattle.kp_restore.specs.declared.so_far.Body.{Body}
use Rattle.kp_restore.specs.declared.so_far.Change.{Change}
use Rattle.kp_restore.specs.declared.so_far.Change.TheVariants.{Adds, Goes}
use Rattle.kp_restore.specs.declared.so_far.Heading.{Heading}
use Rattle.kp_restore.specs.declared.so_far.Pass.{Pass}
use Rattle.kp_restore.specs.declared.so_far.Pass.TheVariants.{Ruling, Removing}
use Rattle.kp_restore.specs.declared.so_far.Phase.{Phase}
use Rattle.kp_restore.specs.declared.so_far.Phase.TheVariants as phase
use Rattle.kp_restore.specs.declared.so_far.SoFar.{SoFar}
use Rattle.kp_restore.proofs.Families.{IsTableOf}
use Rattle.kp_restore.proofs.SectionRows.{Knows, all_at, all_swap, jumps_known, knows_more, knows_none, names_swap, owed_built_in, owed_named}
use Rattle.kp_restore.proofs.SectionRuns.{line_of, same_chain}
use Rattle.kp_restore.proofs.Tests.{no_items, some_behind}
use Rattle.kp_lemmas.proofs.ListFacts.{test_weaker}

-- ---- Rows of a section that is open

-- a chain that isn't removed
abbrev is_kept : Row → Bool
is_kept row = not row.removed

-- a chain with nothing but its declaration
abbrev is_fresh : Row → Bool
is_fresh row = not row.removed && is_empty row.rules

no_rules : (rows : List Row) → list_all is_fresh rows ≡ true → flat_map rule_parts rows ≡ []
no_rules [] h = refl
no_rules (r ∷ rows) h = let k = and_parts _ _ h in λ i. map (line.Ruled r.chain) (no_items r.rules (and_parts _ _ k.0).1 i) ++ no_rules rows k.1 i

no_removes : (rows : List Row) → list_all is_kept rows ≡ true → flat_map removed_part rows ≡ []
no_removes [] h = refl
no_removes (r ∷ rows) h =
    let k = and_parts _ _ h in
    ap (λ b. cond b (line.Removed r.chain ∷ []) [] ++ flat_map removed_part rows) (not-true r.removed k.0) ∙ no_removes rows k.1

fresh_kept : (rows : List Row) → list_all is_fresh rows ≡ true → list_all is_kept rows ≡ true
fresh_kept rows h = test_weaker is_fresh is_kept (λ r k. (and_parts (not r.removed) (is_empty r.rules) k).0) rows h

-- the rows behind the first
abbrev tail_all : (Row → Bool) → List Row → Bool
tail_all p [] = true
tail_all p (x ∷ rows) = list_all p rows

tail_of : (p : Row → Bool) (rows : List Row) → list_all p rows ≡ true → tail_all p rows ≡ true
tail_of p [] h = refl
tail_of p (x ∷ rows) h = (and_parts _ _ h).1

-- what is told behind the chain of the last line: nothing of this pass, nor of the one after it
abbrev Ready : Pass → List Row → List Row → Type 0
Ready Ruling all left = (list_all is_kept all ≡ true) × (tail_all is_fresh left ≡ true)
Ready Removing all left = tail_all is_kept left ≡ true

ready_on : (pass : Pass) (all : List Row) (x : Row) (rows : List Row) → Ready pass all (x ∷ rows) → Ready pass all rows
ready_on Ruling all x rows r = (r.0, tail_of is_fresh rows r.1)
ready_on Removing all x rows r = tail_of is_kept rows r

-- a change of a chain is the last line of its section
one_change : (t : TableName) (before : List Row) (row : Row) (ch : Change) (behind : List Row) → is_kept row ≡ true → Ready (pass_of ch) (before ++ row ∷ behind) (row ∷ behind)
    → open_lines t (before ++ changed row ch ∷ behind) ≡ open_lines t (before ++ row ∷ behind) ++ line_of row.chain ch ∷ []
one_change t before row (Adds rule) behind kept r =
    let parts = and_parts _ _ (sym (list_all-append is_kept before (row ∷ behind)) ∙ r.0) in
    let here : row.removed ≡ false = not-true _ kept in
    let first : flat_map removed_part before ≡ [] = no_removes before parts.0 in
    let last : flat_map removed_part behind ≡ [] = no_removes behind (fresh_kept behind r.1) in
    let bare : flat_map rule_parts behind ≡ [] = no_rules behind r.1 in
    simp (map-append, flat_map-append, here, first, last, bare, append-nil, append_assoc)
one_change t before row Goes behind kept r =
    let here : row.removed ≡ false = not-true _ kept in
    let last : flat_map removed_part behind ≡ [] = no_removes behind r in
    simp (map-append, flat_map-append, here, last, append-nil, append_assoc)

fresh_lines : (t : TableName) (rows : List Row) → list_all is_fresh rows ≡ true → open_lines t rows ≡ line.Section t ∷ map (declared_part t) (names_of rows)
fresh_lines t rows h =
    (λ i. line.Section t ∷ map (declared_part t) (names_of rows) ++ (no_rules rows h i ++ no_removes rows (fresh_kept rows h) i))
    ∙ append-nil (line.Section t ∷ map (declared_part t) (names_of rows))

module _ (form : Form) where
  fresh_fits : (names : List (List ℕ)) (rows : List Row) → list_all is_fresh rows ≡ true → list_all (fits form names) rows ≡ true
  fresh_fits names rows h = test_weaker is_fresh (fits form names) one rows h
    where
      one : (r : Row) → is_fresh r ≡ true → fits form names r ≡ true
      one r k = let p = and_parts (not r.removed) (is_empty r.rules) k in and_from _ _ (or_left (not r.removed) (may_remove form && is_empty r.rules) p.0) (ap (list_all (jumps_in form names)) (no_items r.rules p.1))

  changed_fits : (t : TableName) (d : TableParts) (names : List (List ℕ)) (row : Row) (ch : Change) → Knows form t d names → may_change form d t row ch ≡ true → is_kept row ≡ true → fits form names row ≡ true → fits form names (changed row ch) ≡ true
  changed_fits t d names row (Adds rule) k may kept f =
      let p = and_parts (not row.removed || (may_remove form && is_empty row.rules)) (list_all (jumps_in form names) row.rules) f in
      and_from _ _ (or_left (not row.removed) (may_remove form && is_empty (row.rules ++ rule ∷ [])) kept)
      (list_all-append (jumps_in form names) row.rules (rule ∷ []) ∙ and_from _ _ p.1 (and_from _ _ (sym (jumps_known form t d names k rule) ∙ may) refl))
  changed_fits t d names row Goes k may kept f =
      let m = and_parts (may_remove form) (is_empty row.rules && not row.removed) may in
      and_from _ _ (and_from _ _ m.0 (and_parts (is_empty row.rules) (not row.removed) m.1).0)
      (and_parts (not row.removed || (may_remove form && is_empty row.rules)) (list_all (jumps_in form names) row.rules) f).1

  -- a chain that may be changed isn't removed
  kept_row : (t : TableName) (d : TableParts) (before : List Row) (row : Row) (ch : Change) (behind : List Row) → may_change form d t row ch ≡ true → Ready (pass_of ch) (before ++ row ∷ behind) (row ∷ behind) → is_kept row ≡ true
  kept_row t d before row (Adds rule) behind may r = all_at is_kept before row behind r.0
  kept_row t d before row Goes behind may r = (and_parts (is_empty row.rules) (not row.removed) (and_parts (may_remove form) (is_empty row.rules && not row.removed) may).1).1

  ready_changed : (before : List Row) (row : Row) (ch : Change) (behind : List Row) → is_kept row ≡ true → Ready (pass_of ch) (before ++ row ∷ behind) (row ∷ behind) → Ready (pass_of ch) (before ++ changed row ch ∷ behind) (changed row ch ∷ behind)
  ready_changed before row (Adds rule) behind kept r = (all_swap is_kept before row (record row { rules = row.rules ++ rule ∷ [] }) behind r.0 kept, r.1)
  ready_changed before row Goes behind kept r = r

  module _ (family : Family) where
    -- ---- What the state says of the lines so far

    -- sections that stand may follow, and all of them stand
    pub record IsOver (done : List Section) (last : Option TableName) (xs : List Line) : Type 0 where
      pub stand : (ss : List Section) → sections_stand form last ss ≡ true → sections_stand form None (done ++ ss) ≡ true
      pub lines : xs ≡ lines_of done
      pub of : (t : TableName) → last ≡ Some t → IsTableOf family t

    -- a section of these rows is open
    pub record IsOpen (done : List Section) (t : TableName) (d : TableParts) (rows : List Row) (xs : List Line) : Type 0 where
      pub opens : (rows : List Row) → is_section form (record { table = t; rows = rows }) ≡ true → (ss : List Section) → sections_stand form (Some t) ss ≡ true → sections_stand form None (done ++ (record { table = t; rows = rows }) ∷ ss) ≡ true
      pub of : IsTableOf family t
      pub knows : Knows form t d (names_of rows)
      pub lines : xs ≡ lines_of done ++ open_lines t rows

    pub record InHeading (done : List Section) (h : Heading) (xs : List Line) : Type 0 where
      pub here : IsOpen done h.table h.declared h.rows xs
      pub stand : (ns : List (List ℕ)) → names_stand h.table h.owed h.last ns ≡ true → names_stand h.table (owed form h.table) None (names_of h.rows ++ ns) ≡ true
      pub owes : list_all (is_built_in h.table) h.owed ≡ true
      pub named : list_all is_chain_name h.owed ≡ true
      pub first : is_empty h.rows ≡ true → h.last ≡ None
      pub fresh_ones : list_all is_fresh h.rows ≡ true

    pub record IsWhole (done : List Section) (t : TableName) (d : TableParts) (rows : List Row) (xs : List Line) : Type 0 where
      here : IsOpen done t d rows xs
      stand : names_stand t (owed form t) None (names_of rows) ≡ true
      fit : list_all (fits form (names_of rows)) rows ≡ true

    pub record InBody (done : List Section) (b : Body) (xs : List Line) : Type 0 where
      pub whole : IsWhole done b.table b.declared (b.passed ++ b.left) xs
      pub ready : Ready b.pass (b.passed ++ b.left) b.left
      pub some : is_empty (b.passed ++ b.left) ≡ false
      pub of : IsTableOf family b.table

    abbrev pub Tells : List Section → Phase → List Line → Type 0
    Tells done (phase.Between last) xs = IsOver done last xs
    Tells done (phase.Heading h) xs = InHeading done h xs
    Tells done (phase.Body b) xs = InBody done b xs

    abbrev Next : SoFar → List Line → Type 0
    Next next xs = Tells next.done next.phase xs

    module _ (done : List Section) where
      -- ---- The first line of a section

      open_leads : (last : Option TableName) (t : TableName) (next : SoFar) (xs : List Line) → IsTableOf family t → IsOver done last xs → opened form done last (line.Section t) ≡ Some next → Next next (xs ++ line.Section t ∷ [])
      open_leads last t next xs of o e =
          let h : Heading = record { table = t; owed = owed form t; last = None; declared = _; rows = [] } in
          let s = cond_some (may_open form last t) (in_heading done h) next e in
          subst (λ n. Next n (xs ++ line.Section t ∷ [])) s.1 (record {
            here = record {
              opens = λ rows is ss k. o.stand ((record { table = t; rows = rows }) ∷ ss) (and_from _ _ s.0 (and_from _ _ is k));
              of = of;
              knows = knows_none form t;
              lines = ap (λ l. l ++ line.Section t ∷ []) o.lines;
            };
            stand = λ ns k. k;
            owes = owed_built_in form t;
            named = owed_named form t;
            first = λ k. refl;
            fresh_ones = refl;
          })

      -- ---- Declarations

      -- a chain of this line is declared, with these still owed
      declare_leads : (h : Heading) (rest : List (List ℕ)) (n : List ℕ) (l : Line) (next : SoFar) (xs : List Line) → InHeading done h xs → list_all (is_built_in h.table) rest ≡ true → list_all is_chain_name rest ≡ true → declared_part h.table n ≡ l
          → ((ns : List (List ℕ)) → names_stand h.table rest (Some n) ns ≡ true → names_stand h.table h.owed h.last (n ∷ ns) ≡ true) → declared form done h rest n ≡ next → Next next (xs ++ l ∷ [])
      declare_leads h rest n l next xs i owes named part on is =
          let names : names_of (h.rows ++ fresh n ∷ []) ≡ names_of h.rows ++ n ∷ [] = map-append (λ (r : Row). r.chain) h.rows (fresh n ∷ []) in
          let ones : list_all is_fresh (h.rows ++ fresh n ∷ []) ≡ true = list_all-append is_fresh h.rows (fresh n ∷ []) ∙ and_from _ _ i.fresh_ones refl in
          subst (λ s. Next s (xs ++ l ∷ [])) is (record {
            here = record {
              opens = i.here.opens;
              of = i.here.of;
              knows = subst (Knows form h.table (known form h.table n h.declared)) (sym names) (knows_more form h.table h.declared (names_of h.rows) n i.here.knows);
              lines = (λ j. i.here.lines j ++ sym part j ∷ []) ∙ append_assoc (lines_of done) (open_lines h.table h.rows) (declared_part h.table n ∷ [])
                  ∙ ap (λ q. lines_of done ++ q) (ap (λ q. q ++ declared_part h.table n ∷ []) (fresh_lines h.table h.rows i.fresh_ones)
                  ∙ ap (λ q. line.Section h.table ∷ q) (sym (map-append (declared_part h.table) (names_of h.rows) (n ∷ [])) ∙ ap (map (declared_part h.table)) (sym names))
                  ∙ sym (fresh_lines h.table (h.rows ++ fresh n ∷ []) ones));
            };
            stand = λ ns k. ap (λ q. names_stand h.table (owed form h.table) None (q ++ ns)) names ∙ ap (names_stand h.table (owed form h.table) None) (append_assoc (names_of h.rows) (n ∷ []) ns) ∙ i.stand (n ∷ ns) (on ns k);
            owes = owes;
            named = named;
            first = λ k. absurd (false≢true (sym (some_behind h.rows (fresh n) []) ∙ k));
            fresh_ones = ones;
          })

      -- ---- Changes

      module _ (t : TableName) (d : TableParts) where
        change_leads : (ch : Change) (p l all : List Row) (c : List ℕ) (next : SoFar) (xs : List Line) → p ++ l ≡ all → IsWhole done t d all xs → Ready (pass_of ch) all l
            → sought form done t d p l c ch ≡ Some next → Next next (xs ++ line_of c ch ∷ [])
        change_leads ch p [] all c next xs a w r e = absurd (none-some next e)
        change_leads ch p (row ∷ rows) all c next xs a w r e =
            by (bytes_eq row.chain c) refl e (change_leads ch (p ++ row ∷ []) rows all c next xs (append_assoc p (row ∷ []) rows ∙ a) w (ready_on (pass_of ch) all row rows r))
          where
            by : (b : Bool) → bytes_eq row.chain c ≡ b
                → cond b (cond (may_change form d t row ch) (Some (in_body done t (pass_of ch) d p (changed row ch ∷ rows))) None) (sought form done t d (p ++ row ∷ []) rows c ch) ≡ Some next
                → (sought form done t d (p ++ row ∷ []) rows c ch ≡ Some next → Next next (xs ++ line_of c ch ∷ []))
                → Next next (xs ++ line_of c ch ∷ [])
            by false g e later = later e
            by true g e later =
                let s = cond_some (may_change form d t row ch) (in_body done t (pass_of ch) d p (changed row ch ∷ rows)) next e in
                let ready = subst (λ q. Ready (pass_of ch) q (row ∷ rows)) (sym a) r in
                let kept = kept_row t d p row ch rows s.0 ready in
                let names : names_of (p ++ changed row ch ∷ rows) ≡ names_of all = names_swap p row (changed row ch) rows (same_chain row ch) ∙ ap names_of a in
                let fit : list_all (fits form (names_of all)) (p ++ row ∷ rows) ≡ true = ap (list_all (fits form (names_of all))) a ∙ w.fit in
                subst (λ n. Next n (xs ++ line_of c ch ∷ [])) s.1 (record {
                  whole = record {
                    here = record {
                      opens = w.here.opens;
                      of = w.here.of;
                      knows = subst (Knows form t d) (sym names) w.here.knows;
                      lines = (λ i. w.here.lines i ++ line_of (sym (text_test_exact row.chain c g) i) ch ∷ []) ∙ append_assoc (lines_of done) (open_lines t all) (line_of row.chain ch ∷ [])
                          ∙ ap (λ q. lines_of done ++ q) (ap (λ q. open_lines t q ++ line_of row.chain ch ∷ []) (sym a) ∙ sym (one_change t p row ch rows kept ready));
                    };
                    stand = ap (names_stand t (owed form t) None) names ∙ w.stand;
                    fit = ap (λ q. list_all (fits form q) (p ++ changed row ch ∷ rows)) names
                        ∙ all_swap (fits form (names_of all)) p row (changed row ch) rows fit (changed_fits t d (names_of all) row ch w.here.knows s.0 kept (all_at (fits form (names_of all)) p row rows fit));
                  };
                  ready = ready_changed p row ch rows kept ready;
                  some = some_behind p (changed row ch) rows;
                  of = w.here.of;
                })

      -- a section with all that it owes, and nothing but declarations
      heading_whole : (h : Heading) (xs : List Line) → h.owed ≡ [] → InHeading done h xs → IsWhole done h.table h.declared h.rows xs
      heading_whole h xs none i = record {
        here = i.here;
        stand = ap (names_stand h.table (owed form h.table) None) (sym (append-nil (names_of h.rows))) ∙ i.stand [] (ap is_empty none);
        fit = fresh_fits (names_of h.rows) h.rows i.fresh_ones;
      }

      heading_ready : (pass : Pass) (rows : List Row) → list_all is_fresh rows ≡ true → Ready pass rows rows
      heading_ready Ruling rows f = (fresh_kept rows f, tail_of is_fresh rows f)
      heading_ready Removing rows f = tail_of is_kept rows (fresh_kept rows f)

      -- ---- The end of a section

      cond_other : (b : Bool) (x y : SoFar) → cond b None (Some x) ≡ Some y → (b ≡ false) × (x ≡ y)
      cond_other false x y h = (refl, same_Some x y h)
      cond_other true x y h = absurd (none-some y h)

      commit_leads : (t : TableName) (d : TableParts) (rows : List Row) (next : SoFar) (xs : List Line) → IsWhole done t d rows xs → committed done t rows ≡ Some next → Next next (xs ++ line.Commit ∷ [])
      commit_leads t d rows next xs w e =
          let section : Section = record { table = t; rows = rows } in
          let s = cond_other (is_empty rows) (record { done = done ++ section ∷ []; phase = phase.Between (Some t) }) next e in
          subst (λ n. Next n (xs ++ line.Commit ∷ [])) s.1 (record {
            stand = λ ss k. ap (sections_stand form None) (append_assoc done (section ∷ []) ss) ∙ w.here.opens rows (and_from _ _ w.stand (and_from _ _ (ap not s.0) w.fit)) ss k;
            lines = ap (λ l. l ++ line.Commit ∷ []) w.here.lines ∙ append_assoc (lines_of done) (open_lines t rows) (line.Commit ∷ [])
                ∙ ap (λ l. lines_of done ++ l) (sym (append-nil (section_lines section))) ∙ sym (flat_map-append section_lines done (section ∷ []));
            of = λ u is. subst (IsTableOf family) (same_Some t u is) w.here.of;
          })

      -- ---- Lines

      heading_leads : (h : Heading) (ow : List (List ℕ)) (l : Line) (next : SoFar) (xs : List Line) → h.owed ≡ ow → InHeading done h xs → heading_line form done h ow l ≡ Some next → Next next (xs ++ l ∷ [])
      heading_leads h (o ∷ ow) (line.BuiltIn c) next xs is i e =
          let s = cond_some (bytes_eq c o) (declared form done h ow c) next e in
          let p = and_parts (is_built_in h.table o) (list_all (is_built_in h.table) ow) (sym (ap (list_all (is_built_in h.table)) is) ∙ i.owes) in
          declare_leads h ow c (line.BuiltIn c) next xs i p.1 (and_parts (is_chain_name o) (list_all is_chain_name ow) (sym (ap (list_all is_chain_name) is) ∙ i.named)).1 (ap (λ b. cond b (line.BuiltIn c) (line.Declared c)) (ap (is_built_in h.table) (text_test_exact c o s.0) ∙ p.0))
          (λ ns k. ap (λ q. names_stand h.table q h.last (c ∷ ns)) is ∙ and_from _ _ s.0 k) s.1
      heading_leads h (o ∷ ow) l next xs is i e = absurd (none-some next e)
      heading_leads h [] (line.Declared c) next xs is i e =
          let s = cond_some (may_follow h.table h.last c) (declared form done h [] c) next e in
          let p = and_parts (not (is_built_in h.table c)) (is_behind h.table h.last c) s.0 in
          declare_leads h [] c (line.Declared c) next xs i refl refl (ap (λ b. cond b (line.BuiltIn c) (line.Declared c)) (not-true (is_built_in h.table c) p.0))
          (λ ns k. ap (λ q. names_stand h.table q h.last (c ∷ ns)) is ∙ and_from _ _ s.0 k) s.1
      heading_leads h [] (line.Ruled c rule) next xs is i e =
          change_leads h.table h.declared (Adds rule) [] h.rows h.rows c next xs refl (heading_whole h xs is i) (heading_ready Ruling h.rows i.fresh_ones) e
      heading_leads h [] (line.Removed c) next xs is i e =
          change_leads h.table h.declared Goes [] h.rows h.rows c next xs refl (heading_whole h xs is i) (heading_ready Removing h.rows i.fresh_ones) e
      heading_leads h [] line.Commit next xs is i e = commit_leads h.table h.declared h.rows next xs (heading_whole h xs is i) e
      heading_leads h [] l next xs is i e = absurd (none-some next e)

      body_leads : (b : Body) (pass : Pass) (l : Line) (next : SoFar) (xs : List Line) → b.pass ≡ pass → InBody done b xs → line_in form done (phase.Body (record b { pass = pass })) l ≡ Some next → Next next (xs ++ l ∷ [])
      body_leads b Ruling (line.Ruled c rule) next xs is i e =
          change_leads b.table b.declared (Adds rule) b.passed b.left (b.passed ++ b.left) c next xs refl i.whole (subst (λ q. Ready q (b.passed ++ b.left) b.left) is i.ready) e
      body_leads b Ruling (line.Removed c) next xs is i e =
          let r : Ready Ruling (b.passed ++ b.left) b.left = subst (λ q. Ready q (b.passed ++ b.left) b.left) is i.ready in
          change_leads b.table b.declared Goes [] (b.passed ++ b.left) (b.passed ++ b.left) c next xs refl i.whole (tail_of is_kept (b.passed ++ b.left) r.0) e
      body_leads b Removing (line.Removed c) next xs is i e =
          change_leads b.table b.declared Goes b.passed b.left (b.passed ++ b.left) c next xs refl i.whole (subst (λ q. Ready q (b.passed ++ b.left) b.left) is i.ready) e
      body_leads b Ruling line.Commit next xs is i e = commit_leads b.table b.declared (b.passed ++ b.left) next xs i.whole e
      body_leads b Removing line.Commit next xs is i e = commit_leads b.table b.declared (b.passed ++ b.left) next xs i.whole e
      body_leads b pass l next xs is i e = absurd (none-some next e)

      step_leads : (ph : Phase) (l : Line) (next : SoFar) (xs : List Line) → is_canonical_line family l ≡ true → Tells done ph xs → line_in form done ph l ≡ Some next → Next next (xs ++ l ∷ [])
      step_leads (phase.Between last) (line.Section t) next xs g o e = open_leads last t next xs g o e
      step_leads (phase.Heading h) l next xs g i e = heading_leads h h.owed l next xs refl i e
      step_leads (phase.Body b) l next xs g i e = body_leads b b.pass l next xs refl i e
      step_leads ph l next xs g i e = absurd (none-some next e)

    run_leads : (s : SoFar) (ys xs : List Line) (next : SoFar) → list_all (is_canonical_line family) xs ≡ true → Next s ys → run (step form) s xs ≡ Some next → Next next (ys ++ xs)
    run_leads s ys [] next g h e = subst (λ n. Next n (ys ++ [])) (same_Some s next e) (subst (Next s) (sym (append-nil ys)) h)
    run_leads s ys (x ∷ xs) next g h e =
        let good = and_parts (is_canonical_line family x) (list_all (is_canonical_line family) xs) g in
        by (step form s x) refl e good.0 (λ m k. run_leads m (ys ++ x ∷ []) xs next good.1 k)
      where
        by : (o : Option SoFar) → step form s x ≡ o → option_and_then (λ m. run (step form) m xs) o ≡ Some next → is_canonical_line family x ≡ true
            → ((m : SoFar) → Next m (ys ++ x ∷ []) → run (step form) m xs ≡ Some next → Next next ((ys ++ x ∷ []) ++ xs)) → Next next (ys ++ x ∷ xs)
        by None f e good later = absurd (none-some next e)
        by (Some m) f e good later = subst (Next next) (append_assoc ys (x ∷ []) xs) (later m (step_leads s.done s.phase x m ys good h f) e)

    -- what is taken from the start
    pub told : (xs : List Line) (s : SoFar) → list_all (is_canonical_line family) xs ≡ true → run (step form) start xs ≡ Some s → Tells s.done s.phase xs
    told xs s g e = run_leads start [] xs s g (record { stand = λ ss k. k; lines = refl; of = λ t is. absurd (none-some t is) }) e
