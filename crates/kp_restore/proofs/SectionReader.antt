-- The reader of sections, in either form: it takes the lines of sections that stand, and from each of its states an end
-- is reached.
use Rattle.std.proofs.Common.{◌≡◌, ℕ, true, false, cond, List, [], ◌∷◌, ◌++◌, map, codes, Option, Some, None, refl, sym, ap, subst, ◌∙◌, option_and_then}
use Rattle.std.specs.List.{list_all}
use Rattle.std.specs.Cmp.Lexicographic.{nat_list_eq_equiv}
use Rattle.std.proofs.lemmas.Bool.{and_parts, and_from, false≢true}
use Rattle.std.proofs.lemmas.List.{append-nil}
use Rattle.std.proofs.lemmas.List.Folds.{list_all-append, list_all-map}
use Rattle.kp_base.specs.declared.address.Family.{Family}
use Rattle.kp_base.specs.declared.address.Family.TheVariants.{V4, V6}
use Rattle.kp_types.specs.Chains.{is_chain_name}
use Rattle.kp_types.specs.declared.chain.TableName.{TableName}
use Rattle.kp_types.specs.declared.chain.TableName.TheVariants.{Nat, Filter, Nat6, Filter6}
use Rattle.kp_object_defs.specs.Desired.{is_empty}
use Rattle.kp_table_defs.specs.Ranks.{built_in_chains, is_built_in}
use Rattle.kp_restore.specs.Lines.{is_canonical_line, line_text}
use Rattle.kp_restore.specs.Machine.{run}
use Rattle.kp_restore.specs.Sections.{declared_part, is_canonical, lines_of, names_stand, sections_stand}
use Rattle.kp_restore.specs.Steps.{IsEnd, fresh, may_end_in, start, step}
use Rattle.kp_restore.specs.declared.line.Line.{Line}
use Rattle.kp_restore.specs.declared.line.Line.TheVariants as line
use Rattle.kp_restore.specs.declared.section.Form.{Form}
use Rattle.kp_restore.specs.declared.section.Form.TheVariants.{Whole, Changes}
use Rattle.kp_restore.specs.declared.section.Row.{Row}
use Rattle.kp_restore.specs.declared.section.Section.{Section}
use Rattle.kp_restore.specs.declared.so_far.Body.{Body}
use Rattle.kp_restore.specs.declared.so_far.Heading.{Heading}
use Rattle.kp_restore.specs.declared.so_far.Pass.TheVariants.{Ruling, Removing}
use Rattle.kp_restore.specs.declared.so_far.Phase.{Phase}
use Rattle.kp_restore.specs.declared.so_far.Phase.TheVariants as phase
use Rattle.kp_restore.specs.declared.so_far.SoFar.{SoFar}
use Rattle.kp_restore.proofs.Families.{IsTableOf}
use Rattle.kp_restore.proofs.LineTexts.{line_exact, line_plain}
use Rattle.kp_restore.proofs.Machine.{IsReader, LeadsToEnd, run_on}
use Rattle.kp_restore.proofs.SectionRuns.{all_known, declare_run, heading, last_in, last_of, sections_end, sections_run}
use Rattle.kp_restore.proofs.SectionsTaken.{Tells, told}
use Rattle.kp_restore.proofs.Tests.{some_behind}
use Rattle.kp_lemmas.proofs.ListFacts.{test_weaker}

-- ---- Names that may be declared

stand_all : (t : TableName) (owed : List (List ℕ)) (last : Option (List ℕ)) → names_stand t owed last owed ≡ true
stand_all t [] last = refl
stand_all t (o ∷ owed) last = and_from _ _ (nat_list_eq_equiv.refl o) (stand_all t owed (Some o))

one_stands : (t : TableName) → names_stand t [] None (codes "A" ∷ []) ≡ true
one_stands t = elim t as (λ t. names_stand t [] None (codes "A" ∷ []) ≡ true) [ Nat ↦ refl | Filter ↦ refl | Nat6 ↦ refl | Filter6 ↦ refl ]

-- names that end the declarations of a section
record Rest (t : TableName) (owed : List (List ℕ)) (last : Option (List ℕ)) (rows : List Row) : Type 0 where
  names : List (List ℕ)
  stand : names_stand t owed last names ≡ true
  named : list_all is_chain_name names ≡ true
  some : is_empty (rows ++ map fresh names) ≡ false

rest_of : (t : TableName) (owed : List (List ℕ)) (last : Option (List ℕ)) (rows : List Row) → list_all is_chain_name owed ≡ true → (is_empty rows ≡ true → last ≡ None) → Rest t owed last rows
rest_of t (o ∷ owed) last rows b n = record {
  names = o ∷ owed;
  stand = stand_all t (o ∷ owed) last;
  named = b;
  some = some_behind rows (fresh o) (map fresh owed);
}
rest_of t [] last [] b n = record {
  names = codes "A" ∷ [];
  stand = ap (λ l. names_stand t [] l (codes "A" ∷ [])) (n refl) ∙ one_stands t;
  named = refl;
  some = refl;
}
rest_of t [] last (r ∷ rows) b n = record { names = []; stand = refl; named = refl; some = refl }

-- ---- From each state an end is reached

module _ (form : Form) (family : Family) where
  abbrev Ends : SoFar → Type 0
  Ends = LeadsToEnd (step form) (is_canonical_line family) (IsEnd form)

  earlier : (s m : SoFar) (xs : List Line) → list_all (is_canonical_line family) xs ≡ true → run (step form) s xs ≡ Some m → Ends m → Ends s
  earlier s m xs g h f = (xs ++ f.0, list_all-append (is_canonical_line family) xs f.0 ∙ and_from _ _ g f.1, f.2, run_on (step form) s m xs f.0 h ∙ f.3, f.4)

  ends_by : (ss done : List Section) (last : Option TableName) → sections_stand form last ss ≡ true → list_all (is_canonical_line family) (lines_of ss) ≡ true → Ends (record { done = done; phase = phase.Between last })
  ends_by ss done last h g = (lines_of ss, g, record { done = done ++ ss; phase = phase.Between (last_in form last ss) }, sections_run form ss done last h, sections_end form ss last h)

-- a section with the built-in chains alone
abbrev bare : TableName → Section
bare t = record { table = t; rows = map fresh (built_in_chains t) }

ends_between : (form : Form) (family : Family) (done : List Section) (last : Option TableName) → ((t : TableName) → last ≡ Some t → IsTableOf family t) → Ends form family (record { done = done; phase = phase.Between last })
ends_between Changes family done last of = ends_by Changes family [] done last refl refl
ends_between Whole V4 done None of = ends_by Whole V4 (bare Nat ∷ bare Filter ∷ []) done None refl refl
ends_between Whole V4 done (Some Nat) of = ends_by Whole V4 (bare Filter ∷ []) done (Some Nat) refl refl
ends_between Whole V4 done (Some Filter) of = ends_by Whole V4 [] done (Some Filter) refl refl
ends_between Whole V4 done (Some t) of = absurd (false≢true (of t refl))
ends_between Whole V6 done None of = ends_by Whole V6 (bare Nat6 ∷ bare Filter6 ∷ []) done None refl refl
ends_between Whole V6 done (Some Nat6) of = ends_by Whole V6 (bare Filter6 ∷ []) done (Some Nat6) refl refl
ends_between Whole V6 done (Some Filter6) of = ends_by Whole V6 [] done (Some Filter6) refl refl
ends_between Whole V6 done (Some t) of = absurd (false≢true (of t refl))

module _ (form : Form) (family : Family) where
  abbrev over : List Section → TableName → List Row → SoFar
  over done t rows = record { done = done ++ (record { table = t; rows = rows }) ∷ []; phase = phase.Between (Some t) }

  over_ends : (done : List Section) (t : TableName) (rows : List Row) → IsTableOf family t → Ends form family (over done t rows)
  over_ends done t rows of = ends_between form family (done ++ (record { table = t; rows = rows }) ∷ []) (Some t) (λ u is. subst (IsTableOf family) (same u is) of)
    where
      same : (u : TableName) → Some t ≡ Some u → t ≡ u
      same u is = cc

  committing : (done : List Section) (t : TableName) (rows : List Row) → is_empty rows ≡ false → option_and_then (λ n. Some n) (cond (is_empty rows) None (Some (over done t rows))) ≡ Some (over done t rows)
  committing done t rows some = ap (λ b. option_and_then (λ n. Some n) (cond b None (Some (over done t rows)))) some

  named_lines : (t : TableName) (ns : List (List ℕ)) → list_all is_chain_name ns ≡ true → list_all (is_canonical_line family) (map (declared_part t) ns) ≡ true
  named_lines t ns h =
      list_all-map (is_canonical_line family) (declared_part t) ns
      ∙ test_weaker is_chain_name (λ n. is_canonical_line family (declared_part t n)) (λ n k. elim (is_built_in t n) as (λ b. is_canonical_line family (cond b (line.BuiltIn n) (line.Declared n)) ≡ true) [ true ↦ k | false ↦ k ]) ns h

  state_ends : (done : List Section) (ph : Phase) (xs : List Line) → Tells form family done ph xs → Ends form family (record { done = done; phase = ph })
  state_ends done (phase.Between last) xs o = ends_between form family done last o.of
  state_ends done (phase.Heading h) xs i =
      let r = rest_of h.table h.owed h.last h.rows i.named i.first in
      let rows = h.rows ++ map fresh r.names in
      let declared = heading form done h.table [] (last_of form done h.table h.last r.names) (all_known form done h.table h.declared r.names) rows in
      earlier form family (record { done = done; phase = phase.Heading h }) declared (map (declared_part h.table) r.names) (named_lines h.table r.names r.named) (declare_run form done h.table r.names h.owed h.last h.declared h.rows i.owes r.stand)
      (earlier form family declared (over done h.table rows) (line.Commit ∷ []) refl (committing done h.table rows r.some) (over_ends done h.table rows i.here.of))
  state_ends done (phase.Body b) xs i =
      let end = over done b.table (b.passed ++ b.left) in
      let one = committing done b.table (b.passed ++ b.left) i.some in
      earlier form family (record { done = done; phase = phase.Body b }) end (line.Commit ∷ []) refl
      (elim b.pass as (λ q. run (step form) (record { done = done; phase = phase.Body (record b { pass = q }) }) (line.Commit ∷ []) ≡ Some end) [ Ruling ↦ one | Removing ↦ one ])
      (over_ends done b.table (b.passed ++ b.left) i.of)

  -- ---- The reader

  sound : (xs : List Line) (s : SoFar) → list_all (is_canonical_line family) xs ≡ true → run (step form) start xs ≡ Some s → IsEnd form s
      → (is_canonical form family s.done ≡ true) × (map line_text (lines_of s.done) ≡ map line_text xs)
  sound xs s g r end = by s.phase (told form family xs s g r) end
    where
      by : (ph : Phase) → Tells form family s.done ph xs → may_end_in form ph ≡ true → (is_canonical form family s.done ≡ true) × (map line_text (lines_of s.done) ≡ map line_text xs)
      by (phase.Between last) o e = (
        and_from _ _ (ap (sections_stand form None) (sym (append-nil s.done)) ∙ o.stand [] e) (ap (list_all (is_canonical_line family)) (sym o.lines) ∙ g),
        ap (map line_text) (sym o.lines),
      )
      by ph i e = absurd (false≢true e)

  pub section_reader : IsReader (step form) start (IsEnd form) (λ s. s.done) line_text (is_canonical_line family) (λ ss. is_canonical form family ss ≡ true) (λ ss. map line_text (lines_of ss))
  section_reader = record {
    exact = line_exact family;
    plain = line_plain family;
    sound = sound;
    complete = λ ss h.
        let k = and_parts (sections_stand form None ss) (list_all (is_canonical_line family) (lines_of ss)) h in
        (lines_of ss, k.1, refl, record { done = ss; phase = phase.Between (last_in form None ss) }, sections_run form ss [] None k.0, sections_end form ss None k.0, refl);
    ends = λ xs s g r. state_ends s.done s.phase xs (told form family xs s g r);
  }
