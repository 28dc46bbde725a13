-- The lines of sections that stand are taken.
use Rattle.std.proofs.Common.{◌≡◌, ℕ, Bool, true, false, cond, not, ◌&&◌, ◌||◌, List, [], ◌∷◌, ◌++◌, map, Option, Some, None, bytes_eq, refl, sym, ap, subst, ◌∙◌, append_assoc, option_and_then}
use Rattle.std.specs.List.{list_all, list_any, flat_map, AllByRecursion}
use Rattle.std.specs.Cmp.Lexicographic.{nat_list_eq_equiv}
use Rattle.std.proofs.lemmas.Bool.{and_parts, and_from, false≢true, not-true, or_parts}
use Rattle.std.proofs.lemmas.List.{append-nil, map-id}
use Rattle.std.proofs.lemmas.List.Folds.{list_all-append}
use Rattle.std.proofs.lemmas.Simd.{map-map}
use Rattle.kp_base.proofs.SameParts.{text_test_exact}
use Rattle.kp_types.specs.declared.chain.TableName.{TableName}
use Rattle.kp_types.specs.declared.rule.Rule.{Rule}
use Rattle.kp_object_defs.specs.Desired.{is_empty}
use Rattle.kp_table_defs.specs.Ranks.{is_built_in}
use Rattle.kp_table_defs.specs.Rebuild.{TableParts}
use Rattle.kp_restore.specs.Machine.{run}
use Rattle.kp_restore.specs.Sections.{declared_part, fits, is_behind, is_section, jumps_in, lines_of, may_end, may_follow, may_open, may_remove, names_of, names_stand, owed, removed_part, rule_parts, section_lines, sections_stand}
use Rattle.kp_restore.specs.Steps.{changed, committed, fresh, in_body, in_heading, known, may_change, no_chains, pass_of, sought, step}
use Rattle.kp_restore.specs.declared.line.Line.{Line}
use Rattle.kp_restore.specs.declared.line.Line.TheVariants as line
use Rattle.kp_restore.specs.declared.section.Form.{Form}
use Rattle.kp_restore.specs.declared.section.Row.{Row}
use Rattle.kp_restore.specs.declared.section.Section.{Section}
use Rattle.kp_restore.specs.declared.so_far.Change.{Change}
use Rattle.kp_restore.specs.declared.so_far.Change.TheVariants.{Adds, Goes}
use Rattle.kp_restore.specs.declared.so_far.Pass.{Pass}
use Rattle.kp_restore.specs.declared.so_far.Pass.TheVariants.{Ruling, Removing}
use Rattle.kp_restore.specs.declared.so_far.Phase.TheVariants as phase
use Rattle.kp_restore.specs.declared.so_far.SoFar.{SoFar}
use Rattle.kp_restore.proofs.Machine.{run_on}
use Rattle.kp_restore.proofs.Rows.{distinct}
use Rattle.kp_restore.proofs.SectionRows.{Knows, jumps_known, knows_more, knows_none, owed_built_in, stand_distinct}

-- ---- What a pass over the chains tells

-- the changes of a chain that it tells
abbrev changes_of : Pass → Row → List Change
changes_of Ruling row = map Adds row.rules
changes_of Removing row = cond row.removed (Goes ∷ []) []

-- the chain before it, and after it
abbrev before : Pass → Row → Row
before Ruling row = fresh row.chain
before Removing row = record row { removed = false }

abbrev after : Pass → Row → Row
after Ruling row = record row { removed = false }
after Removing row = row

abbrev pub line_of : List ℕ → Change → Line
line_of chain (Adds rule) = line.Ruled chain rule
line_of chain Goes = line.Removed chain

abbrev lines_in : Pass → Row → List Line
lines_in Ruling row = rule_parts row
lines_in Removing row = removed_part row

abbrev all_changed : Row → List Change → Row
all_changed row [] = row
all_changed row (ch ∷ chs) = all_changed (changed row ch) chs

lines_told : (pass : Pass) (row : Row) → lines_in pass row ≡ map (line_of row.chain) (changes_of pass row)
lines_told Ruling row = sym (map-map (line_of row.chain) Adds row.rules)
lines_told Removing row = elim row.removed as (λ b. cond b (line.Removed row.chain ∷ []) [] ≡ map (line_of row.chain) (cond b (Goes ∷ []) [])) [ true ↦ refl | false ↦ refl ]

rules_made : (row : Row) (rules : List Rule) → all_changed row (map Adds rules) ≡ record row { rules = row.rules ++ rules }
rules_made row [] = λ i. record row { rules = sym (append-nil row.rules) i }
rules_made row (r ∷ rules) = rules_made (record row { rules = row.rules ++ r ∷ [] }) rules ∙ (λ i. record row { rules = append_assoc row.rules (r ∷ []) rules i })

made : (pass : Pass) (row : Row) → all_changed (before pass row) (changes_of pass row) ≡ after pass row
made Ruling row = rules_made (fresh row.chain) row.rules
made Removing row = elim row.removed as (λ b. all_changed (record row { removed = false }) (cond b (Goes ∷ []) []) ≡ record row { removed = b }) [ true ↦ refl | false ↦ refl ]

of_pass : (pass : Pass) (row : Row) → AllByRecursion (λ ch. pass_of ch ≡ pass) (changes_of pass row)
of_pass Ruling row = rules row.rules
  where
    rules : (rs : List Rule) → AllByRecursion (λ ch. pass_of ch ≡ Ruling) (map Adds rs)
    rules [] = tt
    rules (r ∷ rs) = (refl, rules rs)
of_pass Removing row = elim row.removed as (λ b. AllByRecursion (λ ch. pass_of ch ≡ Removing) (cond b (Goes ∷ []) [])) [ true ↦ (refl, tt) | false ↦ tt ]

pub same_chain : (row : Row) (ch : Change) → (changed row ch).chain ≡ row.chain
same_chain row ch = elim ch as (λ ch. (changed row ch).chain ≡ row.chain) [ Adds rule ↦ refl | Goes ↦ refl ]

chain_before : (pass : Pass) (row : Row) → (before pass row).chain ≡ row.chain
chain_before pass row = elim pass as (λ pass. (before pass row).chain ≡ row.chain) [ Ruling ↦ refl | Removing ↦ refl ]

-- ---- Chains that aren't passed by a name

-- none of the first rows has a name of the others
abbrev Apart : List Row → List Row → Type 0
Apart l [] = Unit {0}
Apart l (r ∷ rest) = (list_all (λ x. not (bytes_eq x.chain r.chain)) l ≡ true) × Apart l rest

apart_none : (rest : List Row) → Apart [] rest
apart_none [] = tt
apart_none (r ∷ rest) = (refl, apart_none rest)

apart_more : (l : List Row) (x : Row) (n : List ℕ) → x.chain ≡ n → (rest : List Row) → Apart l rest → list_any (bytes_eq n) (names_of rest) ≡ false → Apart (l ++ x ∷ []) rest
apart_more l x n e [] a h = tt
apart_more l x n e (r ∷ rest) a h =
    let k = or_parts (bytes_eq n r.chain) _ h in (
      list_all-append (λ y. not (bytes_eq y.chain r.chain)) l (x ∷ []) ∙ and_from _ _ a.0 (and_from _ _ (ap (λ m. not (bytes_eq m r.chain)) e ∙ ap not k.0) refl),
      apart_more l x n e rest a.1 k.1,
    )

module _ (form : Form) where
  -- a line, and then others
  first_step : (s u : SoFar) (x : Line) (xs : List Line) → step form s x ≡ Some u → run (step form) s (x ∷ xs) ≡ run (step form) u xs
  first_step s u x xs e = ap (option_and_then (λ next. run (step form) next xs)) e

  module _ (done : List Section) (t : TableName) where
    -- ---- Declarations

    abbrev pub heading : List (List ℕ) → Option (List ℕ) → TableParts → List Row → SoFar
    heading owed last d rows = in_heading done (record { table = t; owed = owed; last = last; declared = d; rows = rows })

    abbrev pub all_known : TableParts → List (List ℕ) → TableParts
    all_known d [] = d
    all_known d (n ∷ ns) = all_known (known form t n d) ns

    abbrev pub last_of : Option (List ℕ) → List (List ℕ) → Option (List ℕ)
    last_of last [] = last
    last_of last (n ∷ ns) = last_of (Some n) ns

    all_knows : (ns names : List (List ℕ)) (d : TableParts) → Knows form t d names → Knows form t (all_known d ns) (names ++ ns)
    all_knows [] names d k = subst (Knows form t d) (sym (append-nil names)) k
    all_knows (n ∷ ns) names d k = subst (Knows form t (all_known (known form t n d) ns)) (append_assoc names (n ∷ []) ns) (all_knows ns (names ++ n ∷ []) (known form t n d) (knows_more form t d names n k))

    pub declare_run : (ns owed : List (List ℕ)) (last : Option (List ℕ)) (d : TableParts) (rows : List Row) → list_all (is_built_in t) owed ≡ true → names_stand t owed last ns ≡ true
        → run (step form) (heading owed last d rows) (map (declared_part t) ns) ≡ Some (heading [] (last_of last ns) (all_known d ns) (rows ++ map fresh ns))
    declare_run [] [] last d rows b h = ap (λ l. Some (heading [] last d l)) (sym (append-nil rows))
    declare_run [] (o ∷ owed) last d rows b h = absurd (false≢true h)
    declare_run (n ∷ ns) (o ∷ owed) last d rows b h =
        let p = and_parts (bytes_eq n o) (names_stand t owed (Some n) ns) h in
        let q = and_parts (is_built_in t o) (list_all (is_built_in t) owed) b in
        let next = heading owed (Some n) (known form t n d) (rows ++ fresh n ∷ []) in
        first_step (heading (o ∷ owed) last d rows) next (declared_part t n) (map (declared_part t) ns)
        (ap (λ c. step form (heading (o ∷ owed) last d rows) (cond c (line.BuiltIn n) (line.Declared n))) (ap (is_built_in t) (text_test_exact n o p.0) ∙ q.0) ∙ ap (λ c. cond c (Some next) None) p.0)
        ∙ declare_run ns owed (Some n) (known form t n d) (rows ++ fresh n ∷ []) q.1 p.1
        ∙ ap (λ l. Some (heading [] (last_of (Some n) ns) (all_known (known form t n d) ns) l)) (append_assoc rows (fresh n ∷ []) (map fresh ns))
    declare_run (n ∷ ns) [] last d rows b h =
        let p = and_parts (may_follow t last n) (names_stand t [] (Some n) ns) h in
        let q = and_parts (not (is_built_in t n)) (is_behind t last n) p.0 in
        let next = heading [] (Some n) (known form t n d) (rows ++ fresh n ∷ []) in
        first_step (heading [] last d rows) next (declared_part t n) (map (declared_part t) ns)
        (ap (λ c. step form (heading [] last d rows) (cond c (line.BuiltIn n) (line.Declared n))) (not-true (is_built_in t n) q.0) ∙ ap (λ c. cond c (Some next) None) p.0)
        ∙ declare_run ns [] (Some n) (known form t n d) (rows ++ fresh n ∷ []) refl p.1
        ∙ ap (λ l. Some (heading [] (last_of (Some n) ns) (all_known (known form t n d) ns) l)) (append_assoc rows (fresh n ∷ []) (map fresh ns))

    -- ---- Changes

    module _ (d : TableParts) where
      abbrev body : Pass → List Row → List Row → SoFar
      body pass p l = in_body done t pass d p l

      abbrev seek : List Row → List Row → List ℕ → Change → Option SoFar
      seek p l c ch = sought form done t d p l c ch

      abbrev may_all : Row → List Change → Bool
      may_all row [] = true
      may_all row (ch ∷ chs) = may_change form d t row ch && may_all (changed row ch) chs

      abbrev may_pass : Pass → Row → Bool
      may_pass pass row = may_all (before pass row) (changes_of pass row)

      body_takes : (pass : Pass) (p l : List Row) (c : List ℕ) (ch : Change) → pass_of ch ≡ pass → step form (body pass p l) (line_of c ch) ≡ seek p l c ch
      body_takes pass p l c (Adds rule) of = ap (λ q. step form (body q p l) (line.Ruled c rule)) (sym of)
      body_takes pass p l c Goes of = ap (λ q. step form (body q p l) (line.Removed c)) (sym of)

      found : (p : List Row) (x : Row) (rows : List Row) (c : List ℕ) (ch : Change) (pass : Pass) → x.chain ≡ c → pass_of ch ≡ pass → may_change form d t x ch ≡ true → seek p (x ∷ rows) c ch ≡ Some (body pass p (changed x ch ∷ rows))
      found p x rows c ch pass e of m =
          ap (λ b. cond b (cond (may_change form d t x ch) (Some (body (pass_of ch) p (changed x ch ∷ rows))) None) (seek (p ++ x ∷ []) rows c ch)) (ap (bytes_eq x.chain) (sym e) ∙ nat_list_eq_equiv.refl x.chain)
          ∙ ap (λ b. cond b (Some (body (pass_of ch) p (changed x ch ∷ rows))) None) m
          ∙ ap (λ q. Some (body q p (changed x ch ∷ rows))) of

      skip : (p l rows : List Row) (c : List ℕ) (ch : Change) → list_all (λ x. not (bytes_eq x.chain c)) l ≡ true → seek p (l ++ rows) c ch ≡ seek (p ++ l) rows c ch
      skip p [] rows c ch a = ap (λ q. seek q rows c ch) (sym (append-nil p))
      skip p (x ∷ l) rows c ch a =
          let k = and_parts _ _ a in
          ap (λ b. cond b (cond (may_change form d t x ch) (Some (body (pass_of ch) p (changed x ch ∷ (l ++ rows)))) None) (seek (p ++ x ∷ []) (l ++ rows) c ch)) (not-true (bytes_eq x.chain c) k.0)
          ∙ skip (p ++ x ∷ []) l rows c ch k.1
          ∙ ap (λ q. seek q rows c ch) (append_assoc p (x ∷ []) l)

      -- a state in which changes of a pass may come, for the chains that are left
      record IsAt (pass : Pass) (p l : List Row) (s : SoFar) : Type 0 where
        change : (c : List ℕ) (ch : Change) → pass_of ch ≡ pass → step form s (line_of c ch) ≡ seek p l c ch
        later : (c : List ℕ) → pass ≡ Ruling → step form s (line.Removed c) ≡ seek [] (p ++ l) c Goes
        commit : step form s line.Commit ≡ committed done t (p ++ l)

      is_at : (pass : Pass) (p l : List Row) → IsAt pass p l (body pass p l)
      is_at Ruling p l = record { change = body_takes Ruling p l; later = λ c of. refl; commit = refl }
      is_at Removing p l = record { change = body_takes Removing p l; later = λ c of. absurd (cc); commit = refl }

      record After (pass : Pass) (s : SoFar) (lines : List Line) (rows : List Row) : Type 0 where
        state : SoFar
        passed : List Row
        left : List Row
        ran : run (step form) s lines ≡ Some state
        is : IsAt pass passed left state
        rows_are : passed ++ left ≡ rows

      pass_run : (pass : Pass) (rest p l : List Row) (s : SoFar) → IsAt pass p (l ++ map (before pass) rest) s → Apart l rest → distinct (names_of rest) ≡ true → list_all (may_pass pass) rest ≡ true
          → After pass s (flat_map (lines_in pass) rest) (p ++ (l ++ map (after pass) rest))
      pass_run pass [] p l s at a u m = record { state = s; passed = p; left = l ++ []; ran = refl; is = at; rows_are = refl }
      pass_run pass (row ∷ rest) p l s at a u m =
          let names = and_parts (not (list_any (bytes_eq row.chain) (names_of rest))) (distinct (names_of rest)) u in
          let mays = and_parts (may_pass pass row) (list_all (may_pass pass) rest) m in
          subst (λ ls. After pass s (ls ++ flat_map (lines_in pass) rest) (p ++ (l ++ after pass row ∷ map (after pass) rest))) (sym (lines_told pass row))
          (subst (λ x. After pass s (map (line_of row.chain) (changes_of pass row) ++ flat_map (lines_in pass) rest) (p ++ (l ++ x ∷ map (after pass) rest))) (made pass row)
          (tell (changes_of pass row) (before pass row) p l s (chain_before pass row) at a.0 a.1 (of_pass pass row) mays.0
          (λ p l x s e at a. pass_run pass rest p (l ++ x ∷ []) s at (apart_more l x row.chain e rest a (not-true _ names.0)) names.1 mays.1)))
        where
          -- the changes of one row, and then those of the others
          tell : (chs : List Change) (x : Row) (p l : List Row) (s : SoFar) → x.chain ≡ row.chain → IsAt pass p (l ++ x ∷ map (before pass) rest) s → list_all (λ y. not (bytes_eq y.chain row.chain)) l ≡ true → Apart l rest
              → AllByRecursion (λ ch. pass_of ch ≡ pass) chs → may_all x chs ≡ true
              → ((p l : List Row) (x : Row) (s : SoFar) → x.chain ≡ row.chain → IsAt pass p ((l ++ x ∷ []) ++ map (before pass) rest) s → Apart l rest → After pass s (flat_map (lines_in pass) rest) (p ++ ((l ++ x ∷ []) ++ map (after pass) rest)))
              → After pass s (map (line_of row.chain) chs ++ flat_map (lines_in pass) rest) (p ++ (l ++ all_changed x chs ∷ map (after pass) rest))
          tell [] x p l s e at n a of may more =
              subst (λ q. After pass s (flat_map (lines_in pass) rest) (p ++ q)) (append_assoc l (x ∷ []) (map (after pass) rest))
              (more p l x s e (subst (λ q. IsAt pass p q s) (sym (append_assoc l (x ∷ []) (map (before pass) rest))) at) a)
          tell (ch ∷ chs) x p l s e at n a of may more =
              let now = map (before pass) rest in
              let may_ones = and_parts (may_change form d t x ch) (may_all (changed x ch) chs) may in
              let next = body pass (p ++ l) (changed x ch ∷ now) in
              let first = at.change row.chain ch of.0 ∙ skip p l (x ∷ now) row.chain ch n ∙ found (p ++ l) x now row.chain ch pass e of.0 may_ones.0 in
              let k = tell chs (changed x ch) (p ++ l) [] next (same_chain x ch ∙ e) (is_at pass (p ++ l) (changed x ch ∷ now)) refl (apart_none rest) of.1 may_ones.1 more in
              record {
                state = k.state;
                passed = k.passed;
                left = k.left;
                ran = first_step s next (line_of row.chain ch) (map (line_of row.chain) chs ++ flat_map (lines_in pass) rest) first ∙ k.ran;
                is = k.is;
                rows_are = k.rows_are ∙ append_assoc p l (all_changed (changed x ch) chs ∷ map (after pass) rest);
              }

      -- ---- What may be told of rows that fit

      module _ (names : List (List ℕ)) (knows : Knows form t d names) where
        rules_may : (x : Row) (rules : List Rule) → list_all (jumps_in form names) rules ≡ true → may_all x (map Adds rules) ≡ true
        rules_may x [] h = refl
        rules_may x (r ∷ rules) h =
            let k = and_parts (jumps_in form names r) (list_all (jumps_in form names) rules) h in
            and_from _ _ (jumps_known form t d names knows r ∙ k.0) (rules_may (changed x (Adds r)) rules k.1)

        pass_may : (pass : Pass) (row : Row) → fits form names row ≡ true → may_pass pass row ≡ true
        pass_may Ruling row f = rules_may (fresh row.chain) row.rules (and_parts (not row.removed || (may_remove form && is_empty row.rules)) (list_all (jumps_in form names) row.rules) f).1
        pass_may Removing row f =
            elim row.removed as (λ b. (not b || (may_remove form && is_empty row.rules)) ≡ true → may_all (record row { removed = false }) (cond b (Goes ∷ []) []) ≡ true) [
              | true ↦ λ h. let k = and_parts (may_remove form) (is_empty row.rules) h in and_from _ _ (and_from _ _ k.0 (and_from _ _ k.1 refl)) refl
              | false ↦ λ h. refl
            ] (and_parts (not row.removed || (may_remove form && is_empty row.rules)) (list_all (jumps_in form names) row.rules) f).0

        all_may : (pass : Pass) (rows : List Row) → list_all (fits form names) rows ≡ true → list_all (may_pass pass) rows ≡ true
        all_may pass [] f = refl
        all_may pass (r ∷ rows) f = let k = and_parts (fits form names r) (list_all (fits form names) rows) f in and_from _ _ (pass_may pass r k.0) (all_may pass rows k.1)

    -- ---- A section

    pub section_run : (last : Option TableName) (rows : List Row) → may_open form last t ≡ true → is_section form (record { table = t; rows = rows }) ≡ true
        → run (step form) (record { done = done; phase = phase.Between last }) (section_lines (record { table = t; rows = rows })) ≡ Some (record { done = done ++ (record { table = t; rows = rows }) ∷ []; phase = phase.Between (Some t) })
    section_run last rows opens h =
        let names = names_of rows in
        let p = and_parts (names_stand t (owed form t) None names) (not (is_empty rows) && list_all (fits form names) rows) h in
        let q = and_parts (not (is_empty rows)) (list_all (fits form names) rows) p.1 in
        let u = stand_distinct form t names p.0 in
        let d = all_known no_chains names in
        let knows = all_knows names [] no_chains (knows_none form t) in
        let begin = heading (owed form t) None no_chains [] in
        let declared = heading [] (last_of None names) d (map fresh names) in
        let rows_declared : map fresh names ≡ map (before Ruling) rows = map-map fresh (λ (r : Row). r.chain) rows in
        let at : IsAt d Ruling [] (map (before Ruling) rows) declared = subst (λ l. IsAt d Ruling [] l declared) rows_declared (heading_at d (map fresh names) (last_of None names)) in
        let m = pass_run d Ruling rows [] [] declared at (apart_none rows) u (all_may d names knows Ruling rows q.1) in
        let from : IsAt d Removing [] (map (before Removing) rows) m.state = record {
          change = λ c ch of. removing d m.state (map (before Removing) rows) (λ n. m.is.later n refl ∙ ap (λ l. seek d [] l n Goes) m.rows_are) c ch of;
          later = λ c of. absurd (cc);
          commit = m.is.commit ∙ ap (committed done t) m.rows_are;
        } in
        let n = pass_run d Removing rows [] [] m.state from (apart_none rows) u (all_may d names knows Removing rows q.1) in
        let over : SoFar = record { done = done ++ (record { table = t; rows = rows }) ∷ []; phase = phase.Between (Some t) } in
        let end : step form n.state line.Commit ≡ Some over =
        n.is.commit ∙ ap (committed done t) (n.rows_are ∙ map-id rows) ∙ ap (λ b. cond b None (Some over)) (not-true (is_empty rows) q.0) in
        first_step (record { done = done; phase = phase.Between last }) begin (line.Section t) (map (declared_part t) names ++ (flat_map rule_parts rows ++ flat_map removed_part rows) ++ line.Commit ∷ [])
        (ap (λ b. cond b (Some begin) None) opens)
        ∙ ap (run (step form) begin) (regrouped (map (declared_part t) names) (flat_map rule_parts rows) (flat_map removed_part rows))
        ∙ run_on (step form) begin declared (map (declared_part t) names) _ (declare_run names (owed form t) None no_chains [] (owed_built_in form t) p.0)
        ∙ run_on (step form) declared m.state (flat_map rule_parts rows) _ m.ran
        ∙ run_on (step form) m.state n.state (flat_map removed_part rows) _ n.ran
        ∙ first_step n.state over line.Commit [] end
      where
        regrouped : (a b c : List Line) → (a ++ (b ++ c)) ++ line.Commit ∷ [] ≡ a ++ (b ++ (c ++ line.Commit ∷ []))
        regrouped a b c = simp append_assoc

        heading_at : (d : TableParts) (l : List Row) (last : Option (List ℕ)) → IsAt d Ruling [] l (heading [] last d l)
        heading_at d l last = record { change = λ c ch of. elim ch as (λ ch. step form (heading [] last d l) (line_of c ch) ≡ seek d [] l c ch) [ Adds rule ↦ refl | Goes ↦ refl ]; later = λ c of. refl; commit = refl }

        removing : (d : TableParts) (s : SoFar) (l : List Row) → ((c : List ℕ) → step form s (line.Removed c) ≡ seek d [] l c Goes) → (c : List ℕ) (ch : Change) → pass_of ch ≡ Removing → step form s (line_of c ch) ≡ seek d [] l c ch
        removing d s l h c Goes of = h c
        removing d s l h c (Adds rule) of = absurd (cc)

  -- ---- All sections

  -- the last section's table
  abbrev pub last_in : Option TableName → List Section → Option TableName
  last_in last [] = last
  last_in last (s ∷ ss) = last_in (Some s.table) ss

  pub sections_end : (ss : List Section) (last : Option TableName) → sections_stand form last ss ≡ true → may_end form (last_in last ss) ≡ true
  sections_end [] last h = h
  sections_end (s ∷ ss) last h =
      sections_end ss (Some s.table) (and_parts (is_section form s) (sections_stand form (Some s.table) ss) (and_parts (may_open form last s.table) (is_section form s && sections_stand form (Some s.table) ss) h).1).1

  pub sections_run : (ss done : List Section) (last : Option TableName) → sections_stand form last ss ≡ true
      → run (step form) (record { done = done; phase = phase.Between last }) (lines_of ss) ≡ Some (record { done = done ++ ss; phase = phase.Between (last_in last ss) })
  sections_run [] done last h = ap (λ l. Some (record { done = l; phase = phase.Between last })) (sym (append-nil done))
  sections_run (s ∷ ss) done last h =
      let p = and_parts (may_open form last s.table) (is_section form s && sections_stand form (Some s.table) ss) h in
      let q = and_parts (is_section form s) (sections_stand form (Some s.table) ss) p.1 in
      run_on (step form) (record { done = done; phase = phase.Between last }) (record { done = done ++ s ∷ []; phase = phase.Between (Some s.table) }) (section_lines s) (lines_of ss) (section_run done s.table last s.rows p.0 q.0)
      ∙ sections_run ss (done ++ s ∷ []) (Some s.table) q.1
      ∙ ap (λ l. Some (record { done = l; phase = phase.Between (last_in (Some s.table) ss) })) (append_assoc done (s ∷ []) ss)
