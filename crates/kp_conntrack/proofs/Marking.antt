-- Rows that are marked by where they were sent to.
use Rattle.std.proofs.Common.{◌≡◌, ◌≢◌, ℕ, ◌+◌, ◌<◌, ◌≤◌, ◌==◌, ◌&&◌, ◌||◌, Bool, true, false, not, List, [], ◌∷◌, ◌++◌, map, filter, length, set, cond, slice_get, Option, Some, None, IfSome, refl, sym, ap, ◌∙◌, subst, inl, inr, arith, eq-eqb, length-set, get_or-set_same, get_or-set_other}
use Rattle.std.specs.List.{list_any}
use Rattle.std.proofs.lemmas.Bool.{cases_eq, false≢true}
use Rattle.std.proofs.lemmas.List.Folds.{list_any-append}
use Rattle.std.proofs.lemmas.List.Sums.{count_by-le-length, length-filter}
use Rattle.std.proofs.lemmas.Option.{slice_get-get_or}
use Rattle.futures.specs.LinkedLists.{IsIn}
use Rattle.kp_base.specs.Keys.{same_proto}
use Rattle.kp_base.specs.declared.key.Endpoint.{Endpoint}
use Rattle.kp_base.specs.declared.port.Proto.TheVariants.{Udp}
use Rattle.kp_links.specs.Lists.{Lists, rows_of}
use Rattle.kp_track_defs.specs.declared.flow.Entry.{Entry}
use Rattle.kp_track_defs.specs.Kept.{is_sent_to}
use Rattle.kp_track_defs.specs.Stands.{is_endpoint}
use Rattle.kp_track_defs.specs.Tracking.{loses}
use Rattle.kp_conntrack.specs.Buckets.{endpoint_bucket, endpoint_place, is_placed}
use Rattle.kp_conntrack.specs.declared.index.Index.{Index}
use Rattle.kp_conntrack.specs.Laid.{IsIndexed, IsLaid, entry_at, kept_rows, no_entry, passes_at, passes_if}
use Rattle.kp_conntrack.specs.Marked.{AreMarkedBy, AreMarkedToo, HasRows, IsMarking, goes, is_marked}
use Rattle.kp_conntrack.proofs.Found.{endpoint_here}
use Rattle.kp_conntrack.proofs.Walked.{into_filter, walk_end, walk_first, walk_on, walk_over, walk_wider}

-- a test of a row is that of its entry
pub passes_is : (test : Entry → Bool) (rows : List Entry) (row : ℕ) → row < length rows
    → passes_at test rows row ≡ test (entry_at rows row)
passes_is test rows row within = ap (passes_if test) (slice_get-get_or rows row no_entry within)

-- no list has more rows than there are
pub few_listed : (rows : List Entry) (order : Lists) (index : Index) (m : ℕ) → IsLaid rows order index m
    → HasRows rows index.endpoints
few_listed rows order index m laid = record {
  len = laid.len;
  sized = laid.found.endpoints.sized;
  few = λ list.
      let q : ℕ → Bool = λ row. is_placed list (endpoint_place (entry_at rows row)) in
      omega (arith, ap length (laid.found.endpoints.here list), length-filter q (kept_rows order), count_by-le-length q (kept_rows order), laid.ordered.total);
}

-- ---- One endpoint

-- a row that comes next
pub one_within : (next : Option ℕ) (row : ℕ) → next ≡ Some row → IfSome next (λ row. row < 65536) → row < 65536
one_within next row some within = subst (λ (o : Option ℕ). IfSome o (λ row. row < 65536)) some within

-- a row that is found is one of them
pub row_among : (rows : List Entry) (lists : Lists) → HasRows rows lists → (o : Option ℕ)
    → IfSome o (λ row. row < lists.rows) → IfSome o (λ row. row < 65536)
row_among rows lists has o within = subst (λ (n : ℕ). IfSome o (λ row. row < n)) has.sized.rows within

-- who was sent to an endpoint stands in its list
pub sent_in : (rows : List Entry) (kept : List ℕ) (lists : Lists) → IsIndexed rows kept endpoint_place lists
    → (to : Endpoint) (b : ℕ) → b ≡ endpoint_bucket to → (row : ℕ) → IsIn row kept
    → is_sent_to to (entry_at rows row) ≡ true → IsIn row (rows_of lists b)
sent_in rows kept lists is to b bucket row found sent =
    let place : endpoint_place (entry_at rows row) ≡ Some b = endpoint_here to (entry_at rows row) sent ∙ ap (λ (n : ℕ). Some n) (sym bucket) in
    subst (IsIn row) (sym (is.here b))
    (into_filter (λ r. is_placed b (endpoint_place (entry_at rows r))) row kept found (ap (is_placed b) place ∙ eq-eqb b b refl))

is_either : (old sent new : Bool) → (old ≡ true → new ≡ true) → (new ≡ true → (old || sent) ≡ true)
    → (sent ≡ true → new ≡ true) → new ≡ (old || sent)
is_either true sent new stays only all = stays refl
is_either false true new stays only all = all refl
is_either false false true stays only all = sym (only refl)
is_either false false false stays only all = refl

or_marked : (sent marked : Bool) → (not sent || marked) ≡ true → sent ≡ true → marked ≡ true
or_marked true marked either is = either
or_marked false marked either is = cc

either_left : (a b : Bool) → a ≡ true → (a || b) ≡ true
either_left true b is = refl
either_left false b is = cc

by_mark : (sent a b : Bool) → (a ≡ true → b ≡ true) → (not sent || a) ≡ true → (not sent || b) ≡ true
by_mark true a b more either = more either
by_mark false a b more either = refl

module _ (rows : List Entry) (lists : Lists) (to : Endpoint) (b : ℕ) (old : List Bool) where
  abbrev Marking : List Bool → Option ℕ → ℕ → Type 0
  Marking now next turn = IsMarking rows to (rows_of lists b) old now next turn

  -- none was asked
  pub marking_first : (next : Option ℕ) → next ≡ slice_get (rows_of lists b) 0 → HasRows rows lists → Marking old next 0
  marking_first next here has = record {
    walked = walk_first _ (rows_of lists b) next here (has.few b);
    stays = λ row was. was;
    only = λ row was. either_left (is_marked old row) (is_sent_to to (entry_at rows row)) was;
  }

  -- all were asked
  pub all_marked : (now : List Bool) (next : Option ℕ) (turn : ℕ) → Marking now next turn
      → ((row : ℕ) → IsIn row (rows_of lists b) → (not (is_sent_to to (entry_at rows row)) || is_marked now row) ≡ true)
      → b ≡ endpoint_bucket to → (kept : List ℕ) → IsIndexed rows kept endpoint_place lists
      → AreMarkedToo (is_sent_to to) rows kept old now
  all_marked now next turn is all bucket kept indexed row found =
      is_either (is_marked old row) (is_sent_to to (entry_at rows row)) (is_marked now row) (is.stays row) (is.only row)
      (λ sent. or_marked (is_sent_to to (entry_at rows row)) (is_marked now row) (all row (sent_in rows kept lists indexed to b bucket row found sent)) sent)

  pub marked_at_end : (now : List Bool) (next : Option ℕ) → next ≡ None → (turn : ℕ) → Marking now next turn
      → b ≡ endpoint_bucket to → (kept : List ℕ) → IsIndexed rows kept endpoint_place lists
      → AreMarkedToo (is_sent_to to) rows kept old now
  marked_at_end now next none turn is = all_marked now next turn is (walk_end _ _ next none turn is.walked)

  pub marking_at : (now : List Bool) (next : Option ℕ) (row : ℕ) → next ≡ Some row → (turn : ℕ) → Marking now next turn → Marking now (Some row) turn
  marking_at now next row some turn is = subst (λ (o : Option ℕ). Marking now o turn) some is

  pub marked_over : (now : List Bool) (next : Option ℕ) (turn : ℕ) → Marking now next turn → 65536 ≤ turn
      → b ≡ endpoint_bucket to → (kept : List ℕ) → IsIndexed rows kept endpoint_place lists
      → AreMarkedToo (is_sent_to to) rows kept old now
  marked_over now next turn is over = all_marked now next turn is (walk_over _ _ next turn is.walked over)

  module _ (now : List Bool) (row turn : ℕ) (is : Marking now (Some row) turn) (next : Option ℕ) (after : (before rest : List ℕ) → rows_of lists b ≡ before ++ row ∷ rest → next ≡ slice_get rest 0) where
    marked_so : row < length now
        → Marking (set now row (is_marked now row || is_sent_to to (entry_at rows row))) next (turn + 1)
    marked_so within =
        let sent : ℕ → Bool = λ other. is_sent_to to (entry_at rows other) in
        let mark = is_marked now row || sent row in
        let here : is_marked (set now row mark) row ≡ mark = get_or-set_same now row mark false within in
        let others : (other : ℕ) → other ≢ row → is_marked (set now row mark) other ≡ is_marked now other =
        λ other differs. get_or-set_other now row other mark false differs in
        let more : (other : ℕ) → is_marked now other ≡ true → is_marked (set now row mark) other ≡ true =
        λ other was. elim (cases_eq other row) [
          | inl same ↦ ap (is_marked (set now row mark)) same ∙ here ∙ either_left (is_marked now row) (sent row) (ap (is_marked now) (sym same) ∙ was)
          | inr differs ↦ others other differs ∙ was
        ] in
        record {
          walked = walk_on _ _ row turn
              (walk_wider _ _ _ (Some row) turn is.walked (λ other either. by_mark (sent other) _ _ (more other) either))
              next after (ap (λ m. not (sent row) || m) here ∙ asked (sent row) (is_marked now row));
          stays = λ other was. more other (is.stays other was);
          only = λ other marked. elim (cases_eq other row) [
            | inl same ↦
                subst (λ r. (is_marked old r || sent r) ≡ true) (sym same)
                (of_row (is_marked old row) (sent row) (is_marked now row) (is.only row) (sym here ∙ ap (is_marked (set now row mark)) (sym same) ∙ marked))
            | inr differs ↦ is.only other (sym (others other differs) ∙ marked)
          ];
        }
      where
        asked : (s m : Bool) → (not s || (m || s)) ≡ true
        asked true true = refl
        asked true false = refl
        asked false m = refl

        of_row : (o s m : Bool) → (m ≡ true → (o || s) ≡ true) → (m || s) ≡ true → (o || s) ≡ true
        of_row true s m only either = refl
        of_row false true m only either = refl
        of_row false false true only either = only refl
        of_row false false false only either = cc

    pub marked_on : (passes : Bool) → passes ≡ is_sent_to to (entry_at rows row) → row < 65536 → length now ≡ 65536
        → (marked : List Bool) → marked ≡ set now row (is_marked now row || passes) → Marking marked next (turn + 1)
    marked_on passes same low len marked set_to =
        subst (λ (ms : List Bool). Marking ms next (turn + 1)) (sym (set_to ∙ ap (λ b. set now row (is_marked now row || b)) same))
        (marked_so (omega (arith, low, len)))

-- ---- Many endpoints

one_more : (test : Endpoint → Bool) (others : List Endpoint) (to : Endpoint)
    → list_any test (others ++ to ∷ []) ≡ (list_any test others || test to)
one_more test others to = list_any-append test others (to ∷ []) ∙ ap (λ b. list_any test others || b) (or_false (test to))
  where
    or_false : (b : Bool) → (b || false) ≡ b
    or_false true = refl
    or_false false = refl

pub marked_more : (rows : List Entry) (kept : List ℕ) (others : List Endpoint) (to : Endpoint) (old new : List Bool)
    → AreMarkedBy rows kept others old → AreMarkedToo (is_sent_to to) rows kept old new
    → AreMarkedBy rows kept (others ++ to ∷ []) new
marked_more rows kept others to old new before too row found =
    too row found ∙ ap (λ m. m || is_sent_to to (entry_at rows row)) (before row found)
    ∙ sym (one_more (λ e. is_sent_to e (entry_at rows row)) others to)

-- ---- Who goes

-- by the marks those go whose endpoint is none of these
pub goes_is : (endpoints : List Endpoint) (e : Entry) → goes (list_any (λ f. is_sent_to f e) endpoints) e
    ≡ loses (λ f. list_any (is_endpoint f) endpoints) e
goes_is endpoints e = by_proto (same_proto e.connection.proto Udp)
  where
    same_any : (es : List Endpoint) → list_any (λ f. true && is_endpoint e.endpoint f) es ≡ list_any (is_endpoint e.endpoint) es
    same_any [] = refl
    same_any (f ∷ es) = ap (λ b. is_endpoint e.endpoint f || b) (same_any es)

    by_proto : (b : Bool) → (b && not (list_any (λ f. b && is_endpoint e.endpoint f) endpoints)) ≡ (b && not (list_any (is_endpoint e.endpoint) endpoints))
    by_proto true = ap not (same_any endpoints)
    by_proto false = refl
