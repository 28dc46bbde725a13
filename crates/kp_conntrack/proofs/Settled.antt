-- Rows that are freed along a walk.
use Rattle.std.proofs.Common.{◌≡◌, ℕ, ◌+◌, ◌<◌, ◌≤◌, Bool, true, false, not, List, [], ◌∷◌, ◌++◌, map, filter, length, slice_get, Option, Some, None, refl, sym, ap, ◌∙◌, subst, arith}
use Rattle.std.specs.List.{list_any}
use Rattle.futures.specs.LinkedLists.{IsApart, IsIn, without}
use Rattle.futures.proofs.LinkLemmas.{IsIn-without}
use Rattle.kp_base.specs.declared.key.Endpoint.{Endpoint}
use Rattle.kp_links.specs.Lists.{IsMoved, Lists, rows_of}
use Rattle.kp_track_defs.specs.declared.flow.Entry.{Entry}
use Rattle.kp_track_defs.specs.Kept.{Kept, is_sent_to, kept_after_sync}
use Rattle.kp_track_defs.specs.Stands.{is_endpoint}
use Rattle.kp_track_defs.specs.Tracking.{loses}
use Rattle.kp_conntrack.specs.Buckets.{endpoint_bucket, endpoint_place, is_placed}
use Rattle.kp_conntrack.specs.declared.index.Index.{Index}
use Rattle.kp_conntrack.specs.Laid.{IsIndexed, IsLaid, IsRemoved, entries_in, entry_at, kept_rows}
use Rattle.kp_conntrack.specs.Marked.{AreMarkedBy, IsFreedIf, IsWalked, goes, is_marked}
use Rattle.kp_conntrack.proofs.Among.{in_filter}
use Rattle.kp_conntrack.proofs.Dead.{all_pass}
use Rattle.kp_conntrack.proofs.Dropped.{same_left, still_laid}
use Rattle.kp_conntrack.proofs.Marking.{few_listed, goes_is, sent_in}
use Rattle.kp_conntrack.proofs.Walked.{apart_filter, walk_end, walk_first, walk_in, walk_on, walk_out, walk_over}

-- an endpoint is one of these
abbrev pub stands_in : List Endpoint → Endpoint → Bool
stands_in endpoints f = list_any (is_endpoint f) endpoints

-- ---- What was sent to an endpoint

module _ (rows : List Entry) (order : Lists) (index : Index) (m : ℕ) (laid : IsLaid rows order index m) (to : Endpoint) (b : ℕ) (bucket : b ≡ endpoint_bucket to) where
  abbrev unsent : ℕ → Bool
  unsent row = not (is_sent_to to (entry_at rows row))

  -- the list of an endpoint has kept rows alone
  pub bucket_kept : (row : ℕ) → IsIn row (rows_of index.endpoints b) → IsIn row (kept_rows order)
  bucket_kept row found =
      in_filter (λ r. is_placed b (endpoint_place (entry_at rows r))) row (kept_rows order)
      (subst (IsIn row) (laid.found.endpoints.here b) found)

  pub bucket_first : (next : Option ℕ) → next ≡ slice_get (rows_of index.endpoints b) 0
      → IsWalked unsent (rows_of index.endpoints b) next 0
  bucket_first next here = walk_first unsent (rows_of index.endpoints b) next here ((few_listed rows order index m laid).few b)

  -- a row that is freed
  pub bucket_out : (row turn : ℕ) → IsWalked unsent (rows_of index.endpoints b) (Some row) turn → (next : Option ℕ)
      → ((before rest : List ℕ) → rows_of index.endpoints b ≡ before ++ row ∷ rest → next ≡ slice_get rest 0)
      → (new_index : Index) → IsRemoved index new_index row
      → IsWalked unsent (rows_of new_index.endpoints b) next (turn + 1)
  bucket_out row turn is next after new_index removed =
      subst (λ xs. IsWalked unsent xs next (turn + 1)) (sym (removed.endpoints.left b))
      (walk_out unsent (rows_of index.endpoints b) row turn is next after
      (subst IsApart (sym (laid.found.endpoints.here b)) (apart_filter _ (kept_rows order) laid.ordered.apart)))

  -- a row that is freed where it was sent there
  pub bucket_on : (row turn : ℕ) → IsWalked unsent (rows_of index.endpoints b) (Some row) turn → (next : Option ℕ)
      → ((before rest : List ℕ) → rows_of index.endpoints b ≡ before ++ row ∷ rest → next ≡ slice_get rest 0)
      → (goes_out : Bool) → goes_out ≡ is_sent_to to (entry_at rows row)
      → (new_order : Lists) (new_index : Index) → IsFreedIf goes_out order new_order index new_index row
      → ((moment : ℕ) → IsLaid rows order index moment → IsLaid rows new_order new_index moment)
      × (filter (λ (e : Entry). not (is_sent_to to e)) (entries_in rows new_order) ≡ filter (λ (e : Entry). not (is_sent_to to e)) (entries_in rows order))
      × IsWalked unsent (rows_of new_index.endpoints b) next (turn + 1)
  bucket_on row turn is next after true sent new_order new_index freed =
      let found = bucket_kept row (walk_in unsent (rows_of index.endpoints b) row turn is) in (
        λ moment before. still_laid rows order new_order index new_index row freed.0 freed.1 moment before found,
        same_left rows order new_order index new_index row freed.0 freed.1 m laid found (λ (e : Entry). not (is_sent_to to e)) (ap not (sym sent)),
        bucket_out row turn is next after new_index freed.1,
      )
  bucket_on row turn is next after false sent new_order new_index freed = (
    λ moment before.
        subst (λ (o : Lists). IsLaid rows o new_index moment) (sym freed.0)
        (subst (λ (x : Index). IsLaid rows order x moment) (sym freed.1) before),
    ap (λ o. filter (λ (e : Entry). not (is_sent_to to e)) (entries_in rows o)) freed.0,
    subst (λ (x : Index). IsWalked unsent (rows_of x.endpoints b) next (turn + 1)) (sym freed.1)
        (walk_on unsent (rows_of index.endpoints b) row turn is next after (ap not (sym sent))),
  )

  -- where none of the list was sent there, none is kept that was
  pub all_unsent : ((row : ℕ) → IsIn row (rows_of index.endpoints b) → unsent row ≡ true)
      → filter (λ (e : Entry). not (is_sent_to to e)) (entries_in rows order) ≡ entries_in rows order
  all_unsent all =
      all_pass (entry_at rows) (λ (e : Entry). not (is_sent_to to e)) (kept_rows order) (λ row found. by_test row found (is_sent_to to (entry_at rows row)) refl)
    where
      by_test : (row : ℕ) → IsIn row (kept_rows order) → (s : Bool) → is_sent_to to (entry_at rows row) ≡ s → unsent row ≡ true
      by_test row found true sent = all row (sent_in rows (kept_rows order) index.endpoints laid.found.endpoints to b bucket row found sent)
      by_test row found false sent = ap not sent

  pub bucket_at_end : (next : Option ℕ) → next ≡ None → (turn : ℕ) → IsWalked unsent (rows_of index.endpoints b) next turn
      → filter (λ (e : Entry). not (is_sent_to to e)) (entries_in rows order) ≡ entries_in rows order
  bucket_at_end next none turn is = all_unsent (walk_end unsent (rows_of index.endpoints b) next none turn is)

  pub bucket_at : (next : Option ℕ) (row : ℕ) → next ≡ Some row → (turn : ℕ) → IsWalked unsent (rows_of index.endpoints b) next turn
      → IsWalked unsent (rows_of index.endpoints b) (Some row) turn
  bucket_at next row some turn is = subst (λ (o : Option ℕ). IsWalked unsent (rows_of index.endpoints b) o turn) some is

-- ---- What isn't marked

module _ (rows : List Entry) (marks : List Bool) where
  abbrev stays : ℕ → Bool
  stays row = not (goes (is_marked marks row) (entry_at rows row))

  module _ (first order : Lists) (index : Index) (m : ℕ) (laid : IsLaid rows order index m) (among : (row : ℕ) → IsIn row (kept_rows order) → IsIn row (kept_rows first)) (endpoints : List Endpoint) (marked : AreMarkedBy rows (kept_rows first) endpoints marks) where
    by_marks : (row : ℕ) → IsIn row (kept_rows order) → not (loses (stands_in endpoints) (entry_at rows row)) ≡ stays row
    by_marks row found =
        sym (ap not (ap (λ b. goes b (entry_at rows row)) (marked row (among row found)) ∙ goes_is endpoints (entry_at rows row)))

    -- where all stay
    pub all_stay : ((row : ℕ) → IsIn row (kept_rows order) → stays row ≡ true)
        → filter (λ (e : Entry). not (loses (stands_in endpoints) e)) (entries_in rows order) ≡ entries_in rows order
    all_stay all =
        all_pass (entry_at rows) (λ (e : Entry). not (loses (stands_in endpoints) e)) (kept_rows order)
        (λ row found. by_marks row found ∙ all row found)

    -- a row that is freed isn't missed
    pub unmarked_gone : (row : ℕ) → IsIn row (kept_rows order) → stays row ≡ false
        → (new_order : Lists) (new_index : Index) → IsMoved order new_order 1 row → IsRemoved index new_index row
        → filter (λ (e : Entry). not (loses (stands_in endpoints) e)) (entries_in rows new_order)
        ≡ filter (λ (e : Entry). not (loses (stands_in endpoints) e)) (entries_in rows order)
    unmarked_gone row found goes_out new_order new_index moved removed =
        same_left rows order new_order index new_index row moved removed m laid found
        (λ (e : Entry). not (loses (stands_in endpoints) e)) (by_marks row found ∙ goes_out)

-- ---- A step along all kept rows

-- the rows that are left were there
left_were : (order new_order : Lists) (row : ℕ) → IsMoved order new_order 1 row
    → (other : ℕ) → IsIn other (kept_rows new_order) → IsIn other (kept_rows order)
left_were order new_order row moved other found =
    (IsIn-without row other (kept_rows order) (subst (IsIn other) (moved.others 0 (λ same. cc)) found)).0

-- what is so after some rows
pub record IsSettling (rows : List Entry) (marks : List Bool) (first order : Lists) (first_index index : Index) (next : Option ℕ) (turn : ℕ) : Type 0 where
  pub laid : (moment : ℕ) → IsLaid rows first first_index moment → IsLaid rows order index moment
  pub left : (endpoints : List Endpoint) → AreMarkedBy rows (kept_rows first) endpoints marks
      → filter (λ (e : Entry). not (loses (stands_in endpoints) e)) (entries_in rows order)
      ≡ filter (λ (e : Entry). not (loses (stands_in endpoints) e)) (entries_in rows first)
  pub walked : IsWalked (λ row. not (goes (is_marked marks row) (entry_at rows row))) (kept_rows order) next turn
  pub among : (row : ℕ) → IsIn row (kept_rows order) → IsIn row (kept_rows first)

module _ (rows : List Entry) (marks : List Bool) (first : Lists) (first_index : Index) (m : ℕ) (laid : IsLaid rows first first_index m) where
  abbrev Settling : Lists → Index → Option ℕ → ℕ → Type 0
  Settling order index next turn = IsSettling rows marks first order first_index index next turn

  pub settling_first : (next : Option ℕ) → next ≡ slice_get (kept_rows first) 0 → Settling first first_index next 0
  settling_first next here = record {
    laid = λ moment before. before;
    left = λ endpoints marked. refl;
    walked = walk_first _ (kept_rows first) next here (let total = laid.ordered.total in omega (arith, total));
    among = λ row found. found;
  }

  pub settling_on : (order : Lists) (index : Index) (row turn : ℕ) → Settling order index (Some row) turn → (next : Option ℕ)
      → ((before rest : List ℕ) → kept_rows order ≡ before ++ row ∷ rest → next ≡ slice_get rest 0)
      → (lost : Bool) → lost ≡ goes (is_marked marks row) (entry_at rows row)
      → (new_order : Lists) (new_index : Index) → IsFreedIf lost order new_order index new_index row
      → Settling new_order new_index next (turn + 1)
  settling_on order index row turn is next after true gone new_order new_index freed =
      let now = is.laid m laid in
      let found = walk_in _ (kept_rows order) row turn is.walked in
      record {
        laid = λ moment before. still_laid rows order new_order index new_index row freed.0 freed.1 moment (is.laid moment before) found;
        left = λ endpoints marked.
            unmarked_gone rows marks first order index m now is.among endpoints marked row found (ap not (sym gone)) new_order new_index freed.0 freed.1
            ∙ is.left endpoints marked;
        walked = subst (λ xs. IsWalked (λ r. not (goes (is_marked marks r) (entry_at rows r))) xs next (turn + 1)) (sym (freed.0.others 0 (λ same. cc)))
            (walk_out _ (kept_rows order) row turn is.walked next after now.ordered.apart);
        among = λ other there. is.among other (left_were order new_order row freed.0 other there);
      }
  settling_on order index row turn is next after false gone new_order new_index freed =
      subst (λ (o : Lists). Settling o new_index next (turn + 1)) (sym freed.0)
      (subst (λ (x : Index). Settling order x next (turn + 1)) (sym freed.1)
      (record {
        laid = is.laid;
        left = is.left;
        walked = walk_on _ (kept_rows order) row turn is.walked next after (ap not (sym gone));
        among = is.among;
      }))

  all_settled : (order : Lists) (index : Index) (next : Option ℕ) (turn : ℕ) → Settling order index next turn
      → ((row : ℕ) → IsIn row (kept_rows order) → not (goes (is_marked marks row) (entry_at rows row)) ≡ true)
      → (endpoints : List Endpoint) → AreMarkedBy rows (kept_rows first) endpoints marks
      → entries_in rows order ≡ filter (λ (e : Entry). not (loses (stands_in endpoints) e)) (entries_in rows first)
  all_settled order index next turn is all endpoints marked =
      sym (all_stay rows marks first order index m (is.laid m laid) is.among endpoints marked all) ∙ is.left endpoints marked

  pub settling_at : (order : Lists) (index : Index) (next : Option ℕ) (row : ℕ) → next ≡ Some row → (turn : ℕ)
      → Settling order index next turn → Settling order index (Some row) turn
  settling_at order index next row some turn is = subst (λ (o : Option ℕ). Settling order index o turn) some is

  pub settled_at_end : (order : Lists) (index : Index) (next : Option ℕ) → next ≡ None → (turn : ℕ) → Settling order index next turn
      → (endpoints : List Endpoint) → AreMarkedBy rows (kept_rows first) endpoints marks
      → entries_in rows order ≡ filter (λ (e : Entry). not (loses (stands_in endpoints) e)) (entries_in rows first)
  settled_at_end order index next none turn is = all_settled order index next turn is (walk_end _ (kept_rows order) next none turn is.walked)

  pub settled_over : (order : Lists) (index : Index) (next : Option ℕ) (turn : ℕ) → Settling order index next turn → 65536 ≤ turn
      → (endpoints : List Endpoint) → AreMarkedBy rows (kept_rows first) endpoints marks
      → entries_in rows order ≡ filter (λ (e : Entry). not (loses (stands_in endpoints) e)) (entries_in rows first)
  settled_over order index next turn is over = all_settled order index next turn is (walk_over _ (kept_rows order) next turn is.walked over)

-- ---- What a table leaves

-- what is kept once all rows were looked at
pub settled_entries : (rows slice : List Entry) → slice ≡ rows → (order : Lists) (index : Index) (m : ℕ) → IsLaid rows order index m
    → (endpoints : List Endpoint) (marks : List Bool)
    → ((kept : List ℕ) → IsIndexed slice kept endpoint_place index.endpoints → AreMarkedBy slice kept endpoints marks)
    → (new_order : Lists)
    → ((es : List Endpoint) → AreMarkedBy slice (kept_rows order) es marks
    → entries_in slice new_order ≡ filter (λ (e : Entry). not (loses (stands_in es) e)) (entries_in slice order))
    → ◌≡◌ {A = Kept} (record { entries = entries_in rows new_order; moment = m })
    (kept_after_sync (stands_in endpoints) (record { entries = entries_in rows order; moment = m }))
settled_entries rows slice same order index m laid endpoints marks marked new_order left =
    let are_marked = marked (kept_rows order) (subst (λ rs. IsIndexed rs (kept_rows order) endpoint_place index.endpoints) (sym same) laid.found.endpoints) in
    let is = subst (λ rs. entries_in rs new_order ≡ filter (λ (e : Entry). not (loses (stands_in endpoints) e)) (entries_in rs order)) same (left endpoints are_marked) in
    λ i. record { entries = is i; moment = m }
