-- What is left once the entry of a row was heard of, and once an entry was kept.
use Rattle.std.proofs.Common.{◌≡◌, ℕ, ◌+◌, ◌<◌, nat_lt, Bool, true, false, List, [], ◌∷◌, ◌++◌, map, length, set, cond, slice_get, Option, Some, None, option_map, refl, sym, ap, ◌∙◌, subst, arith}
use Rattle.std.specs.List.{find}
use Rattle.std.specs.Option.{option_to_list}
use Rattle.std.proofs.lemmas.List.{append-nil, length-map}
use Rattle.std.proofs.lemmas.Bool.Decides.{nat_tests}
use Rattle.futures.specs.LinkedLists.{IsIn}
use Rattle.kp_links.specs.Lists.{IsMoved, Lists, rows_of}
use Rattle.kp_track_defs.specs.declared.flow.Connection.{Connection}
use Rattle.kp_track_defs.specs.declared.flow.Entry.{Entry}
use Rattle.kp_track_defs.specs.declared.flow.Owned.{Owned}
use Rattle.kp_track_defs.specs.Entries.{change_first, has_connection, is_replied_by, renewed}
use Rattle.kp_track_defs.specs.Kept.{Kept}
use Rattle.kp_track_defs.specs.Tracking.{most_openers}
use Rattle.kp_conntrack.specs.Buckets.{age_list, connection_bucket, connection_place, reply_place}
use Rattle.kp_conntrack.specs.declared.index.Index.{Index}
use Rattle.kp_conntrack.specs.Laid.{IsLaid, entries_in, entry_at, free_rows, kept_rows, passes_at, with_entry, with_found}
use Rattle.kp_conntrack.proofs.Dropped.{no_first}
use Rattle.kp_conntrack.proofs.Found.{connection_here, entry_found, found_here, found_kept, reply_here}
use Rattle.kp_conntrack.proofs.Renewed.{entries_renewed, laid_renewed}

module _ (rows : List Entry) (order : Lists) (index : Index) (moment : ℕ) (laid : IsLaid rows order index moment) where
  -- what contracts see
  abbrev kept : Kept
  kept = record { entries = entries_in rows order; moment = moment }

  module _ (c : Connection) (b : ℕ) (bucket : b ≡ connection_bucket c) where
    pub connection_found : (slice : List Entry) → slice ≡ rows → (o : Option ℕ)
        → o ≡ find (passes_at (has_connection c) slice) (rows_of index.connections b)
        → find (λ row. has_connection c (entry_at rows row)) (kept_rows order) ≡ o
    connection_found slice is o found =
        sym (found_here rows order index moment laid connection_place index.connections b (has_connection c)
        (λ e h. connection_here c e h ∙ ap (λ (n : ℕ). Some n) (sym bucket)) laid.found.connections)
        ∙ sym (found ∙ ap (λ rs. find (passes_at (has_connection c) rs) (rows_of index.connections b)) is)

    pub reply_found : (slice : List Entry) → slice ≡ rows → (o : Option ℕ)
        → o ≡ find (passes_at (is_replied_by c) slice) (rows_of index.replies b)
        → find (λ row. is_replied_by c (entry_at rows row)) (kept_rows order) ≡ o
    reply_found slice is o found =
        sym (found_here rows order index moment laid reply_place index.replies b (is_replied_by c)
        (λ e h. reply_here c e h ∙ ap (λ (n : ℕ). Some n) (sym bucket)) laid.found.replies)
        ∙ sym (found ∙ ap (λ rs. find (passes_at (is_replied_by c) rs) (rows_of index.replies b)) is)

  module _ (test : Entry → Bool) (answer : Entry → Owned) where
    -- nothing found
    pub no_answer : find (λ row. test (entry_at rows row)) (kept_rows order) ≡ None
        → None ≡ option_map answer (find test (entries_in rows order))
    no_answer none = sym (ap (option_map answer) (entry_found rows order index moment laid test None none))

    unchanged : (es : List Entry) → find test es ≡ None → es ≡ change_first test (renewed moment) es
    unchanged [] none = refl
    unchanged (e ∷ es) none = step (test e) none (unchanged es)
      where
        step : (t : Bool) → cond t (Some e) (find test es) ≡ None → (find test es ≡ None → es ≡ change_first test (renewed moment) es)
            → e ∷ es ≡ cond t (renewed moment e ∷ es) (e ∷ change_first test (renewed moment) es)
        step true none more = cc
        step false none more = ap (λ xs. e ∷ xs) (more none)

    pub nothing_changed : find (λ row. test (entry_at rows row)) (kept_rows order) ≡ None → kept ≡ with_found test kept
    nothing_changed none =
        let same = unchanged (entries_in rows order) (entry_found rows order index moment laid test None none) in
        λ i. record { entries = same i; moment = moment }

    -- a row found
    module _ (row : ℕ) (found : find (λ row. test (entry_at rows row)) (kept_rows order) ≡ Some row) where
      pub found_answer : (e : Entry) → e ≡ entry_at rows row → Some (answer e) ≡ option_map answer (find test (entries_in rows order))
      found_answer e is =
          ap (λ x. Some (answer x)) is ∙ sym (ap (option_map answer) (entry_found rows order index moment laid test (Some row) found))

      module _ (new_rows : List Entry) (ages : Lists) (changed : new_rows ≡ set rows row (renewed moment (entry_at rows row))) (moved : IsMoved index.ages ages (age_list (entry_at rows row)) row) where
        in_kept : IsIn row (kept_rows order)
        in_kept = (found_kept rows order index moment laid test row found).0

        pub laid_heard : IsLaid new_rows order (record index { ages = ages }) moment
        laid_heard =
            subst (λ rs. IsLaid rs order (record index { ages = ages }) moment) (sym changed)
            (laid_renewed rows order index ages moment moment row laid in_kept (omega arith) moved)

        pub kept_heard_of : ◌≡◌ {A = Kept} (record { entries = entries_in new_rows order; moment = moment }) (with_found test kept)
        kept_heard_of =
            let es = ap (λ rs. entries_in rs order) changed
            ∙ entries_renewed rows order index ages moment moment row laid in_kept (omega arith) moved test found in
            λ i. record { entries = es i; moment = moment }

  -- ---- Room

  count_is : length (entries_in rows order) ≡ length (kept_rows order)
  count_is = length-map (kept_rows order) (entry_at rows)

  -- without a free row there is no room
  pub no_room : None ≡ slice_get (free_rows order) 0 → nat_lt (length (entries_in rows order)) most_openers ≡ false
  no_room none =
      let free = no_first (free_rows order) none in
      let total = laid.ordered.total in
      let full : length (entries_in rows order) ≡ 65536 = omega (arith, count_is, ap length free, total) in
      ap (λ n. nat_lt n most_openers) full

  pub nothing_kept_more : (entry : Entry) → None ≡ slice_get (free_rows order) 0 → kept ≡ with_entry entry kept
  nothing_kept_more entry none =
      let same = sym (append-nil (entries_in rows order))
      ∙ sym (λ i. entries_in rows order ++ option_to_list (cond (no_room none i) (Some entry) None)) in
      λ i. record { entries = same i; moment = moment }

  some_row : (row : ℕ) (xs : List ℕ) → Some row ≡ slice_get xs 0 → 0 < length xs
  some_row row [] h = cc
  some_row row (x ∷ xs) h = omega arith

  -- with one there is
  pub has_room_for : (row : ℕ) → Some row ≡ slice_get (free_rows order) 0 → nat_lt (length (entries_in rows order)) most_openers ≡ true
  has_room_for row free =
      let some = some_row row (free_rows order) free in
      let total = laid.ordered.total in
      let less : length (entries_in rows order) < 65536 = omega (arith, count_is, some, total) in
      grind (arith, nat_tests)

  pub kept_more : (entry : Entry) (row : ℕ) → Some row ≡ slice_get (free_rows order) 0 → (es : List Entry)
      → es ≡ entries_in rows order ++ entry ∷ []
      → ◌≡◌ {A = Kept} (record { entries = es; moment = moment }) (with_entry entry kept)
  kept_more entry row free es is =
      let same = is ∙ sym (λ i. entries_in rows order ++ option_to_list (cond (has_room_for row free i) (Some entry) None)) in
      λ i. record { entries = same i; moment = moment }
