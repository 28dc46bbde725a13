-- What calls need and leave, of rings.
use Rattle.std.proofs.Common.{◌≡◌, ◌≢◌, ℕ, zero, suc, ◌+◌, ◌-◌, ◌<◌, ◌≤◌, true, false, List, [], ◌∷◌, ◌++◌, map, filter, length, get_or, set, replicate, slice_get, cond, count_by, ◌^◌, Option, Some, None, is_some, refl, sym, ap, ◌∙◌, subst, inl, inr, arith, length-set}
use Rattle.std.specs.List.{range_with_len}
use Rattle.std.proofs.lemmas.Bool.{cases_eq, cases_lt}
use Rattle.std.proofs.lemmas.List.{get_or_past, get_or_read, length-map}
use Rattle.std.proofs.lemmas.List.Sums.{length-filter}
use Rattle.std.proofs.lemmas.Option.{none-some, same_Some}
use Rattle.futures.specs.LinkedLists.{IsApart, IsIn, without}
use Rattle.futures.specs.Links.{is_list, keys_of}
use Rattle.futures.proofs.LinkLemmas.{without_absent}
use Rattle.futures.proofs.LinkedListsLemmas.{Changes, Changes-skip, Changes-splice, absent_elsewhere, after_within, before_within, free_not_last, front_none, front_some, head_within, items-lists_of, items_apart, items_past, keys_of_ring, last_within, list_count-lists_of}
use Rattle.kp_links.specs.declared.links.Link.{Link}
use Rattle.kp_links.specs.Lists.{AreEmpty, IsFree, IsPushed, IsUnlinked, list_count, rows_of}
use Rattle.kp_links.specs.Rings.{AreClosed, AreRings, IsSkipped, IsSpliced, kit_link, kit_links, lists_in, next_at, prev_at}
use Rattle.kp_links.proofs.Kit.{kit_next, kit_prev, kit_read, kit_skips, kit_splices}

some_by : (o : Option ℕ) → is_some o ≡ true → (list : ℕ) × (o ≡ Some list)
some_by None h = cc
some_by (Some list) h = (list, refl)

none_by : (o : Option ℕ) → is_some o ≡ false → o ≡ None
none_by None h = refl
none_by (Some list) h = cc

-- the list of a row that is in one, as it was read
pub owner_read : (owners : List (Option ℕ)) (row : ℕ) (x : Option ℕ) → row < length owners
    → x ≡ get_or owners row x → is_some x ≡ true → (list : ℕ) × (get_or owners row None ≡ Some list)
owner_read owners row x within read some =
    some_by (get_or owners row None) (sym (ap is_some (get_or_read owners row x within read None)) ∙ some)

-- that of a row that is in none
pub no_owner_read : (owners : List (Option ℕ)) (row : ℕ) (x : Option ℕ) → row < length owners
    → x ≡ get_or owners row x → is_some x ≡ false → get_or owners row None ≡ None
no_owner_read owners row x within read none =
    none_by (get_or owners row None) (sym (ap is_some (get_or_read owners row x within read None)) ∙ none)

-- a row with a list is one of the rows
pub row_within : (owners : List (Option ℕ)) (row list : ℕ) → get_or owners row None ≡ Some list
    → row < length owners
row_within owners row list owned =
    elim (cases_lt row (length owners)) [
      | inl within ↦ within
      | inr past ↦ absurd (none-some list (sym (get_or_past owners row None past) ∙ owned))
    ]

module _ (links : List Link) (owners : List (Option ℕ)) (heads : ℕ) (rings : AreRings links owners heads) where
  pub head_in : (list : ℕ) → list < list_count (lists_in links owners heads)
      → (list < heads) × (list < length links)
  head_in list counted =
      let is = head_within (kit_links links) owners heads rings.sound list counted in
      (is.0, omega (arith, is.1, length-map links kit_link))

  -- ---- The first row

  pub none_first : (list : ℕ) (link : Link) → list < list_count (lists_in links owners heads)
      → link ≡ get_or links list link → link.next ≡ list
      → None ≡ slice_get (rows_of (lists_in links owners heads) list) 0
  none_first list link counted read itself =
      (front_none (kit_links links) owners heads rings.sound list (kit_link link) counted (kit_read links list link read) itself).0

  pub some_first : (list : ℕ) (link : Link) → list < list_count (lists_in links owners heads)
      → link ≡ get_or links list link → link.next ≢ list
      → (heads ≤ link.next)
      × (Some (link.next - heads) ≡ slice_get (rows_of (lists_in links owners heads) list) 0)
      × (get_or owners (link.next - heads) None ≡ Some list)
  some_first list link counted read other =
      front_some (kit_links links) owners heads rings.sound list (kit_link link) counted (kit_read links list link read) other

  pub absent_from : (row list : ℕ) → get_or owners row None ≢ Some list
      → ¬ IsIn row (rows_of (lists_in links owners heads) list)
  absent_from row list other = absent_elsewhere (kit_links links) owners heads rings.sound row list other

  -- a row is in no list but its own
  pub elsewhere : (row list : ℕ) → get_or owners row None ≡ Some list → (other : ℕ) → other ≢ list
      → ¬ IsIn row (rows_of (lists_in links owners heads) other)
  elsewhere row list owned other differs =
      absent_from row other (λ also. differs (same_Some other list (sym also ∙ owned)))

  pub rows_apart : (list : ℕ) → list < list_count (lists_in links owners heads)
      → IsApart (rows_of (lists_in links owners heads) list)
  rows_apart list counted = items_apart (kit_links links) owners heads rings.sound list (head_in list counted).0

  -- ---- Rows that leave

  pub row_before : (row list : ℕ) → get_or owners row None ≡ Some list
      → prev_at links (heads + row) < length links
  row_before row list owned =
      omega (arith, before_within (kit_links links) owners heads rings.sound list row owned, kit_prev links (heads + row), length-map links kit_link)

  pub row_after : (row list : ℕ) → get_or owners row None ≡ Some list
      → next_at links (heads + row) < length links
  row_after row list owned =
      omega (arith, after_within (kit_links links) owners heads rings.sound list row owned, kit_next links (heads + row), length-map links kit_link)

  pub stays_unlinked : (row : ℕ) → get_or owners row None ≡ None
      → IsUnlinked (lists_in links owners heads) (lists_in links owners heads) row
  stays_unlinked row free = record {
    left = λ list. sym (without_absent row _ (absent_from row list (λ owned. none-some list (sym free ∙ owned))));
    sized = record { count = refl; rows = refl };
  }

  -- ---- Rows that come

  pub last_in : (list : ℕ) → list < list_count (lists_in links owners heads)
      → prev_at links list < length links
  last_in list counted =
      omega (arith, last_within (kit_links links) owners heads rings.sound list (head_in list counted).0, kit_prev links list, length-map links kit_link)

  -- a row that is in no list has none
  pub free_row : (row : ℕ) → IsFree (lists_in links owners heads) row → get_or owners row None ≡ None
  free_row row free = by_owner (get_or owners row None) refl
    where
      by_owner : (o : Option ℕ) → get_or owners row None ≡ o → o ≡ None
      by_owner None owned = refl
      by_owner (Some list) owned =
          let head = rings.sound.known row list owned in
          absurd (free list (rw (items-lists_of (kit_links links) owners heads list head) ((rings.sound.rings list head).listed row owned)))

  pub free_row_not_last : (row list : ℕ) → list < list_count (lists_in links owners heads)
      → get_or owners row None ≡ None → heads + row ≢ prev_at links list
  free_row_not_last row list counted free same =
      free_not_last (kit_links links) owners heads rings.sound list row (head_in list counted).0 free
      (same ∙ sym (kit_prev links list))

  -- ---- What changes leave

  module _ (new_links : List Link) (row list : ℕ) (sized : length new_links ≡ length links) where
    kit_sized : length (kit_links new_links) ≡ length (kit_links links)
    kit_sized = length-map new_links kit_link ∙ sized ∙ sym (length-map links kit_link)

    rings_after : (new_owners : List (Option ℕ)) (rows : List ℕ)
        → Changes (kit_links links) (kit_links new_links) owners new_owners heads list rows
        → length new_owners ≡ length owners → AreRings new_links new_owners heads
    rings_after new_owners rows changes same = record {
      sound = changes.sound;
      fits = let fits = rings.fits in omega (arith, fits, same);
    }

    lists_counted : (new_owners : List (Option ℕ))
        → list_count (lists_in new_links new_owners heads) ≡ list_count (lists_in links owners heads)
    lists_counted new_owners =
        list_count-lists_of (kit_links new_links) new_owners heads
        ∙ sym (list_count-lists_of (kit_links links) owners heads)

    module _ (owned : get_or owners row None ≡ Some list) (skips : IsSkipped links new_links (heads + row)) where
      skipped : Changes (kit_links links) (kit_links new_links) owners (set owners row None) heads list (without row (rows_of (lists_in links owners heads) list))
      skipped =
          Changes-skip (kit_links links) (kit_links new_links) owners heads list row rings.sound kit_sized owned (kit_skips links new_links (heads + row) skips)

      pub rings_unlinked : AreRings new_links (set owners row None) heads
      rings_unlinked = rings_after (set owners row None) _ skipped (length-set owners row None)

      pub is_unlinked : IsUnlinked (lists_in links owners heads) (lists_in new_links (set owners row None) heads) row
      is_unlinked = record {
        left = λ other.
            elim (cases_eq other list) [
              | inl same ↦ subst (λ l. rows_of (lists_in new_links (set owners row None) heads) l ≡ without row (rows_of (lists_in links owners heads) l)) (sym same) skipped.changed
              | inr differs ↦ skipped.others other differs ∙ sym (without_absent row _ (elsewhere row list owned other differs))
            ];
        sized = record { count = lists_counted (set owners row None); rows = length-set owners row None };
      }

    module _ (counted : list < list_count (lists_in links owners heads)) (in_rows : row < length owners) (free : get_or owners row None ≡ None) (splices : IsSpliced links new_links (heads + row) list) where
      spliced : Changes (kit_links links) (kit_links new_links) owners (set owners row (Some list)) heads list (rows_of (lists_in links owners heads) list ++ row ∷ [])
      spliced =
          Changes-splice (kit_links links) (kit_links new_links) owners heads list row rings.sound kit_sized (head_in list counted).0 in_rows free (kit_splices links new_links (heads + row) list splices)

      pub rings_pushed : AreRings new_links (set owners row (Some list)) heads
      rings_pushed = rings_after (set owners row (Some list)) _ spliced (length-set owners row (Some list))

      pub is_pushed : IsPushed (lists_in links owners heads) (lists_in new_links (set owners row (Some list)) heads) list row
      is_pushed = record {
        last = spliced.changed;
        others = spliced.others;
        sized = record { count = lists_counted (set owners row (Some list)); rows = length-set owners row (Some list) };
      }

-- ---- Empty lists

module _ (links : List Link) (owners : List (Option ℕ)) (heads rows : ℕ) (len : length links ≡ heads + rows) (closed : AreClosed links (heads + rows)) (count : length owners ≡ rows) (none : (row : ℕ) → get_or owners row None ≡ None) where
  none_of : (list : ℕ) (os : List (Option ℕ)) → ((row : ℕ) → get_or os row None ≡ None)
      → filter (is_list list) os ≡ []
  none_of list [] all = refl
  none_of list (o ∷ os) all =
      (λ i. cond (is_list list (all 0 i)) (o ∷ filter (is_list list) os) (filter (is_list list) os))
      ∙ none_of list os (λ row. all (suc row))

  no_rows : (list : ℕ) → count_by (is_list list) owners ≡ 0
  no_rows list = sym (length-filter (is_list list) owners) ∙ ap length (none_of list owners none)

  no_keys : (list : ℕ) → list < heads → keys_of (kit_links links) owners heads list ≡ []
  no_keys list head =
      let here = closed list (omega (arith, head)) in
      keys_of_ring (kit_links links) owners heads list []
      (kit_next links list ∙ here.0, kit_prev links list ∙ here.1) (no_rows list)

  pub new_rings : heads + rows < 2 ^ 32 → AreRings links owners heads
  new_rings fits = record {
    sound = record {
      sized = omega (arith, length-map links kit_link, len, count);
      known = λ key list owned. absurd (none-some list (sym (none key) ∙ owned));
      rings = λ list head.
          let here = closed list (omega (arith, head)) in
          rw (no_keys list head) (record {
            chained = (kit_next links list ∙ here.0, kit_prev links list ∙ here.1);
            apart = tt;
            owned = λ key nowhere. absurd nowhere;
            listed = λ key owned. none-some list (sym (none key) ∙ owned);
          });
    };
    fits = omega (arith, fits, count);
  }

  pub new_empty : AreEmpty (lists_in links owners heads) heads rows
  new_empty = record {
    empty = λ list.
        elim (cases_lt list heads) [
          | inl head ↦ items-lists_of (kit_links links) owners heads list head ∙ no_keys list head
          | inr past ↦ items_past (kit_links links) owners heads list past
        ];
    count = list_count-lists_of (kit_links links) owners heads;
    rows = count;
  }
