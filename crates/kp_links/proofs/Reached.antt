-- A search along a list, place by place.
use Rattle.std.proofs.Common.{◌≡◌, ◌≢◌, ℕ, ◌+◌, ◌-◌, ◌<◌, ◌≤◌, inl, inr, Bool, true, false, List, [], ◌∷◌, ◌++◌, length, get_or, cond, count_by, Option, Some, None, refl, sym, ap, ◌∙◌, subst, arith, length-append, append_assoc}
use Rattle.std.specs.List.{find}
use Rattle.std.specs.Option.{option_or}
use Rattle.std.proofs.lemmas.List.{append-nil, get_or_read, length-map}
use Rattle.std.proofs.lemmas.List.Folds.{find-append}
use Rattle.std.proofs.lemmas.List.Sums.{count_by-le-length}
use Rattle.futures.specs.LinkedLists.{IsIn}
use Rattle.futures.specs.Links.{IsChain, is_list, keys_of, next_of, prev_of}
use Rattle.futures.proofs.LinkLemmas.{length-walk}
use Rattle.futures.proofs.LinkedListsLemmas.{items-lists_of}
use Rattle.kp_links.specs.declared.links.Link.{Link}
use Rattle.kp_links.specs.Lists.{list_count, rows_of}
use Rattle.kp_links.specs.Rings.{AreRings, IsReached, kit_link, kit_links, lists_in, no_link}
use Rattle.kp_links.proofs.Kit.{kit_next}
use Rattle.kp_links.proofs.Ringed.{head_in, row_within}

-- the last of some rows is one of all
among : (seen rest : List ℕ) (row : ℕ) → IsIn row (seen ++ row ∷ rest)
among [] rest row = inl refl
among (k ∷ seen) rest row = inr (among seen rest row)

module _ (links : List Link) (owners : List (Option ℕ)) (heads : ℕ) (rings : AreRings links owners heads) (list : ℕ) (p : ℕ → Bool) where
  abbrev Reached : ℕ → ℕ → Type 0
  Reached at turn = IsReached links owners heads list p at turn

  module _ (counted : list < list_count (lists_in links owners heads)) where
    rows_are : rows_of (lists_in links owners heads) list ≡ keys_of (kit_links links) owners heads list
    rows_are = items-lists_of (kit_links links) owners heads list (head_in links owners heads rings list counted).0

    -- no list has more rows than there are
    few_rows : length (rows_of (lists_in links owners heads) list) ≤ length owners
    unfolding keys_of
    few_rows =
        omega (arith, ap length rows_are, length-walk (next_of (kit_links links)) heads (count_by (is_list list) owners) list, count_by-le-length (is_list list) owners)

    -- before the first row
    pub reached_first : (link : Link) → link ≡ get_or links list link → Reached link.next 0
    reached_first link read = record {
      seen = [];
      rest = keys_of (kit_links links) owners heads list;
      from = list;
      whole = rows_are;
      turns = refl;
      here = kit_next links list ∙ sym (ap (λ (l : Link). l.next) (get_or_read links list link (head_in links owners heads rings list counted).1 read no_link));
      chained = (rings.sound.rings list (head_in links owners heads rings list counted).0).chained;
      unfound = refl;
    }

    -- where the ring closes, nothing was found
    pub closed_unfound : (at turn : ℕ) → Reached at turn → at ≡ list
        → None ≡ find p (rows_of (lists_in links owners heads) list)
    closed_unfound at turn is closes = by_rest is.rest is.whole is.chained
      where
        by_rest : (rest : List ℕ) → rows_of (lists_in links owners heads) list ≡ is.seen ++ rest
            → IsChain (next_of (kit_links links)) (prev_of (kit_links links)) heads is.from rest list
            → None ≡ find p (rows_of (lists_in links owners heads) list)
        by_rest [] whole chained = sym is.unfound ∙ sym (ap (find p) (whole ∙ append-nil is.seen))
        by_rest (k ∷ rest) whole chained =
            absurd (omega (arith, is.here, chained.0, closes, (head_in links owners heads rings list counted).0))

    -- nor where all rows were seen
    pub all_unfound : (at turn : ℕ) → Reached at turn → length owners ≤ turn
        → None ≡ find p (rows_of (lists_in links owners heads) list)
    all_unfound at turn is all = by_rest is.rest is.whole
      where
        by_rest : (rest : List ℕ) → rows_of (lists_in links owners heads) list ≡ is.seen ++ rest
            → None ≡ find p (rows_of (lists_in links owners heads) list)
        by_rest [] whole = sym is.unfound ∙ sym (ap (find p) (whole ∙ append-nil is.seen))
        by_rest (k ∷ rest) whole =
            absurd (omega (arith, few_rows, ap length whole, length-append is.seen (k ∷ rest), is.turns, all))

    -- the row at a place
    pub record IsAtRow (at turn : ℕ) (is : Reached at turn) : Type 0 where
      pub rest : List ℕ
      pub whole : rows_of (lists_in links owners heads) list ≡ is.seen ++ (at - heads) ∷ rest
      pub place : at ≡ heads + (at - heads)
      pub chained : IsChain (next_of (kit_links links)) (prev_of (kit_links links)) heads at rest list
      pub within : at - heads < length owners

    pub at_row : (at turn : ℕ) (is : Reached at turn) → at ≢ list → IsAtRow at turn is
    at_row at turn is other = by_rest is.rest is.whole is.chained
      where
        by_rest : (rest : List ℕ) → rows_of (lists_in links owners heads) list ≡ is.seen ++ rest
            → IsChain (next_of (kit_links links)) (prev_of (kit_links links)) heads is.from rest list
            → IsAtRow at turn is
        by_rest [] whole chained = absurd (other (sym is.here ∙ chained.0))
        by_rest (k ∷ rest) whole chained =
            let place : at ≡ heads + k = sym is.here ∙ chained.0 in
            let row : k ≡ at - heads = omega (arith, place) in
            let owned = (rings.sound.rings list (head_in links owners heads rings list counted).0).owned k
            (subst (IsIn k) (sym whole ∙ rows_are) (among is.seen rest k)) in
            record {
              rest = rest;
              whole = whole ∙ ap (λ (j : ℕ). is.seen ++ j ∷ rest) row;
              place = omega (arith, place);
              chained = subst (λ (from : ℕ). IsChain (next_of (kit_links links)) (prev_of (kit_links links)) heads from rest list) (sym place) chained.2;
              within = omega (arith, row, row_within owners k list owned);
            }

    -- it is found where it passes
    pub row_found : (at turn : ℕ) (is : Reached at turn) (other : at ≢ list) → p (at - heads) ≡ true
        → Some (at - heads) ≡ find p (rows_of (lists_in links owners heads) list)
    row_found at turn is other passes =
        let row = at_row at turn is other in
        sym
        (ap (find p) row.whole ∙ find-append p is.seen ((at - heads) ∷ row.rest)
        ∙ (λ i. option_or (is.unfound i) (find p ((at - heads) ∷ row.rest)))
        ∙ (λ i. cond (passes i) (Some (at - heads)) (find p row.rest)))

    -- and else the next place is reached
    pub reached_next : (at turn : ℕ) (is : Reached at turn) (other : at ≢ list) (link : Link)
        → p (at - heads) ≡ false → at < length links → link ≡ get_or links at link → Reached link.next (turn + 1)
    reached_next at turn is other link fails in_links read =
        let row = at_row at turn is other in
        record {
          seen = is.seen ++ (at - heads) ∷ [];
          rest = row.rest;
          from = at;
          whole = row.whole ∙ sym (append_assoc is.seen ((at - heads) ∷ []) row.rest);
          turns = omega (arith, is.turns, length-append is.seen ((at - heads) ∷ []));
          here = kit_next links at ∙ sym (ap (λ (l : Link). l.next) (get_or_read links at link in_links read no_link));
          chained = row.chained;
          unfound = find-append p is.seen ((at - heads) ∷ [])
              ∙ (λ i. option_or (is.unfound i) (find p ((at - heads) ∷ [])))
              ∙ (λ i. cond (fails i) (Some (at - heads)) None);
        }

    pub row_in_links : (at turn : ℕ) (is : Reached at turn) (other : at ≢ list) → at < length links
    row_in_links at turn is other =
        let row = at_row at turn is other in
        let sized = rings.sound.sized in
        omega (arith, row.place, row.within, sized, length-map links kit_link)
