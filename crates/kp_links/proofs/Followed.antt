-- The row after a row.
use Rattle.std.proofs.Common.{◌≡◌, ◌≢◌, ℕ, ◌+◌, ◌-◌, ◌<◌, ◌≤◌, List, [], ◌∷◌, ◌++◌, length, get_or, slice_get, Option, Some, None, refl, sym, ap, ◌∙◌, subst, inl, inr, arith}
use Rattle.std.proofs.lemmas.List.{get_or_read, length-map}
use Rattle.futures.specs.LinkedLists.{IsIn}
use Rattle.futures.specs.Links.{IsChain, keys_of, next_of, prev_of}
use Rattle.futures.proofs.LinkedListsLemmas.{items-lists_of}
use Rattle.kp_links.specs.declared.links.Link.{Link}
use Rattle.kp_links.specs.Lists.{list_count, rows_of}
use Rattle.kp_links.specs.Rings.{AreRings, kit_link, kit_links, lists_in, no_link}
use Rattle.kp_links.proofs.Kit.{kit_next}
use Rattle.kp_links.proofs.Ringed.{head_in, row_within}

-- a row stands somewhere in its list
parted : (row : ℕ) (all : List ℕ) → IsIn row all → (before : List ℕ) × (rest : List ℕ) × (all ≡ before ++ row ∷ rest)
parted row [] found = absurd found
parted row (x ∷ xs) (inl same) = ([], xs, ap (λ y. y ∷ xs) same)
parted row (x ∷ xs) (inr found) =
    let more = parted row xs found in
    (x ∷ more.0, more.1, ap (λ ys. x ∷ ys) more.2)

-- a chain goes on behind each of its rows
chain_behind : (next prev : ℕ → ℕ) (heads from row : ℕ) (before rest : List ℕ) (to : ℕ)
    → IsChain next prev heads from (before ++ row ∷ rest) to → IsChain next prev heads (heads + row) rest to
chain_behind next prev heads from row [] rest to chain = chain.2
chain_behind next prev heads from row (k ∷ before) rest to chain =
    chain_behind next prev heads (heads + k) row before rest to chain.2

module _ (links : List Link) (owners : List (Option ℕ)) (heads : ℕ) (rings : AreRings links owners heads) (list : ℕ) (counted : list < list_count (lists_in links owners heads)) (row : ℕ) where
  rows_are : rows_of (lists_in links owners heads) list ≡ keys_of (kit_links links) owners heads list
  rows_are = items-lists_of (kit_links links) owners heads list (head_in links owners heads rings list counted).0

  pub row_is_in : IsIn row (rows_of (lists_in links owners heads) list) → row < length owners
  row_is_in found =
      row_within owners row list ((rings.sound.rings list (head_in links owners heads rings list counted).0).owned row (subst (IsIn row) rows_are found))

  -- its link is one of the links, and its number fits
  pub link_in : IsIn row (rows_of (lists_in links owners heads) list) → heads + row < length links
  link_in found =
      let within = row_is_in found in
      let sized = rings.sound.sized in
      omega (arith, within, sized, length-map links kit_link)

  module _ (found : IsIn row (rows_of (lists_in links owners heads) list)) (link : Link) (read : link ≡ get_or links (heads + row) link) where
    goes_to : next_of (kit_links links) (heads + row) ≡ link.next
    goes_to =
        kit_next links (heads + row)
        ∙ sym (ap (λ (l : Link). l.next) (get_or_read links (heads + row) link (link_in found) read no_link))

    chained : (before rest : List ℕ) → rows_of (lists_in links owners heads) list ≡ before ++ row ∷ rest
        → IsChain (next_of (kit_links links)) (prev_of (kit_links links)) heads (heads + row) rest list
    chained before rest whole =
        chain_behind (next_of (kit_links links)) (prev_of (kit_links links)) heads list row before rest list
        (subst (λ ks. IsChain (next_of (kit_links links)) (prev_of (kit_links links)) heads list ks list) (sym rows_are ∙ whole)
        (rings.sound.rings list (head_in links owners heads rings list counted).0).chained)

    -- where the ring closes it is the last
    pub no_more : link.next ≡ list → (before rest : List ℕ)
        → rows_of (lists_in links owners heads) list ≡ before ++ row ∷ rest → None ≡ slice_get rest 0
    no_more closes before rest whole = by_rest rest (chained before rest whole)
      where
        by_rest : (rest : List ℕ) → IsChain (next_of (kit_links links)) (prev_of (kit_links links)) heads (heads + row) rest list
            → None ≡ slice_get rest 0
        by_rest [] chain = refl
        by_rest (k ∷ rest) chain =
            absurd (omega (arith, goes_to, chain.0, closes, (head_in links owners heads rings list counted).0))

    -- and else the place is that of the next row
    pub some_more : link.next ≢ list → (before rest : List ℕ)
        → rows_of (lists_in links owners heads) list ≡ before ++ row ∷ rest
        → (heads ≤ link.next) × (Some (link.next - heads) ≡ slice_get rest 0) × (link.next - heads < length owners)
    some_more other before rest whole = by_rest rest whole (chained before rest whole)
      where
        by_rest : (rest : List ℕ) → rows_of (lists_in links owners heads) list ≡ before ++ row ∷ rest
            → IsChain (next_of (kit_links links)) (prev_of (kit_links links)) heads (heads + row) rest list
            → (heads ≤ link.next) × (Some (link.next - heads) ≡ slice_get rest 0) × (link.next - heads < length owners)
        by_rest [] whole chain = absurd (other (sym goes_to ∙ chain.0))
        by_rest (k ∷ rest) whole chain =
            let place : link.next ≡ heads + k = sym goes_to ∙ chain.0 in
            let same : link.next - heads ≡ k = omega (arith, place) in
            let within = row_within owners k list ((rings.sound.rings list (head_in links owners heads rings list counted).0).owned k
            (subst (IsIn k) (sym whole ∙ rows_are) (second before))) in (
              omega (arith, place),
              ap (λ (n : ℕ). Some n) same,
              omega (arith, same, within),
            )
          where
            second : (seen : List ℕ) → IsIn k (seen ++ row ∷ k ∷ rest)
            second [] = inr (inl refl)
            second (x ∷ seen) = inr (second seen)

    -- some row follows, or none, wherever the row stands
    pub some_place : link.next ≢ list → (heads ≤ link.next) × (link.next - heads < length owners)
    some_place other =
        let at = parted row (rows_of (lists_in links owners heads) list) found in
        let is = some_more other at.0 at.1 at.2 in
        (is.0, is.2)
