-- How lists are laid out: each is a ring through its head, as those of the kit's `LinkedLists`, whose
-- words these are. No public clause cites this.
use Rattle.std.specs.Prelude.{◌≡◌, ℕ, ◌+◌, ◌<◌, ◌^◌, Bool, List, ◌++◌, map, length, slice_index_or, Option, None}
use Rattle.std.specs.List.{find}
use Rattle.futures.specs.declared.util.linked_list.Link.{Link as KitLink}
use Rattle.futures.specs.LinkedLists.{LinkedLists}
use Rattle.futures.specs.Links.{Inserts, IsChain, IsSound, Joins, lists_of, next_of, prev_of}
use Rattle.kp_links.specs.declared.links.Link.{Link}
use Rattle.kp_links.specs.Lists.{Lists, rows_of}

-- what a read past the links gives
abbrev pub no_link : Link
no_link = record { prev = 0; next = 0 }

-- the place after a place
abbrev pub next_at : List Link → ℕ → ℕ
next_at links at = (slice_index_or links at no_link).next

-- the place before a place
abbrev pub prev_at : List Link → ℕ → ℕ
prev_at links at = (slice_index_or links at no_link).prev

-- the neighbours of the place now lead to each other
pub record IsSkipped (old new : List Link) (at : ℕ) : Type 0 where
  pub next : Joins (next_at old) (next_at new) (prev_at old at) (next_at old at)
  pub prev : Joins (prev_at old) (prev_at new) (next_at old at) (prev_at old at)

-- the first place now stands just before the second
abbrev pub IsSpliced : List Link → List Link → ℕ → ℕ → Type 0
IsSpliced old new at after =
    Inserts (next_at old) (prev_at old) (next_at new) (prev_at new) (prev_at old after) at after

-- each of the first places leads to itself
abbrev pub AreClosed : List Link → ℕ → Type 0
AreClosed links count =
    (at : ℕ) → at < count → (next_at links at ≡ at) × (prev_at links at ≡ at)

-- a link, as the kit has it
abbrev pub kit_link : Link → KitLink
kit_link l = record { prev = l.prev; next = l.next }

-- the links, as the kit has them
abbrev pub kit_links : List Link → List KitLink
kit_links links = map kit_link links

-- what the kit's contracts see of them
abbrev pub kit_lists : List Link → List (Option ℕ) → ℕ → LinkedLists
kit_lists links owners heads = lists_of (kit_links links) owners heads

-- what contracts see
abbrev pub lists_in : List Link → List (Option ℕ) → ℕ → Lists
lists_in links owners heads = record {
  lists = (kit_lists links owners heads).lists;
  rows = length owners;
}

-- each list is a ring, and places fit 32 bits
pub record AreRings (links : List Link) (owners : List (Option ℕ)) (heads : ℕ) : Type 0 where
  pub sound : IsSound (kit_links links) owners heads
  pub fits : heads + length owners < 2 ^ 32

-- a search along a list has passed so many rows without finding one, and stands at a place
pub record IsReached (links : List Link) (owners : List (Option ℕ)) (heads list : ℕ) (p : ℕ → Bool) (at turn : ℕ) : Type 0 where
  pub seen : List ℕ
  pub rest : List ℕ
  pub from : ℕ
  pub whole : rows_of (lists_in links owners heads) list ≡ seen ++ rest
  pub turns : length seen ≡ turn
  pub here : next_of (kit_links links) from ≡ at
  pub chained : IsChain (next_of (kit_links links)) (prev_of (kit_links links)) heads from rest list
  pub unfound : find p seen ≡ None
