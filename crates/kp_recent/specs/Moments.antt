-- The sources of a part as its cache has them, the most recently set first, and the order of their moments.
use Rattle.std.specs.Prelude.{ℕ, ◌-◌, ◌≤◌, nat_le, Bool, List, [], ◌∷◌, ◌++◌, Option, map, not, take, length, ⊤}
use Rattle.std.specs.List.{filter, list_any}
use Rattle.std.specs.Map.{lookup, remove_entry}
use Rattle.lru.specs.LruCache.{LruCache}
use Rattle.kp_base.specs.Net.{AddressParts, same_address}
use Rattle.kp_choice_defs.specs.Recent.{Sighting, is_of, is_within}

-- sources with their moments
abbrev pub Pairs : Type 0
Pairs = List (AddressParts × ℕ)

-- ---- pairs as sightings

-- a source with its moment, as a sighting
abbrev pub sighting : AddressParts × ℕ → Sighting
sighting e = record { source = e.0; moment = e.1 }

-- pairs as sightings
abbrev pub sightings_of : Pairs → List Sighting
sightings_of es = map sighting es

-- the sightings of a cache
abbrev pub shown_in : LruCache AddressParts ℕ → List Sighting
shown_in c = sightings_of c.entries

-- ---- what the calls make of sightings

-- the source is there within the timeout
abbrev pub has_recent : ℕ → ℕ → AddressParts → List Sighting → Bool
has_recent now seconds source ss = list_any (is_within now seconds) (filter (is_of source) ss)

-- those within the timeout
abbrev pub recent : ℕ → ℕ → List Sighting → List Sighting
recent now seconds ss = filter (is_within now seconds) ss

-- the source stands first with the moment, and a full part loses its last
abbrev pub with_set : ℕ → AddressParts → ℕ → List Sighting → List Sighting
with_set size source now ss = take size (record { source = source; moment = now } ∷ filter (λ s. not (is_of source s)) ss)

-- ---- the same of pairs

-- the moment is within the timeout
abbrev pub is_recent : ℕ → ℕ → ℕ → Bool
is_recent now seconds moment = nat_le (now - moment) seconds

-- those within the timeout
abbrev pub recent_pairs : ℕ → ℕ → Pairs → Pairs
recent_pairs now seconds es = filter (λ e. is_recent now seconds e.1) es

-- the moment of a source, if it is there
abbrev pub moment_of : AddressParts → Pairs → Option ℕ
moment_of source es = lookup (same_address source) es

-- the source stands first with the moment, and a full part loses its last
abbrev pub with_source : ℕ → AddressParts → ℕ → Pairs → Pairs
with_source size source now es = take size ((source, now) ∷ remove_entry (same_address source) es)

-- ---- moments

-- no moment is later than this one
abbrev pub AreUpTo : ℕ → Pairs → Type 0
AreUpTo moment [] = ⊤
AreUpTo moment (s ∷ ss) = (s.1 ≤ moment) × AreUpTo moment ss

-- no moment is later than one before it
abbrev pub AreFalling : Pairs → Type 0
AreFalling [] = ⊤
AreFalling (s ∷ ss) = AreUpTo s.1 ss × AreFalling ss

-- a part whose last source is taken away, or goes to the front where it is within the timeout
abbrev pub turned : ℕ → ℕ → AddressParts × ℕ → Pairs → Pairs
turned now seconds last ss = recent_pairs now seconds (last ∷ []) ++ take (length ss - 1) ss
