-- Recent lists, as the recent match of iptables-extensions keeps them: a list of a name has sources, each
-- with the moment at which it was last set. That a list has sixteen parts, by the low four bits of the
-- source, and that each part has a bound of its own, is this project's choice.
use Rattle.std.specs.Prelude.{ℕ, ◌-◌, ◌%◌, nat_le, Bool, List, [], ◌∷◌, not, take, unwrap_or}
use Rattle.std.specs.Ordering.{nat_cmp, ordering_then}
use Rattle.std.specs.declared.cmp.Ordering.{Ordering}
use Rattle.std.specs.List.{filter, list_any}
use Rattle.std.specs.FinMap as map
use Rattle.kp_base.specs.Net.{AddressParts, same_address}
use Rattle.kp_base.specs.Keys.{text_cmp}

-- a source in a part, and the moment at which it was last set
pub record Sighting : Type 0 where
  pub source : AddressParts
  pub moment : ℕ

-- one part of one list
pub record Shard : Type 0 where
  pub list : List ℕ
  pub part : ℕ

-- parts by list name, and then by number
abbrev pub shard_cmp : Shard → Shard → Ordering
shard_cmp a b = ordering_then (text_cmp a.list b.list) (nat_cmp a.part b.part)

-- Recent lists: the most sources of a part, and the parts that have any, the most recently set source first.
pub record RecentParts : Type 0 where
  pub size : ℕ
  pub parts : map.FinMap shard_cmp (List Sighting)

-- the part that a source is in
abbrev pub shard_of : List ℕ → AddressParts → Shard
shard_of list source = record { list = list; part = source.number % 16 }

-- the sources of a part
abbrev pub sightings : RecentParts → Shard → List Sighting
sightings lists at = unwrap_or (map.get lists.parts at) []

-- a sighting's age at a moment; one that lies ahead is new
abbrev pub age_of : ℕ → Sighting → ℕ
age_of now s = now - s.moment

-- the sighting is within the timeout
abbrev pub is_within : ℕ → ℕ → Sighting → Bool
is_within now seconds s = nat_le (age_of now s) seconds

-- the sighting is of this source
abbrev pub is_of : AddressParts → Sighting → Bool
is_of source s = same_address s.source source

-- the list has the source within the timeout
abbrev pub is_live : RecentParts → List ℕ → AddressParts → ℕ → ℕ → Bool
is_live lists list source now seconds =
    list_any (is_within now seconds) (filter (is_of source) (sightings lists (shard_of list source)))

-- the parts with these sightings in one of them; a part without any isn't held
abbrev pub with_sightings : RecentParts → Shard → List Sighting → RecentParts
with_sightings lists at [] = record { size = lists.size; parts = map.remove lists.parts at }
with_sightings lists at (s ∷ ss) = record { size = lists.size; parts = map.insert lists.parts at (s ∷ ss) }

-- the lists once the source's part has lost what is past the timeout
abbrev pub reaped : RecentParts → List ℕ → AddressParts → ℕ → ℕ → RecentParts
reaped lists list source now seconds =
    with_sightings lists (shard_of list source)
    (filter (is_within now seconds) (sightings lists (shard_of list source)))

-- the lists once the source was set: it stands first with the moment, and a full part loses its last
abbrev pub set_at : RecentParts → List ℕ → AddressParts → ℕ → RecentParts
set_at lists list source now =
    with_sightings lists (shard_of list source)
    (take lists.size (record { source = source; moment = now }
    ∷ filter (λ s. not (is_of source s)) (sightings lists (shard_of list source))))
