-- Marks of the sources on a shelf.
use Rattle.std.specs.Prelude.{◌≡◌, ◌≤◌, ◌<◌, ◌+◌, ◌-◌, ◌*◌, ◌/◌, ◌%◌, ℕ, List, length, get_or}
use Rattle.std.specs.Prelude.{slice_get, IfSome}
use Rattle.std.specs.Int.{bit_at}
use Rattle.std.specs.List.{All}
use Rattle.std.specs.FinMap.{get}
use Rattle.kp_base.specs.Net.{AddressParts}
use Rattle.kp_choice_defs.specs.Recent.{RecentParts, Shard, Sighting, sightings}
use Rattle.kp_recent.specs.declared.marks.Marks.{Marks}

-- the row of a source
abbrev pub row_of : AddressParts → ℕ
row_of source = source.number / 16 % 256

-- the byte at this place from the end, or 0
abbrev pub end_byte : List ℕ → ℕ → ℕ
end_byte bytes place = get_or bytes (length bytes - place) 0

-- the column of a list
abbrev pub column_of : List ℕ → ℕ
column_of list = (end_byte list 1 + 31 * end_byte list 2 + 961 * end_byte list 3) % 1024

-- the word at this place, if there is one, has this bit
abbrev pub HasBit : List ℕ → ℕ → ℕ → Type 0
HasBit words place bit = IfSome (slice_get words place) (λ word. bit_at word bit ≡ 1)

-- the moment at this place, if there is one, is no later than this one
abbrev pub IsSince : List ℕ → ℕ → ℕ → Type 0
IsSince moments place moment = IfSome (slice_get moments place) (λ since. since ≤ moment)

-- a source has its bit, and was set no earlier than the moment of its list
pub record IsMarked (marks : Marks) (list : List ℕ) (s : Sighting) : Type 0 where
  pub bit : HasBit marks.bits.items (row_of s.source * 16 + column_of list / 64)
      (column_of list % 64)
  pub since : IsSince marks.since.items (column_of list / 8) s.moment

-- all sources of a part are so
abbrev pub AreMarked : Marks → List ℕ → List Sighting → Type 0
AreMarked marks list = All (IsMarked marks list)

-- no part is empty
abbrev pub AreFull : RecentParts → Type 0
AreFull lists = (q : Shard) → IfSome (get lists.parts q) (λ ss. 0 < length ss)

-- no part is empty, and all sources of all parts are marked
pub record IsCovered (marks : Marks) (lists : RecentParts) : Type 0 where
  pub full : AreFull lists
  pub all : (q : Shard) → AreMarked marks q.list (sightings lists q)
