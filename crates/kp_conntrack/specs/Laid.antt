-- How a tracker lays its entries out: rows, the rows that have an entry in the order in which they
-- opened, and lists by which rows are found. No public clause cites this.
use Rattle.std.specs.Prelude.{◌≡◌, ℕ, ◌+◌, ◌<◌, ◌≤◌, nat_lt, Bool, false, cond, List, [], ◌∷◌, ◌++◌, map, length, slice_get, slice_index_or, Option, Some, None}
use Rattle.std.specs.List.{filter}
use Rattle.std.specs.Option.{option_to_list}
use Rattle.futures.specs.LinkedLists.{IsApart, IsIn}
use Rattle.kp_base.specs.Net.{v4_address}
use Rattle.kp_base.specs.declared.port.Proto.TheVariants.{Tcp}
use Rattle.kp_links.specs.Lists.{AreEmpty, IsMoved, IsUnlinked, Lists, list_count, rows_of}
use Rattle.kp_track_defs.specs.declared.flow.Entry.{Entry}
use Rattle.kp_track_defs.specs.declared.flow.Owned.{Owned}
use Rattle.kp_track_defs.specs.declared.flow.Owned.TheVariants.{Later, Reply}
use Rattle.kp_track_defs.specs.Entries.{change_first, door_of, is_within, renewed}
use Rattle.kp_track_defs.specs.Kept.{Kept}
use Rattle.kp_track_defs.specs.Tracking.{most_openers}
use Rattle.kp_conntrack.specs.Buckets.{age_list, connection_place, endpoint_place, is_placed, reply_place}
use Rattle.kp_conntrack.specs.declared.index.Index.{Index}

-- what a read past the rows gives
abbrev pub no_entry : Entry
no_entry = record {
  connection = record {
    proto = Tcp;
    source = v4_address 0;
    target = v4_address 0;
    source_port = 0;
    port = 0;
  };
  endpoint = record { address = v4_address 0; port = 0 };
  masked = false;
  latest = 0;
}

-- the entry of a row
abbrev pub entry_at : List Entry → ℕ → Entry
entry_at rows row = slice_index_or rows row no_entry

-- the rows that have an entry, in the order in which they opened
abbrev pub kept_rows : Lists → List ℕ
kept_rows order = rows_of order 0

-- the other rows
abbrev pub free_rows : Lists → List ℕ
free_rows order = rows_of order 1

-- the entries, in the order in which they opened
abbrev pub entries_in : List Entry → Lists → List Entry
entries_in rows order = map (entry_at rows) (kept_rows order)

-- an entry passes a test, where there is one
abbrev pub passes_if : (Entry → Bool) → Option Entry → Bool
passes_if test None = false
passes_if test (Some e) = test e

-- the entry of a row does
abbrev pub passes_at : (Entry → Bool) → List Entry → ℕ → Bool
passes_at test rows row = passes_if test (slice_get rows row)

-- so many lists of so many rows
pub record AreOf (lists : Lists) (list_number row_number : ℕ) : Type 0 where
  pub count : list_count lists ≡ list_number
  pub rows : lists.rows ≡ row_number

-- each row is kept or free, once
pub record IsOrdered (order : Lists) : Type 0 where
  pub sized : AreOf order 2 65536
  pub apart : IsApart (kept_rows order)
  pub split : (row : ℕ) → IsIn row (kept_rows order) → ¬ IsIn row (free_rows order)
  pub total : length (kept_rows order) + length (free_rows order) ≡ 65536
  pub within : (row : ℕ) → IsIn row (kept_rows order) → row < 65536

-- kept rows stand in the lists of their places, in their order
pub record IsIndexed (rows : List Entry) (kept : List ℕ) (place : Entry → Option ℕ) (lists : Lists) : Type 0 where
  pub sized : AreOf lists 262144 65536
  pub here : (b : ℕ) → rows_of lists b ≡ filter (λ row. is_placed b (place (entry_at rows row))) kept

-- no later row was heard of before this one
abbrev pub IsFirstHeard : List Entry → ℕ → List ℕ → Type 0
IsFirstHeard rows row [] = Unit {0}
IsFirstHeard rows row (other ∷ others) =
    ((entry_at rows row).latest ≤ (entry_at rows other).latest) × IsFirstHeard rows row others

-- rows stand in the order in which they were heard of
abbrev pub Ascends : List Entry → List ℕ → Type 0
Ascends rows [] = Unit {0}
Ascends rows (row ∷ others) = IsFirstHeard rows row others × Ascends rows others

-- kept rows stand in the lists of their timeouts, in the order in which they were heard of
pub record IsAged (rows : List Entry) (kept : List ℕ) (ages : Lists) : Type 0 where
  pub sized : AreOf ages 2 65536
  pub known : (row list : ℕ) → IsIn row (rows_of ages list) → IsIn row kept × (age_list (entry_at rows row) ≡ list)
  pub listed : (row : ℕ) → IsIn row kept → IsIn row (rows_of ages (age_list (entry_at rows row)))
  pub ascending : (list : ℕ) → Ascends rows (rows_of ages list)

-- kept rows are found
pub record IsFound (rows : List Entry) (kept : List ℕ) (index : Index) : Type 0 where
  pub ages : IsAged rows kept index.ages
  pub connections : IsIndexed rows kept connection_place index.connections
  pub replies : IsIndexed rows kept reply_place index.replies
  pub endpoints : IsIndexed rows kept endpoint_place index.endpoints

-- no kept entry was heard of after a moment
abbrev pub IsPast : List Entry → List ℕ → ℕ → Type 0
IsPast rows kept moment =
    (row : ℕ) → IsIn row kept → (entry_at rows row).latest ≤ moment

-- all is laid out so
pub record IsLaid (rows : List Entry) (order : Lists) (index : Index) (moment : ℕ) : Type 0 where
  pub len : length rows ≡ 65536
  pub ordered : IsOrdered order
  pub found : IsFound rows (kept_rows order) index
  pub past : IsPast rows (kept_rows order) moment

-- ---- Steps

-- a row stands in the list of its place, where it has one, and in no other
abbrev pub IsPut : Lists → Lists → Option ℕ → ℕ → Type 0
IsPut old new None row = new ≡ old
IsPut old new (Some list) row = IsMoved old new list row

-- a row stands in the lists of its entry
pub record IsPlaced (old new : Index) (entry : Entry) (row : ℕ) : Type 0 where
  pub ages : IsMoved old.ages new.ages (age_list entry) row
  pub connections : IsPut old.connections new.connections (connection_place entry) row
  pub replies : IsPut old.replies new.replies (reply_place entry) row
  pub endpoints : IsPut old.endpoints new.endpoints (endpoint_place entry) row

-- a row stands in no list
pub record IsRemoved (old new : Index) (row : ℕ) : Type 0 where
  pub ages : IsUnlinked old.ages new.ages row
  pub connections : IsUnlinked old.connections new.connections row
  pub replies : IsUnlinked old.replies new.replies row
  pub endpoints : IsUnlinked old.endpoints new.endpoints row

-- the lists are as many as they have to be
pub record AreAllSized (index : Index) : Type 0 where
  pub ages : AreOf index.ages 2 65536
  pub connections : AreOf index.connections 262144 65536
  pub replies : AreOf index.replies 262144 65536
  pub endpoints : AreOf index.endpoints 262144 65536

-- no list has a row
pub record HasNone (index : Index) : Type 0 where
  pub ages : AreEmpty index.ages 2 65536
  pub connections : AreEmpty index.connections 262144 65536
  pub replies : AreEmpty index.replies 262144 65536
  pub endpoints : AreEmpty index.endpoints 262144 65536

-- so many rows are all free, and each is one of them
pub record AllFree (order : Lists) (number : ℕ) : Type 0 where
  pub sized : AreOf order 2 number
  pub none : kept_rows order ≡ []
  pub all : length (free_rows order) ≡ number

-- ---- Answers

-- what a later flow of an entry is answered
abbrev pub as_later : Entry → Owned
as_later e = Later e.endpoint e.masked

-- what a reply is
abbrev pub as_door : Entry → Owned
as_door e = Reply (door_of e)

-- what is kept once the first entry that passes a test was heard of
abbrev pub with_found : (Entry → Bool) → Kept → Kept
with_found test k = record k { entries = change_first test (renewed k.moment) k.entries }

-- what is kept at a moment
abbrev pub kept_at : ℕ → Kept → Kept
kept_at now k = record { entries = filter (is_within now) k.entries; moment = now }

-- what is kept with one entry more, where there is room
abbrev pub with_entry : Entry → Kept → Kept
with_entry e k =
    record k { entries = k.entries ++ option_to_list (cond (nat_lt (length k.entries) most_openers) (Some e) None) }
