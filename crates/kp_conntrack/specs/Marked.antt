-- Rows that are marked, and how a walk along a list goes. No public clause cites this.
use Rattle.std.specs.Prelude.{◌≡◌, ℕ, ◌+◌, ◌≤◌, ◌&&◌, ◌||◌, Bool, true, false, List, [], ◌∷◌, ◌++◌, length, not, slice_get, slice_index_or, Option}
use Rattle.std.specs.List.{list_any}
use Rattle.futures.specs.LinkedLists.{IsIn}
use Rattle.kp_base.specs.declared.key.Endpoint.{Endpoint}
use Rattle.kp_base.specs.Keys.{same_proto}
use Rattle.kp_base.specs.declared.port.Proto.TheVariants.{Udp}
use Rattle.kp_links.specs.Lists.{IsMoved, Lists, rows_of}
use Rattle.kp_track_defs.specs.declared.flow.Entry.{Entry}
use Rattle.kp_track_defs.specs.Kept.{is_sent_to}
use Rattle.kp_conntrack.specs.declared.index.Index.{Index}
use Rattle.kp_conntrack.specs.Laid.{AreOf, IsRemoved, entry_at}

-- a row is marked
abbrev pub is_marked : List Bool → ℕ → Bool
is_marked marks row = slice_index_or marks row false

-- of these rows those are marked that were, and those whose entry passes
abbrev pub AreMarkedToo : (Entry → Bool) → List Entry → List ℕ → List Bool → List Bool → Type 0
AreMarkedToo test rows kept old new =
    (row : ℕ) → IsIn row kept → is_marked new row ≡ (is_marked old row || test (entry_at rows row))

-- of these rows those are marked whose entry was sent to one of these endpoints
abbrev pub AreMarkedBy : List Entry → List ℕ → List Endpoint → List Bool → Type 0
AreMarkedBy rows kept endpoints marks =
    (row : ℕ) → IsIn row kept → is_marked marks row ≡ list_any (λ e. is_sent_to e (entry_at rows row)) endpoints

-- so many rows, and no list has more
pub record HasRows (rows : List Entry) (lists : Lists) : Type 0 where
  pub len : length rows ≡ 65536
  pub sized : AreOf lists 262144 65536
  pub few : (list : ℕ) → length (rows_of lists list) ≤ 65536

-- a row was freed, or nothing changed
abbrev pub IsFreedIf : Bool → Lists → Lists → Index → Index → ℕ → Type 0
IsFreedIf true order new_order index new_index row = IsMoved order new_order 1 row × IsRemoved index new_index row
IsFreedIf false order new_order index new_index row = (new_order ≡ order) × (new_index ≡ index)

-- an entry of UDP goes where its row isn't marked
abbrev pub goes : Bool → Entry → Bool
goes marked e = same_proto e.connection.proto Udp && not marked

-- A walk along a list of rows has passed some of them, whose entries pass a test, and comes to the first of the
-- rest, of which there are no more than turns are left.
pub record IsWalked (test : ℕ → Bool) (all : List ℕ) (next : Option ℕ) (turn : ℕ) : Type 0 where
  pub seen : List ℕ
  pub rest : List ℕ
  pub whole : all ≡ seen ++ rest
  pub here : next ≡ slice_get rest 0
  pub turns : length rest + turn ≤ 65536
  pub passed : (row : ℕ) → IsIn row seen → test row ≡ true

-- A walk along the list of an endpoint has marked the rows it passed that were sent there, and no others.
pub record IsMarking (rows : List Entry) (to : Endpoint) (all : List ℕ) (old now : List Bool) (next : Option ℕ) (turn : ℕ) : Type 0 where
  pub walked : IsWalked (λ row. not (is_sent_to to (entry_at rows row)) || is_marked now row) all next turn
  pub stays : (row : ℕ) → is_marked old row ≡ true → is_marked now row ≡ true
  pub only : (row : ℕ) → is_marked now row ≡ true → (is_marked old row || is_sent_to to (entry_at rows row)) ≡ true
