-- How the parts of lists stand on sixteen shelves, and go from lists to others.
use Rattle.std.specs.Prelude.{◌≡◌, ℕ, ◌%◌, ◌==◌, ◌&&◌, nat_lt, not, Bool, false, List, length, cond}
use Rattle.std.specs.Prelude.{Option, None, option_and_then, slice_get, IfSome}
use Rattle.std.specs.FinMap.{get}
use Rattle.kp_choice_defs.specs.Recent.{RecentParts, Shard, Sighting}
use Rattle.kp_part_laws.specs.Beside.{AreSized, worker_of}

-- the shelf of a part
abbrev pub shelf_of : ℕ → ℕ
shelf_of part = part % 16

-- sixteen shelves of one size
pub record AreShelves (size : ℕ) (shelves : List RecentParts) : Type 0 where
  pub long : length shelves ≡ 16
  pub sized : AreSized size shelves

-- lists of which one shelf was changed for that of others
pub record HasShelfOf (n : ℕ) (other before now : RecentParts) : Type 0 where
  pub size : now.size ≡ before.size
  pub parts : (q : Shard) → get now.parts q
      ≡ cond (shelf_of q.part == n) (get other.parts q) (get before.parts q)

-- these lists have some parts of others, and nothing else
pub record HasOf (keeps : ℕ → Bool) (lists now : RecentParts) : Type 0 where
  pub size : now.size ≡ lists.size
  pub parts : (q : Shard) → get now.parts q ≡ cond (keeps q.part) (get lists.parts q) None

-- the parts of a worker among so many that are on the first shelves
abbrev pub first_of : ℕ → ℕ → ℕ → ℕ → Bool
first_of n count w part = nat_lt (shelf_of part) n && (worker_of count part == w)

-- the parts on shelves after the first ones
abbrev pub is_after : ℕ → ℕ → Bool
is_after n part = not (nat_lt (shelf_of part) n)

-- values that were cut from lists have the parts of their workers that are on the first shelves
abbrev pub AreCut : ℕ → ℕ → RecentParts → List RecentParts → Type 0
AreCut n count lists values =
    (w : ℕ) → IfSome (slice_get values w) (λ value. HasOf (first_of n count w) lists value)

-- a look-up in what values have of their own parts
abbrev pub own_look : List RecentParts → Shard → Option (List Sighting)
own_look values q =
    option_and_then (λ value. get value.parts q)
    (slice_get values (worker_of (length values) q.part))

-- lists that had nothing have the parts of values that are on the first shelves
pub record HasFirst (n : ℕ) (values : List RecentParts) (before now : RecentParts) : Type 0 where
  pub size : now.size ≡ before.size
  pub parts : (q : Shard)
      → get now.parts q ≡ cond (nat_lt (shelf_of q.part) n) (own_look values q) None

-- a value that was given away has what it had on the shelves after the first ones
pub record HasLeft (n : ℕ) (size : ℕ) (before now : RecentParts) : Type 0 where
  pub size_is : now.size ≡ size
  pub parts : (q : Shard) → nat_lt (shelf_of q.part) n ≡ false
      → get now.parts q ≡ get before.parts q

-- and so have all values
abbrev pub AreLeft : ℕ → ℕ → List RecentParts → List RecentParts → Type 0
AreLeft n size before now =
    (w : ℕ) → IfSome (slice_get now w) (λ value. IfSome (slice_get before w)
    (λ old. HasLeft n size old value))
