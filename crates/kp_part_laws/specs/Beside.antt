-- Items that change recent lists, one after the other, and by workers beside each other.
use Rattle.std.specs.Prelude.{◌≡◌, ℕ, suc, ◌<◌, ◌%◌, ◌==◌, List, [], ◌∷◌, ◌++◌, length, take, drop}
use Rattle.std.specs.Prelude.{get_or, set, slice_get, IfSome}
use Rattle.std.specs.List.{filter}
use Rattle.std.specs.FinMap.{from_entries, entries}
use Rattle.kp_base.specs.Net.{AddressParts}
use Rattle.kp_choice_defs.specs.Recent.{RecentParts, Shard, Sighting, shard_cmp}
use Rattle.kp_part_laws.specs.Unseen.{IsUnseen, kept_parts}

-- ---- The lists of workers

-- of so many workers, the one that has this part: sixteen parts in turn
abbrev pub worker_of : ℕ → ℕ → ℕ
worker_of count part = part % 16 % count

-- what values have of the parts that are their own, by who owns a part: the first is the w-th
abbrev pub own_entries : (ℕ → ℕ) → ℕ → List RecentParts → List (Shard × List Sighting)
own_entries owner w [] = []
own_entries owner w (value ∷ values) =
    entries (kept_parts (λ part. owner part == w) value).parts ++ own_entries owner (suc w) values

-- The recent lists of this size that values have together: each gives the parts that it owns, and
-- nothing of the others.
abbrev pub united : (ℕ → ℕ) → ℕ → List RecentParts → RecentParts
united owner size values =
    record { size = size; parts = from_entries {R = shard_cmp} (own_entries owner 0 values) }

-- all values are of this size
abbrev pub AreSized : ℕ → List RecentParts → Type 0
AreSized size values = (w : ℕ) → IfSome (slice_get values w) (λ value. value.size ≡ size)

-- ---- Items

-- A step that looks at one part of recent lists alone, and changes it alone: it does the same
-- before and after a change of the lists that the calls for the sources of this part can't tell.
abbrev pub IsInPart : {B : Type 0} → ℕ → (RecentParts → B × RecentParts) → Type 0
IsInPart part step =
    (change : RecentParts → RecentParts) (lists : RecentParts)
    → ((source : AddressParts) → source.number % 16 ≡ part → IsUnseen source change)
    → step (change lists) ≡ ((step lists).0, change (step lists).1)

-- the answers to items one after the other, and the lists after them
abbrev pub one_by_one : {A B : Type 0} → (A → RecentParts → B × RecentParts) → List A
    → RecentParts → List B × RecentParts
one_by_one step [] lists = ([], lists)
one_by_one step (x ∷ xs) lists =
    let first = step x lists in
    let others = one_by_one step xs first.1 in
    (first.0 ∷ others.0, others.1)

-- the items of a worker
abbrev pub own_items : {A : Type 0} → (A → ℕ) → ℕ → List A → List A
own_items worker w items = filter (λ x. worker x == w) items

-- the answers in the order of items, by what each worker told: for each the next one of its worker
abbrev pub in_turn : {A B : Type 0} → (A → ℕ) → List A → List (List B) → List B
in_turn worker [] told = []
in_turn worker (x ∷ xs) told =
    let mine = get_or told (worker x) [] in
    take 1 mine ++ in_turn worker xs (set told (worker x) (drop 1 mine))

-- each worker did its own items in order: what it told, and its lists after them
abbrev pub DidOwn : {A B : Type 0} → (A → ℕ) → (A → RecentParts → B × RecentParts) → List A
    → List RecentParts → List RecentParts → List (List B) → Type 0
DidOwn worker step items values afters told =
    (w : ℕ) → IfSome (slice_get values w) (λ value. IfSome (slice_get afters w) (λ after.
    one_by_one step (own_items worker w items) value ≡ (get_or told w [], after)))

-- Workers beside each other are one thread: the answers in turn are those of all items one after
-- the other, and the lists that the workers have together are those after all items.
abbrev pub SideBySide : Type 0 → Type 0 → Type 0
SideBySide A B =
    (owner : ℕ → ℕ) (part : A → ℕ) (step : A → RecentParts → B × RecentParts)
    → ((x : A) → IsInPart (part x) (step x))
    → (size : ℕ) (values afters : List RecentParts) (told : List (List B)) (items : List A)
    → ((x : A) → owner (part x) < length values)
    → length afters ≡ length values → length told ≡ length values → AreSized size values
    → DidOwn (λ x. owner (part x)) step items values afters told
    → one_by_one step items (united owner size values)
    ≡ (in_turn (λ x. owner (part x)) items told, united owner size afters)
