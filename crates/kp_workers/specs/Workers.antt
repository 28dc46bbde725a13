-- What workers have together, and what they do.
use Rattle.std.specs.Prelude.{◌≡◌, ◌<◌, ℕ, ◌%◌, Bool, true, None, List, [], ◌∷◌, ◌++◌, length, map, IfSome, slice_get}
use Rattle.kp_base.specs.Net.{AddressParts}
use Rattle.kp_choice_defs.specs.Recent.{RecentParts}
use Rattle.kp_part_laws.specs.Beside.{AreSized, one_by_one, own_items, united, worker_of}
use Rattle.kp_part_laws.specs.Unseen.{kept_parts}
use Rattle.kp_workers.specs.Texts.{Keeps, Kept, kept_in}
use Rattle.kp_workers.specs.declared.worker.Worker.{Worker}

-- ---- Their lists

-- the lists of workers
abbrev pub lists_of : List Worker → List RecentParts
lists_of workers = map (λ w. w.lists) workers

-- the size of the first of these lists
abbrev pub size_in : List RecentParts → ℕ
size_in [] = 0
size_in (value ∷ values) = value.size

-- what workers with these lists have together
abbrev pub together : List RecentParts → RecentParts
together values = united (worker_of (length values)) (size_in values) values

-- the lists of workers, of one size
pub record AreLike (values : List RecentParts) : Type 0 where
  pub some : 0 < length values
  pub sized : AreSized (size_in values) values

-- lists that have in the part of a source what others have
abbrev pub SeesAs : AddressParts → RecentParts → RecentParts → Type 0
SeesAs source own all =
    (keeps : ℕ → Bool) × (keeps (source.number % 16) ≡ true)
    × (kept_parts keeps own ≡ kept_parts keeps all)

-- ---- What they do

-- what the texts of workers are kept as
abbrev pub kept_of : List Worker → List Kept
kept_of workers = map (λ w. kept_in w.texts) workers

-- what a worker does with its own of some items, from these lists on
abbrev pub done_own : {T B : Type 0} → (T → ℕ) → (T → RecentParts → B × RecentParts) → List T → ℕ
    → RecentParts → List B × RecentParts
done_own worker step items own lists = one_by_one step (own_items worker own items) lists

-- a worker has done this more
pub record GoesOn (done : List (List ℕ) × RecentParts) (before after : Worker) : Type 0 where
  pub texts : (told : List (List ℕ)) → Keeps (kept_in before.texts) told
      → Keeps (kept_in after.texts) (told ++ done.0)
  pub lists : after.lists ≡ done.1

-- a worker has done this
pub record HasDone (done : List (List ℕ) × RecentParts) (worker : Worker) : Type 0 where
  pub texts : Keeps (kept_in worker.texts) done.0
  pub lists : worker.lists ≡ done.1

-- each worker has done what is its own, unless memory was refused to it
abbrev pub EachHasDone : (ℕ → RecentParts → List (List ℕ) × RecentParts) → List Worker
    → List Worker → Type 0
EachHasDone done befores afters =
    (w : ℕ) → IfSome (slice_get befores w) (λ before. IfSome (slice_get afters w)
    (λ after. after.refused ≡ None → HasDone (done w before.lists) after))

-- the lists of each worker have the size that they had
abbrev pub EachKeepsSize : {W : Type 0} → (W → RecentParts) → List W → List W → Type 0
EachKeepsSize lists_in befores afters =
    (w : ℕ) → IfSome (slice_get befores w) (λ before. IfSome (slice_get afters w)
    (λ after. (lists_in after).size ≡ (lists_in before).size))

-- no worker was refused memory
abbrev pub NoneRefused : List Worker → Type 0
NoneRefused workers = (w : ℕ) → IfSome (slice_get workers w) (λ x. x.refused ≡ None)
