-- What was published of each key, and the newest values.
use Rattle.std.specs.Prelude.{◌≡◌, Bool, not, List, [], ◌∷◌, Option, Some, None, refl}
use Rattle.std.specs.List.{list_any}
use Rattle.std.specs.List.Sorted.{IsStrictlySortedBy}
use Rattle.std.specs.Option.{option_eq}
use Rattle.std.specs.Ordering.{eq_by_cmp}
use Rattle.std.specs.declared.cmp.Ordering.{Ordering}
use Rattle.std.specs.Coded.{Coded, code_by, coded×, coded_list, coded_option}
use Rattle.std.specs.FinMap as finite
use Rattle.std.specs.FinMap.{FinMap}

-- The entries that were published, and the updates since. What they mean is told by the two maps
-- below, which need the order of the keys.
pub record Tracked (K V : Type 0) : Type 0 where
  pub entries : List (K × V)
  pub updates : List (K × Option V)

-- they are stored as two lists are
abbrev pub tracked_code : {K V : Type 0} → Coded K → Coded V → Coded (Tracked K V)
tracked_code k v =
    code_by _ (coded× (coded_list (coded× k v)) (coded_list (coded× k (coded_option v))))
    (λ t. (t.entries, t.updates)) (λ p. record { entries = p.0; updates = p.1 }) (λ _. refl)

module _ {K V : Type 0} (R : K → K → Ordering) where
  -- values with this one at a key, or with none there
  abbrev pub with_value : FinMap R V → K → Option V → FinMap R V
  with_value m k None = finite.remove m k
  with_value m k (Some v) = finite.insert m k v

  -- published values with what was updated since; of two updates of a key the first counts
  abbrev pub updated : FinMap R V → List (K × Option V) → FinMap R V
  updated m [] = m
  updated m (e ∷ es) = with_value (updated m es) e.0 e.1

  -- the values that were published last, by key
  abbrev pub published : Tracked K V → FinMap R V
  published t = finite.from_entries {R = R} t.entries

  -- the newest values, by key
  abbrev pub newest : Tracked K V → FinMap R V
  newest t = updated (published t) t.updates

  -- whether a key's newest value differs from the published one
  abbrev pub is_changed : (V → V → Bool) → Tracked K V → K → Bool
  is_changed same t k =
      not (option_eq same (finite.get (published t) k) (finite.get (newest t) k))

  -- The keys are those whose newest value differs from the published one, in order, each once.
  pub record IsPending (same : V → V → Bool) (t : Tracked K V) (keys : List K) : Type 0 where
    pub each : (k : K) → list_any (eq_by_cmp R k) keys ≡ is_changed same t k
    pub in_order : IsStrictlySortedBy R keys

  -- whether an update gives its key another value than the published one
  abbrev pub is_other : (V → V → Bool) → List (K × V) → K × Option V → Bool
  is_other same es (k, v) = not (option_eq same (finite.get (finite.from_entries {R = R} es) k) v)
