-- Lists in the order of keys.
use Rattle.std.specs.Prelude.{◌&&◌, Bool, true, List, [], ◌∷◌, map, reverse}
use Rattle.std.specs.List.{list_all}
use Rattle.std.specs.Ordering.{is_lt}
use Rattle.std.specs.declared.cmp.Ordering.{Ordering}
use Rattle.std.specs.FinMap.{put}
pub use Rattle.kp_lemmas.specs.Lists.{first_places}

-- the entries in the order of their keys; of entries with one key the first counts, as in a finite
-- map
abbrev pub in_order : {K X : Type 0} → (K → K → Ordering) → List (K × X) → List (K × X)
in_order R [] = []
in_order R (e ∷ es) = put R e.0 e.1 (in_order R es)

-- the values of entries
abbrev pub values_of : {K X : Type 0} → List (K × X) → List X
values_of es = map (λ e. e.1) es

-- Elements by their keys, in order. Of elements with one key the last counts, as a later apply of
-- an object takes the place of an earlier one.
abbrev pub by_key : {K X : Type 0} → (K → K → Ordering) → (X → K) → List X → List (K × X)
by_key R key xs = in_order R (reverse (map (λ x. (key x, x)) xs))

-- the elements once each, in order
abbrev pub distinct_in_order : {K : Type 0} → (K → K → Ordering) → List K → List K
distinct_in_order R ks = map (λ e. e.0) (in_order R (map (λ k. (k, k)) ks))

-- each key is below all that stand behind it, so that none stands twice
abbrev pub rises : {K : Type 0} → (K → K → Ordering) → List K → Bool
rises R [] = true
rises R (k ∷ ks) = list_all (λ l. is_lt (R k l)) ks && rises R ks
