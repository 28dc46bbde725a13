-- The third step of packing a group: what is left goes to a slice with room for it, or to new slices.
use Rattle.std.proofs.Common.{◌≡◌, ◌⊎◌, inl, inr, ⊎_elim, ℕ, zero, suc, ◌+◌, ◌≤◌, ◌<◌, max, Bool, true, false, cond, not, ◌&&◌, ◌||◌, ◌==◌, nat_le, List, [], ◌∷◌, ◌++◌, take, drop, length, refl, sym, ap, ◌∙◌, append_assoc, append-nil, length-append, length-take, length-drop, arith, IsPermutation, leb-true, eq-eqb}
use Rattle.std.specs.List.{filter, fold, flat_map, list_any, AllByRecursion}
use Rattle.std.proofs.lemmas.Bool.{false≢true, cond_both, or_left, or_right, and_parts, cases_lt}
use Rattle.std.proofs.lemmas.List.{length-map}
use Rattle.std.proofs.lemmas.List.Sorted.{IsPermutation-refl, IsPermutation-append_comm}
use Rattle.kp_types.specs.declared.slice.Slice.{Slice}
use Rattle.kp_types.specs.declared.slice.Wanted.{Wanted}
use Rattle.kp_object_defs.specs.Packing.{Filling, Placed, with_more, has_room, fullest, is_as_full, give_first, fill_fullest, fits_in_one, placed_if, place_left, packed_group, fill_changed, keep_all}
use Rattle.kp_pack_laws.proofs.Shuffles.{same_list, and_then, joined, to_front}
use Rattle.kp_pack_laws.proofs.Keeping.{entries, entries_of, slices_of, AreWithin, taken_and_left, two_steps}

-- ---- a slice with room is as full as the fullest

module _ {X : Type 0} (p : X → Bool) where
  some_pass : (xs : List X) → list_any p xs ≡ true → 0 < length (filter p xs)
  some_pass [] h = absurd (false≢true h)
  some_pass (x ∷ xs) h =
      cond_both (p x) _ _ (λ ys. 0 < length ys) (λ e. omega arith)
      (λ e. some_pass xs (sym (ap (λ b. b || list_any p xs) e) ∙ h))

  any_filtered : (q : X → Bool) (xs : List X) → list_any q (filter p xs) ≡ list_any (λ x. p x && q x) xs
  any_filtered q [] = refl
  any_filtered q (x ∷ xs) = by (p x) (any_filtered q xs)
    where
      by : (b : Bool) → list_any q (filter p xs) ≡ list_any (λ y. p y && q y) xs → list_any q (cond b (x ∷ filter p xs) (filter p xs)) ≡ ((b && q x) || list_any (λ y. p y && q y) xs)
      by true rest = ap (λ c. q x || c) rest
      by false rest = rest

abbrev size_from : ℕ → List Filling → ℕ
size_from size fs = fold (λ n f. max n (length f.endpoints)) size fs

size_step : (all size own : ℕ) (b : Bool) → (all ≡ max size own) ⊎ (b ≡ true) → (all ≡ size) ⊎ (((own == all) || b) ≡ true)
size_step all size own b (inr h) = inr (or_right _ b h)
size_step all size own b (inl e) =
    ⊎_elim (λ less. inr (or_left _ b (eq-eqb own all (omega (arith, e))))) (λ more. inl (omega (arith, e))) (cases_lt size own)

-- the size that was found is the one that it began with, or one of a slice
reached : (fs : List Filling) (size : ℕ) → (size_from size fs ≡ size) ⊎ (list_any (λ f. length f.endpoints == size_from size fs) fs ≡ true)
reached [] size = inl refl
reached (f ∷ fs) size = size_step _ size _ _ (reached fs _)

reached_from_none : (fs : List Filling) → 0 < length fs → list_any (λ f. length f.endpoints == size_from 0 fs) fs ≡ true
reached_from_none [] some = absurd (omega arith)
reached_from_none (f ∷ fs) some =
    let own = length f.endpoints in
    let all = size_from (max 0 own) fs in
    ⊎_elim (λ e. or_left _ _ (eq-eqb own all (omega (arith, e)))) (λ h. or_right _ _ h) (reached fs _)

one_is_as_full : (most n : ℕ) (fs : List Filling) → list_any (has_room most n) fs ≡ true → list_any (is_as_full most n (fullest most n fs)) fs ≡ true
one_is_as_full most n fs h =
    sym (any_filtered _ (λ f. length f.endpoints == fullest most n fs) fs)
    ∙ reached_from_none _ (some_pass _ fs h)

-- ---- one slice takes endpoints

given : (test : Filling → Bool) (more : List Wanted) (fs : List Filling) → list_any test fs ≡ true → IsPermutation (entries (give_first test more fs)) (entries_of more ++ entries fs)
given test more [] h = absurd (false≢true h)
given test more (f ∷ fs) h =
    cond_both _ _ _
    (λ gs. IsPermutation (entries gs) (entries_of more ++ (f.endpoints ++ entries fs)))
    (λ e. and_then (same_list (append_assoc f.endpoints (entries_of more) (entries fs)))
    (to_front f.endpoints _ _)) (λ e. and_then (joined (IsPermutation-refl f.endpoints)
    (given test more fs (sym (ap (λ b. b || list_any test fs) e) ∙ h))) (to_front f.endpoints _ _))

given_within : (most : ℕ) (test : Filling → Bool) (more : List Wanted) → ((f : Filling) → test f ≡ true → length f.endpoints + length more ≤ most)
    → (fs : List Filling) → AreWithin most fs → AreWithin most (give_first test more fs)
given_within most test more fits [] le = tt
given_within most test more fits (f ∷ fs) le =
    let long = length-append f.endpoints (entries_of more) in
    let same = length-map more (λ w. w.entry) in
    cond_both (test f) _ _ (AreWithin most) (λ e. (omega (arith, fits f e), le.1))
    (λ e. (le.0, given_within most test more fits fs le.1))

given_slices : (test : Filling → Bool) (more : List Wanted) (fs : List Filling) → slices_of (give_first test more fs) ≡ slices_of fs
given_slices test more [] = refl
given_slices test more (f ∷ fs) =
    cond_both (test f) (with_more f more ∷ fs) (f ∷ give_first test more fs)
    (λ gs. slices_of gs ≡ f.slice ∷ slices_of fs) (λ e. refl)
    (λ e. ap (λ ss. f.slice ∷ ss) (given_slices test more fs))

has_room_fits : (most n size : ℕ) (f : Filling) → is_as_full most n size f ≡ true → length f.endpoints + n ≤ most
has_room_fits most n size f h =
    let room = (and_parts (has_room most n f) (length f.endpoints == size) h).0 in
    leb-true (length f.endpoints + n) most (and_parts (not f.is_changed) (nat_le (length f.endpoints + n) most) room).1

-- ---- what is left is placed

pub record IsPlaced (most : ℕ) (fs : List Filling) (left : List Wanted) (r : Placed) : Type 0 where
  pub slices : slices_of r.fillings ≡ slices_of fs
  pub within : AreWithin most r.fillings
  pub sizes : AllByRecursion (λ ws. (1 ≤ length ws) × (length ws ≤ most)) r.made
  pub few : length r.made ≤ length left
  pub same : IsPermutation (entries r.fillings ++ flat_map entries_of r.made) (entries fs ++ entries_of left)

nothing_left : (most : ℕ) (fs : List Filling) → AreWithin most fs → IsPlaced most fs [] (record { fillings = fs; made = [] })
nothing_left most fs le = record { slices = refl; within = le; sizes = tt; few = omega arith; same = IsPermutation-refl _ }

in_one : (most : ℕ) (fs : List Filling) (left : List Wanted) → AreWithin most fs → fits_in_one most left fs ≡ true → IsPlaced most fs left (record { fillings = fill_fullest most left fs; made = [] })
in_one most fs left le h =
    let n = length left in
    let test = is_as_full most n (fullest most n fs) in
    record {
      slices = given_slices test left fs;
      within = given_within most test left (has_room_fits most n _) fs le;
      sizes = tt;
      few = omega arith;
      same =
          and_then (same_list (append-nil (entries (give_first test left fs))))
          (and_then (given test left fs (one_is_as_full most n fs (and_parts _ _ h).1)) (IsPermutation-append_comm (entries_of left) (entries fs)));
    }

one_new : (most : ℕ) (fs : List Filling) (w : Wanted) (ws : List Wanted) (rest : Placed) → 1 ≤ most → IsPlaced most fs (drop most (w ∷ ws)) rest
    → IsPlaced most fs (w ∷ ws) (record rest { made = take most (w ∷ ws) ∷ rest.made })
one_new most fs w ws rest le h =
    let front = length-take most (w ∷ ws) in
    let behind = length-drop most (w ∷ ws) in
    let first = entries_of (take most (w ∷ ws)) in
    record {
      slices = h.slices;
      within = h.within;
      sizes = ((omega arith, omega arith), h.sizes);
      few = omega (arith, h.few);
      same =
          and_then (to_front _ first _) (and_then (joined (IsPermutation-refl first) h.same)
          (and_then (to_front first _ _) (joined (IsPermutation-refl (entries fs)) (same_list (taken_and_left most _)))));
    }

placed : (most : ℕ) (fs : List Filling) → 1 ≤ most → AreWithin most fs → (n : ℕ) (left : List Wanted) → length left ≤ n → IsPlaced most fs left (place_left n most fs left)
placed most fs some le zero [] few = nothing_left most fs le
placed most fs some le zero (w ∷ ws) few = absurd (omega arith)
placed most fs some le (suc n) [] few = nothing_left most fs le
placed most fs some le (suc n) (w ∷ ws) few =
    by _ refl (placed most fs some le n _ (let behind = length-drop most (w ∷ ws) in omega arith))
  where
    by : (b : Bool) → fits_in_one most (w ∷ ws) fs ≡ b → IsPlaced most fs (drop most (w ∷ ws)) (place_left n most fs (drop most (w ∷ ws)))
        → IsPlaced most fs (w ∷ ws) (placed_if b most (w ∷ ws) fs (place_left n most fs (drop most (w ∷ ws))))
    by true e rest = in_one most fs _ le e
    by false e rest = one_new most fs w ws _ some rest

-- ---- all three steps

pub record IsGroup (most : ℕ) (before : List Slice) (wanted : List Wanted) (r : Placed) : Type 0 where
  pub slices : slices_of r.fillings ≡ before
  pub within : AreWithin most r.fillings
  pub sizes : AllByRecursion (λ ws. (1 ≤ length ws) × (length ws ≤ most)) r.made
  pub few : length r.made ≤ length wanted
  pub same : IsPermutation (entries r.fillings ++ flat_map entries_of r.made) (entries_of wanted)

pub three_steps : (most : ℕ) (before : List Slice) (wanted : List Wanted) → 1 ≤ most → IsGroup most before wanted (packed_group most before wanted)
three_steps most before wanted some =
    let p = fill_changed most (keep_all most before wanted) in
    let ready = two_steps most before wanted in
    let done = placed most p.fillings some ready.within _ p.left (omega arith) in
    record {
      slices = done.slices ∙ ready.slices;
      within = done.within;
      sizes = done.sizes;
      few = omega (arith, done.few, ready.few);
      same = and_then done.same ready.same;
    }
