-- Items by workers beside each other.
use Rattle.std.proofs.Common.{◌≡◌, ◌≢◌, ℕ, ◌<◌, ◌==◌, Bool, true, false, cond, List, [], ◌∷◌, ◌++◌}
use Rattle.std.proofs.Common.{length, take, drop, get_or, set, slice_get, Some, IfSome}
use Rattle.std.proofs.Common.{refl, sym, ap, subst, ◌∙◌, arith}
use Rattle.std.proofs.lemmas.Bool.Decides.{nat_tests}
use Rattle.std.proofs.lemmas.List.{get_or-set_same, get_or-set_other, length-set}
use Rattle.std.proofs.lemmas.Option.{slice_get_within}
use Rattle.kp_choice_defs.specs.Recent.{RecentParts}
use Rattle.kp_part_laws.specs.Beside.{IsInPart, SideBySide, in_turn, one_by_one, own_items, united}
use Rattle.kp_part_laws.proofs.Steps.{step_sized, united_step}
use Rattle.kp_part_laws.proofs.United.{one_value, same_length, set_other, set_same, united_same}
use Rattle.kp_part_laws.proofs.United.{within_some}

module _ {A B : Type 0} (step : A → RecentParts → B × RecentParts) where
  -- one more item
  pub done_more : (items : List A) (x : A) (lists : RecentParts)
      → let r = one_by_one step items lists in
      one_by_one step (items ++ x ∷ []) lists ≡ (r.0 ++ (step x r.1).0 ∷ [], (step x r.1).1)
  done_more [] x lists = refl
  done_more (y ∷ ys) x lists =
      let first = step y lists in
      ap (λ (r : List B × RecentParts). (first.0 ∷ r.0, r.1)) (done_more ys x first.1)

module _ {A B : Type 0} (owner : ℕ → ℕ) (part : A → ℕ) (step : A → RecentParts → B × RecentParts)
    (local : (x : A) → IsInPart (part x) (step x))
    (size : ℕ) (afters : List RecentParts) where
  abbrev worker : A → ℕ
  worker x = owner (part x)

  -- the lists after items, and what was told of them
  abbrev After : List A → ℕ → RecentParts → List B → Type 0
  After items w value told =
      (slice_get afters w ≡ Some (one_by_one step items value).1)
      × (told ≡ (one_by_one step items value).0)

  -- what each worker made of its items
  abbrev Did : List A → List RecentParts → List (List B) → Type 0
  Did items values told =
      (w : ℕ) (value : RecentParts) → slice_get values w ≡ Some value
      → After (own_items worker w items) w value (get_or told w [])

  abbrev Sized : List RecentParts → Type 0
  Sized values =
      (w : ℕ) (value : RecentParts) → slice_get values w ≡ Some value → value.size ≡ size

  -- The first item, by the worker that has it.
  module _ (x : A) (items : List A) (values : List RecentParts) (told : List (List B))
      (value : RecentParts) (at : slice_get values (worker x) ≡ Some value)
      (within : worker x < length values) (room : worker x < length told)
      (did : Did (x ∷ items) values told) where
    abbrev mine : List B
    mine = get_or told (worker x) []

    abbrev next_value : RecentParts
    next_value = (step x value).1

    abbrev next_values : List RecentParts
    next_values = set values (worker x) next_value

    abbrev next_told : List (List B)
    next_told = set told (worker x) (drop 1 mine)

    -- the items of a worker, by whether it has the first one
    own_by : (w : ℕ) (b : Bool) → (worker x == w) ≡ b
        → own_items worker w (x ∷ items)
        ≡ cond b (x ∷ own_items worker w items) (own_items worker w items)
    own_by w b is =
        ap (λ c. cond c (x ∷ own_items worker w items) (own_items worker w items)) is

    did_first : After (x ∷ own_items worker (worker x) items) (worker x) value mine
    did_first =
        subst (λ xs. After xs (worker x) value mine)
        (own_by (worker x) true (grind (arith, nat_tests))) (did (worker x) value at)

    found_there : (w : ℕ) (next : RecentParts) → worker x ≡ w
        → slice_get next_values w ≡ Some next → next_value ≡ next
    found_there w next here found =
        one_value (sym (set_same values (worker x) next_value within)
        ∙ ap (slice_get next_values) here ∙ found)

    found_other : (w : ℕ) (next : RecentParts) → w ≢ worker x
        → slice_get next_values w ≡ Some next → slice_get values w ≡ Some next
    found_other w next apart found = sym (set_other values (worker x) w next_value apart) ∙ found

    -- the worker goes on behind it, and the others as before
    did_by : (w : ℕ) (next : RecentParts) (b : Bool) → (worker x == w) ≡ b
        → slice_get next_values w ≡ Some next
        → After (own_items worker w items) w next (get_or next_told w [])
    did_by w next true is found =
        let here : worker x ≡ w = grind (arith, nat_tests) in
        let goes : ℕ → RecentParts → Type 0 = λ v m.
        After (own_items worker v items) v m (get_or next_told v []) in
        subst (goes w) (found_there w next here found)
        (subst (λ v. goes v next_value) here (
          did_first.0,
          get_or-set_same told (worker x) (drop 1 mine) [] room
              ∙ ap (drop 1) did_first.1,
        ))
    did_by w next false is found =
        let apart : w ≢ worker x = (λ same. grind (arith, nat_tests)) in
        let old = did w next (found_other w next apart found) in
        subst (λ xs. After xs w next (get_or next_told w [])) (own_by w false is)
        (old.0, get_or-set_other told (worker x) w (drop 1 mine) [] apart ∙ old.1)

    sized_next : (w : ℕ) (next : RecentParts) (b : Bool) → (worker x == w) ≡ b
        → slice_get next_values w ≡ Some next → value.size ≡ size → Sized values
        → next.size ≡ size
    sized_next w next true is found one sized =
        let here : worker x ≡ w = grind (arith, nat_tests) in
        ap (λ (v : RecentParts). v.size) (sym (found_there w next here found))
        ∙ step_sized (part x) (step x) (local x) value ∙ one
    sized_next w next false is found one sized =
        let apart : w ≢ worker x = (λ same. grind (arith, nat_tests)) in
        sized w next (found_other w next apart found)

  all_done : (items : List A) (values : List RecentParts) (told : List (List B))
      → ((x : A) → worker x < length values)
      → length afters ≡ length values → length told ≡ length values
      → Sized values → Did items values told
      → one_by_one step items (united owner size values)
      ≡ (in_turn worker items told, united owner size afters)
  all_done [] values told owned long wide sized did =
      ap (λ lists. ([], lists)) (united_same owner size values afters
      (same_length values afters long (λ w value at. (did w value at).0)))
  all_done (x ∷ items) values told owned long wide sized did =
      let w = worker x in
      let some = within_some values w (owned x) in
      let value = some.0 in
      let at = some.1 in
      let next = step x value in
      let rest = drop 1 (get_or told w []) in
      let room : w < length told = subst (λ n. w < n) (sym wide) (owned x) in
      let kept = length-set values w next.1 in
      ap (λ (r : B × RecentParts).
      (r.0 ∷ (one_by_one step items r.1).0, (one_by_one step items r.1).1))
      (united_step (part x) (step x) (local x) owner size values value (owned x) at
      (sized w value at))
      ∙ ap (λ (r : List B × RecentParts). (next.0 ∷ r.0, r.1))
      (all_done items (set values w next.1) (set told w rest)
      (λ y. subst (λ n. worker y < n) (sym kept) (owned y)) (long ∙ sym kept)
      (length-set told w rest ∙ wide ∙ sym kept)
      (λ v m found. sized_next x items values told value at (owned x) room did v m
      (w == v) refl found (sized w value at) sized)
      (λ v m found. did_by x items values told value at (owned x) room did v m
      (w == v) refl found))
      ∙ ap (λ mine. (
        take 1 mine ++ in_turn worker items (set told w rest),
        united owner size afters,
      ))
      (sym (did_first x items values told value at (owned x) room did).1)

pub side_by_side : {A B : Type 0} → SideBySide A B
side_by_side owner part step local size values afters told items owned long wide sized did =
    all_done owner part step local size afters items values told owned long wide
    (λ w value at. subst (λ o. IfSome o (λ v. v.size ≡ size)) at (sized w))
    (λ w value at.
    let inside = slice_get_within values w value at in
    let some = within_some afters w (subst (λ n. w < n) (sym long) inside) in
    let ran = one_by_one step (own_items (λ x. owner (part x)) w items) in
    let both = subst (λ o. IfSome o (λ v. IfSome (slice_get afters w)
    (λ after. ran v ≡ (get_or told w [], after)))) at (did w) in
    let same = subst (λ o. IfSome o (λ after. ran value ≡ (get_or told w [], after)))
    some.1 both in
    (some.1 ∙ (λ i. Some ((sym same) i).1), (λ i. ((sym same) i).0)))
