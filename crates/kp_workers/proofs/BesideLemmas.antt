-- Workers beside each other.
use Rattle.std.proofs.Common.{◌≡◌, ◌≢◌, ◌<◌, ◌+◌, ◌%◌, ◌==◌, ℕ, zero, suc, Bool, true, false, List, [], ◌∷◌, ◌++◌, length, map, take, drop, get_or, set, slice_get, IfSome, ap, sym, subst, refl, ◌∙◌, append_assoc, arith}
use Rattle.std.specs.List.{concat}
use Rattle.std.specs.Prelude.{Result, Ok, Err, OnOk}
use Rattle.std.proofs.lemmas.Bool.Decides.{nat_tests}
use Rattle.std.proofs.Math.ListN.{get_or-map}
use Rattle.std.proofs.lemmas.List.{drop_more, get_or-set_same, get_or-set_other, length-map, length-set, map-append, map-set, take_more}
use Rattle.std.proofs.lemmas.List.Folds.{concat-append}
use Rattle.std.proofs.lemmas.Nat.{mod_below}
use Rattle.std.proofs.lemmas.Option.{slice_get-get_or}
use Rattle.kp_choice_defs.specs.Recent.{RecentParts}
use Rattle.kp_part_laws.specs.Beside.{AreSized, IsInPart, in_turn, one_by_one, united, worker_of}
use Rattle.kp_part_laws.proofs.Beside.{side_by_side}
use Rattle.kp_part_laws.proofs.United.{set_same, set_other}
use Rattle.kp_workers.specs.Texts.{AreKept, Keeps, Kept, kept_in, left_in}
use Rattle.kp_workers.specs.Workers.{AreLike, EachHasDone, EachKeepsSize, NoneRefused, done_own, kept_of, lists_of, size_in, together}
use Rattle.kp_workers.specs.declared.texts.TextsOn.{TextsOn}
use Rattle.kp_workers.specs.declared.worker.Worker.{Worker}

-- ---- Texts in turn

module _ {T : Type 0} (worker : T → ℕ) (items : List T) (n : ℕ) (x : T) (within : n < length items)
    (is : x ≡ get_or items n x) (all : List Kept) (told : List (List (List ℕ)))
    (kept : AreKept all told) (there : worker x < length all) (d on : Kept) (text : List ℕ)
    (next : (mine : List (List ℕ)) → Keeps (get_or all (worker x) d) mine
    → Keeps on (drop 1 mine) × (text ≡ concat (take 1 mine))) where
  abbrev mine : List (List ℕ)
  mine = get_or told (worker x) []

  abbrev told_on : List (List (List ℕ))
  told_on = set told (worker x) (drop 1 mine)

  tells : Keeps on (drop 1 mine) × (text ≡ concat (take 1 mine))
  tells =
      next mine
      (subst (λ o. IfSome o (λ k. Keeps k mine)) (slice_get-get_or all (worker x) d there)
      (kept.each (worker x)))

  on_by : (w : ℕ) (b : Bool) → (worker x == w) ≡ b
      → IfSome (slice_get (set all (worker x) on) w) (λ k. Keeps k (get_or told_on w []))
  on_by w true same =
      let here : worker x ≡ w = grind (arith, nat_tests) in
      subst (λ v. IfSome (slice_get (set all (worker x) on) v) (λ k. Keeps k (get_or told_on v [])))
      here
      (subst (λ o. IfSome o (λ k. Keeps k (get_or told_on (worker x) [])))
      (sym (set_same all (worker x) on there))
      (subst (Keeps on)
      (sym (get_or-set_same told (worker x) (drop 1 mine) []
      (subst (λ l. worker x < l) (sym kept.long) there))) tells.0))
  on_by w false other =
      let apart : w ≢ worker x = (λ same. grind (arith, nat_tests)) in
      subst (λ o. IfSome o (λ k. Keeps k (get_or told_on w [])))
      (sym (set_other all (worker x) w on apart))
      (subst (λ m. IfSome (slice_get all w) (λ k. Keeps k m))
      (sym (get_or-set_other told (worker x) w (drop 1 mine) [] apart)) (kept.each w))

  -- the next item is told
  pub told_more : AreKept (set all (worker x) on) told_on
      × (concat (in_turn worker (drop n items) told)
      ≡ text ++ concat (in_turn worker (drop (n + 1) items) told_on))
  told_more = (
    record {
      long =
          length-set told (worker x) (drop 1 mine) ∙ kept.long
          ∙ sym (length-set all (worker x) on);
      each = λ w. on_by w (worker x == w) refl;
    },
    ap (λ xs. concat (in_turn worker xs told))
        (drop_more items n x within ∙ ap (λ y. y ∷ drop (n + 1) items) (sym is))
        ∙ concat-append (take 1 mine) (in_turn worker (drop (n + 1) items) told_on)
        ∙ ap (λ t. t ++ concat (in_turn worker (drop (n + 1) items) told_on)) (sym tells.1),
  )

-- the next item is told by its worker
pub tells_next : {T : Type 0} (worker : T → ℕ) (items : List T) (n : ℕ) (x : T)
    → n < length items → x ≡ get_or items n x → (tellers : List TextsOn) (place : ℕ)
    → place ≡ worker x → place < length tellers → (old new : TextsOn)
    → old ≡ get_or tellers place old → (text out grown all : List ℕ)
    → ((mine : List (List ℕ)) → Keeps (left_in old) mine
    → Keeps (left_in new) (drop 1 mine) × (text ≡ concat (take 1 mine)))
    → grown ≡ out ++ text
    → (rest : List (List (List ℕ))) × AreKept (map left_in tellers) rest
    × (all ≡ out ++ concat (in_turn worker (drop n items) rest))
    → (rest : List (List (List ℕ))) × AreKept (map left_in (set tellers place new)) rest
    × (all ≡ grown ++ concat (in_turn worker (drop (n + 1) items) rest))
tells_next worker items n x within is tellers place at there old new here text out grown all next
    more before =
    let rest = before.0 in
    let wide : worker x < length (map left_in tellers) =
    subst (λ k. worker x < k) (sym (length-map tellers left_in))
    (subst (λ p. p < length tellers) at there) in
    let had : get_or (map left_in tellers) (worker x) (left_in old) ≡ left_in old =
    get_or-map left_in tellers (worker x) old
    ∙ sym (ap left_in (here ∙ ap (λ p. get_or tellers p old) at)) in
    let told =
    told_more worker items n x within is (map left_in tellers) rest before.1 wide (left_in old)
    (left_in new) text (λ mine keeps. next mine (subst (λ k. Keeps k mine) had keeps)) in
    let on = set rest (worker x) (drop 1 (get_or rest (worker x) [])) in
    let left = concat (in_turn worker (drop (n + 1) items) on) in (
      on,
      subst (λ k. AreKept k on)
          (sym (map-set left_in tellers (worker x) new)
          ∙ ap (λ p. map left_in (set tellers p new)) (sym at)) told.0,
      before.2 ∙ ap (λ s. out ++ s) told.1 ∙ sym (append_assoc out text left)
          ∙ ap (λ o. o ++ left) (sym more),
    )

-- ---- Workers that tell

-- a fact of each element, and of one more
pushed : {A : Type 0} (P : A → Type 0) (xs : List A) (x : A)
    → ((w : ℕ) → IfSome (slice_get xs w) P) → P x → (w : ℕ) → IfSome (slice_get (xs ++ x ∷ []) w) P
pushed P [] x all p zero = p
pushed P [] x all p (suc w) = tt
pushed P (y ∷ ys) x all p zero = all 0
pushed P (y ∷ ys) x all p (suc w) = pushed P ys x (λ v. all (suc v)) p w

-- one more of the first workers
pub first_more : (P : Worker → Type 0) (xs : List Worker) (n : ℕ) (x : Worker) → n < length xs
    → x ≡ get_or xs n x → ((w : ℕ) → IfSome (slice_get (take n xs) w) P) → P x
    → (w : ℕ) → IfSome (slice_get (take (n + 1) xs) w) P
first_more P xs n x within is all p w =
    subst (λ ys. IfSome (slice_get ys w) P)
    (sym (take_more xs n x within ∙ ap (λ y. take n xs ++ y ∷ []) (sym is)))
    (pushed P (take n xs) x all p w)

pub tellers_more : {A B C : Type 0} (f : A → C) (g : B → C) (ts more : List A) (t : A) (xs : List B)
    (n : ℕ) (x : B) → n < length xs → x ≡ get_or xs n x → more ≡ ts ++ t ∷ [] → f t ≡ g x
    → map f ts ≡ map g (take n xs) → map f more ≡ map g (take (n + 1) xs)
tellers_more f g ts more t xs n x within is grown same before =
    ap (map f) grown ∙ map-append f ts (t ∷ [])
    ∙ (λ i. before i ++ same i ∷ []) ∙ sym (map-append g (take n xs) (x ∷ []))
    ∙ ap (map g) (sym (take_more xs n x within ∙ ap (λ y. take n xs ++ y ∷ []) (sym is)))

-- ---- What workers did

-- what workers were to tell
abbrev told_from : (ℕ → RecentParts → List (List ℕ) × RecentParts) → List Worker
    → List (List (List ℕ))
told_from done [] = []
told_from done (x ∷ xs) = (done 0 x.lists).0 ∷ told_from (λ w. done (suc w)) xs

told_long : (done : ℕ → RecentParts → List (List ℕ) × RecentParts) (xs : List Worker)
    → length (told_from done xs) ≡ length xs
told_long done [] = refl
told_long done (x ∷ xs) = ap suc (told_long (λ w. done (suc w)) xs)

-- each told it
told_kept : (done : ℕ → RecentParts → List (List ℕ) × RecentParts) (befores afters : List Worker)
    → length afters ≡ length befores → EachHasDone done befores afters → NoneRefused afters
    → (w : ℕ) → IfSome (slice_get (kept_of afters) w)
    (λ kept. Keeps kept (get_or (told_from done befores) w []))
told_kept done [] [] long each none w = tt
told_kept done [] (y ∷ ys) long each none w = absurd (omega (arith, long))
told_kept done (x ∷ xs) [] long each none w = absurd (omega (arith, long))
told_kept done (x ∷ xs) (y ∷ ys) long each none zero = (each 0 (none 0)).texts
told_kept done (x ∷ xs) (y ∷ ys) long each none (suc w) =
    told_kept (λ v. done (suc v)) xs ys (omega (arith, long)) (λ v. each (suc v))
    (λ v. none (suc v)) w

-- and its lists are those after its items
did_own : (done : ℕ → RecentParts → List (List ℕ) × RecentParts) (befores afters : List Worker)
    → EachHasDone done befores afters → NoneRefused afters
    → (w : ℕ) → IfSome (slice_get (lists_of befores) w) (λ value.
    IfSome (slice_get (lists_of afters) w)
    (λ after. done w value ≡ (get_or (told_from done befores) w [], after)))
did_own done [] afters each none w = tt
did_own done (x ∷ xs) [] each none zero = tt
did_own done (x ∷ xs) [] each none (suc w) =
    did_own (λ v. done (suc v)) xs [] (λ v. each (suc v)) (λ v. tt) w
did_own done (x ∷ xs) (y ∷ ys) each none zero =
    λ i. ((done 0 x.lists).0, sym (each 0 (none 0)).lists i)
did_own done (x ∷ xs) (y ∷ ys) each none (suc w) =
    did_own (λ v. done (suc v)) xs ys (λ v. each (suc v)) (λ v. none (suc v)) w

-- the sizes of lists stay
module _ {W : Type 0} (lists_in : W → RecentParts) where
  pub size_stays : (befores afters : List W) → length afters ≡ length befores
      → EachKeepsSize lists_in befores afters
      → size_in (map lists_in afters) ≡ size_in (map lists_in befores)
  size_stays [] [] long each = refl
  size_stays [] (y ∷ ys) long each = absurd (omega (arith, long))
  size_stays (x ∷ xs) [] long each = absurd (omega (arith, long))
  size_stays (x ∷ xs) (y ∷ ys) long each = each 0

  pub sizes_stay : (size : ℕ) (befores afters : List W) → length afters ≡ length befores
      → EachKeepsSize lists_in befores afters → AreSized size (map lists_in befores)
      → AreSized size (map lists_in afters)
  sizes_stay size befores [] long each sized w = tt
  sizes_stay size [] (y ∷ ys) long each sized w = absurd (omega (arith, long))
  sizes_stay size (x ∷ xs) (y ∷ ys) long each sized zero = each 0 ∙ sized 0
  sizes_stay size (x ∷ xs) (y ∷ ys) long each sized (suc w) =
      sizes_stay size xs ys (omega (arith, long)) (λ v. each (suc v)) (λ v. sized (suc v)) w

abbrev pub own_lists : Worker → RecentParts
own_lists worker = worker.lists

-- so workers stay alike
pub stay_alike : (befores afters : List Worker) → length afters ≡ length befores
    → EachKeepsSize own_lists befores afters → AreLike (lists_of befores) → AreLike (lists_of afters)
stay_alike befores afters long each alike = record {
  some =
      subst (λ n. 0 < n)
      (length-map befores (λ x. x.lists) ∙ sym long ∙ sym (length-map afters (λ x. x.lists)))
      alike.some;
  sized =
      subst (λ size. AreSized size (lists_of afters)) (sym (size_stays own_lists befores afters long each))
      (sizes_stay own_lists (size_in (lists_of befores)) befores afters long each alike.sized);
}

same_each : (xs : List Worker) → EachKeepsSize own_lists xs xs
same_each [] w = tt
same_each (x ∷ xs) zero = refl
same_each (x ∷ xs) (suc w) = same_each xs w

-- one with lists of the same size in its place
pub set_keeps : (xs : List Worker) (place : ℕ) (on d : Worker)
    → on.lists.size ≡ (get_or xs place d).lists.size → EachKeepsSize own_lists xs (set xs place on)
set_keeps [] place on d same w = tt
set_keeps (x ∷ xs) zero on d same zero = same
set_keeps (x ∷ xs) zero on d same (suc w) = same_each xs w
set_keeps (x ∷ xs) (suc place) on d same zero = refl
set_keeps (x ∷ xs) (suc place) on d same (suc w) = set_keeps xs place on d same w

-- ---- All of it

module _ {T : Type 0} (part : T → ℕ) (step : T → RecentParts → List ℕ × RecentParts)
    (local : (x : T) → IsInPart (part x) (step x)) (items : List T)
    (befores afters : List Worker) (alike : AreLike (lists_of befores))
    (long : length afters ≡ length befores) (sizes : EachKeepsSize own_lists befores afters)
    (each : EachHasDone (done_own (λ x. worker_of (length befores) (part x)) step items)
    befores afters) where
  abbrev worker : T → ℕ
  worker x = worker_of (length befores) (part x)

  abbrev told : List (List (List ℕ))
  told = told_from (done_own worker step items) befores

  -- each of the workers tells what it did
  all_kept : NoneRefused afters → AreKept (kept_of afters) told
  all_kept none = record {
    long =
        told_long (done_own worker step items) befores ∙ sym long
        ∙ sym (length-map afters (λ x. kept_in x.texts));
    each = told_kept (done_own worker step items) befores afters long each none;
  }

  -- in turn they tell, and together they have, what one thread does
  all_done : NoneRefused afters → one_by_one step items (together (lists_of befores))
      ≡ (in_turn worker items told, together (lists_of afters))
  all_done none =
      let n = length-map befores (λ x. x.lists) in
      let m = length-map afters (λ x. x.lists) in
      let size = size_in (lists_of befores) in
      let some : 0 < length befores = subst (λ k. 0 < k) n alike.some in
      (λ i. one_by_one step items (united (worker_of (n i)) size (lists_of befores)))
      ∙ side_by_side (worker_of (length befores)) part step local size (lists_of befores)
      (lists_of afters) told items
      (λ x. subst (λ k. worker_of (length befores) (part x) < k) (sym n)
      (mod_below (part x % 16) (length befores) some))
      (m ∙ long ∙ sym n) (told_long (done_own worker step items) befores ∙ sym n) alike.sized
      (did_own (done_own worker step items) befores afters each none)
      ∙ (λ i. (
        in_turn worker items told,
        united (worker_of (sym (m ∙ long) i))
            (sym (size_stays own_lists befores afters long sizes) i) (lists_of afters),
      ))

  -- so where none was refused memory they have answered all
  pub answered : {E : Type 0} (result : Result (Unit {0}) E) (before out : List ℕ)
      (shown : List Worker) (all : RecentParts) → shown ≡ afters → all ≡ together (lists_of befores)
      → OnOk result (NoneRefused shown)
      → OnOk result ((told : List (List (List ℕ))) → AreKept (kept_of shown) told
      → out ≡ before ++ concat (in_turn (λ x. worker_of (length shown) (part x)) items told))
      → OnOk result ((out ≡ before ++ concat (one_by_one step items all).0)
      × (together (lists_of afters) ≡ (one_by_one step items all).1))
  answered (Ok done) before out shown all same whole free says =
      let none = subst NoneRefused same free in
      let done_all = all_done none in (
        says told (subst (λ s. AreKept (kept_of s) told) (sym same) (all_kept none))
            ∙ ap (λ n. before ++ concat (in_turn (λ x. worker_of n (part x)) items told))
            (ap length same ∙ long)
            ∙ ap (λ r. before ++ concat r.0) (sym done_all)
            ∙ ap (λ l. before ++ concat (one_by_one step items l).0) (sym whole),
        ap (λ r. r.1) (sym done_all) ∙ ap (λ l. (one_by_one step items l).1) (sym whole),
      )
  answered (Err e) before out shown all same whole free says = tt
