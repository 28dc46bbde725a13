-- Lists on sixteen shelves, and values that are cut from lists shelf by shelf.
use Rattle.std.proofs.Common.{◌≡◌, ◌≢◌, ℕ, zero, suc, ◌<◌, ◌%◌, ◌==◌, ◌&&◌, nat_lt, Bool, true}
use Rattle.std.proofs.Common.{false, cond, not, List, [], length, replicate, set, slice_get, refl}
use Rattle.std.proofs.Common.{sym, ap, subst, ◌∙◌, Option, Some, None, IfSome, get_or, unwrap_or}
use Rattle.std.proofs.Common.{arith}
use Rattle.std.specs.FinMap.{empty, get, get-empty}
use Rattle.std.proofs.lemmas.Bool.Decides.{nat_tests}
use Rattle.std.proofs.lemmas.Option.{slice_get_read}
use Rattle.kp_base.specs.Net.{AddressParts}
use Rattle.kp_choice_defs.specs.Recent.{RecentParts, Shard, shard_cmp, shard_of, sightings}
use Rattle.kp_part_laws.specs.Beside.{AreSized, IsInPart, united, worker_of}
use Rattle.kp_part_laws.specs.Unseen.{kept_parts}
use Rattle.kp_part_laws.proofs.Pointwise.{Held}
use Rattle.kp_part_laws.proofs.Steps.{united_step}
use Rattle.kp_part_laws.proofs.United.{kept_get, look, same_lists, set_other, set_same, united_look}
use Rattle.kp_part_laws.proofs.United.{united_none}
use Rattle.kp_recent.specs.Held.{no_sources}
use Rattle.kp_recent.specs.Shelves.{AreCut, AreLeft, AreShelves, HasFirst, HasLeft, HasOf}
use Rattle.kp_recent.specs.Shelves.{HasShelfOf, first_of, is_after, own_look, shelf_of}

-- ---- Facts of all elements

module _ {X : Type 0} where
  -- what one element has, in a list of nothing else
  pub all_same : (P : X → Type 0) (x : X) → P x → (n w : ℕ) → IfSome (slice_get (replicate n x) w) P
  all_same P x is zero w = tt
  all_same P x is (suc n) zero = is
  all_same P x is (suc n) (suc w) = all_same P x is n w

  on_some : (P Q : X → Type 0) (o : Option X) → ((y : X) → P y → Q y) → IfSome o P → IfSome o Q
  on_some P Q None goes is = tt
  on_some P Q (Some y) goes is = goes y is

  -- one element is set, and the others keep what they have
  module _ (P Q : ℕ → X → Type 0) (xs : List X) (w : ℕ) (x : X)
      (within : w < length xs) (is : Q w x)
      (goes : (v : ℕ) → v ≢ w → (y : X) → P v y → Q v y)
      (all : (v : ℕ) → IfSome (slice_get xs v) (P v)) where
    set_by : (v : ℕ) (b : Bool) → (v == w) ≡ b → IfSome (slice_get (set xs w x) v) (Q v)
    set_by v true same =
        let here : w ≡ v = grind (arith, nat_tests) in
        subst (λ u. IfSome (slice_get (set xs w x) u) (Q u)) here
        (subst (λ o. IfSome o (Q w)) (sym (set_same xs w x within)) is)
    set_by v false other =
        let apart : v ≢ w = (λ same. grind (arith, nat_tests)) in
        subst (λ o. IfSome o (Q v)) (sym (set_other xs w v x apart))
        (on_some (P v) (Q v) (slice_get xs v) (goes v apart) (all v))

    pub all_set : (v : ℕ) → IfSome (slice_get (set xs w x) v) (Q v)
    all_set v = set_by v (v == w) refl

-- ---- Sixteen shelves

-- empty shelves are lists without a source
pub no_shelves : (size : ℕ)
    → united shelf_of size (replicate 16 (no_sources size)) ≡ no_sources size
no_shelves size =
    united_none shelf_of size (replicate 16 (no_sources size))
    (all_same (λ value. value.parts ≡ empty) (no_sources size) refl 16)

module _ (size : ℕ) (shelves : List RecentParts) (are : AreShelves size shelves) where
  pub has_shelf : (n : ℕ) → n < 16 → n < length shelves
  has_shelf n low = subst (λ k. n < k) (sym are.long) low

  shelf_sized : (n : ℕ) (shelf : RecentParts) → slice_get shelves n ≡ Some shelf
      → shelf.size ≡ size
  shelf_sized n shelf at = subst (λ o. IfSome o (λ value. value.size ≡ size)) at (are.sized n)

  -- the shelf of a source's part
  pub shelf_there : (number place : ℕ) (shelf : RecentParts) → place ≡ shelf_of number
      → shelf ≡ get_or shelves place shelf → slice_get shelves (shelf_of number) ≡ Some shelf
  shelf_there number place shelf is at =
      let low : shelf_of number < 16 = omega arith in
      slice_get_read shelves 16 (shelf_of number) shelf (sym are.long) low
      (at ∙ ap (λ n. get_or shelves n shelf) is)

  -- a step in a part is one on its shelf
  pub step_on : {B : Type 0} (number : ℕ) (step : RecentParts → B × RecentParts)
      → IsInPart (number % 16) step
      → (shelf : RecentParts) → slice_get shelves (shelf_of number) ≡ Some shelf
      → step (united shelf_of size shelves)
      ≡ ((step shelf).0, united shelf_of size (set shelves (shelf_of number) (step shelf).1))
  step_on number step local shelf at =
      let twice : shelf_of (number % 16) ≡ shelf_of number = omega arith in
      let low : shelf_of number < 16 = omega arith in
      united_step (number % 16) step local shelf_of size shelves shelf
      (subst (λ n. n < length shelves) (sym twice) (has_shelf (shelf_of number) low))
      (subst (λ n. slice_get shelves n ≡ Some shelf) (sym twice) at)
      (shelf_sized (shelf_of number) shelf at)
      ∙ ap (λ n. ((step shelf).0, united shelf_of size (set shelves n (step shelf).1))) twice

  -- the sources of a part stand on its shelf
  pub sightings_on : (list : List ℕ) (source : AddressParts) (shelf : RecentParts)
      → slice_get shelves (shelf_of source.number) ≡ Some shelf
      → sightings (united shelf_of size shelves) (shard_of list source)
      ≡ sightings shelf (shard_of list source)
  sightings_on list source shelf at =
      let q = shard_of list source in
      let twice : shelf_of q.part ≡ shelf_of source.number = omega arith in
      ap (λ h. unwrap_or h [])
      (united_look shelf_of q size shelves
      ∙ ap (λ n. look q (slice_get shelves n)) twice ∙ ap (look q) at)

  -- a shelf of other lists
  module _ (other_size : ℕ) (others : List RecentParts) (n : ℕ) (shelf : RecentParts) (low : n < 16)
      (at : slice_get others n ≡ Some shelf) where
    put_by : (q : Shard) (b : Bool) → (shelf_of q.part == n) ≡ b
        → look q (slice_get (set shelves n shelf) (shelf_of q.part))
        ≡ cond b (get (united shelf_of other_size others).parts q)
        (get (united shelf_of size shelves).parts q)
    put_by q true is =
        let here : shelf_of q.part ≡ n = grind (arith, nat_tests) in
        (λ i. look q (slice_get (set shelves n shelf) (here i)))
        ∙ ap (look q) (set_same shelves n shelf (has_shelf n low) ∙ sym at)
        ∙ (λ i. look q (slice_get others (sym here i)))
        ∙ sym (united_look shelf_of q other_size others)
    put_by q false is =
        let apart : shelf_of q.part ≢ n = (λ same. grind (arith, nat_tests)) in
        ap (look q) (set_other shelves n (shelf_of q.part) shelf apart)
        ∙ sym (united_look shelf_of q size shelves)

    pub has_shelf_of : HasShelfOf n (united shelf_of other_size others)
        (united shelf_of size shelves)
        (united shelf_of size (set shelves n shelf))
    has_shelf_of = record {
      size = refl;
      parts = λ q.
          united_look shelf_of q size (set shelves n shelf)
          ∙ put_by q (shelf_of q.part == n) refl;
    }

-- ---- Values that are cut from lists

-- the parts before the next shelf: those of it go
own_by : (m n : ℕ) (t : Bool) (h : Held) (e l k : Bool)
    → (m == n) ≡ e → nat_lt m n ≡ l → nat_lt m (suc n) ≡ k
    → cond e (cond (l && t) h None) (cond (not l) h None) ≡ cond (not k) h None
own_by m n t h true true k is lt le = absurd (grind (arith, nat_tests))
own_by m n t h true false true is lt le = refl
own_by m n t h true false false is lt le = absurd (grind (arith, nat_tests))
own_by m n t h false true true is lt le = refl
own_by m n t h false true false is lt le = absurd (grind (arith, nat_tests))
own_by m n t h false false true is lt le = absurd (grind (arith, nat_tests))
own_by m n t h false false false is lt le = refl

-- and come to the value of their worker
value_by : (m n : ℕ) (t : Bool) (h : Held) (e l k : Bool)
    → (m == n) ≡ e → nat_lt m n ≡ l → nat_lt m (suc n) ≡ k
    → (m ≡ n → t ≡ true)
    → cond e (cond (not l) h None) (cond (l && t) h None) ≡ cond (k && t) h None
value_by m n t h true true k is lt le owns = absurd (grind (arith, nat_tests))
value_by m n t h true false false is lt le owns = absurd (grind (arith, nat_tests))
value_by m n t h true false true is lt le owns =
    let here : m ≡ n = grind (arith, nat_tests) in ap (λ b. cond b h None) (sym (owns here))
value_by m n t h false true true is lt le owns = refl
value_by m n t h false true false is lt le owns = absurd (grind (arith, nat_tests))
value_by m n t h false false true is lt le owns = absurd (grind (arith, nat_tests))
value_by m n t h false false false is lt le owns = refl

-- and to no other value
other_by : (m n : ℕ) (t : Bool) (h : Held) (l k : Bool) → nat_lt m n ≡ l → nat_lt m (suc n) ≡ k
    → (m ≡ n → t ≡ false) → cond (l && t) h None ≡ cond (k && t) h None
other_by m n t h true true lt le lacks = refl
other_by m n t h true false lt le lacks = absurd (grind (arith, nat_tests))
other_by m n t h false true lt le lacks =
    let here : m ≡ n = grind (arith, nat_tests) in ap (λ b. cond b h None) (sym (lacks here))
other_by m n t h false false lt le lacks = refl

module _ (n count : ℕ) (lists own own' : RecentParts) (values : List RecentParts)
    (value value' : RecentParts) (within : n % count < length values)
    (at : slice_get values (n % count) ≡ Some value)
    (has : HasOf (is_after n) lists own) (cut : AreCut n count lists values)
    (own_gets : HasShelfOf n value own own') (value_gets : HasShelfOf n own value value') where
  has_value : HasOf (first_of n count (n % count)) lists value
  has_value =
      subst (λ o. IfSome o (HasOf (first_of n count (n % count)) lists)) at (cut (n % count))

  pub own_after : HasOf (is_after (suc n)) lists own'
  own_after = record {
    size = own_gets.size ∙ has.size;
    parts = λ q.
        let m = shelf_of q.part in
        own_gets.parts q
        ∙ (λ i. cond (m == n) (has_value.parts q i) (has.parts q i))
        ∙ own_by m n (worker_of count q.part == n % count) (get lists.parts q)
        (m == n) (nat_lt m n) (nat_lt m (suc n)) refl refl refl;
  }

  value_after : HasOf (first_of (suc n) count (n % count)) lists value'
  value_after = record {
    size = value_gets.size ∙ has_value.size;
    parts = λ q.
        let m = shelf_of q.part in
        value_gets.parts q
        ∙ (λ i. cond (m == n) (has.parts q i) (has_value.parts q i))
        ∙ value_by m n (worker_of count q.part == n % count) (get lists.parts q)
        (m == n) (nat_lt m n) (nat_lt m (suc n)) refl refl refl
        (λ here.
        let same : m % count ≡ n % count = ap (λ k. k % count) here in
        grind (arith, nat_tests));
  }

  other_after : (v : ℕ) → v ≢ n % count → (y : RecentParts)
      → HasOf (first_of n count v) lists y → HasOf (first_of (suc n) count v) lists y
  other_after v apart y is = record {
    size = is.size;
    parts = λ q.
        let m = shelf_of q.part in
        is.parts q
        ∙ other_by m n (worker_of count q.part == v) (get lists.parts q)
        (nat_lt m n) (nat_lt m (suc n)) refl refl
        (λ here.
        let same : m % count ≡ n % count = ap (λ k. k % count) here in
        grind (arith, nat_tests));
  }

  pub cut_after : AreCut (suc n) count lists (set values (n % count) value')
  cut_after =
      all_set (λ v. HasOf (first_of n count v) lists) (λ v. HasOf (first_of (suc n) count v) lists)
      values (n % count) value' within value_after other_after cut

none_before : (m : ℕ) → nat_lt m 0 ≡ false
none_before m = grind (arith, nat_tests)

all_before : (part : ℕ) → nat_lt (shelf_of part) 16 ≡ true
all_before part = let low : shelf_of part < 16 = omega arith in grind (arith, nat_tests)

-- before the first shelf
pub own_at_first : (lists : RecentParts) → HasOf (is_after 0) lists lists
own_at_first lists = record {
  size = refl;
  parts = λ q.
      ap (λ b. cond (not b) (get lists.parts q) None) (sym (none_before (shelf_of q.part)));
}

pub cut_at_first : (count : ℕ) (lists : RecentParts) (n : ℕ)
    → AreCut 0 count lists (replicate n (no_sources lists.size))
cut_at_first count lists n w =
    all_same (HasOf (first_of 0 count w) lists) (no_sources lists.size)
    (record {
      size = refl;
      parts = λ q.
          get-empty shard_cmp q
          ∙ ap (λ b. cond (b && (worker_of count q.part == w)) (get lists.parts q) None)
          (sym (none_before (shelf_of q.part)));
    }) n w

-- after the last one
pub own_at_last : (lists own : RecentParts) → HasOf (is_after 16) lists own
    → own ≡ no_sources lists.size
own_at_last lists own has =
    same_lists own (no_sources lists.size) has.size (λ q.
    has.parts q
    ∙ ap (λ b. cond (not b) (get lists.parts q) None) (all_before q.part)
    ∙ sym (get-empty shard_cmp q))

pub cut_at_last : (count : ℕ) (lists : RecentParts) (values : List RecentParts)
    → AreCut 16 count lists values
    → (w : ℕ) → IfSome (slice_get values w)
    (λ value. value ≡ kept_parts (λ part. worker_of count part == w) lists)
cut_at_last count lists values cut w =
    let keeps : ℕ → Bool = λ part. worker_of count part == w in
    on_some (HasOf (first_of 16 count w) lists) (λ value. value ≡ kept_parts keeps lists)
    (slice_get values w)
    (λ value is.
    same_lists value (kept_parts keeps lists) is.size (λ q.
    is.parts q
    ∙ ap (λ b. cond (b && keeps q.part) (get lists.parts q) None) (all_before q.part)
    ∙ sym (kept_get keeps lists q)))
    (cut w)

-- ---- Values that are put together

first_by : (m n : ℕ) (new old mine : Held) (e l k : Bool)
    → (m == n) ≡ e → nat_lt m n ≡ l → nat_lt m (suc n) ≡ k
    → (m ≡ n → new ≡ mine) → old ≡ cond l mine None
    → cond e new old ≡ cond k mine None
first_by m n new old mine true l true is lt le gets had = gets (grind (arith, nat_tests))
first_by m n new old mine true l false is lt le gets had = absurd (grind (arith, nat_tests))
first_by m n new old mine false true true is lt le gets had = had
first_by m n new old mine false true false is lt le gets had = absurd (grind (arith, nat_tests))
first_by m n new old mine false false true is lt le gets had = absurd (grind (arith, nat_tests))
first_by m n new old mine false false false is lt le gets had = had

left_by : (m n : ℕ) (h k : Held) (e : Bool) → (m == n) ≡ e → nat_lt m (suc n) ≡ false
    → cond e h k ≡ k
left_by m n h k true is le = absurd (grind (arith, nat_tests))
left_by m n h k false is le = refl

-- what a value that was given away has left
pub left_at : (n size w : ℕ) (before now : List RecentParts) (value old : RecentParts)
    → slice_get now w ≡ Some value → slice_get before w ≡ Some old → AreLeft n size before now
    → HasLeft n size old value
left_at n size w before now value old at was left =
    subst (λ o. IfSome o (λ old. HasLeft n size old value)) was
    (subst (λ o. IfSome o (λ value. IfSome (slice_get before w)
    (λ old. HasLeft n size old value))) at (left w))

module _ (n count : ℕ) (lists own own' : RecentParts) (before now : List RecentParts)
    (value value' old : RecentParts)
    (within : n % count < length now) (long : length before ≡ count)
    (at : slice_get now (n % count) ≡ Some value) (was : slice_get before (n % count) ≡ Some old)
    (has : HasFirst n before lists own) (left : AreLeft n lists.size before now)
    (own_gets : HasShelfOf n value own own') (value_gets : HasShelfOf n own value value') where
  left_value : HasLeft n lists.size old value
  left_value = left_at n lists.size (n % count) before now value old at was left

  pub first_after : HasFirst (suc n) before lists own'
  first_after = record {
    size = own_gets.size ∙ has.size;
    parts = λ q.
        let m = shelf_of q.part in
        own_gets.parts q
        ∙ first_by m n (get value.parts q) (get own.parts q) (own_look before q)
        (m == n) (nat_lt m n) (nat_lt m (suc n)) refl refl refl
        (λ here.
        left_value.parts q (grind (arith, nat_tests))
        ∙ ap (look q) (sym was)
        ∙ (λ i. look q (slice_get before (sym here i % sym long i))))
        (has.parts q);
  }

  value_left : HasLeft (suc n) lists.size old value'
  value_left = record {
    size_is = value_gets.size ∙ left_value.size_is;
    parts = λ q after.
        let m = shelf_of q.part in
        value_gets.parts q
        ∙ left_by m n (get own.parts q) (get value.parts q) (m == n) refl after
        ∙ left_value.parts q (grind (arith, nat_tests));
  }

  pub left_after : AreLeft (suc n) lists.size before (set now (n % count) value')
  left_after =
      all_set
      (λ v value. IfSome (slice_get before v) (λ old. HasLeft n lists.size old value))
      (λ v value. IfSome (slice_get before v) (λ old. HasLeft (suc n) lists.size old value))
      now (n % count) value' within
      (subst (λ o. IfSome o (λ old. HasLeft (suc n) lists.size old value')) (sym was) value_left)
      (λ v apart y is.
      on_some (λ old. HasLeft n lists.size old y) (λ old. HasLeft (suc n) lists.size old y)
      (slice_get before v)
      (λ o l. record {
        size_is = l.size_is;
        parts = λ q after. l.parts q (grind (arith, nat_tests));
      }) is)
      left

pub first_at_first : (values : List RecentParts) (lists : RecentParts)
    → lists ≡ no_sources lists.size → HasFirst 0 values lists lists
first_at_first values lists none = record {
  size = refl;
  parts = λ q.
      ap (λ (r : RecentParts). get r.parts q) none ∙ get-empty shard_cmp q
      ∙ ap (λ b. cond b (own_look values q) None) (sym (none_before (shelf_of q.part)));
}

left_itself : (size : ℕ) (o : Option RecentParts) → IfSome o (λ value. value.size ≡ size)
    → IfSome o (λ value. IfSome o (λ old. HasLeft 0 size old value))
left_itself size None is = tt
left_itself size (Some value) is = record { size_is = is; parts = λ q after. refl }

pub left_at_first : (size : ℕ) (values : List RecentParts) → AreSized size values
    → AreLeft 0 size values values
left_at_first size values sized w = left_itself size (slice_get values w) (sized w)

pub first_at_last : (values : List RecentParts) (lists own : RecentParts)
    → HasFirst 16 values lists own
    → own ≡ united (worker_of (length values)) lists.size values
first_at_last values lists own has =
    same_lists own (united (worker_of (length values)) lists.size values) has.size (λ q.
    has.parts q
    ∙ ap (λ b. cond b (own_look values q) None) (all_before q.part)
    ∙ sym (united_look (worker_of (length values)) q lists.size values))
