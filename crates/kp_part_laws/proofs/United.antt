-- The recent lists that values have together, and a change of one of the values.
use Rattle.std.proofs.Common.{◌≡◌, ◌≢◌, ℕ, zero, suc, ◌+◌, ◌<◌, ◌%◌, ◌==◌, Bool, true, false, cond}
use Rattle.std.proofs.Common.{List, [], ◌∷◌, length, set, slice_get, refl, sym, ap, subst, ◌∙◌}
use Rattle.std.proofs.Common.{Option, Some, None, IfSome, option_and_then, arith}
use Rattle.std.specs.Option.{option_or}
use Rattle.std.specs.FinMap.{empty, entries, find, get, get-empty, get-entries, get-from_entries}
use Rattle.std.specs.FinMap.{get-retain_keys, same_map}
use Rattle.std.proofs.lemmas.Bool.Decides.{nat_tests}
use Rattle.kp_base.specs.Net.{AddressParts}
use Rattle.kp_choice_defs.specs.Recent.{RecentParts, Shard, shard_cmp}
use Rattle.kp_part_laws.specs.Beside.{own_entries, united}
use Rattle.kp_part_laws.specs.Unseen.{IsUnseen, kept_parts}
use Rattle.kp_part_laws.proofs.Pointwise.{Held, found_beside, or_none, part_exact, part_total}
use Rattle.kp_part_laws.proofs.Pointwise.{pointwise_unseen}

-- ---- Lists with one element set

module _ {X : Type 0} where
  pub set_same : (xs : List X) (w : ℕ) (x : X) → w < length xs → slice_get (set xs w x) w ≡ Some x
  set_same [] w x within = absurd (omega (arith, within))
  set_same (y ∷ ys) zero x within = refl
  set_same (y ∷ ys) (suc w) x within = set_same ys w x (omega (arith, within))

  pub set_other : (xs : List X) (w v : ℕ) (x : X) → v ≢ w
      → slice_get (set xs w x) v ≡ slice_get xs v
  set_other [] w v x other = refl
  set_other (y ∷ ys) zero zero x other = absurd (other refl)
  set_other (y ∷ ys) zero (suc v) x other = refl
  set_other (y ∷ ys) (suc w) zero x other = refl
  set_other (y ∷ ys) (suc w) (suc v) x other = set_other ys w v x (λ same. other (ap suc same))

  pub one_value : {a b : X} → Some a ≡ Some b → a ≡ b
  one_value same = cc

  -- what stands there, set there
  pub set_there : (xs : List X) (w : ℕ) (x : X) → slice_get xs w ≡ Some x → set xs w x ≡ xs
  set_there [] w x at = refl
  set_there (y ∷ ys) zero x at = ap (λ z. z ∷ ys) (one_value (sym at))
  set_there (y ∷ ys) (suc w) x at = ap (λ zs. y ∷ zs) (set_there ys w x at)

  -- a place within a list has an element
  pub within_some : (xs : List X) (w : ℕ) → w < length xs → (x : X) × (slice_get xs w ≡ Some x)
  within_some [] w within = absurd (omega (arith, within))
  within_some (x ∷ xs) zero within = (x, refl)
  within_some (x ∷ xs) (suc w) within = within_some xs w (omega (arith, within))

  -- two lists of one length, of which the second has what the first one has
  pub same_length : (xs ys : List X) → length ys ≡ length xs
      → ((w : ℕ) (x : X) → slice_get xs w ≡ Some x → slice_get ys w ≡ Some x)
      → (w : ℕ) → slice_get xs w ≡ slice_get ys w
  same_length [] [] long same w = refl
  same_length [] (y ∷ ys) long same w = absurd (omega (arith, long))
  same_length (x ∷ xs) [] long same w = absurd (omega (arith, long))
  same_length (x ∷ xs) (y ∷ ys) long same zero = sym (same zero x refl)
  same_length (x ∷ xs) (y ∷ ys) long same (suc w) =
      same_length xs ys (omega (arith, long)) (λ v. same (suc v)) w

-- ---- Look-ups

pub choose : (b : Bool) (h k : Held) → b ≡ true → cond b h k ≡ h
choose true h k e = refl
choose false h k e = absurd (cc)

pub choose_other : (b : Bool) (h k : Held) → b ≡ false → cond b h k ≡ k
choose_other true h k e = absurd (cc)
choose_other false h k e = refl

-- lists with the same look-ups
pub same_lists : (a b : RecentParts) → a.size ≡ b.size
    → ((q : Shard) → get a.parts q ≡ get b.parts q) → a ≡ b
same_lists a b size same = λ i. record {
  size = size i;
  parts = same_map part_total part_exact a.parts b.parts same i;
}

-- a look-up in the parts that are kept of lists
pub kept_get : (keeps : ℕ → Bool) (lists : RecentParts) (q : Shard)
    → get (kept_parts keeps lists).parts q ≡ cond (keeps q.part) (get lists.parts q) None
kept_get keeps lists q =
    get-retain_keys lists.parts (λ at. keeps at.part) q
    (λ x same. ap (λ (y : Shard). keeps y.part) (sym (part_exact q x same)))

-- a look-up in a value that may be there
abbrev pub look : Shard → Option RecentParts → Held
look q o = option_and_then (λ value. get value.parts q) o

module _ (owner : ℕ → ℕ) (q : Shard) where
  abbrev owns : ℕ → ℕ → Bool
  owns w part = owner part == w

  -- the first of the values, and those after it
  first_look : (w : ℕ) (value : RecentParts) (values : List RecentParts)
      → find shard_cmp q (own_entries owner w (value ∷ values))
      ≡ option_or (cond (owner q.part == w) (get value.parts q) None)
      (find shard_cmp q (own_entries owner (suc w) values))
  first_look w value values =
      found_beside (entries (kept_parts (owns w) value).parts) (own_entries owner (suc w) values) q
      ∙ ap (λ o. option_or o (find shard_cmp q (own_entries owner (suc w) values)))
      (sym (get-entries (kept_parts (owns w) value).parts q) ∙ kept_get (owns w) value q)

  -- an owner before all of these values
  passed_by : (values : List RecentParts) (w : ℕ) → owner q.part < w
      → find shard_cmp q (own_entries owner w values) ≡ None
  passed_by [] w before = refl
  passed_by (value ∷ values) w before =
      first_look w value values
      ∙ (λ i. option_or
      (choose_other (owner q.part == w) (get value.parts q) None (grind (arith, nat_tests)) i)
      (passed_by values (suc w) (omega (arith, before)) i))

  -- an owner among them
  found_at : (values : List RecentParts) (w d : ℕ) → owner q.part ≡ w + d
      → find shard_cmp q (own_entries owner w values) ≡ look q (slice_get values d)
  found_at [] w d is = refl
  found_at (value ∷ values) w zero is =
      first_look w value values
      ∙ (λ i. option_or
      (choose (owner q.part == w) (get value.parts q) None (grind (arith, nat_tests)) i)
      (passed_by values (suc w) (omega (arith, is)) i))
      ∙ or_none (get value.parts q)
  found_at (value ∷ values) w (suc d) is =
      first_look w value values
      ∙ (λ i. option_or
      (choose_other (owner q.part == w) (get value.parts q) None (grind (arith, nat_tests)) i)
      (found_at values (suc w) d (omega (arith, is)) i))

  -- a look-up in the united lists is one in the value that owns the part
  pub united_look : (size : ℕ) (values : List RecentParts)
      → get (united owner size values).parts q ≡ look q (slice_get values (owner q.part))
  united_look size values =
      get-from_entries part_total (own_entries owner 0 values) q
      ∙ found_at values 0 (owner q.part) (omega arith)

module _ (owner : ℕ → ℕ) (size : ℕ) where
  -- values that answer alike are the same lists together
  pub united_same : (values others : List RecentParts)
      → ((w : ℕ) → slice_get values w ≡ slice_get others w)
      → united owner size values ≡ united owner size others
  united_same values others same =
      same_lists _ _ refl (λ q.
      united_look owner q size values
      ∙ ap (look q) (same (owner q.part))
      ∙ sym (united_look owner q size others))

  nothing : (q : Shard) (o : Option RecentParts)
      → IfSome o (λ value. value.parts ≡ empty) → look q o ≡ get (empty {R = shard_cmp}) q
  nothing q None none = sym (get-empty shard_cmp q)
  nothing q (Some value) none = ap (λ m. get m q) none

  -- values without sources have none together
  pub united_none : (values : List RecentParts)
      → ((w : ℕ) → IfSome (slice_get values w) (λ value. value.parts ≡ empty))
      → united owner size values ≡ record { size = size; parts = empty }
  united_none values none =
      same_lists _ _ refl (λ q.
      united_look owner q size values
      ∙ nothing q (slice_get values (owner q.part)) (none (owner q.part)))

  -- what is kept of lists by who owns a part is these lists together
  pub united_kept : (lists : RecentParts) (values : List RecentParts) → lists.size ≡ size
      → ((part : ℕ) → owner part < length values)
      → ((w : ℕ) → IfSome (slice_get values w)
      (λ value. value ≡ kept_parts (λ part. owner part == w) lists))
      → united owner size values ≡ lists
  united_kept lists values sized owned kept =
      same_lists _ _ (sym sized) (λ q.
      let w = owner q.part in
      let some = within_some values w (owned q.part) in
      let keeps : ℕ → Bool = λ part. owner part == w in
      let is = subst (λ o. IfSome o (λ value. value ≡ kept_parts keeps lists)) some.1 (kept w) in
      united_look owner q size values ∙ ap (look q) some.1
      ∙ ap (λ (v : RecentParts). get v.parts q) is
      ∙ kept_get keeps lists q
      ∙ choose (w == w) (get lists.parts q) None (grind (arith, nat_tests)))

-- ---- A change of one value

module _ (owner : ℕ → ℕ) (values : List RecentParts) (w : ℕ) (within : w < length values) where
  -- lists at one place among the values
  abbrev pub placed : RecentParts → RecentParts
  placed lists = united owner lists.size (set values w lists)

  placed_by : (b : Bool) (lists : RecentParts) (q : Shard) → (owner q.part == w) ≡ b
      → look q (slice_get (set values w lists) (owner q.part))
      ≡ cond b (get lists.parts q) (look q (slice_get values (owner q.part)))
  placed_by true lists q is =
      let here : owner q.part ≡ w = grind (arith, nat_tests) in
      (λ i. look q (slice_get (set values w lists) (here i)))
      ∙ ap (look q) (set_same values w lists within)
  placed_by false lists q is =
      let apart : owner q.part ≢ w = (λ same. grind (arith, nat_tests)) in
      ap (look q) (set_other values w (owner q.part) lists apart)

  pub placed_unseen : (source : AddressParts) → owner (source.number % 16) ≡ w
      → IsUnseen source placed
  placed_unseen source own =
      pointwise_unseen source placed
      (λ size q h. cond (owner q.part == w) h (look q (slice_get values (owner q.part))))
      (λ lists. refl)
      (λ lists q.
      united_look owner q lists.size (set values w lists)
      ∙ placed_by (owner q.part == w) lists q refl)
      (λ size q h at.
      let is : owner q.part ≡ w = ap owner at ∙ own in
      choose (owner q.part == w) h _ (grind (arith, nat_tests)))
