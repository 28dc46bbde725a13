-- The ranges that have an address are counted by their ends.
use Rattle.std.proofs.Common.{◌≡◌, ◌+◌, ◌-◌, ◌*◌, ◌/◌, ◌<◌, ◌≤◌, ◌^◌, ◌==◌, ◌&&◌, ◌||◌, ℕ, zero, suc, Bool, true, false, cond, not, List, [], ◌∷◌, count_by, filter, flat_map, length, map, nat_le, nat_lt, take, refl, sym, ap, ◌∙◌, subst, arith}
use Rattle.std.specs.List.{list_any}
use Rattle.std.specs.List.Sorted.{IsPartitionPoint}
use Rattle.std.proofs.Math.Nat.{div-lt_iff_lt-mul, div-mul-le_self, le-div_iff_mul-le, lt-div-mul-add, suc-mul}
use Rattle.std.proofs.lemmas.Bool.Decides.{nat_tests}
use Rattle.std.proofs.lemmas.Nat.{pow_pos}
use Rattle.std.proofs.lemmas.List.{take_all}
use Rattle.std.proofs.lemmas.List.Sums.{count_by_more_no, count_by_more_yes, sum_by-append, sum_by-cons}
use Rattle.kp_base.specs.Net.{RangeParts, range_contains, range_size, same_family, width}
use Rattle.kp_base.specs.declared.address.Family.{Family}
use Rattle.kp_base.specs.declared.address.Family.TheVariants.{V4, V6}
use Rattle.kp_path_defs.specs.Sources.{first_in, past}
use Rattle.kp_paths.specs.SourceEnds.{count_to, firsts_in, pasts_in}

-- one element more is counted
one_counted : {X : Type 0} (p : X → Bool) (x : X) (xs : List X)
    → count_by p (x ∷ xs) ≡ cond (p x) 1 0 + count_by p xs
one_counted p x xs = sum_by-cons (λ y. cond (p y) 1 0) x xs

module _ (p : ℕ → Bool) (xs : List ℕ) (i : ℕ) (fits : i ≤ length xs) (point : IsPartitionPoint (λ y. p y ≡ true) (λ y. p y ≡ false) xs i) where
  below : (k : ℕ) → k ≤ i → count_by p (take k xs) ≡ k
  below zero le = refl
  below (suc k) le =
      let next : k + 1 ≡ suc k = omega arith in
      ap (λ m. count_by p (take m xs)) (sym next)
      ∙ count_by_more_yes p xs k 0 (omega (arith, le, fits)) (point.0 k 0 (omega arith) (omega (arith, le)))
      ∙ ap (λ m. m + 1) (below k (omega (arith, le))) ∙ next

  above : (k : ℕ) → i + k ≤ length xs → count_by p (take (i + k) xs) ≡ i
  above zero le =
      let same : i + zero ≡ i = omega arith in
      ap (λ m. count_by p (take m xs)) same ∙ below i (omega arith)
  above (suc k) le =
      let next : (i + k) + 1 ≡ i + suc k = omega arith in
      ap (λ m. count_by p (take m xs)) (sym next)
      ∙ count_by_more_no p xs (i + k) 0 (omega (arith, le)) (point.1 (i + k) 0 (omega arith) (omega (arith, le)))
      ∙ above k (omega (arith, le))

  -- where a list is parted, so many pass
  pub parted_counts : count_by p xs ≡ i
  parted_counts =
      let whole : i + (length xs - i) ≡ length xs = omega (arith, fits) in
      ap (count_by p) (sym (take_all (length xs) xs (omega arith))) ∙ ap (λ m. count_by p (take m xs)) (sym whole)
      ∙ above (length xs - i) (omega (arith, whole))

-- one number past n isn't counted
none : (t : Bool) (next n : ℕ) → nat_le next n ≡ false → count_to n (cond t (next ∷ []) []) ≡ 0
none true next n b = one_counted (λ m. nat_le m n) next [] ∙ ap (λ t. cond t 1 0 + 0) b
none false next n b = refl

-- a range is counted by its ends
by_ends : (same : Bool) (first next n w : ℕ) → (same ≡ true → first ≤ n) → (same ≡ true → n < next)
    → (same ≡ false → first ≤ n → next ≤ n) → first < next → n < w
    → cond (nat_le first n) 1 0 ≡ count_to n (cond (nat_lt next w) (next ∷ []) []) + cond same 1 0
by_ends true first next n w low high far up within =
    let l = low refl in
    let h = high refl in
    let a : nat_le first n ≡ true = grind (arith, nat_tests) in
    let b : nat_le next n ≡ false = grind (arith, nat_tests) in
    ap (λ t. cond t 1 0) a ∙ sym (ap (λ k. k + 1) (none (nat_lt next w) next n b))
by_ends false first next n w low high far up within = by (nat_le first n) refl
  where
    by : (t : Bool) → nat_le first n ≡ t → cond t 1 0 ≡ count_to n (cond (nat_lt next w) (next ∷ []) []) + 0
    by true is =
        let l : first ≤ n = grind (arith, nat_tests) in
        let h : next ≤ n = far refl l in
        let a : nat_lt next w ≡ true = grind (arith, nat_tests) in
        let b : nat_le next n ≡ true = grind (arith, nat_tests) in
        sym (ap (λ t. count_to n (cond t (next ∷ []) []) + 0) a ∙ ap (λ k. k + 0) (one_counted (λ m. nat_le m n) next []) ∙ ap (λ t. (cond t 1 0 + 0) + 0) b)
    by false is =
        let l : n < first = grind (arith, nat_tests) in
        let b : nat_le next n ≡ false = grind (arith, nat_tests) in
        sym (ap (λ k. k + 0) (none (nat_lt next w) next n b))

module _ (n b s w : ℕ) (some : 0 < s) (within : n < w) where
  -- the numbers of a range of this size
  pub of_size : cond (nat_le (b / s * s) n) 1 0 ≡ count_to n (cond (nat_lt (b / s * s + s) w) ((b / s * s + s) ∷ []) []) + cond (n / s == b / s) 1 0
  of_size = by_ends (n / s == b / s) (b / s * s) (b / s * s + s) n w low high far (omega (arith, some)) within
    where
      low : (n / s == b / s) ≡ true → b / s * s ≤ n
      low is =
          let same : n / s ≡ b / s = grind (arith, nat_tests) in
          let le = div-mul-le_self n s in
          subst (λ q. q * s ≤ n) same le

      high : (n / s == b / s) ≡ true → n < b / s * s + s
      high is =
          let same : n / s ≡ b / s = grind (arith, nat_tests) in
          subst (λ q. n < q * s + s) same (lt-div-mul-add some)

      far : (n / s == b / s) ≡ false → b / s * s ≤ n → b / s * s + s ≤ n
      far is le = by (nat_lt n (b / s * s + s)) refl
        where
          by : (t : Bool) → nat_lt n (b / s * s + s) ≡ t → b / s * s + s ≤ n
          by true inside =
              let under : n < b / s * s + s = grind (arith, nat_tests) in
              let under_next : n < suc (b / s) * s = subst (λ m. n < m) (sym (suc-mul (b / s) s)) under in
              let up : n / s < suc (b / s) = (div-lt_iff_lt-mul some).1 under_next in
              let down : b / s ≤ n / s = (le-div_iff_mul-le some).1 le in
              absurd (grind (arith, nat_tests))
          by false outside = grind (arith, nat_tests)

zero_more : (k : ℕ) → 0 + k ≡ k
zero_more k = omega arith

-- families that are tested to be one are one
pub one_family : (f g : Family) → same_family f g ≡ true → f ≡ g
one_family V4 V4 h = refl
one_family V6 V6 h = refl
one_family V4 V6 h = absurd (cc)
one_family V6 V4 h = absurd (cc)

module _ (n : ℕ) where
  abbrev has : Family → RangeParts → Bool
  has family r = range_contains r (record { family = family; number = n })

  -- a range of this family
  one : (r : RangeParts) (family : Family) → r.base.family ≡ family → n < 2 ^ width family
      → cond (nat_le (first_in r) n) 1 0 ≡ count_to n (past r) + cond (has family r) 1 0
  one r family same within =
      let size = range_size r.base.family r.bits in
      of_size n r.base.number size (2 ^ width r.base.family) (pow_pos (width r.base.family - r.bits))
      (subst (λ f. n < 2 ^ width f) (sym same) within)
      ∙ ap (λ t. count_to n (past r) + cond t 1 0) (sym (own r.base.family))
      ∙ (λ i. count_to n (past r) + cond (has (same i) r) 1 0)
    where
      own : (f : Family) → (same_family f f && (n / range_size r.base.family r.bits == r.base.number / range_size r.base.family r.bits)) ≡ (n / range_size r.base.family r.bits == r.base.number / range_size r.base.family r.bits)
      own V4 = refl
      own V6 = refl

  -- all ranges
  pub by_all_ends : (family : Family) → n < 2 ^ width family → (ranges : List RangeParts)
      → count_to n (firsts_in family ranges) ≡ count_to n (pasts_in family ranges) + count_by (has family) ranges
  by_all_ends family within [] = refl
  by_all_ends family within (r ∷ rs) = by (same_family r.base.family family) refl (by_all_ends family within rs)
    where
      by : (t : Bool) → same_family r.base.family family ≡ t
          → count_to n (firsts_in family rs) ≡ count_to n (pasts_in family rs) + count_by (has family) rs
          → count_to n (map first_in (cond t (r ∷ filter (λ r. same_family r.base.family family) rs) (filter (λ r. same_family r.base.family family) rs)))
          ≡ count_to n (flat_map past (cond t (r ∷ filter (λ r. same_family r.base.family family) rs) (filter (λ r. same_family r.base.family family) rs)))
          + count_by (has family) (r ∷ rs)
      by true is rest =
          let here = one r family (one_family r.base.family family is) within in
          let began = one_counted (λ m. nat_le m n) (first_in r) (firsts_in family rs) in
          let ended = sum_by-append (λ m. cond (nat_le m n) 1 0) (past r) (pasts_in family rs) in
          let seen = one_counted (has family) r rs in
          omega (arith, here, began, ended, seen, rest)
      by false is rest =
          let seen : count_by (has family) (r ∷ rs) ≡ count_by (has family) rs =
          one_counted (has family) r rs
          ∙ ap (λ t. cond (t && (n / range_size family r.bits == r.base.number / range_size family r.bits)) 1 0 + count_by (has family) rs) is
          ∙ zero_more (count_by (has family) rs) in
          rest ∙ ap (λ k. count_to n (pasts_in family rs) + k) (sym seen)

-- some element passes where their number isn't 0
some_pass : {X : Type 0} (p : X → Bool) (xs : List X) → list_any p xs ≡ not (count_by p xs == 0)
some_pass p [] = refl
some_pass p (x ∷ xs) =
    by (p x) (count_by p xs) (some_pass p xs) ∙ ap (λ k. not (k == 0)) (sym (one_counted p x xs))
  where
    by : (b : Bool) (k : ℕ) → list_any p xs ≡ not (k == 0) → (b || list_any p xs) ≡ not (cond b 1 0 + k == 0)
    by true k rest = more k
      where
        more : (k : ℕ) → true ≡ not (1 + k == 0)
        more k = grind (arith, nat_tests)
    by false k rest = rest ∙ ap (λ m. not (m == 0)) (sym (zero_more k))

-- an address is in some range where more began than ended
pub some_has : (family : Family) (n : ℕ) (ranges : List RangeParts) (firsts pasts : List ℕ)
    → count_to n firsts ≡ count_to n pasts + count_by (λ r. range_contains r (record { family = family; number = n })) ranges
    → not (count_to n firsts == count_to n pasts) ≡ list_any (λ r. range_contains r (record { family = family; number = n })) ranges
some_has family n ranges firsts pasts counted =
    let p = has n family in
    ap not (same (count_to n firsts) (count_to n pasts) (count_by p ranges) counted)
    ∙ sym (some_pass p ranges)
  where
    same : (a b k : ℕ) → a ≡ b + k → (a == b) ≡ (k == 0)
    same a b k is = grind (arith, nat_tests)
