-- Kinds of addresses: each address of a family is of exactly one.
use Rattle.std.proofs.Common.{◌≡◌, inl, inr, ℕ, suc, ◌+◌, ◌-◌, ◌*◌, ◌/◌, ◌^◌, ◌<◌, ◌≤◌, ◌==◌, ◌&&◌, ◌||◌, Bool, true, false, not, nat_lt, cond, List, [], ◌∷◌, ◌++◌, map, Contains, count_by, Option, Some, None, filter, flat_map, refl, sym, ap, ap₂, subst, ◌∙◌, arith}
use Rattle.std.specs.Cmp.{nat_eq_equiv}
use Rattle.std.specs.List.{list_any}
use Rattle.std.specs.Option.{option_to_list}
use Rattle.std.proofs.Math.Nat.{div-one, le-div_iff_mul-le}
use Rattle.std.proofs.lemmas.Nat.{pow_pos}
use Rattle.std.proofs.lemmas.Bool.{and_from, and_parts, eqb-true}
use Rattle.std.proofs.lemmas.Bool.Decides.{nat_tests}
use Rattle.std.proofs.lemmas.List.Elements.{Contains-append_left, Contains-append_right}
use Rattle.std.proofs.lemmas.List.Sums.{sum_by-cons}
use Rattle.kp_lemmas.proofs.Members.{all_from, any_from, first_in, from_all, in_cases, in_filter, in_flat_map, in_map, later_in, none_in}
use Rattle.kp_base.specs.Net.{AddressParts, RangeParts, is_local_address, loopback_range, range_contains, range_size, same_address, same_family, single_range, width}
use Rattle.kp_base.specs.declared.address.Family.{Family}
use Rattle.kp_base.specs.declared.address.Family.TheVariants.{V4, V6}
use Rattle.kp_base.proofs.SameParts.{same_family_exact}
use Rattle.kp_types.specs.Setting.{FamilyConfig}
use Rattle.kp_door_defs.specs.Doors.{is_in_cluster, is_in_range}
use Rattle.kp_path_defs.specs.Sources.{Restricted, asked_ranges, bounds, first_in as first_number, first_of_kinds, is_within, kinds_of, past, placed, rising, same_bool, same_kind}
use Rattle.kp_path_laws.specs.SourceLaws.{OneKind}

-- ---- The same kind

bool_itself : (x : Bool) → same_bool x x ≡ true
bool_itself true = refl
bool_itself false = refl

one_bool : (x y : Bool) → same_bool x y ≡ true → x ≡ y
one_bool true true h = refl
one_bool true false h = absurd (cc)
one_bool false true h = absurd (cc)
one_bool false false h = refl

both_same : (x y : Bool) → x ≡ y → same_bool x y ≡ true
both_same x y e = subst (λ z. same_bool x z ≡ true) e (bool_itself x)

-- two addresses are of one kind: what is asked of one says the same of the other
pub record IsAlike (config : FamilyConfig) (rs : List Restricted) (a b : AddressParts) : Type 0
  where
    pub cluster : is_in_cluster config a ≡ is_in_cluster config b
    pub own : is_local_address config.addresses a ≡ is_local_address config.addresses b
    pub ranges : (r : Restricted) → Contains rs r → is_within a r ≡ is_within b r

module _ (config : FamilyConfig) (rs : List Restricted) where
  pub from_kind : (a b : AddressParts) → same_kind config rs a b ≡ true → IsAlike config rs a b
  from_kind a b h =
      let first = and_parts (same_bool (is_in_cluster config a) (is_in_cluster config b)) _ h in
      let second = and_parts
      (same_bool (is_local_address config.addresses a) (is_local_address config.addresses b)) _
      first.1 in
      record {
        cluster = one_bool _ _ first.0;
        own = one_bool _ _ second.0;
        ranges = λ r c. one_bool _ _
            (from_all (λ r. same_bool (is_within a r) (is_within b r)) rs second.1 r c);
      }

  to_kind : (a b : AddressParts) → IsAlike config rs a b → same_kind config rs a b ≡ true
  to_kind a b alike =
      and_from _ _ (both_same _ _ alike.cluster)
      (and_from _ _ (both_same _ _ alike.own)
      (all_from (λ r. same_bool (is_within a r) (is_within b r)) rs
      (λ r c. both_same _ _ (alike.ranges r c))))

  pub kind_through : (a b c : AddressParts) → same_kind config rs a b ≡ true
      → same_kind config rs b c ≡ true → same_kind config rs a c ≡ true
  kind_through a b c h k =
      let ab = from_kind a b h in
      let bc = from_kind b c k in
      to_kind a c (record {
        cluster = ab.cluster ∙ bc.cluster;
        own = ab.own
            ∙ bc.own;
        ranges = λ r d. ab.ranges r d ∙ bc.ranges r d;
      })

  pub kind_between : (a b c : AddressParts) → same_kind config rs a b ≡ true
      → same_kind config rs a c ≡ true → same_kind config rs b c ≡ true
  kind_between a b c h k =
      let ab = from_kind a b h in
      let ac = from_kind a c k in
      to_kind b c (record {
        cluster = sym ab.cluster ∙ ac.cluster;
        own = sym ab.own
            ∙ ac.own;
        ranges = λ r d. sym (ab.ranges r d) ∙ ac.ranges r d;
      })

-- ---- The first of each kind

module _ {A : Type 0} (same : A → A → Bool) (p : A → Bool)
    (through : (x y : A) → p x ≡ true → same x y ≡ true → p y ≡ true)
    (between : (x y : A) → p x ≡ true → p y ≡ true → same x y ≡ true) where
  -- how often the kind comes, by whether it was seen and whether there is one
  abbrev comes : Bool → Bool → ℕ
  comes seen there = cond seen 0 (cond there 1 0)

  -- of a kind that wasn't seen there was none before
  pub seen_before : (x : A) (seen : List A) → p x ≡ true → list_any (same x) seen ≡ list_any p seen
  seen_before x [] h = refl
  seen_before x (y ∷ ys) h = ap₂ (λ s t. s || t) (one (same x y) (p y) refl refl)
      (seen_before x ys h)
    where
      one : (b c : Bool) → same x y ≡ b → p y ≡ c → same x y ≡ p y
      one true c e f = e ∙ sym (through x y h e)
      one false false e f = e ∙ sym f
      one false true e f = between x y h f ∙ sym f

  pub counted : (seen xs : List A) → count_by p (first_of_kinds same seen xs)
      ≡ comes (list_any p seen) (list_any p xs)
  counted seen [] = by (list_any p seen)
    where
      by : (s : Bool) → 0 ≡ comes s false
      by true = refl
      by false = refl
  counted seen (x ∷ xs) = by (list_any (same x) seen) (p x) (list_any p seen) refl refl refl
      (counted seen xs) (counted (x ∷ seen) xs)
    where
      by : (t q s : Bool) → list_any (same x) seen ≡ t → p x ≡ q → list_any p seen ≡ s
          → count_by p (first_of_kinds same seen xs) ≡ comes (list_any p seen) (list_any p xs)
          → count_by p (first_of_kinds same (x ∷ seen) xs)
          ≡ comes (p x || list_any p seen) (list_any p xs)
          → count_by p (cond t (first_of_kinds same seen xs)
          (x ∷ first_of_kinds same (x ∷ seen) xs)) ≡ comes s (q || list_any p xs)
      by true true s e f g skipped kept =
          let was : list_any p seen ≡ true = sym (seen_before x seen f) ∙ e in
          skipped ∙ ap (λ b. comes b (list_any p xs)) was ∙ ap (λ b. comes b true) (sym was ∙ g)
      by true false s e f g skipped kept = skipped ∙ ap (λ b. comes b (list_any p xs)) g
      by false true s e f g skipped kept =
          let none : list_any p seen ≡ false = sym (seen_before x seen f) ∙ e in
          sum_by-cons (λ y. cond (p y) 1 0) x (first_of_kinds same (x ∷ seen) xs)
          ∙ ap₂ (λ n m. n + m) (ap (λ b. cond b 1 0) f)
          (kept ∙ ap (λ b. comes (b || list_any p seen) (list_any p xs)) f)
          ∙ ap (λ b. comes b true) (sym none ∙ g)
      by false false s e f g skipped kept =
          sum_by-cons (λ y. cond (p y) 1 0) x (first_of_kinds same (x ∷ seen) xs)
          ∙ ap₂ (λ n m. n + m) (ap (λ b. cond b 1 0) f)
          (kept ∙ ap (λ b. comes (b || list_any p seen) (list_any p xs)) f
          ∙ ap (λ b. comes b (list_any p xs)) g)
          ∙ omega arith

-- ---- Numbers in rising order

placed_there : (n : ℕ) (ms : List ℕ) → Contains (placed n ms) n
placed_there n [] = first_in n []
placed_there n (m ∷ ms) = by (nat_lt n m) (n == m) refl (placed_there n ms)
  where
    by : (b c : Bool) → (n == m) ≡ c → Contains (placed n ms) n
        → Contains (cond b (n ∷ m ∷ ms) (cond c (m ∷ ms) (m ∷ placed n ms))) n
    by true c e rest = first_in n (m ∷ ms)
    by false true e rest = subst (Contains (m ∷ ms)) (sym (eqb-true n m e)) (first_in m ms)
    by false false e rest = later_in n m (placed n ms) rest

placed_keeps : (n k : ℕ) (ms : List ℕ) → Contains ms k → Contains (placed n ms) k
placed_keeps n k [] c = absurd (none_in k c)
placed_keeps n k (m ∷ ms) c = by (nat_lt n m) (n == m) (placed_keeps n k ms)
  where
    by : (b d : Bool) → (Contains ms k → Contains (placed n ms) k)
        → Contains (cond b (n ∷ m ∷ ms) (cond d (m ∷ ms) (m ∷ placed n ms))) k
    by true d rest = later_in k n (m ∷ ms) c
    by false true rest = c
    by false false rest =
        elim (in_cases k m ms c) [
          | inl e ↦ subst (Contains (m ∷ placed n ms)) e (first_in m (placed n ms))
          | inr behind ↦ later_in k m (placed n ms) (rest behind)
        ]

rising_keeps : (k : ℕ) (ns : List ℕ) → Contains ns k → Contains (rising ns) k
rising_keeps k [] c = absurd (none_in k c)
rising_keeps k (n ∷ ns) c =
    elim (in_cases k n ns c) [
      | inl e ↦ subst (Contains (placed n (rising ns))) e (placed_there n (rising ns))
      | inr behind ↦ placed_keeps n k (rising ns) (rising_keeps k ns behind)
    ]

-- the greatest of numbers that are at most another
record Greatest (n least : ℕ) (cs : List ℕ) : Type 0 where
  it : ℕ
  there : Contains (least ∷ cs) it
  within : it ≤ n
  above : least ≤ it
  above_others : (c : ℕ) → Contains cs c → c ≤ n → c ≤ it

greatest : (n least : ℕ) (cs : List ℕ) → least ≤ n → Greatest n least cs
greatest n least [] h = record {
  it = least;
  there = first_in least [];
  within = h;
  above = omega arith;
  above_others = λ c d.
      absurd (none_in c d);
}
greatest n least (c ∷ cs) h = by (nat_lt least c && not (nat_lt n c)) refl (greatest n least cs h)
    (greatest n c cs)
  where
    by : (b : Bool) → (nat_lt least c && not (nat_lt n c)) ≡ b → Greatest n least cs
        → (c ≤ n → Greatest n c cs) → Greatest n least (c ∷ cs)
    by true e old new =
        let low : c ≤ n = grind (arith, nat_tests, e) in
        let more : least < c = grind (arith, nat_tests, e) in
        let g = new low in
        record {
          it = g.it;
          there = later_in g.it least (c ∷ cs) g.there;
          within = g.within;
          above = let a = g.above in omega (arith, a, more);
          above_others = λ k d l. elim (in_cases k c cs d) [
            | inl is ↦ subst (λ x. x ≤ g.it) is g.above
            | inr behind ↦ g.above_others k behind l
          ];
        }
    by false e old new =
        record {
          it = old.it;
          there = elim (in_cases old.it least cs old.there) [
            | inl is ↦ subst (Contains (least ∷ c ∷ cs)) is (first_in least (c ∷ cs))
            | inr behind
                ↦ later_in old.it least (c ∷ cs) (later_in old.it c cs behind)
          ];
          within = old.within;
          above = old.above;
          above_others = λ k d l. elim (in_cases k c cs d) [
            | inl is ↦ let a = old.above in let low : c ≤ n = subst (λ x. x ≤ n) (sym is) l in
                let small : c ≤ least = grind (arith, nat_tests, e, low) in subst (λ x. x ≤ old.it)
                is (omega (arith, a, small))
            | inr behind ↦ old.above_others k behind l
          ];
        }

-- ---- Ranges between bounds

div_up : (b n size : ℕ) → 0 < size → b ≤ n → b / size ≤ n / size
div_up b n size some h =
    (le-div_iff_mul-le {x = b / size} {y = n} some).1
    (let back = (le-div_iff_mul-le {x = b / size} {y = b} some).0 (omega arith) in omega
    (arith, back, h))

-- two tests that tell the same
same_tests : (x y q : ℕ) → (x ≡ q → y ≡ q) → (y ≡ q → x ≡ q) → (x == q) ≡ (y == q)
same_tests x y q to from = by (x == q) (y == q) refl refl
  where
    by : (b c : Bool) → (x == q) ≡ b → (y == q) ≡ c → b ≡ c
    by true true e f = refl
    by false false e f = refl
    by true false e f = sym (ap (λ k. k == q) (to (eqb-true x q e)) ∙ nat_eq_equiv.refl q) ∙ f
    by false true e f = sym e ∙ ap (λ k. k == q) (from (eqb-true y q f)) ∙ nat_eq_equiv.refl q

-- a number and one below it, between which no range of this size begins or ends
module _ (size limit base n b : ℕ) (some : 0 < size) (low : n < limit) (below : b ≤ n) where
  abbrev start : ℕ
  start = base / size * size

  within_too : (start ≤ n → start ≤ b) → n / size ≡ base / size → b / size ≡ base / size
  within_too begins is =
      let up = div_up b n size some below in
      let first : start ≤ n = (le-div_iff_mul-le {x = base / size} {y = n} some).0
      (omega (arith, is)) in
      let back = (le-div_iff_mul-le {x = base / size} {y = b} some).1 (begins first) in
      omega (arith, up, is, back)

  still_within : (start + size ≤ n → start + size < limit → start + size ≤ b) → b / size
      ≡ base / size → n / size ≡ base / size
  still_within ends is = by (nat_lt (base / size) (n / size)) refl
    where
      by : (t : Bool) → nat_lt (base / size) (n / size) ≡ t → n / size ≡ base / size
      by false e = let up = div_up b n size some below in grind (arith, nat_tests, e, up, is)
      by true e =
          let more : suc (base / size) ≤ n / size = grind (arith, nat_tests, e) in
          let past_n = (le-div_iff_mul-le {x = suc (base / size)} {y = n} some).0 more in
          let past_b = ends (omega (arith, past_n)) (omega (arith, past_n, low)) in
          let back = (le-div_iff_mul-le {x = suc (base / size)} {y = b} some).1
          (omega (arith, past_b)) in
          absurd (omega (arith, back, is))

-- a range tells no two numbers of a family apart between which it has no bound
module _ (family : Family) (n b : ℕ) (low : n < 2 ^ width family) (below : b ≤ n) where
  abbrev address_of : ℕ → AddressParts
  address_of k = record { family = family; number = k }

  -- no bound of the range is above the lesser number
  abbrev HasNoBound : RangeParts → Type 0
  HasNoBound r = (c : ℕ) → Contains (first_number r ∷ past r) c → c ≤ n → c ≤ b

  past_there : (first next limit : ℕ) → next < limit
      → Contains (first ∷ cond (nat_lt next limit) (next ∷ []) []) next
  past_there first next limit h =
      let test : nat_lt next limit ≡ true = grind (arith, nat_tests, h) in
      subst (λ t. Contains (first ∷ cond t (next ∷ []) []) next) (sym test)
      (later_in next first (next ∷ []) (first_in next []))

  same_inside : (r : RangeParts) → r.base.family ≡ family → HasNoBound r
      → (n / range_size family r.bits == r.base.number / range_size family r.bits)
      ≡ (b / range_size family r.bits == r.base.number / range_size family r.bits)
  same_inside r e none =
      let size = range_size family r.bits in
      let limit = 2 ^ width family in
      let base = r.base.number in
      let first = base / size * size in
      let bounded : (c : ℕ)
      → Contains (first ∷ cond (nat_lt (first + size) limit) ((first + size) ∷ []) []) c → c ≤ n
      → c ≤ b =
      subst (λ (f : Family).
      (c : ℕ) → Contains ((base / range_size f r.bits * range_size f r.bits)
      ∷ cond (nat_lt (base / range_size f r.bits * range_size f r.bits + range_size f r.bits)
      (2 ^ width f)) ((base / range_size f r.bits * range_size f r.bits + range_size f r.bits)
      ∷ []) []) c → c ≤ n → c ≤ b)
      e none in
      let some = pow_pos (width family - r.bits) in
      same_tests (n / size) (b / size) (base / size)
      (within_too size limit base n b some low below (bounded first (first_in first _)))
      (still_within size limit base n b some low below
      (λ h l. bounded (first + size) (past_there first (first + size) limit l) h))

  same_in_range : (r : RangeParts) → HasNoBound r → range_contains r (address_of n)
      ≡ range_contains r (address_of b)
  same_in_range r none = by (same_family r.base.family family) refl
    where
      by : (t : Bool) → same_family r.base.family family ≡ t
          → (t && (n / range_size family r.bits == r.base.number / range_size family r.bits))
          ≡ (t && (b / range_size family r.bits == r.base.number / range_size family r.bits))
      by false e = refl
      by true e = same_inside r (same_family_exact r.base.family family e) none

-- ---- All that is asked

any_same : {X : Type 0} (p q : X → Bool) (xs : List X) → ((x : X) → Contains xs x → p x ≡ q x)
    → list_any p xs ≡ list_any q xs
any_same p q [] same = refl
any_same p q (x ∷ xs) same =
    ap₂ (λ s t. s || t) (same x (first_in x xs))
    (any_same p q xs (λ y c. same y (later_in y x xs c)))

-- the range of one address has one number
one_size : (f : Family) → range_size f (width f) ≡ 1
one_size V4 = refl
one_size V6 = refl

alone : (k m size : ℕ) → size ≡ 1 → (k / size == m / size) ≡ (m == k)
alone k m size e =
    ap (λ s. k / s == m / s) e ∙ ap₂ (λ x y. x == y) (div-one k) (div-one m) ∙ nat_eq_equiv.symm k m

module _ (family : Family) (config : FamilyConfig) (rs : List Restricted) (n b : ℕ)
    (low : n < 2 ^ width family) (below : b ≤ n)
    (none : (r : RangeParts) → Contains (asked_ranges family config rs) r
    → HasNoBound family n b low below r) where
  abbrev greater : AddressParts
  greater = record { family = family; number = n }

  abbrev lesser : AddressParts
  lesser = record { family = family; number = b }

  abbrev own_ranges : List RangeParts
  own_ranges = map single_range (filter (λ a. same_family a.family family) config.addresses)

  abbrev others : List RangeParts
  others = flat_map (λ (r : Restricted). r.ranges) rs

  abbrev first_ranges : List RangeParts
  first_ranges = option_to_list config.cluster ++ (loopback_range family ∷ own_ranges)

  near_asked : (r : RangeParts) → Contains (loopback_range family ∷ own_ranges) r
      → Contains (asked_ranges family config rs) r
  near_asked r c =
      Contains-append_left first_ranges others r
      (Contains-append_right (option_to_list config.cluster) (loopback_range family ∷ own_ranges) r
      c)

  alike_in_cluster : is_in_cluster config greater ≡ is_in_cluster config lesser
  alike_in_cluster = by config.cluster refl
    where
      by : (o : Option RangeParts) → config.cluster ≡ o → is_in_range o greater
          ≡ is_in_range o lesser
      by None e = refl
      by (Some r) e =
          same_in_range family n b low below r
          (none r (Contains-append_left first_ranges others r
          (Contains-append_left (option_to_list config.cluster) (loopback_range family ∷ own_ranges)
          r
          (subst (λ o. Contains (option_to_list o) r) (sym e) (first_in r [])))))

  alike_at : (m : AddressParts) → Contains config.addresses m → same_address m greater
      ≡ same_address m lesser
  alike_at m c = by (same_family m.family family) refl
    where
      by : (t : Bool) → same_family m.family family ≡ t → (t && (m.number == n))
          ≡ (t && (m.number == b))
      by false e = refl
      by true e =
          let is = same_family_exact m.family family e in
          let one = ap (λ f. range_size family (width f)) is ∙ one_size family in
          let asked = near_asked (single_range m)
          (later_in (single_range m) (loopback_range family) own_ranges
          (in_map single_range m (filter (λ a. same_family a.family family) config.addresses)
          (in_filter (λ a. same_family a.family family) m config.addresses c e))) in
          sym (alone n m.number (range_size family (width m.family)) one)
          ∙ same_inside family n b low below (single_range m) is (none (single_range m) asked)
          ∙ alone b m.number (range_size family (width m.family)) one

  are_alike : IsAlike config rs greater lesser
  are_alike = record {
    cluster = alike_in_cluster;
    own =
        ap₂ (λ s t. s || t) (any_same (λ m. same_address m greater) (λ m. same_address m lesser)
        config.addresses alike_at)
        (same_in_range family n b low below (loopback_range family)
        (none (loopback_range family)
        (near_asked (loopback_range family) (first_in (loopback_range family) own_ranges))));
    ranges = λ r c. any_same (λ range. range_contains range greater)
        (λ range. range_contains range lesser) r.ranges
        (λ range d. same_in_range family n b low below range
        (none range (Contains-append_right first_ranges others range
        (in_flat_map (λ (r : Restricted). r.ranges) r range rs c d))));
  }

module _ (family : Family) (config : FamilyConfig) (rs : List Restricted) where
  abbrev numbered : ℕ → AddressParts
  numbered k = record { family = family; number = k }

  abbrev others_of : List ℕ
  others_of = flat_map (λ r. first_number r ∷ past r) (asked_ranges family config rs)

  abbrev all_bounds : List ℕ
  all_bounds = rising (bounds (asked_ranges family config rs))

  -- a bound that is at most a number, whose address is of the number's kind
  pub record IsBelow (n : ℕ) : Type 0 where
    pub bound : ℕ
    pub there : Contains all_bounds bound
    pub below : bound ≤ n
    pub kind : same_kind config rs (numbered n) (numbered bound) ≡ true

  pub bound_below : (n : ℕ) → n < 2 ^ width family → IsBelow n
  bound_below n low =
      let g = greatest n 0 others_of (omega arith) in
      record {
        bound = g.it;
        there = rising_keeps g.it (bounds (asked_ranges family config rs)) g.there;
        below = g.within;
        kind = to_kind config rs (numbered n) (numbered g.it)
            (are_alike family config rs n g.it low g.within
            (λ r c k d l. g.above_others k
            (in_flat_map (λ r. first_number r ∷ past r) r k (asked_ranges family config rs) c d)
            l));
      }

  some_kind : (n : ℕ) → n < 2 ^ width family
      → list_any (same_kind config rs (numbered n)) (map numbered all_bounds) ≡ true
  some_kind n low =
      let it = bound_below n low in
      any_from (same_kind config rs (numbered n)) (numbered it.bound) (map numbered all_bounds)
      (in_map numbered it.bound all_bounds it.there) it.kind

  of_number : (n : ℕ) → n < 2 ^ width family
      → count_by (same_kind config rs (numbered n)) (kinds_of family config rs) ≡ 1
  of_number n low =
      let p = same_kind config rs (numbered n) in
      counted (same_kind config rs) p (kind_through config rs (numbered n))
      (kind_between config rs (numbered n)) []
      (map numbered (rising (bounds (asked_ranges family config rs))))
      ∙ ap (λ b. cond b 1 0) (some_kind n low)

pub one_kind : OneKind
one_kind family config rs a is low =
    let same : ◌≡◌ {A = AddressParts} (record { family = family; number = a.number }) a = λ i.
    record { family = sym is i; number = a.number } in
    subst (λ x. count_by (same_kind config rs x) (kinds_of family config rs) ≡ 1) same
    (of_number family config rs a.number low)
