-- Each kind stands by its least address, in order.
use Rattle.std.proofs.Common.{◌≡◌, ◌⊎◌, inl, inr, ℕ, ◌≤◌, ◌==◌, Bool, true, false, nat_lt, cond, List, [], ◌∷◌, map, Contains, count_by, refl, sym, ap, subst, ◌∙◌, arith}
use Rattle.std.specs.List.{list_all, list_any}
use Rattle.std.proofs.lemmas.Bool.{and_from, and_parts, or_left}
use Rattle.std.proofs.lemmas.Bool.Decides.{nat_tests}
use Rattle.std.proofs.lemmas.List.Sums.{sum_by-cons}
use Rattle.kp_lemmas.proofs.Members.{all_from, first_in, from_all, from_map, in_cases, later_in, none_in}
use Rattle.kp_base.specs.Net.{AddressParts}
use Rattle.kp_base.specs.declared.address.Family.{Family}
use Rattle.kp_path_defs.specs.Sources.{asked_ranges, bounds, first_of_kinds, placed, rising, same_kind}
use Rattle.kp_path_laws.proofs.SourceKinds.{bound_below, counted, kind_between, kind_through, seen_before}
use Rattle.kp_path_laws.specs.SourceLaws.{KindsRise, LeastOfKind, are_rising}

-- ---- Rising numbers

from_placed : (n z : ℕ) (ms : List ℕ) → Contains (placed n ms) z → (n ≡ z) ⊎ Contains ms z
from_placed n z [] c = in_cases z n [] c
from_placed n z (m ∷ ms) c = by (nat_lt n m) (n == m) c (from_placed n z ms)
  where
    by : (b d : Bool) → Contains (cond b (n ∷ m ∷ ms) (cond d (m ∷ ms) (m ∷ placed n ms))) z
        → (Contains (placed n ms) z → (n ≡ z) ⊎ Contains ms z) → (n ≡ z) ⊎ Contains (m ∷ ms) z
    by true d k rest = in_cases z n (m ∷ ms) k
    by false true k rest = inr k
    by false false k rest =
        elim (in_cases z m (placed n ms) k) [
          | inl e ↦ inr (subst (Contains (m ∷ ms)) e (first_in m ms))
          | inr behind ↦ elim (rest behind) [ inl e ↦ inl e | inr d ↦ inr (later_in z m ms d) ]
        ]

placed_rises : (n : ℕ) (ms : List ℕ) → are_rising ms ≡ true → are_rising (placed n ms) ≡ true
placed_rises n [] h = refl
placed_rises n (m ∷ ms) h =
    let parts = and_parts (list_all (nat_lt m) ms) (are_rising ms) h in
    by (nat_lt n m) (n == m) refl refl (from_all (nat_lt m) ms parts.0) (placed_rises n ms parts.1)
  where
    by : (b d : Bool) → nat_lt n m ≡ b → (n == m) ≡ d
        → ((z : ℕ) → Contains ms z → nat_lt m z ≡ true) → are_rising (placed n ms) ≡ true
        → are_rising (cond b (n ∷ m ∷ ms) (cond d (m ∷ ms) (m ∷ placed n ms))) ≡ true
    by true d e f above rest =
        and_from _ _ (and_from _ _ e
        (all_from (nat_lt n) ms (λ z c. let g = above z c in grind (arith, nat_tests, e, g)))) h
    by false true e f above rest = h
    by false false e f above rest =
        let more : nat_lt m n ≡ true = grind (arith, nat_tests, e, f) in
        and_from _ _
        (all_from (nat_lt m) (placed n ms) (λ z c.
        elim (from_placed n z ms c)
        [ inl is ↦ subst (λ k. nat_lt m k ≡ true) is more | inr d ↦ above z d ])) rest

rising_rises : (ns : List ℕ) → are_rising (rising ns) ≡ true
rising_rises [] = refl
rising_rises (n ∷ ns) = placed_rises n (rising ns) (rising_rises ns)

-- ---- The first of each kind

abbrev as_number : Bool → ℕ
as_number b = cond b 1 0

counts_one : {A : Type 0} (p : A → Bool) (x : A) (xs : List A) → Contains xs x → p x ≡ true
    → count_by p xs ≡ 0 → ⊥
counts_one p x [] c h none = none_in x c
counts_one p x (y ∷ ys) c h none =
    let sum = sym (sum_by-cons (λ z. cond (p z) 1 0) y ys) ∙ none in
    elim (in_cases x y ys c) [
      | inl e ↦ let one = ap as_number (ap p e ∙ h) in omega (arith, sum, one)
      | inr d ↦ counts_one p x ys d h (omega (arith, sum))
    ]

module _ (family : Family) (same : AddressParts → AddressParts → Bool) where
  abbrev numbered : ℕ → AddressParts
  numbered k = record { family = family; number = k }

  from_kinds : (seen : List AddressParts) (ns : List ℕ) (k : AddressParts)
      → Contains (first_of_kinds same seen (map numbered ns)) k → Contains (map numbered ns) k
  from_kinds seen [] k c = c
  from_kinds seen (n ∷ ns) k c = by (list_any (same (numbered n)) seen) c (from_kinds seen ns k)
      (from_kinds (numbered n ∷ seen) ns k)
    where
      by : (b : Bool) → Contains
          (cond b (first_of_kinds same seen (map numbered ns))
          (numbered n ∷ first_of_kinds same (numbered n ∷ seen) (map numbered ns))) k
          → (Contains (first_of_kinds same seen (map numbered ns)) k → Contains (map numbered ns) k)
          → (Contains (first_of_kinds same (numbered n ∷ seen) (map numbered ns)) k
          → Contains (map numbered ns) k)
          → Contains (numbered n ∷ map numbered ns) k
      by true d old new = later_in k (numbered n) (map numbered ns) (old d)
      by false d old new =
          elim (in_cases k (numbered n) (first_of_kinds same (numbered n ∷ seen) (map numbered ns))
          d) [
            | inl e ↦ subst (Contains (numbered n ∷ map numbered ns)) e
                (first_in (numbered n) (map numbered ns))
            | inr behind ↦ later_in k (numbered n) (map numbered ns) (new behind)
          ]

  -- what is among them has the family, and its number is one of these
  of_numbers : (ns : List ℕ) (k : AddressParts) → Contains (map numbered ns) k → (k.family ≡ family)
      × Contains ns k.number
  of_numbers ns k c =
      let (n, there, is) = from_map numbered k ns c in (
        sym (ap (λ (x : AddressParts). x.family) is),
        subst (λ (x : AddressParts). Contains ns x.number) is there,
      )

  kinds_rise_from : (seen : List AddressParts) (ns : List ℕ) → are_rising ns ≡ true
      → are_rising (map (λ k. k.number) (first_of_kinds same seen (map numbered ns))) ≡ true
  kinds_rise_from seen [] h = refl
  kinds_rise_from seen (n ∷ ns) h =
      let parts = and_parts (list_all (nat_lt n) ns) (are_rising ns) h in
      by (list_any (same (numbered n)) seen) (from_all (nat_lt n) ns parts.0)
      (kinds_rise_from seen ns parts.1) (kinds_rise_from (numbered n ∷ seen) ns parts.1)
    where
      by : (b : Bool) → ((z : ℕ) → Contains ns z → nat_lt n z ≡ true)
          → are_rising (map (λ k. k.number) (first_of_kinds same seen (map numbered ns))) ≡ true
          → are_rising (map (λ k. k.number)
          (first_of_kinds same (numbered n ∷ seen) (map numbered ns))) ≡ true
          → are_rising (map (λ k. k.number)
          (cond b (first_of_kinds same seen (map numbered ns))
          (numbered n ∷ first_of_kinds same (numbered n ∷ seen) (map numbered ns)))) ≡ true
      by true above old new = old
      by false above old new =
          and_from _ _
          (all_from (nat_lt n) (map (λ k. k.number)
          (first_of_kinds same (numbered n ∷ seen) (map numbered ns))) (λ z c.
          let (k, there, is) = from_map (λ (k : AddressParts). k.number) z
          (first_of_kinds same (numbered n ∷ seen) (map numbered ns)) c in
          subst (λ m. nat_lt n m ≡ true) is
          (above k.number (of_numbers ns k (from_kinds (numbered n ∷ seen) ns k there)).1))) new

  module _ (p : AddressParts → Bool)
      (through : (x y : AddressParts) → p x ≡ true → same x y ≡ true → p y ≡ true)
      (between : (x y : AddressParts) → p x ≡ true → p y ≡ true → same x y ≡ true) where
    -- of a kind that was seen none comes again
    never_again : (seen xs : List AddressParts) (k : AddressParts) → list_any p seen ≡ true
        → Contains (first_of_kinds same seen xs) k → p k ≡ true → ⊥
    never_again seen xs k was c h =
        counts_one p k (first_of_kinds same seen xs) c h
        (counted same p through between seen xs ∙ ap (λ b. cond b 0 (cond (list_any p xs) 1 0)) was)

    -- the first of its kind has the least number of those that are of it
    least_first : (seen : List AddressParts) (ns : List ℕ) (k : AddressParts) (n : ℕ)
        → are_rising ns ≡ true
        → Contains (first_of_kinds same seen (map numbered ns)) k → p k ≡ true → Contains ns n
        → p (numbered n) ≡ true → k.number ≤ n
    least_first seen [] k n up c h there of = absurd (none_in n there)
    least_first seen (m ∷ ms) k n up c h there of =
        let parts = and_parts (list_all (nat_lt m) ms) (are_rising ms) up in
        by (list_any (same (numbered m)) seen) (p (numbered m)) refl refl c (in_cases n m ms there)
        (from_all (nat_lt m) ms parts.0)
        (least_first seen ms k n parts.1) (least_first (numbered m ∷ seen) ms k n parts.1)
      where
        by : (b q : Bool) → list_any (same (numbered m)) seen ≡ b → p (numbered m) ≡ q
            → Contains (cond b (first_of_kinds same seen (map numbered ms))
            (numbered m ∷ first_of_kinds same (numbered m ∷ seen) (map numbered ms))) k
            → (m ≡ n) ⊎ Contains ms n
            → ((z : ℕ) → Contains ms z → nat_lt m z ≡ true)
            → (Contains (first_of_kinds same seen (map numbered ms)) k → p k ≡ true → Contains ms n
            → p (numbered n) ≡ true → k.number ≤ n)
            → (Contains (first_of_kinds same (numbered m ∷ seen) (map numbered ms)) k → p k ≡ true
            → Contains ms n → p (numbered n) ≡ true → k.number ≤ n)
            → k.number ≤ n
        by true true e f d at above old new =
            absurd (never_again seen (map numbered ms) k
            (sym (seen_before same p through between (numbered m) seen f) ∙ e) d h)
        by true false e f d (inl is) above old new =
            let no : false ≡ true = sym f ∙ ap (λ x. p (numbered x)) is ∙ of in absurd (cc)
        by true false e f d (inr behind) above old new = old d h behind of
        by false q e f d at above old new =
            elim (in_cases k (numbered m)
            (first_of_kinds same (numbered m ∷ seen) (map numbered ms)) d) [
              | inl is ↦
                  let first : m ≡ k.number = ap (λ (x : AddressParts). x.number) is in
                  elim at [
                    | inl one ↦ omega (arith, first, one)
                    | inr behind ↦ let more = above n behind in grind
                        (arith, nat_tests, first, more)
                  ]
              | inr later ↦ from_later q f later at
            ]
          where
            from_later : (q : Bool) → p (numbered m) ≡ q
                → Contains (first_of_kinds same (numbered m ∷ seen) (map numbered ms)) k
                → (m ≡ n) ⊎ Contains ms n → k.number ≤ n
            from_later true f later at = absurd
                (never_again (numbered m ∷ seen) (map numbered ms) k
                (or_left (p (numbered m)) (list_any p seen) f) later h)
            from_later false f later (inl is) =
                let no : false ≡ true = sym f ∙ ap (λ x. p (numbered x)) is ∙ of in absurd (cc)
            from_later false f later (inr behind) = new later h behind of

pub kinds_rise : KindsRise
kinds_rise family config rs =
    kinds_rise_from family (same_kind config rs) []
    (rising (bounds (asked_ranges family config rs)))
    (rising_rises (bounds (asked_ranges family config rs)))

pub least_of_kind : LeastOfKind
least_of_kind family config rs a k is low there kind =
    let ns = rising (bounds (asked_ranges family config rs)) in
    let same : ◌≡◌ {A = AddressParts} a (record { family = family; number = a.number }) = λ i.
    record { family = is i; number = a.number } in
    let of_number : same_kind config rs (record { family = family; number = a.number }) k
    ≡ true = ap (λ (x : AddressParts). same_kind config rs x k) (sym same) ∙ kind in
    let it = bound_below family config rs a.number low in
    let at_bound = least_first family (same_kind config rs)
    (same_kind config rs (record { family = family; number = a.number }))
    (kind_through config rs (record { family = family; number = a.number }))
    (kind_between config rs (record { family = family; number = a.number }))
    [] ns k it.bound (rising_rises (bounds (asked_ranges family config rs))) there of_number
    it.there it.kind in
    let below = it.below in (
      (of_numbers family (same_kind config rs) ns k
          (from_kinds family (same_kind config rs) [] ns k there)).0,
      omega (arith, at_bound, below),
    )
