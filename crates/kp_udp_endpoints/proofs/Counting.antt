-- What is counted of an endpoint once others came and went.
use Rattle.std.proofs.Common.{◌≡◌, ℕ, ◌+◌, ◌-◌, ◌<◌, ◌≤◌, min, nat_le, nat_lt, ◌==◌, ◌&&◌, Bool, true, false, true≢false, cond, List, [], ◌∷◌, count_by, length, take, Option, Some, None, is_some, Result, Ok, Err, OnErr, OnOk, IsOk, refl, sym, ap, subst, ◌∙◌, arith, unwrap_or, sum_by}
use Rattle.std.specs.FinMap.{from_entries, get, get-empty, get-insert, get-remove, insert, remove}
use Rattle.std.specs.Map.{lookup}
use Rattle.std.specs.Ordering.{eq_by_cmp}
use Rattle.std.proofs.Math.Bool.{and-false, and-true}
use Rattle.std.proofs.lemmas.Bool.Decides.{nat_tests}
use Rattle.std.proofs.lemmas.Option.{same_Some}
use Rattle.std.proofs.lemmas.List.{length-take}
use Rattle.std.proofs.lemmas.List.Sums.{count_by-le-length, sum_by-cons}
use Rattle.kp_base.specs.declared.key.Endpoint.{Endpoint}
use Rattle.kp_base.specs.Keys.{endpoint_cmp}
use Rattle.kp_base.specs.contracts.key.EndpointPartialEq.TheImpl as endpoint_eq
use Rattle.kp_base.proofs.KeyOrder.{endpoint_ties, endpoint_total}
use Rattle.kp_base.proofs.Maps.{lookup-get}
use Rattle.kp_track_defs.specs.Stands.{is_endpoint}
use Rattle.kp_udp_endpoints.specs.Counts.{AreDistinct, AreSound, Counts, NoneIsZero, count_of, fallen_of, one_fewer, one_more, with_new, without_gone}
use Rattle.kp_udp_endpoints.proofs.Same.{exact, tie}

pub more_of : (c : Counts) (e x : Endpoint)
    → count_of (one_more c e) x ≡ count_of c x + cond (is_endpoint x e) 1 0
more_of c e x =
    ap (λ o. unwrap_or o 0) (get-insert endpoint_total c e (count_of c e + 1) x)
    ∙ ap (λ b. unwrap_or (cond b (Some (count_of c e + 1)) (get c x)) 0) (tie x e)
    ∙ by (is_endpoint x e) refl
  where
    by : (b : Bool) → is_endpoint x e ≡ b
        → unwrap_or (cond b (Some (count_of c e + 1)) (get c x)) 0 ≡ count_of c x + cond b 1 0
    by true is = ap (λ y. count_of c y + 1) (sym (exact x e is))
    by false is = omega arith

-- one less than a number that is at most 1 is none
none_left : (n : ℕ) → nat_le n 1 ≡ true → 0 ≡ n - 1
none_left n few = grind (arith, nat_tests)

pub fewer_of : (c : Counts) (e x : Endpoint)
    → count_of (one_fewer c e) x ≡ count_of c x - cond (is_endpoint x e) 1 0
fewer_of c e x = by (nat_le (count_of c e) 1) refl
  where
    removed : nat_le (count_of c e) 1 ≡ true → (b : Bool) → is_endpoint x e ≡ b
        → unwrap_or (cond b None (get c x)) 0 ≡ count_of c x - cond b 1 0
    removed few true is =
        none_left (count_of c e) few ∙ ap (λ y. count_of c y - 1) (sym (exact x e is))
    removed few false is = omega arith

    lowered : (b : Bool) → is_endpoint x e ≡ b
        → unwrap_or (cond b (Some (count_of c e - 1)) (get c x)) 0 ≡ count_of c x - cond b 1 0
    lowered true is = ap (λ y. count_of c y - 1) (sym (exact x e is))
    lowered false is = omega arith

    by : (few : Bool) → nat_le (count_of c e) 1 ≡ few
        → count_of (cond few (remove c e) (insert c e (count_of c e - 1))) x
        ≡ count_of c x - cond (is_endpoint x e) 1 0
    by true few =
        ap (λ o. unwrap_or o 0) (get-remove endpoint_total c e x)
        ∙ ap (λ b. unwrap_or (cond b None (get c x)) 0) (tie x e)
        ∙ removed few (is_endpoint x e) refl
    by false few =
        ap (λ o. unwrap_or o 0) (get-insert endpoint_total c e (count_of c e - 1) x)
        ∙ ap (λ b. unwrap_or (cond b (Some (count_of c e - 1)) (get c x)) 0) (tie x e)
        ∙ lowered (is_endpoint x e) refl

pub all_more : (es : List Endpoint) (c : Counts) (x : Endpoint)
    → count_of (with_new es c) x ≡ count_of c x + count_by (is_endpoint x) es
all_more [] c x = omega arith
all_more (e ∷ es) c x =
    omega (
      arith,
      all_more es (one_more c e) x,
      more_of c e x,
      sum_by-cons (λ y. cond (is_endpoint x y) 1 0) e es,
    )

pub all_fewer : (es : List Endpoint) (c : Counts) (x : Endpoint)
    → count_of (without_gone es c) x ≡ count_of c x - count_by (is_endpoint x) es
all_fewer [] c x = omega arith
all_fewer (e ∷ es) c x =
    omega (
      arith,
      all_fewer es (one_fewer c e) x,
      fewer_of c e x,
      sum_by-cons (λ y. cond (is_endpoint x y) 1 0) e es,
    )

-- ---- Which ones fall

-- whether all of some go
abbrev pub falls : ℕ → ℕ → Bool
falls n going = nat_lt 0 n && nat_le n going

one_is : (n : ℕ) → (n == 1) ≡ true → (nat_lt 0 n ≡ true) × (nat_lt 0 (n - 1) ≡ false)
one_is n is = (grind (arith, nat_tests), grind (arith, nat_tests))

fits_one : (n going : ℕ) → (n == 1) ≡ true → nat_le n (1 + going) ≡ true
fits_one n going is = grind (arith, nat_tests)

less_lower : (n : ℕ) → (n == 1) ≡ false → nat_lt 0 (n - 1) ≡ nat_lt 0 n
less_lower n is = by (nat_lt 0 n) refl
  where
    by : (b : Bool) → nat_lt 0 n ≡ b → nat_lt 0 (n - 1) ≡ b
    by true low = grind (arith, nat_tests)
    by false low = grind (arith, nat_tests)

less_upper : (n going : ℕ) → nat_le (n - 1) going ≡ nat_le n (1 + going)
less_upper n going = by (nat_le n (1 + going)) refl
  where
    by : (b : Bool) → nat_le n (1 + going) ≡ b → nat_le (n - 1) going ≡ b
    by true fits = grind (arith, nat_tests)
    by false fits = grind (arith, nat_tests)

told_first : (n going : ℕ) (last : Bool) → (n == 1) ≡ last
    → cond last 1 0 + cond (falls (n - 1) going) 1 0 ≡ cond (falls n (1 + going)) 1 0
told_first n going true is =
    ap (λ b. 1 + cond (b && nat_le (n - 1) going) 1 0) (one_is n is).1
    ∙ sym (λ i. cond ((one_is n is).0 i && fits_one n going is i) 1 0)
told_first n going false is =
    omega arith ∙ (λ i. cond (less_lower n is i && less_upper n going i) 1 0)

told_other : (n going : ℕ) → 0 + cond (falls (n - 0) going) 1 0 ≡ cond (falls n (0 + going)) 1 0
told_other n going =
    let same : n - 0 ≡ n = omega arith in
    let none : 0 + going ≡ going = omega arith in
    ap (λ k. 0 + cond (falls k going) 1 0) same
    ∙ ap (λ k. 0 + cond (falls n k) 1 0) (sym none) ∙ omega arith

told_next : (n going : ℕ) (same last : Bool) → (same ≡ true → (n == 1) ≡ last)
    → cond (same && last) 1 0 + cond (falls (n - cond same 1 0) going) 1 0
    ≡ cond (falls n (cond same 1 0 + going)) 1 0
told_next n going true last is = told_first n going last (is refl)
told_next n going false last is = told_other n going

head_told : (x e : Endpoint) (last : Bool) (es : List Endpoint)
    → count_by (is_endpoint x) (cond last (e ∷ es) es)
    ≡ cond (is_endpoint x e && last) 1 0 + count_by (is_endpoint x) es
head_told x e true es =
    sum_by-cons (λ y. cond (is_endpoint x y) 1 0) e es
    ∙ ap (λ b. cond b 1 0 + count_by (is_endpoint x) es) (sym (and-true (is_endpoint x e)))
head_told x e false es =
    let none : count_by (is_endpoint x) es ≡ 0 + count_by (is_endpoint x) es = omega arith in
    none ∙ ap (λ b. cond b 1 0 + count_by (is_endpoint x) es) (sym (and-false (is_endpoint x e)))

-- an endpoint is told to fall, once, exactly where all that are counted go
pub told : (es : List Endpoint) (c : Counts) (x : Endpoint)
    → count_by (is_endpoint x) (fallen_of es c)
    ≡ cond (falls (count_of c x) (count_by (is_endpoint x) es)) 1 0
told [] c x = by (nat_lt 0 (count_of c x)) refl
  where
    by : (b : Bool) → nat_lt 0 (count_of c x) ≡ b
        → ◌≡◌ {A = ℕ} 0 (cond (b && nat_le (count_of c x) 0) 1 0)
    by true some = ap (λ b. cond b 1 0) (sym (over some))
      where
        over : nat_lt 0 (count_of c x) ≡ true → nat_le (count_of c x) 0 ≡ false
        over h = grind (arith, nat_tests)
    by false none = refl
told (e ∷ es) c x =
    head_told x e (count_of c e == 1) (fallen_of es (one_fewer c e))
    ∙ ap (λ n. cond (is_endpoint x e && (count_of c e == 1)) 1 0 + n)
    (told es (one_fewer c e) x
    ∙ ap (λ n. cond (falls n (count_by (is_endpoint x) es)) 1 0) (fewer_of c e x))
    ∙ told_next (count_of c x) (count_by (is_endpoint x) es) (is_endpoint x e) (count_of c e == 1)
    (λ same. ap (λ y. count_of c y == 1) (exact x e same))
    ∙ ap (λ n. cond (falls (count_of c x) n) 1 0)
    (sym (sum_by-cons (λ y. cond (is_endpoint x y) 1 0) e es))

pub told_once : (es : List Endpoint) (c : Counts) → AreDistinct (fallen_of es c)
told_once es c x = subst (λ n. n ≤ 1) (sym (told es c x)) (by (falls (count_of c x) (count_by (is_endpoint x) es)))
  where
    by : (b : Bool) → cond b 1 0 ≤ 1
    by true = omega arith
    by false = omega arith

-- ---- No count is 0

none_more : (c : Counts) (e : Endpoint) → NoneIsZero c → NoneIsZero (one_more c e)
none_more c e none x h =
    by (eq_by_cmp endpoint_cmp x e) (sym (get-insert endpoint_total c e (count_of c e + 1) x) ∙ h)
  where
    by : (b : Bool) → cond b (Some (count_of c e + 1)) (get c x) ≡ Some 0 → ⊥
    by true h = omega (arith, same_Some (count_of c e + 1) 0 h)
    by false h = none x h

none_fewer : (c : Counts) (e : Endpoint) → NoneIsZero c → NoneIsZero (one_fewer c e)
none_fewer c e none x h = by (nat_le (count_of c e) 1) refl h
  where
    removed : (b : Bool) → cond b None (get c x) ≡ Some 0 → ⊥
    removed true h = true≢false (sym (ap is_some h))
    removed false h = none x h

    more : (n : ℕ) → nat_le n 1 ≡ false → 1 < n
    more n h = grind (arith, nat_tests)

    lowered : nat_le (count_of c e) 1 ≡ false → (b : Bool)
        → cond b (Some (count_of c e - 1)) (get c x) ≡ Some 0 → ⊥
    lowered few true h = omega (arith, same_Some (count_of c e - 1) 0 h, more (count_of c e) few)
    lowered few false h = none x h

    by : (few : Bool) → nat_le (count_of c e) 1 ≡ few
        → get (cond few (remove c e) (insert c e (count_of c e - 1))) x ≡ Some 0 → ⊥
    by true few h = removed (eq_by_cmp endpoint_cmp x e) (sym (get-remove endpoint_total c e x) ∙ h)
    by false few h =
        lowered few (eq_by_cmp endpoint_cmp x e)
        (sym (get-insert endpoint_total c e (count_of c e - 1) x) ∙ h)

none_of_more : (es : List Endpoint) (c : Counts) → NoneIsZero c → NoneIsZero (with_new es c)
none_of_more [] c none = none
none_of_more (e ∷ es) c none = none_of_more es (one_more c e) (none_more c e none)

none_of_fewer : (es : List Endpoint) (c : Counts) → NoneIsZero c → NoneIsZero (without_gone es c)
none_of_fewer [] c none = none
none_of_fewer (e ∷ es) c none = none_of_fewer es (one_fewer c e) (none_fewer c e none)

-- ---- Counts in a map

-- what a look-up finds is the count
pub counted : (es : List (Endpoint × ℕ)) (e : Endpoint) (found : Option ℕ)
    → found ≡ lookup (endpoint_eq.ghosts.eq e) es → unwrap_or found 0 ≡ count_of (from_entries es) e
counted es e found is =
    ap (λ o. unwrap_or o 0) (is ∙ lookup-get endpoint_total endpoint_ties es e)

-- without entries none is counted
pub none_counted : (es : List (Endpoint × ℕ)) → es ≡ [] → (e : Endpoint)
    → count_of (from_entries es) e ≡ 0
none_counted es none e =
    ap (λ fs. count_of (from_entries fs) e) none
    ∙ ap (λ o. unwrap_or o 0) (get-empty endpoint_cmp e)

pub none_kept : (es : List (Endpoint × ℕ)) → es ≡ [] → NoneIsZero (from_entries es)
none_kept es none e h =
    true≢false (sym (ap is_some
    (sym (ap (λ fs. get (from_entries {R = endpoint_cmp} fs) e) none ∙ get-empty endpoint_cmp e) ∙ h)))

-- of what has a count of more than 1 one is found
pub found_more : (found : Option ℕ) → nat_le (unwrap_or found 0) 1 ≡ false → is_some found ≡ true
found_more None more = absurd (true≢false more)
found_more (Some n) more = refl

-- whether a count is at most 1
pub few_left : (count n : ℕ) → count ≡ n → count ≤ 1 → nat_le n 1 ≡ true
few_left count n is few = grind (arith, nat_tests)

pub more_left : (count n : ℕ) → count ≡ n → 1 < count → nat_le n 1 ≡ false
more_left count n is more = grind (arith, nat_tests)

-- what holds of an answer that is a value, and of one that only a new key can refuse
pub since_ok : {X E : Type 0} (P : Type 0) (r : Result X E) → OnOk r P → IsOk r → P
since_ok P (Ok x) holds ok = holds
since_ok P (Err e) holds ok = absurd (true≢false (sym ok))

pub since_found : {X E Y : Type 0} (P : Type 0) (r : Result X E) (found : Option Y) → OnOk r P
    → OnErr r (found ≡ None) → is_some found ≡ true → P
since_found P (Ok x) found holds absent some = holds
since_found P (Err e) found holds absent some = absurd (true≢false (sym some ∙ ap is_some absent))

-- ---- No count is too great

-- another one of those that are still to come may be counted
pub one_fits : (es : List Endpoint) (k : ℕ) (c m : Counts) (most : ℕ) (e : Endpoint)
    → m ≡ with_new (take k es) c → k < length es
    → ((x : Endpoint) → count_of c x + length es < most) → count_of m e + 1 < most
one_fits es k c m most e is below low =
    omega (
      arith,
      ap (λ n. count_of n e) is,
      all_more (take k es) c e,
      count_by-le-length (is_endpoint e) (take k es),
      length-take k es,
      low e,
    )

-- so no count is greater than how many were ever counted
still_low : (es fs : List Endpoint) (c m : Counts) (added now : ℕ)
    → m ≡ without_gone fs (with_new es c) → ((x : Endpoint) → count_of c x ≤ added)
    → now ≡ added + length es → (e : Endpoint) → count_of m e ≤ now
still_low es fs c m added now is low sum e =
    omega (
      arith,
      ap (λ n. count_of n e) is,
      all_fewer fs (with_new es c) e,
      all_more es c e,
      count_by-le-length (is_endpoint e) es,
      low e,
      sum,
    )

-- and what is kept stays sound
pub still_sound : (es fs : List Endpoint) (c m : Counts) (added now : ℕ)
    → m ≡ without_gone fs (with_new es c) → AreSound c added → now ≡ added + length es
    → AreSound m now
still_sound es fs c m added now is sound sum = record {
  none =
      subst NoneIsZero (sym is)
      (none_of_fewer fs (with_new es c) (none_of_more es c sound.none));
  low = still_low es fs c m added now is sound.low sum;
}
