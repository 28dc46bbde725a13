-- Walks along a list of rows.
use Rattle.std.proofs.Common.{◌≡◌, ◌≢◌, ℕ, ◌+◌, ◌≤◌, ◌==◌, Bool, true, false, not, List, [], ◌∷◌, ◌++◌, filter, length, cond, slice_get, Option, Some, None, refl, sym, ap, ◌∙◌, subst, inl, inr, arith, ne_eqb, length-append, append_assoc}
use Rattle.std.proofs.lemmas.List.{append-nil}
use Rattle.futures.specs.LinkedLists.{IsApart, IsIn, without}
use Rattle.futures.proofs.LinkLemmas.{without_absent, without_head}
use Rattle.kp_conntrack.specs.Marked.{IsWalked}
use Rattle.kp_conntrack.proofs.Among.{in_either, in_filter}

pub in_middle : (row : ℕ) (seen rest : List ℕ) → IsIn row (seen ++ row ∷ rest)
in_middle row [] rest = inl refl
in_middle row (x ∷ seen) rest = inr (in_middle row seen rest)

-- a row goes from between the others
pub without_middle : (row : ℕ) (seen rest : List ℕ) → IsApart (seen ++ row ∷ rest)
    → without row (seen ++ row ∷ rest) ≡ seen ++ rest
without_middle row [] rest apart = without_head row row rest refl ∙ without_absent row rest apart.0
without_middle row (x ∷ seen) rest apart =
    let differs : (x == row) ≡ false = ne_eqb x row (λ same. apart.0 (subst (λ y. IsIn y (seen ++ row ∷ rest)) (sym same) (in_middle row seen rest))) in
    (λ i. cond (not (differs i)) (x ∷ without row (seen ++ row ∷ rest)) (without row (seen ++ row ∷ rest)))
    ∙ ap (λ ys. x ∷ ys) (without_middle row seen rest apart.1)

-- rows that pass a test are apart
pub apart_filter : (q : ℕ → Bool) (xs : List ℕ) → IsApart xs → IsApart (filter q xs)
apart_filter q [] apart = apart
apart_filter q (x ∷ xs) apart = step (q x) (apart_filter q xs apart.1)
  where
    step : (b : Bool) → IsApart (filter q xs) → IsApart (cond b (x ∷ filter q xs) (filter q xs))
    step true more = (λ found. apart.0 (in_filter q x xs found), more)
    step false more = more

-- a row that passes is among those that do
pub into_filter : (q : ℕ → Bool) (row : ℕ) (xs : List ℕ) → IsIn row xs → q row ≡ true → IsIn row (filter q xs)
into_filter q row [] found passes = found
into_filter q row (x ∷ xs) (inl same) passes =
    let here : q x ≡ true = ap q same ∙ passes in
    subst (λ b. IsIn row (cond b (x ∷ filter q xs) (filter q xs))) (sym here) (inl same)
into_filter q row (x ∷ xs) (inr found) passes = step (q x) (into_filter q row xs found passes)
  where
    step : (b : Bool) → IsIn row (filter q xs) → IsIn row (cond b (x ∷ filter q xs) (filter q xs))
    step true more = inr more
    step false more = more

-- where a walk stands at a row
pub record IsAt (test : ℕ → Bool) (all : List ℕ) (row turn : ℕ) : Type 0 where
  pub seen : List ℕ
  pub rest : List ℕ
  pub whole : all ≡ seen ++ row ∷ rest
  pub turns : length rest + (turn + 1) ≤ 65536
  pub passed : (other : ℕ) → IsIn other seen → test other ≡ true

module _ (test : ℕ → Bool) (all : List ℕ) where
  pub walk_first : (next : Option ℕ) → next ≡ slice_get all 0 → length all ≤ 65536 → IsWalked test all next 0
  walk_first next here few = record {
    seen = [];
    rest = all;
    whole = refl;
    here = here;
    turns = omega (arith, few);
    passed = λ row nowhere. absurd nowhere;
  }

  pub at_row : (row turn : ℕ) → IsWalked test all (Some row) turn → IsAt test all row turn
  at_row row turn is = by_rest is.rest is.whole is.here is.turns
    where
      by_rest : (rest : List ℕ) → all ≡ is.seen ++ rest → Some row ≡ slice_get rest 0 → length rest + turn ≤ 65536
          → IsAt test all row turn
      by_rest [] whole here turns = cc
      by_rest (x ∷ rest) whole here turns =
          let same : x ≡ row = cc in
          record {
            seen = is.seen;
            rest = rest;
            whole = whole ∙ ap (λ (y : ℕ). is.seen ++ y ∷ rest) same;
            turns = omega (arith, turns);
            passed = is.passed;
          }

  pub walk_in : (row turn : ℕ) → IsWalked test all (Some row) turn → IsIn row all
  walk_in row turn is =
      let at = at_row row turn is in
      subst (IsIn row) (sym at.whole) (in_middle row at.seen at.rest)

  module _ (row turn : ℕ) (is : IsWalked test all (Some row) turn) (next : Option ℕ) (after : (before rest : List ℕ) → all ≡ before ++ row ∷ rest → next ≡ slice_get rest 0) where
    -- past a row that passes
    pub walk_on : test row ≡ true → IsWalked test all next (turn + 1)
    walk_on fits =
        let at = at_row row turn is in
        record {
          seen = at.seen ++ row ∷ [];
          rest = at.rest;
          whole = at.whole ∙ sym (append_assoc at.seen (row ∷ []) at.rest);
          here = after at.seen at.rest at.whole;
          turns = at.turns;
          passed = λ other found.
              elim (in_either other row at.seen found) [
                | inl there ↦ at.passed other there
                | inr same ↦ ap test (sym same) ∙ fits
              ];
        }

    -- a row that doesn't is taken out
    pub walk_out : IsApart all → IsWalked test (without row all) next (turn + 1)
    walk_out apart =
        let at = at_row row turn is in
        record {
          seen = at.seen;
          rest = at.rest;
          whole = ap (without row) at.whole ∙ without_middle row at.seen at.rest (subst IsApart at.whole apart);
          here = after at.seen at.rest at.whole;
          turns = at.turns;
          passed = at.passed;
        }

  -- where no row comes all have passed
  pub walk_end : (next : Option ℕ) → next ≡ None → (turn : ℕ) → IsWalked test all next turn → (row : ℕ) → IsIn row all → test row ≡ true
  walk_end next none turn is row found = by_rest is.rest is.whole (sym none ∙ is.here)
    where
      by_rest : (rest : List ℕ) → all ≡ is.seen ++ rest → None ≡ slice_get rest 0 → test row ≡ true
      by_rest [] whole here = is.passed row (subst (IsIn row) (whole ∙ append-nil is.seen) found)
      by_rest (x ∷ rest) whole here = cc

  -- and where no turn is left
  pub walk_over : (next : Option ℕ) (turn : ℕ) → IsWalked test all next turn → 65536 ≤ turn
      → (row : ℕ) → IsIn row all → test row ≡ true
  walk_over next turn is over row found = by_rest is.rest is.whole is.turns
    where
      by_rest : (rest : List ℕ) → all ≡ is.seen ++ rest → length rest + turn ≤ 65536 → test row ≡ true
      by_rest [] whole turns = is.passed row (subst (IsIn row) (whole ∙ append-nil is.seen) found)
      by_rest (x ∷ rest) whole turns = absurd (omega (arith, turns, over))

  -- a walk that asks less
  pub walk_wider : (wider : ℕ → Bool) (next : Option ℕ) (turn : ℕ) → IsWalked test all next turn
      → ((row : ℕ) → test row ≡ true → wider row ≡ true) → IsWalked wider all next turn
  walk_wider wider next turn is asks = record {
    seen = is.seen;
    rest = is.rest;
    whole = is.whole;
    here = is.here;
    turns = is.turns;
    passed = λ row found. asks row (is.passed row found);
  }
