-- What hints at a part's sources tell, and what stays of them.
use Rattle.std.proofs.Common.{◌≡◌, ◌≢◌, ◌≤◌, bit_or, ◌-◌, ◌*◌, ◌%◌, ◌<◌, ◌^◌, ℕ, zero, suc, Bool, true, false, cond, [], ◌∷◌, ◌++◌, filter, take, length, Some, min, refl, ap, sym, subst, ◌∙◌, arith}
use Rattle.std.specs.Int.{bit_at}
use Rattle.std.specs.List.{list_any}
use Rattle.std.specs.Map.{remove_entry}
use Rattle.std.proofs.lemmas.Bool.Decides.{nat_tests}
use Rattle.std.proofs.lemmas.Nat.{shl_whole}
use Rattle.std.proofs.lemmas.Nat.Bits.{bit_at_or, bit_at-lt, bit_at-pow_same}
use Rattle.lru.specs.LruCache.{last_entry}
use Rattle.kp_base.specs.Net.{AddressParts, same_address}
use Rattle.kp_recent.specs.Hinted.{AreHinted, IsHinted, mark_of}
use Rattle.kp_choice_defs.specs.Recent.{is_of, is_within}
use Rattle.kp_recent.specs.Moments.{Pairs, AreFalling, has_recent, is_recent, recent_pairs, sighting, sightings_of, with_source}
use Rattle.kp_recent.proofs.Falling.{last_is, up_to_last}
use Rattle.kp_recent.proofs.Sources.{one_address}

-- a one that is shifted within a word
pub shifted_one : (k : ℕ) → k < 64 → 2 ^ k ≡ 1 * 2 ^ k % 2 ^ 64
shifted_one k low =
    let one : 2 ^ k ≡ 1 * 2 ^ k = omega arith in
    one ∙ sym (shl_whole 1 1 k 64 (omega arith) (omega (arith, low)))

module _ (marks since : ℕ) where
  -- ---- what they tell

  -- a source whose bit is missing isn't there
  pub unmarked : (now seconds : ℕ) (source : AddressParts) (ss : Pairs) → AreHinted marks since ss
      → bit_at marks (mark_of source) ≢ 1 → has_recent now seconds source (sightings_of ss) ≡ false
  unmarked now seconds source [] hints lacks = refl
  unmarked now seconds source (s ∷ ss) hints lacks =
      by (same_address s.0 source) refl (unmarked now seconds source ss hints.1 lacks)
    where
      by : (b : Bool) → same_address s.0 source ≡ b → list_any (is_within now seconds) (filter (is_of source) (sightings_of ss)) ≡ false
          → list_any (is_within now seconds) (cond (same_address s.0 source) (sighting s ∷ filter (is_of source) (sightings_of ss)) (filter (is_of source) (sightings_of ss))) ≡ false
      by true is rest = absurd (lacks (ap (λ a. bit_at marks (mark_of a)) (sym (one_address s.0 source is)) ∙ hints.0.marked))
      by false is rest = ap (λ b. list_any (is_within now seconds) (cond b (sighting s ∷ filter (is_of source) (sightings_of ss)) (filter (is_of source) (sightings_of ss)))) is ∙ rest

  -- where what was set first is not too old, nothing is
  pub all_recent : (now seconds : ℕ) (ss : Pairs) → AreHinted marks since ss
      → is_recent now seconds since ≡ true → recent_pairs now seconds ss ≡ ss
  all_recent now seconds [] hints within = refl
  all_recent now seconds (s ∷ ss) hints within =
      let late : since ≤ s.1 = hints.0.later in
      let kept : is_recent now seconds s.1 ≡ true = grind (arith, nat_tests) in
      ap (λ b. cond b (s ∷ recent_pairs now seconds ss) (recent_pairs now seconds ss)) kept
      ∙ ap (λ xs. s ∷ xs) (all_recent now seconds ss hints.1 within)

  -- ---- what stays

  module _ (p : AddressParts × ℕ → Bool) where
    hinted_cond : (s : AddressParts × ℕ) (ss : Pairs) (b : Bool) → IsHinted marks since s
        → AreHinted marks since ss → AreHinted marks since (cond b (s ∷ ss) ss)
    hinted_cond s ss true h hints = (h, hints)
    hinted_cond s ss false h hints = hints

    pub hinted_filter : (ss : Pairs) → AreHinted marks since ss → AreHinted marks since (filter p ss)
    hinted_filter [] hints = hints
    hinted_filter (s ∷ ss) hints = hinted_cond s (filter p ss) (p s) hints.0 (hinted_filter ss hints.1)

  hinted_take : (n : ℕ) (ss : Pairs) → AreHinted marks since ss → AreHinted marks since (take n ss)
  hinted_take zero ss hints = tt
  hinted_take (suc n) [] hints = hints
  hinted_take (suc n) (s ∷ ss) hints = (hints.0, hinted_take n ss hints.1)

  module _ (test : AddressParts → Bool) where
    hinted_or : (s : AddressParts × ℕ) (ss rest : Pairs) (b : Bool) → AreHinted marks since (s ∷ ss)
        → AreHinted marks since rest → AreHinted marks since (cond b ss (s ∷ rest))
    hinted_or s ss rest true hints left = hints.1
    hinted_or s ss rest false hints left = (hints.0, left)

    hinted_remove : (ss : Pairs) → AreHinted marks since ss → AreHinted marks since (remove_entry test ss)
    hinted_remove [] hints = hints
    hinted_remove (s ∷ ss) hints = hinted_or s ss (remove_entry test ss) (test s.0) hints (hinted_remove ss hints.1)

  -- with more bits, and an earlier moment
  hinted_more : (bit least : ℕ) → least ≤ since → (ss : Pairs) → AreHinted marks since ss
      → AreHinted (bit_or marks bit) least ss
  hinted_more bit least early [] hints = hints
  hinted_more bit least early (s ∷ ss) hints =
      let mark = mark_of s.0 in
      let marked : bit_at marks mark ≡ 1 = hints.0.marked in
      let late : since ≤ s.1 = hints.0.later in (
        record {
          marked = bit_at_or marks bit mark ∙ omega (arith, marked, bit_at-lt bit mark);
          later = omega (arith, early, late);
        },
        hinted_more bit least early ss hints.1,
      )

-- once a source was set
pub hinted_set : (marks since : ℕ) (source : AddressParts) (now size : ℕ) (ss : Pairs)
    → AreHinted marks since ss
    → AreHinted (bit_or marks (2 ^ mark_of source)) (min since now) (with_source size source now ss)
hinted_set marks since source now size ss hints =
    let mark = mark_of source in
    let bit = 2 ^ mark in
    let own : bit_at bit mark ≡ 1 = bit_at-pow_same mark in
    hinted_take (bit_or marks bit) (min since now) size
    ((source, now) ∷ remove_entry (same_address source) ss) (
      record {
        marked = bit_at_or marks bit mark ∙ omega (arith, own, bit_at-lt marks mark);
        later = omega arith;
      },
      hinted_more marks since bit (min since now) (omega arith) (remove_entry (same_address source) ss)
          (hinted_remove marks since (same_address source) ss hints),
    )

-- where moments fall, none is earlier than the last
last_least : (marks since : ℕ) (ss : Pairs) (s : AddressParts × ℕ) → AreFalling (ss ++ s ∷ [])
    → AreHinted marks since (ss ++ s ∷ []) → AreHinted marks s.1 (ss ++ s ∷ [])
last_least marks since [] s fall hints = (record { marked = hints.0.marked; later = omega arith }, tt)
last_least marks since (t ∷ ss) s fall hints = (
  record {
    marked = hints.0.marked;
    later = up_to_last t.1 ss s fall.0;
  },
  last_least marks since ss s fall.1 hints.1,
)

pub hinted_last : (marks since : ℕ) (ss : Pairs) (s : AddressParts × ℕ) → last_entry ss ≡ Some s
    → AreFalling ss → AreHinted marks since ss → AreHinted marks s.1 ss
hinted_last marks since ss s at fall hints =
    let is = last_is ss s at in
    subst (AreHinted marks s.1) (sym is) (last_least marks since (take (length ss - 1) ss) s
    (subst AreFalling is fall) (subst (AreHinted marks since) is hints))
