-- What a turn makes of a part.
use Rattle.std.proofs.Common.{◌≡◌, ℕ, zero, suc, ◌-◌, ◌<◌, ◌≤◌, Bool, true, false, cond, [], ◌∷◌, ◌++◌, take, drop, length, Option, Some, None, if◌then◌else◌, refl, ap, sym, ◌∙◌, subst, arith, append_assoc, length-append}
use Rattle.std.specs.List.{IsDistinct, AllByRecursion, slice_get}
use Rattle.std.proofs.lemmas.List.Elements.{filter-append}
use Rattle.std.specs.Option.{option_map_or}
use Rattle.std.specs.Map.{keys_of, lookup_entry, remove_entry}
use Rattle.std.proofs.lemmas.Option.{none-some, same_Some}
use Rattle.std.proofs.lemmas.Map.Keys.{IsDistinct-head, IsDistinct-tail}
use Rattle.lru.specs.LruCache.{last_entry, promoted}
use Rattle.kp_base.specs.contracts.address.AddressPartialEq.TheImpl as address_eq
use Rattle.kp_base.specs.Net.{AddressParts, same_address}
use Rattle.kp_base.proofs.SameParts.{address_itself}
use Rattle.kp_recent.specs.Moments.{Pairs, is_recent, recent_pairs, AreFalling, AreUpTo, turned}
use Rattle.kp_recent.proofs.Falling.{last_is, up_to_later}
use Rattle.kp_recent.proofs.Sources.{address_test, same_swap}

-- ---- the last source goes to the front

all_last : (P : AddressParts → Type 0) (xs : Pairs) (s : AddressParts × ℕ) → AllByRecursion P (keys_of (xs ++ s ∷ [])) → P s.0
all_last P [] s all = all.0
all_last P (x ∷ xs) s all = all_last P xs s all.1

-- what is there but once is found last
found_last : (xs : Pairs) (s : AddressParts × ℕ) → IsDistinct same_address (keys_of (xs ++ s ∷ [])) → (lookup_entry (same_address s.0) (xs ++ s ∷ []) ≡ Some s) × (remove_entry (same_address s.0) (xs ++ s ∷ []) ≡ xs)
found_last [] s once = (ap (λ b. cond b (Some s) None) (address_itself s.0), ap (λ b. cond b [] (s ∷ [])) (address_itself s.0))
found_last (x ∷ xs) s once =
    let other = same_swap s.0 x.0 ∙ (all_last (λ k. same_address x.0 k ≡ false) xs s (IsDistinct-head same_address x.0 (keys_of (xs ++ s ∷ [])) once)) in
    let rest = found_last xs s (IsDistinct-tail same_address x.0 (keys_of (xs ++ s ∷ [])) once) in
    (ap (λ b. cond b (Some x) (lookup_entry (same_address s.0) (xs ++ s ∷ []))) other ∙ rest.0, ap (λ b. cond b (xs ++ s ∷ []) (x ∷ remove_entry (same_address s.0) (xs ++ s ∷ []))) other ∙ ap (λ r. x ∷ r) rest.1)

-- `promote` puts the last source first
pub promoted_last : (ss : Pairs) (s : AddressParts × ℕ) → last_entry ss ≡ Some s → IsDistinct same_address (keys_of ss) → promoted (address_eq.ghosts.eq s.0) ss ≡ s ∷ take (length ss - 1) ss
promoted_last ss s at once =
    let parts = found_last (take (length ss - 1) ss) s (subst (λ r. IsDistinct same_address (keys_of r)) (last_is ss s at) once) in
    ap (λ test. promoted test ss) (address_test s.0)
    ∙ ap (promoted (same_address s.0)) (last_is ss s at)
    ∙ ap (λ o. option_map_or (λ e. e ∷ remove_entry (same_address s.0) (take (length ss - 1) ss ++ s ∷ [])) o (take (length ss - 1) ss ++ s ∷ [])) parts.0
    ∙ ap (λ r. s ∷ r) parts.1

-- ---- all turns

-- a list is split before each of its places
split_at : (ss : Pairs) (k : ℕ) → k < length ss → (s : AddressParts × ℕ) × (drop k ss ≡ s ∷ drop (suc k) ss) × (take (suc k) ss ≡ take k ss ++ s ∷ [])
split_at [] k h = absurd (omega (arith, h))
split_at (s ∷ ss) zero h = (s, refl, refl)
split_at (s ∷ ss) (suc k) h =
    let rest = split_at ss k (omega (arith, h)) in (rest.0, rest.1, ap (λ r. s ∷ r) rest.2)

module _ (s : AddressParts × ℕ) where
  at_end : (ss : Pairs) (n : ℕ) → n ≡ length ss → slice_get (ss ++ s ∷ []) n ≡ Some s
  at_end [] n h = rw h refl
  at_end (t ∷ ss) zero h = absurd (omega (arith, h))
  at_end (t ∷ ss) (suc n) h = at_end ss n (omega (arith, h))

  front : (ss : Pairs) (n : ℕ) → n ≡ length ss → take n (ss ++ s ∷ []) ≡ ss
  front [] n h = rw h refl
  front (t ∷ ss) zero h = absurd (omega (arith, h))
  front (t ∷ ss) (suc n) h = ap (λ r. t ∷ r) (front ss n (omega (arith, h)))

  before_last : (ss : Pairs) → length (ss ++ s ∷ []) - 1 ≡ length ss
  before_last ss = rw length-append (omega arith)

  last_snoc : (ss : Pairs) → last_entry (ss ++ s ∷ []) ≡ Some s
  last_snoc ss = at_end ss _ (before_last ss)

  front_snoc : (ss : Pairs) → take (length (ss ++ s ∷ []) - 1) (ss ++ s ∷ []) ≡ ss
  front_snoc ss = front ss _ (before_last ss)

module _ (now seconds : ℕ) where
  -- the part after turns, when the first j of its sources had none yet
  abbrev pub after_turns : ℕ → Pairs → Pairs
  after_turns j ss = recent_pairs now seconds (drop j ss) ++ take j ss

  -- the next turn is that of the last of those
  pub next_turn : (ss : Pairs) (k j : ℕ) → j ≡ suc k → j ≤ length ss → (s : AddressParts × ℕ) × (last_entry (after_turns j ss) ≡ Some s) × (turned now seconds s (after_turns j ss) ≡ after_turns k ss) × (recent_pairs now seconds (drop k ss) ≡ recent_pairs now seconds (s ∷ []) ++ recent_pairs now seconds (drop j ss))
  next_turn ss k j e h =
      let parts = split_at ss k (omega (arith, e, h)) in
      let s = parts.0 in
      let done = recent_pairs now seconds (drop j ss) in
      let shape : after_turns j ss ≡ (done ++ take k ss) ++ s ∷ [] =
      ap (λ n. done ++ take n ss) e ∙ ap (λ r. done ++ r) parts.2 ∙ sym (append_assoc done (take k ss) (s ∷ [])) in
      let more : recent_pairs now seconds (drop k ss) ≡ recent_pairs now seconds (s ∷ []) ++ done =
      ap (recent_pairs now seconds) (parts.1 ∙ ap (λ n. s ∷ drop n ss) (sym e)) ∙ filter-append (λ t. is_recent now seconds t.1) (s ∷ []) (drop j ss) in (
        s,
        ap last_entry shape ∙ last_snoc s (done ++ take k ss),
        ap (λ r. recent_pairs now seconds (s ∷ []) ++ take (length r - 1) r) shape
            ∙ ap (λ r. recent_pairs now seconds (s ∷ []) ++ r) (front_snoc s (done ++ take k ss))
            ∙ sym (append_assoc (recent_pairs now seconds (s ∷ [])) done (take k ss))
            ∙ ap (λ r. r ++ take k ss) (sym more),
        more,
      )

  -- where it is not too old, that is its turn
  pub kept_turn : (ss : Pairs) (s : AddressParts × ℕ) → is_recent now seconds s.1 ≡ true → s ∷ take (length ss - 1) ss ≡ turned now seconds s ss
  kept_turn ss s w = ap (λ b. cond b (s ∷ []) [] ++ take (length ss - 1) ss) (sym w)

  -- what a turn answers tells whether the source is kept
  gone : (s : AddressParts × ℕ) (kept : Pairs) (r : Option ℕ) → r ≡ (if is_recent now seconds s.1 then Some s.1 else None) → r ≡ None → recent_pairs now seconds (s ∷ []) ++ kept ≡ kept
  gone s kept r told none = gone_by (is_recent now seconds s.1) (sym told ∙ none) where
    gone_by : (b : Bool) → (if b then Some s.1 else None) ≡ None → cond b (s ∷ []) [] ++ kept ≡ kept
    gone_by true h = absurd (none-some s.1 (sym h))
    gone_by false h = refl

  stays : (s : AddressParts × ℕ) (kept : Pairs) (r : Option ℕ) (m : ℕ) → r ≡ (if is_recent now seconds s.1 then Some s.1 else None) → r ≡ Some m → (m ≡ s.1) × (recent_pairs now seconds (s ∷ []) ++ kept ≡ s ∷ kept)
  stays s kept r m told some = stays_by (is_recent now seconds s.1) (sym told ∙ some) where
    stays_by : (b : Bool) → (if b then Some s.1 else None) ≡ Some m → (m ≡ s.1) × (cond b (s ∷ []) [] ++ kept ≡ s ∷ kept)
    stays_by true h = (sym (same_Some s.1 m h), refl)
    stays_by false h = absurd (none-some m h)

  -- moments fall along one more source that is kept, where none after it is newer
  pub falls_on : (s : AddressParts × ℕ) (kept all : Pairs) (r : Option ℕ) (newest m : ℕ) → all ≡ recent_pairs now seconds (s ∷ []) ++ kept → r ≡ (if is_recent now seconds s.1 then Some s.1 else None) → r ≡ Some m → newest ≤ m → AreFalling kept → AreUpTo newest kept → AreFalling all × AreUpTo m all
  falls_on s kept all r newest m whole told some h fall up =
      let kind = stays s kept r m told some in
      let at_moment : AreUpTo s.1 kept = up_to_later newest s.1 kept (omega (arith, h, kind.0)) up in (
        subst AreFalling (sym (whole ∙ kind.1)) (at_moment, fall),
        subst (AreUpTo m) (sym (whole ∙ kind.1)) (omega (arith, kind.0), subst (λ n. AreUpTo n kept) (sym kind.0) at_moment),
      )

  -- and along the same ones where the source goes
  pub falls_still : (s : AddressParts × ℕ) (kept all : Pairs) (r : Option ℕ) (newest : ℕ) → all ≡ recent_pairs now seconds (s ∷ []) ++ kept → r ≡ (if is_recent now seconds s.1 then Some s.1 else None) → r ≡ None → AreFalling kept → AreUpTo newest kept → AreFalling all × AreUpTo newest all
  falls_still s kept all r newest whole told none fall up =
      let same = sym (whole ∙ gone s kept r told none) in
      (subst AreFalling same fall, subst (AreUpTo newest) same up)
