-- Parts whose moments fall: what stays so, and that only the last of them can be too old.
use Rattle.std.proofs.Common.{◌≡◌, ℕ, zero, suc, ◌-◌, ◌≤◌, Bool, true, false, cond, [], ◌∷◌, ◌++◌, take, length, filter, Some, None, refl, ap, sym, ◌∙◌, subst, append-nil, arith}
use Rattle.std.specs.Prelude.{slice_get}
use Rattle.std.specs.Map.{remove_entry}
use Rattle.std.proofs.lemmas.Bool.Decides.{nat_tests}
use Rattle.std.proofs.lemmas.Option.{none-some, same_Some}
use Rattle.std.proofs.lemmas.List.Elements.{filter-append}
use Rattle.lru.specs.LruCache.{last_entry}
use Rattle.kp_base.specs.Net.{AddressParts}
use Rattle.kp_recent.specs.Moments.{Pairs, is_recent, recent_pairs, AreUpTo, AreFalling}

-- ---- what stays up to a moment, and falling

pub up_to_later : (m n : ℕ) (ss : Pairs) → m ≤ n → AreUpTo m ss → AreUpTo n ss
up_to_later m n [] h up = up
up_to_later m n (s ∷ ss) h up = (omega (arith, h, up.0), up_to_later m n ss h up.1)

-- one more source, if the test says so
up_to_cond : (m : ℕ) (s : AddressParts × ℕ) (ss : Pairs) (b : Bool) → s.1 ≤ m → AreUpTo m ss → AreUpTo m (cond b (s ∷ ss) ss)
up_to_cond m s ss true h up = (h, up)
up_to_cond m s ss false h up = up

falling_cond : (s : AddressParts × ℕ) (ss : Pairs) (b : Bool) → AreUpTo s.1 ss → AreFalling ss → AreFalling (cond b (s ∷ ss) ss)
falling_cond s ss true up fall = (up, fall)
falling_cond s ss false up fall = fall

module _ (p : AddressParts × ℕ → Bool) where
  up_to_filter : (m : ℕ) (ss : Pairs) → AreUpTo m ss → AreUpTo m (filter p ss)
  up_to_filter m [] up = up
  up_to_filter m (s ∷ ss) up = up_to_cond m s (filter p ss) (p s) up.0 (up_to_filter m ss up.1)

  pub falling_filter : (ss : Pairs) → AreFalling ss → AreFalling (filter p ss)
  falling_filter [] fall = fall
  falling_filter (s ∷ ss) fall = falling_cond s (filter p ss) (p s) (up_to_filter s.1 ss fall.0) (falling_filter ss fall.1)

up_to_take : (n m : ℕ) (ss : Pairs) → AreUpTo m ss → AreUpTo m (take n ss)
up_to_take zero m ss up = tt
up_to_take (suc n) m [] up = up
up_to_take (suc n) m (s ∷ ss) up = (up.0, up_to_take n m ss up.1)

pub falling_take : (n : ℕ) (ss : Pairs) → AreFalling ss → AreFalling (take n ss)
falling_take zero ss fall = tt
falling_take (suc n) [] fall = fall
falling_take (suc n) (s ∷ ss) fall = (up_to_take n s.1 ss fall.0, falling_take n ss fall.1)

module _ (test : AddressParts → Bool) where
  up_to_or : (m : ℕ) (s : AddressParts × ℕ) (ss rest : Pairs) (b : Bool) → s.1 ≤ m → AreUpTo m ss → AreUpTo m rest → AreUpTo m (cond b ss (s ∷ rest))
  up_to_or m s ss rest true h up left = up
  up_to_or m s ss rest false h up left = (h, left)

  up_to_remove : (m : ℕ) (ss : Pairs) → AreUpTo m ss → AreUpTo m (remove_entry test ss)
  up_to_remove m [] up = up
  up_to_remove m (s ∷ ss) up = up_to_or m s ss (remove_entry test ss) (test s.0) up.0 up.1 (up_to_remove m ss up.1)

  falling_or : (s : AddressParts × ℕ) (ss rest : Pairs) (b : Bool) → AreFalling ss → AreUpTo s.1 rest → AreFalling rest → AreFalling (cond b ss (s ∷ rest))
  falling_or s ss rest true fall up left = fall
  falling_or s ss rest false fall up left = (up, left)

  falling_remove : (ss : Pairs) → AreFalling ss → AreFalling (remove_entry test ss)
  falling_remove [] fall = fall
  falling_remove (s ∷ ss) fall =
      falling_or s ss (remove_entry test ss) (test s.0) fall.1 (up_to_remove s.1 ss fall.0) (falling_remove ss fall.1)

  -- a part is up to what its first is up to, and then one more may stand before it
  up_to_first : (m : ℕ) (ss : Pairs) → AreFalling ss → AreUpTo m (take 1 ss) → AreUpTo m ss
  up_to_first m [] fall up = up
  up_to_first m (s ∷ ss) fall up = (up.0, up_to_later s.1 m ss up.0 fall.0)

  pub falling_set : (n : ℕ) (source : AddressParts) (moment : ℕ) (ss : Pairs) → AreFalling ss → AreUpTo moment (take 1 ss) → AreFalling (take n ((source, moment) ∷ remove_entry test ss))
  falling_set n source moment ss fall up =
      falling_take n _ (up_to_remove moment ss (up_to_first moment ss fall up), falling_remove ss fall)

-- ---- the last

-- a part ends in its last source
last_split : (ss : Pairs) (k : ℕ) (s : AddressParts × ℕ) → length ss ≡ suc k → slice_get ss k ≡ Some s → ss ≡ take k ss ++ s ∷ []
last_split [] k s len at = absurd (cc)
last_split (t ∷ []) zero s len at = ap (λ x. x ∷ []) (same_Some t s at)
last_split (t ∷ u ∷ ss) zero s len at = absurd (omega (arith, len))
last_split (t ∷ []) (suc k) s len at = absurd (omega (arith, len))
last_split (t ∷ u ∷ ss) (suc k) s len at = ap (λ xs. t ∷ xs) (last_split (u ∷ ss) k s (omega (arith, len)) at)

pub last_is : (ss : Pairs) (s : AddressParts × ℕ) → last_entry ss ≡ Some s → ss ≡ take (length ss - 1) ss ++ s ∷ []
last_is [] s at = absurd (none-some s at)
last_is (t ∷ ss) s at = last_split (t ∷ ss) (length (t ∷ ss) - 1) s (omega arith) at

-- a part without a last source is empty
beyond : (ss : Pairs) (k : ℕ) → slice_get ss k ≡ None → length ss ≤ k
beyond [] k none = omega arith
beyond (t ∷ ss) zero none = absurd (none-some t (sym none))
beyond (t ∷ ss) (suc k) none = omega (arith, beyond ss k none)

pub none_last : (ss : Pairs) → last_entry ss ≡ None → ss ≡ []
none_last [] none = refl
none_last (t ∷ ss) none = absurd (omega (arith, beyond (t ∷ ss) (length (t ∷ ss) - 1) none))

-- the last of a part that is up to a moment is up to it
pub up_to_last : (m : ℕ) (ss : Pairs) (s : AddressParts × ℕ) → AreUpTo m (ss ++ s ∷ []) → s.1 ≤ m
up_to_last m [] s up = up.0
up_to_last m (t ∷ ss) s up = up_to_last m ss s up.1

module _ (now seconds : ℕ) where
  -- what is no older than a source that is not too old is not too old
  within_later : (m n : ℕ) → m ≤ n → is_recent now seconds m ≡ true → is_recent now seconds n ≡ true
  within_later m n h w = grind (arith, nat_tests)

  -- one that is not too old is kept
  kept_first : (s : AddressParts × ℕ) (ss : Pairs) → is_recent now seconds s.1 ≡ true → recent_pairs now seconds ss ≡ ss → recent_pairs now seconds (s ∷ ss) ≡ s ∷ ss
  kept_first s ss w h = ap (λ b. cond b (s ∷ recent_pairs now seconds ss) (recent_pairs now seconds ss)) w ∙ ap (λ xs. s ∷ xs) h

  kept_before : (ss : Pairs) (s : AddressParts × ℕ) → AreFalling (ss ++ s ∷ []) → is_recent now seconds s.1 ≡ true → recent_pairs now seconds (ss ++ s ∷ []) ≡ ss ++ s ∷ []
  kept_before [] s fall w = kept_first s [] w refl
  kept_before (t ∷ ss) s fall w =
      kept_first t (ss ++ s ∷ []) (within_later s.1 t.1 (up_to_last t.1 ss s fall.0) w) (kept_before ss s fall.1 w)

  -- where moments fall and the last is not too old, none is
  pub kept_whole : (ss : Pairs) (s : AddressParts × ℕ) → AreFalling ss → last_entry ss ≡ Some s → is_recent now seconds s.1 ≡ true → recent_pairs now seconds ss ≡ ss
  kept_whole ss s fall at w =
      ap (recent_pairs now seconds) (last_is ss s at)
      ∙ kept_before (take (length ss - 1) ss) s (subst AreFalling (last_is ss s at) fall) w
      ∙ sym (last_is ss s at)

  -- a last one that is too old goes
  gone_last : (s : AddressParts × ℕ) → is_recent now seconds s.1 ≡ false → recent_pairs now seconds (s ∷ []) ≡ []
  gone_last s w = ap (λ b. cond b (s ∷ []) []) w

  pub reaped_but_last : (ss : Pairs) (s : AddressParts × ℕ) → last_entry ss ≡ Some s → is_recent now seconds s.1 ≡ false → recent_pairs now seconds (take (length ss - 1) ss) ≡ recent_pairs now seconds ss
  reaped_but_last ss s at w =
      sym (append-nil _)
      ∙ ap (λ xs. recent_pairs now seconds (take (length ss - 1) ss) ++ xs) (sym (gone_last s w))
      ∙ sym (filter-append (λ t. is_recent now seconds t.1) (take (length ss - 1) ss) (s ∷ []))
      ∙ ap (recent_pairs now seconds) (sym (last_is ss s at))
