-- What marks of sources tell, and what stays of them.
use Rattle.std.proofs.Common.{◌≡◌, ◌≢◌, ◌≤◌, ◌<◌, ◌+◌, ◌-◌, ◌*◌, ◌/◌, ◌%◌, ◌^◌, ℕ, zero, suc, Bool}
use Rattle.std.proofs.Common.{true, false, cond, not, nat_le, bit_or, List, [], ◌∷◌, ◌++◌, map, set}
use Rattle.std.proofs.Common.{Option, Some, None, IfSome, Result, Ok, Err, OnOk, OnErr, All, filter}
use Rattle.std.proofs.Common.{get_or, length, slice_get, unwrap_or, refl, sym, ap, subst, ◌∙◌, arith}
use Rattle.std.specs.FinMap.{get, get-empty, get-insert, get-remove}
use Rattle.std.specs.Int.{bit_at}
use Rattle.std.specs.List.{list_any}
use Rattle.std.specs.Map.{lookup}
use Rattle.std.specs.Ordering.{eq_by_cmp}
use Rattle.std.proofs.lemmas.Bool.Decides.{nat_tests}
use Rattle.std.proofs.lemmas.List.Elements.{All-cons, All-contains, All-filter, All-head, All-nil}
use Rattle.std.proofs.lemmas.List.{map-append}
use Rattle.std.proofs.lemmas.List.Elements.{All-push, All-tail, All-take, All-weaker}
use Rattle.std.proofs.lemmas.Nat.Bits.{bit_at-lt, bit_at-pow_same, bit_at_or}
use Rattle.std.proofs.lemmas.Option.{same_Some, slice_get_read}
use Rattle.lru.proofs.CallerLemmas.{Contains-lookup}
use Rattle.kp_base.specs.Net.{AddressParts}
use Rattle.kp_choice_defs.specs.Recent.{RecentParts, Shard, Sighting, is_of, is_within, reaped}
use Rattle.kp_choice_defs.specs.Recent.{set_at, shard_cmp, shard_of, sightings, with_sightings}
use Rattle.kp_part_laws.proofs.Pointwise.{Held, one_part, part_total}
use Rattle.kp_part_laws.proofs.United.{same_lists, set_same}
use Rattle.kp_recent.specs.declared.marks.Marks.{Marks}
use Rattle.kp_recent.specs.Held.{no_sources}
use Rattle.kp_recent.specs.Marked.{AreFull, AreMarked, HasBit, IsCovered, IsMarked, column_of}
use Rattle.kp_recent.specs.Marked.{row_of}
use Rattle.kp_recent.specs.Moments.{has_recent, recent, shown_in}
use Rattle.kp_recent.proofs.Hinting.{shifted_one}
use Rattle.kp_recent.proofs.Parts.{Cache, found_in, lists_of, part_is, part_ties, same_part}
use Rattle.kp_recent.proofs.Sources.{one_address}

-- ---- words

-- what an element has it keeps where another takes its place that has it too
set_keeps : {X : Type 0} (P : X → Type 0) (xs : List X) (w : ℕ) (old new : X)
    → slice_get xs w ≡ Some old → (P old → P new) → (at : ℕ) → IfSome (slice_get xs at) P
    → IfSome (slice_get (set xs w new) at) P
set_keeps P [] w old new there goes at is = is
set_keeps P (x ∷ xs) zero old new there goes zero is = goes (subst P (same_Some x old there) is)
set_keeps P (x ∷ xs) zero old new there goes (suc at) is = is
set_keeps P (x ∷ xs) (suc w) old new there goes zero is = is
set_keeps P (x ∷ xs) (suc w) old new there goes (suc at) is =
    set_keeps P xs w old new there goes at is

-- a word or moment that was read
pub found_at : (xs ys : List ℕ) (i j x : ℕ) → xs ≡ ys → i ≡ j → i < length xs → x ≡ get_or xs i x
    → slice_get ys j ≡ Some x
found_at xs ys i j x same place within is =
    (λ k. slice_get (sym same k) (sym place k))
    ∙ slice_get_read xs (length xs) i x refl within is

-- a bit of a word is set
module _ (words : List ℕ) (place bit word : ℕ) (low : bit < 64)
    (there : slice_get words place ≡ Some word) where
  abbrev with_bit : ℕ
  with_bit = bit_or word (1 * 2 ^ bit % 2 ^ 64)

  own_bit : bit_at with_bit bit ≡ 1
  own_bit =
      let own : bit_at (1 * 2 ^ bit % 2 ^ 64) bit ≡ 1 =
      ap (λ n. bit_at n bit) (sym (shifted_one bit low)) ∙ bit_at-pow_same bit in
      bit_at_or word (1 * 2 ^ bit % 2 ^ 64) bit ∙ omega (arith, own, bit_at-lt word bit)

  other_bit : (b : ℕ) → bit_at word b ≡ 1 → bit_at with_bit b ≡ 1
  other_bit b is =
      bit_at_or word (1 * 2 ^ bit % 2 ^ 64) b
      ∙ omega (arith, is, bit_at-lt (1 * 2 ^ bit % 2 ^ 64) b)

  pub bit_is_set : place < length words → HasBit (set words place with_bit) place bit
  bit_is_set within =
      subst (λ o. IfSome o (λ w. bit_at w bit ≡ 1)) (sym (set_same words place with_bit within))
      own_bit

  pub bit_stays : (at b : ℕ) → HasBit words at b → HasBit (set words place with_bit) at b
  bit_stays at b = set_keeps (λ w. bit_at w b ≡ 1) words place word with_bit there (other_bit b) at

-- ---- what marks tell

module _ (marks : Marks) (list : List ℕ) where
  -- a source whose bit is missing isn't there
  module _ (source : AddressParts) (word : ℕ)
      (at : slice_get marks.bits.items (row_of source * 16 + column_of list / 64) ≡ Some word)
      (lacks : bit_at word (column_of list % 64) ≢ 1) where
    is_other : (s : Sighting) (b : Bool) → is_of source s ≡ b → IsMarked marks list s → b ≡ false
    is_other s true is marked =
        let column = column_of list in
        absurd (lacks (subst (λ o. IfSome o (λ w. bit_at w (column % 64) ≡ 1)) at
        (subst (λ a. HasBit marks.bits.items (row_of a * 16 + column / 64) (column % 64))
        (one_address s.source source is) marked.bit)))
    is_other s false is marked = refl

    pub unmarked : (now seconds : ℕ) (ss : List Sighting) → AreMarked marks list ss
        → has_recent now seconds source ss ≡ false
    unmarked now seconds [] marked = refl
    unmarked now seconds (s ∷ ss) marked =
        let others = filter (is_of source) ss in
        ap (λ b. list_any (is_within now seconds) (cond b (s ∷ others) others))
        (is_other s (is_of source s) refl (All-head (IsMarked marks list) s ss marked))
        ∙ unmarked now seconds ss (All-tail (IsMarked marks list) s ss marked)

  -- where what was set first is not too old, nothing is
  pub all_young : (now seconds since : ℕ)
      → slice_get marks.since.items (column_of list / 8) ≡ Some since
      → nat_le (now - since) seconds ≡ true → (ss : List Sighting) → AreMarked marks list ss
      → recent now seconds ss ≡ ss
  all_young now seconds since at young [] marked = refl
  all_young now seconds since at young (s ∷ ss) marked =
      let late : since ≤ s.moment =
      subst (λ o. IfSome o (λ n. n ≤ s.moment)) at
      (All-head (IsMarked marks list) s ss marked).since in
      let kept : is_within now seconds s ≡ true = grind (arith, nat_tests) in
      ap (λ b. cond b (s ∷ recent now seconds ss) (recent now seconds ss)) kept
      ∙ ap (λ xs. s ∷ xs)
      (all_young now seconds since at young ss (All-tail (IsMarked marks list) s ss marked))

-- ---- marks of all parts

-- one more of what a loop went through
pub all_more : {A Y : Type 0} (P : Y → Type 0) (f : A → Y) (xs : List A) (x : A)
    → All P (map f xs) → P (f x) → All P (map f (xs ++ x ∷ []))
all_more P f xs x all is =
    subst (All P) (sym (map-append f xs (x ∷ []))) (All-push P (map f xs) (f x) all is)

-- parts are marked where all entries are
pub entries_marked : (marks : Marks) (size : ℕ) (es : List (Shard × Cache))
    → All (λ e. AreMarked marks e.0.list (shown_in e.1)) es
    → (q : Shard) → AreMarked marks q.list (sightings (lists_of size es) q)
entries_marked marks size es all q =
    subst (AreMarked marks q.list) (sym (part_is size es q (lookup (same_part q) es) refl))
    (found (lookup (same_part q) es) refl) where
      found : (o : Option Cache) → lookup (same_part q) es ≡ o
          → AreMarked marks q.list (found_in o)
      found None at = All-nil (IsMarked marks q.list)
      found (Some c) at =
          let entry = Contains-lookup (same_part q) es c at in
          let same = one_part q entry.0 (sym (part_ties q entry.0) ∙ entry.2) in
          subst (λ (k : Shard). AreMarked marks k.list (shown_in c)) (sym same)
          (All-contains (λ e. AreMarked marks e.0.list (shown_in e.1)) es (entry.0, c) all entry.1)

-- ---- one part is changed

-- a part is held where it has a source
abbrev held : List Sighting → Held
held [] = None
held (s ∷ ss) = Some (s ∷ ss)

held_full : (ss : List Sighting) → IfSome (held ss) (λ ss. 0 < length ss)
held_full [] = tt
held_full (s ∷ ss) = omega arith

held_back : (ss : List Sighting) → unwrap_or (held ss) [] ≡ ss
held_back [] = refl
held_back (s ∷ ss) = refl

held_again : (h : Held) → IfSome h (λ ss. 0 < length ss) → held (unwrap_or h []) ≡ h
held_again None full = refl
held_again (Some []) full = absurd (omega (arith, full))
held_again (Some (s ∷ ss)) full = refl

module _ (lists : RecentParts) (k : Shard) where
  same_size : (ss : List Sighting) → (with_sightings lists k ss).size ≡ lists.size
  same_size [] = refl
  same_size (s ∷ ss) = refl

  get_with : (ss : List Sighting) (q : Shard) → get (with_sightings lists k ss).parts q
      ≡ cond (eq_by_cmp shard_cmp q k) (held ss) (get lists.parts q)
  get_with [] q = get-remove part_total lists.parts k q
  get_with (s ∷ ss) q = get-insert part_total lists.parts k (s ∷ ss) q

  -- a part with its own sources is as it was
  same_with : AreFull lists → with_sightings lists k (sightings lists k) ≡ lists
  same_with full =
      same_lists _ _ (same_size (sightings lists k))
      (λ q. get_with (sightings lists k) q ∙ there q (eq_by_cmp shard_cmp q k) refl) where
        there : (q : Shard) (b : Bool) → eq_by_cmp shard_cmp q k ≡ b
            → cond b (held (sightings lists k)) (get lists.parts q) ≡ get lists.parts q
        there q true is =
            held_again (get lists.parts k) (full k)
            ∙ ap (get lists.parts) (sym (one_part q k is))
        there q false is = refl

  module _ (marks : Marks) (covered : IsCovered marks lists) (ss : List Sighting) where
    full_by : (q : Shard) (b : Bool)
        → IfSome (cond b (held ss) (get lists.parts q)) (λ ss. 0 < length ss)
    full_by q true = held_full ss
    full_by q false = covered.full q

    marked_by : AreMarked marks k.list ss → (q : Shard) (b : Bool) → eq_by_cmp shard_cmp q k ≡ b
        → AreMarked marks q.list (unwrap_or (cond b (held ss) (get lists.parts q)) [])
    marked_by own q true is =
        subst (λ (x : Shard). AreMarked marks x.list (unwrap_or (held ss) []))
        (sym (one_part q k is)) (subst (AreMarked marks k.list) (sym (held_back ss)) own)
    marked_by own q false is = covered.all q

    covered_with : AreMarked marks k.list ss → IsCovered marks (with_sightings lists k ss)
    covered_with own = record {
      full = λ q. subst (λ h. IfSome h (λ ss. 0 < length ss)) (sym (get_with ss q))
          (full_by q (eq_by_cmp shard_cmp q k));
      all = λ q. subst (λ h. AreMarked marks q.list (unwrap_or h [])) (sym (get_with ss q))
          (marked_by own q (eq_by_cmp shard_cmp q k) refl);
    }

-- ---- what the calls do

-- where no source of a part is too old, a look drops none
pub reaped_same : (marks : Marks) (lists : RecentParts) → IsCovered marks lists
    → (list : List ℕ) (source : AddressParts) (now seconds : ℕ)
    → recent now seconds (sightings lists (shard_of list source))
    ≡ sightings lists (shard_of list source)
    → reaped lists list source now seconds ≡ lists
reaped_same marks lists covered list source now seconds young =
    ap (with_sightings lists (shard_of list source)) young
    ∙ same_with lists (shard_of list source) covered.full

-- a look drops sources
pub covered_reaped : (marks : Marks) (lists : RecentParts) → IsCovered marks lists
    → (list : List ℕ) (source : AddressParts) (now seconds : ℕ)
    → IsCovered marks (reaped lists list source now seconds)
covered_reaped marks lists covered list source now seconds =
    let k = shard_of list source in
    covered_with lists k marks covered (recent now seconds (sightings lists k))
    (All-filter (is_within now seconds) (IsMarked marks list) (sightings lists k) (covered.all k))

module _ (old new : Marks)
    (others : (list : List ℕ) (s : Sighting) → IsMarked old list s → IsMarked new list s) where
  -- what is marked stays so with more marks
  pub marked_more : (list : List ℕ) (ss : List Sighting) → AreMarked old list ss
      → AreMarked new list ss
  marked_more list = All-weaker (IsMarked old list) (IsMarked new list) (others list)

  covered_more : (lists : RecentParts) → IsCovered old lists → IsCovered new lists
  covered_more lists covered = record {
    full = covered.full;
    all = λ q. marked_more q.list (sightings lists q) (covered.all q);
  }

  -- a source is set, and marked before
  covered_set : (lists : RecentParts) → IsCovered old lists
      → (list : List ℕ) (source : AddressParts) (now : ℕ)
      → IsMarked new list (record { source = source; moment = now })
      → IsCovered new (set_at lists list source now)
  covered_set lists covered list source now own =
      let k = shard_of list source in
      let all = covered_more lists covered in
      covered_with lists k new all _ (All-take (IsMarked new list) lists.size _
      (All-cons (IsMarked new list) _ _ own (All-filter (λ s. not (is_of source s))
      (IsMarked new list) (sightings lists k) (all.all k))))

  -- or refused
  pub covered_after : {T E : Type 0} (r : Result T E) (lists after : RecentParts)
      → IsCovered old lists → (list : List ℕ) (source : AddressParts) (now : ℕ)
      → IsMarked new list (record { source = source; moment = now })
      → OnOk r (after ≡ set_at lists list source now) → OnErr r (after ≡ lists)
      → IsCovered new after
  covered_after (Ok x) lists after covered list source now own placed refused =
      subst (IsCovered new) (sym placed) (covered_set lists covered list source now own)
  covered_after (Err e) lists after covered list source now own placed refused =
      subst (IsCovered new) (sym refused) (covered_more lists covered)

-- no source is there
pub covered_none : (marks : Marks) (lists : RecentParts) (size : ℕ) → lists ≡ no_sources size
    → IsCovered marks lists
covered_none marks lists size none = subst (IsCovered marks) (sym none) (record {
  full = λ q. subst (λ h. IfSome h (λ ss. 0 < length ss)) (sym (get-empty shard_cmp q)) tt;
  all = λ q. subst (λ h. AreMarked marks q.list (unwrap_or h [])) (sym (get-empty shard_cmp q))
      (All-nil (IsMarked marks q.list));
})
