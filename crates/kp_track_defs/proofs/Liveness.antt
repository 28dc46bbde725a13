-- Who is live at which moments.
use Rattle.std.proofs.Common.{◌≡◌, ℕ, ◌-◌, ◌≤◌, Bool, true, false, ◌&&◌, not, nat_le, List, [], ◌∷◌, cond, refl, sym, ◌∙◌, arith}
use Rattle.std.proofs.lemmas.Bool.{false≢true, and_from, and_parts}
use Rattle.std.proofs.lemmas.Bool.Decides.{nat_tests}
use Rattle.kp_base.specs.declared.key.Endpoint.{Endpoint}
use Rattle.kp_track_defs.specs.Entries.{is_within}
use Rattle.kp_track_defs.specs.Tracking.{Opener, cleared_by, heard, is_live, loses, unbroken}

-- a lesser number is within, too
within_less : (a b seconds : ℕ) → a ≤ b → nat_le b seconds ≡ true → nat_le a seconds ≡ true
within_less a b seconds less h = grind (arith, nat_tests)

-- before a moment without a gap there is none
unbroken_before : (seconds n m : ℕ) (ms : List ℕ) → n ≤ m → unbroken seconds m ms ≡ true
    → unbroken seconds n ms ≡ true
unbroken_before seconds n m [] before h = refl
unbroken_before seconds n m (x ∷ ms) before h =
    let both = and_parts _ _ h in
    and_from _ _ (within_less (n - x) (m - x) seconds (omega arith) both.0) both.1

-- who is live was live before
pub live_before : (n m : ℕ) (o : Opener) → n ≤ m → is_live m o ≡ true → is_live n o ≡ true
live_before n m o before h =
    let both = and_parts _ _ h in
    and_from _ _ both.0 (unbroken_before _ n m (o.entry.latest ∷ o.earlier) before both.1)

-- a test that implies another is false where that one is
not_either : (a b : Bool) → (a ≡ true → b ≡ true) → b ≡ false → a ≡ false
not_either true b h out = sym (h refl) ∙ out
not_either false b h out = refl

-- who is dead stays dead
pub dead_later : (n m : ℕ) (o : Opener) → n ≤ m → is_live n o ≡ false → is_live m o ≡ false
dead_later n m o before dead =
    not_either (is_live m o) (is_live n o) (live_before n m o before) dead

outer_true : (a b b' c : Bool) → (a && (b && c)) ≡ true → b' ≡ (a && (b' && c))
outer_true true true true true h = refl
outer_true true true false true h = refl
outer_true true true b' false h = absurd (false≢true h)
outer_true true false b' c h = absurd (false≢true h)
outer_true false b b' c h = absurd (false≢true h)

-- of one that was live only the time since its latest flow counts
pub live_is_within : (n m : ℕ) (o : Opener) → is_live n o ≡ true
    → is_within m o.entry ≡ is_live m o
live_is_within n m o h = outer_true (not o.cleared) _ _ _ h

with_more : (a b c : Bool) → (a && b) ≡ true → c ≡ true → (a && (c && b)) ≡ true
with_more a b c h g = let both = and_parts a b h in and_from _ _ both.0 (and_from _ _ g both.1)

at_once : (now seconds : ℕ) → nat_le (now - now) seconds ≡ true
at_once now seconds = grind (arith, nat_tests)

-- who has heard of a flow is live still
pub heard_is_live : (now : ℕ) (o : Opener) → is_live now o ≡ true
    → is_live now (heard now o) ≡ true
heard_is_live now o h = with_more (not o.cleared) _ _ h (at_once now _)

-- who has just opened is live
pub opened_is_live : (now seconds : ℕ) → (nat_le (now - now) seconds && true) ≡ true
opened_is_live now seconds = and_from _ _ (at_once now seconds) refl

by_loss : (b : Bool) (now : ℕ) (o : Opener)
    → is_live now (cond b (record o { cleared = true }) o) ≡ (is_live now o && not b)
by_loss true now o = sym (none (is_live now o))
  where
    none : (l : Bool) → (l && false) ≡ false
    none true = refl
    none false = refl
by_loss false now o = all (is_live now o)
  where
    all : (l : Bool) → l ≡ (l && true)
    all true = refl
    all false = refl

-- after a sync those are live that were and don't lose their endpoint
pub live_after_sync : (stands : Endpoint → Bool) (now : ℕ) (o : Opener)
    → is_live now (cleared_by stands o) ≡ (is_live now o && not (loses stands o.entry))
live_after_sync stands now o = by_loss (loses stands o.entry) now o

-- and each has the entry that it had
pub entry_after_sync : (stands : Endpoint → Bool) (o : Opener)
    → (cleared_by stands o).entry ≡ o.entry
entry_after_sync stands o = by_test (loses stands o.entry)
  where
    by_test : (b : Bool) → (cond b (record o { cleared = true }) o).entry ≡ o.entry
    by_test true = refl
    by_test false = refl
