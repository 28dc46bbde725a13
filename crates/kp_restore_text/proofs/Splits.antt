-- What stands before and behind the first line feed.
use Rattle.std.proofs.Common.{◌≡◌, ℕ, ◌-◌, ◌<◌, ◌≤◌, ◌==◌, Bool, true, false, cond, not, List, [], ◌∷◌, ◌++◌, length, take, drop, get_or, Some, None, position, refl, sym, ap, ◌∙◌, arith, nat_lt, suc}
use Rattle.std.specs.List.{position_or_len}
use Rattle.std.proofs.lemmas.Bool.{and_from}
use Rattle.std.proofs.lemmas.List.{drop-drop, drop_more, get_or-take, length-take, take-append-drop}
use Rattle.std.proofs.lemmas.Bool.Decides.{nat_tests}
use Rattle.std.proofs.lemmas.List.Quantifiers.{position-Some}
use Rattle.std.proofs.lemmas.List.Sums.{fails_before_first}
use Rattle.kp_restore_text.specs.Pieces.{no_line_feed}

abbrev is_feed : ℕ → Bool
is_feed b = b == 10

feed : (b : ℕ) → (b == 10) ≡ true → b ≡ 10
feed b h = grind (arith, nat_tests)

-- bytes none of which is one
quiet : (bs : List ℕ) → ((j : ℕ) → j < length bs → (get_or bs j 0 == 10) ≡ false) → no_line_feed bs ≡ true
quiet [] f = refl
quiet (b ∷ bs) f = and_from _ _ (ap not (f 0 (omega arith))) (quiet bs (λ j m. f (suc j) (omega arith)))

-- the first place of a line feed is found from the front
pub position_from_start : (bytes : List ℕ) (i : ℕ) → position is_feed bytes ≡ Some i → (bytes ≡ take i bytes ++ 10 ∷ drop 1 (drop i bytes)) × (no_line_feed (take i bytes) ≡ true)
position_from_start bytes i h =
    let p = position-Some is_feed bytes i 0 h in
    let parts = drop_more bytes i 0 p.0 ∙ (λ j. feed _ p.1 j ∷ sym (drop-drop 1 i bytes) j) in (
      sym (take-append-drop i bytes) ∙ ap (λ ys. take i bytes ++ ys) parts,
      quiet (take i bytes) (λ j m. let within : j < i = omega (arith, m, length-take i bytes) in ap is_feed (get_or-take i bytes j 0 within) ∙ p.2 j within),
    )

-- where there is none, no byte is one
pub position_none : (bytes : List ℕ) → position is_feed bytes ≡ None → no_line_feed bytes ≡ true
position_none bytes h =
    let past = by (nat_lt (position_or_len is_feed bytes) (length bytes)) refl h in
    quiet bytes (λ j m. fails_before_first is_feed bytes j 0 (omega (arith, past)))
  where
    by : (b : Bool) → nat_lt (position_or_len is_feed bytes) (length bytes) ≡ b → cond b (Some (position_or_len is_feed bytes)) None ≡ None → length bytes ≤ position_or_len is_feed bytes
    by true k e = absurd (cc)
    by false k e = grind (arith, nat_tests)
