-- Lines of a script that are taken, one more or one part more.
use Rattle.std.proofs.Common.{◌≡◌, ◌+◌, ℕ, suc, List, [], ◌∷◌, ◌++◌, map, ap, refl, ◌∙◌, append-nil, zero-add}
use Rattle.std.specs.List.{fold, flat_map, range_with_len}
use Rattle.std.proofs.lemmas.List.Concat.{flat_map-append}
use Rattle.std.proofs.lemmas.List.FromFn.{map-range_with_len_more}
use Rattle.std.proofs.lemmas.List.Sums.{fold-append}
use Rattle.std.specs.Prelude.{Option, OnOk, Result, Ok, Err}
use Rattle.kp_base.specs.declared.memory.NoMemory.{NoMemory}
use Rattle.kp_run_defs.specs.ReplayText.{Standing}
use Rattle.kp_replay.specs.Steps.{TookIn}
use Rattle.kp_run.specs.Given.{place}
use Rattle.kp_text_defs.specs.SaidLines.{given_as}
use Rattle.kp_text_defs.specs.declared.totals.Totals.{Totals}
use Rattle.kp_mode_defs.specs.Mode.{LineIn, Place, ProgressIn, after_line_in, given_in, replay_in, start_in}
use Rattle.kp_mode_defs.specs.Summing.{summing}
use Rattle.kp_mode_defs.proofs.Alike.{stands_same}
use Rattle.kp_run.specs.Sums.{Counted, CountsAlongReplay, after_counted, count_start, counted_of}

pub line_more : {A B : Type 0} (f : B → A → B) (a : B) (g : ℕ → A) (n : ℕ) → fold f a (map g (range_with_len 0 (n + 1))) ≡ f (fold f a (map g (range_with_len 0 n))) (g n)
line_more f a g n =
    ap (fold f a) (map-range_with_len_more g 0 n n (zero-add n)) ∙ fold-append f a (map g (range_with_len 0 n)) (g n ∷ [])

pub part_more : {A B C : Type 0} (f : B → A → B) (a : B) (g : C → List A) (xs : List C) (x : C) → fold f a (flat_map g (xs ++ x ∷ [])) ≡ fold f (fold f a (flat_map g xs)) (g x)
part_more f a g xs x =
    ap (fold f a) (flat_map-append g xs (x ∷ []) ∙ ap (λ l. flat_map g xs ++ l) (append-nil (g x)))
    ∙ fold-append f a (flat_map g xs) (g x)

-- ---- Sums and the replay of a script

pub along : CountsAlongReplay
along lines = stands_same summing lines (λ c number p lists state. refl)

same_way : (c : Counted) (r : ProgressIn Totals) (lines : List (List ℕ)) → c.number ≡ r.number → c.at ≡ r.at
    → (fold after_counted c lines).at ≡ (fold (after_line_in summing) r lines).at
same_way c r [] number at = at
same_way c r (l ∷ ls) number at =
    same_way (after_counted c l) (after_line_in summing r l) ls (ap suc number)
    (λ i. (given_in summing (suc (number i)) (given_as l) (at i)).next)

-- what is counted stands where the replay does
pub counted_same : (lines : List (List ℕ)) → (counted_of lines).at ≡ (replay_in summing lines).at
counted_same lines = same_way count_start (start_in summing) lines refl refl

-- a line that was taken leads there
pub leads_on : (r : Result (Unit {0}) NoMemory) (partly : Type 0) (line : LineIn Totals) (old new : Standing) (totals : Totals) (before now : List ℕ)
    → TookIn r (λ config objects state. totals ≡ state) partly line old new before now → OnOk r (place new totals ≡ line.next)
leads_on (Ok done) partly line old new totals before now took = λ i. record { standing = took.stands i; state = took.follows i }
leads_on (Err refused) partly line old new totals before now took = tt

-- one more line was counted
pub counted_more : (c : Counted) (number : ℕ) (bytes line : List ℕ) (given : Option (List ℕ)) (at : Place Totals) → number ≡ suc c.number → bytes ≡ line
    → given ≡ given_as bytes → at ≡ (given_in summing number given c.at).next → record { number = number; at = at } ≡ after_counted c line
counted_more c number bytes line given at next same fits leads =
    let place = leads ∙ (λ i. (given_in summing (next i) ((fits ∙ ap given_as same) i) c.at).next) in
    λ i. record { number = next i; at = place i }
