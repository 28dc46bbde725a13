-- Workers that meet one after the other.
use Rattle.std.proofs.Common.{◌≡◌, ◌<◌, ◌+◌, ℕ, List, take, drop, get_or, length, ap, sym, subst, ◌∙◌, arith, add-one, add-zero}
use Rattle.std.specs.List.{AllByRecursion}
use Rattle.std.proofs.Math.ListN.{set}
use Rattle.std.proofs.Math.Seq.{take-suc}
use Rattle.std.proofs.lemmas.List.{drop-drop, drop-set-lt, get_or-drop}
use Rattle.kp_live.proofs.Readings.{all_more}

-- what is left of a list has its elements
pub left_element : {A : Type 0} (xs ys : List A) (i : ℕ) (d : A) → drop i xs ≡ drop i ys
    → get_or xs i d ≡ get_or ys i d
left_element xs ys i d rest =
    ap (λ k. get_or xs k d) (sym (add-zero i)) ∙ sym (get_or-drop i xs 0 d)
    ∙ ap (λ l. get_or l 0 d) rest ∙ get_or-drop i ys 0 d ∙ ap (λ k. get_or ys k d) (add-zero i)

-- one more has met
pub met_next : {A : Type 0} (P : A → Type 0) (ws items : List A) (i : ℕ) (d : A) → i < length ws
    → drop i items ≡ drop i ws → P (get_or items i d) → AllByRecursion P (take i ws)
    → AllByRecursion P (take (i + 1) ws)
met_next P ws items i d lt rest p all =
    subst (AllByRecursion P)
    (sym (ap (λ n. take n ws) (add-one i) ∙ take-suc ws i d lt))
    (all_more P (take i ws) (get_or ws i d) all
    (subst P (left_element items ws i d rest) p))

-- those behind it are as they were
pub rest_next : {A : Type 0} (items ws : List A) (i : ℕ) (y : A) → drop i items ≡ drop i ws
    → drop (i + 1) (set items i y) ≡ drop (i + 1) ws
rest_next items ws i y rest =
    drop-set-lt (i + 1) items i y (omega arith) ∙ sym (drop-drop 1 i items)
    ∙ ap (λ l. drop 1 l) rest ∙ drop-drop 1 i ws
