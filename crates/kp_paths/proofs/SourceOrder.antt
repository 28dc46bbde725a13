-- Numbers in rising order, each once: one more of them, from the last on.
use Rattle.std.proofs.Common.{◌≡◌, ◌<◌, ◌≤◌, ◌-◌, ◌==◌, ℕ, suc, Bool, true, false, cond, List, [], ◌∷◌, drop, length, get_or, nat_lt, refl, sym, ap, ◌∙◌, arith}
use Rattle.std.proofs.Math.Seq.{drop-cons}
use Rattle.std.specs.BTreeSet.{insert_key}
use Rattle.std.specs.Ordering.{match_ordering, nat_cmp}
use Rattle.std.specs.declared.cmp.Ordering.TheVariants.{Less, Equal, Greater}
use Rattle.kp_path_defs.specs.Sources.{placed, rising}

-- a set puts a number where it has its place
pub insert_places : (ms : List ℕ) (n : ℕ) → insert_key nat_cmp ms n ≡ placed n ms
insert_places [] n = refl
insert_places (m ∷ ms) n = by (nat_lt n m) (n == m) (insert_places ms n)
  where
    by : (below same : Bool) → insert_key nat_cmp ms n ≡ placed n ms
        → match_ordering (cond below Less (cond same Equal Greater)) (n ∷ m ∷ ms) (m ∷ ms) (m ∷ insert_key nat_cmp ms n)
        ≡ cond below (n ∷ m ∷ ms) (cond same (m ∷ ms) (m ∷ placed n ms))
    by true same rest = refl
    by false true rest = refl
    by false false rest = ap (λ l. m ∷ l) rest

pub one_before : (ns : List ℕ) (i : ℕ) → 0 < i → i ≤ length ns
    → insert_key nat_cmp (rising (drop i ns)) (get_or ns (i - 1) 0) ≡ rising (drop (i - 1) ns)
one_before ns i some within =
    let inside : i - 1 < length ns = omega (arith, some, within) in
    let next : suc (i - 1) ≡ i = omega (arith, some) in
    let cut : drop (i - 1) ns ≡ get_or ns (i - 1) 0 ∷ drop i ns =
    drop-cons ns (i - 1) 0 inside ∙ (λ k. get_or ns (i - 1) 0 ∷ drop (next k) ns) in
    insert_places (rising (drop i ns)) (get_or ns (i - 1) 0) ∙ ap rising (sym cut)
