-- Numbers once each, in order: one more of them, from the last on.
use Rattle.std.proofs.Common.{◌≡◌, ◌<◌, ◌≤◌, ◌-◌, ℕ, suc, List, ◌∷◌, drop, length, map, get_or, sym, ap, ◌∙◌, arith}
use Rattle.std.proofs.Math.Seq.{drop-cons}
use Rattle.std.specs.BTreeSet.{insert_key}
use Rattle.std.specs.Ordering.{nat_cmp}
use Rattle.kp_lemmas.proofs.Entries.{put_keys}
use Rattle.kp_object_defs.specs.Order.{distinct_in_order, in_order}

pub one_before : (ns : List ℕ) (i n : ℕ) → 0 < i → i ≤ length ns → n ≡ get_or ns (i - 1) n
    → insert_key nat_cmp (distinct_in_order nat_cmp (drop i ns)) n
    ≡ distinct_in_order nat_cmp (drop (i - 1) ns)
one_before ns i n some within is =
    let inside : i - 1 < length ns = omega (arith, some, within) in
    let next : suc (i - 1) ≡ i = omega (arith, some) in
    let cut : drop (i - 1) ns ≡ n ∷ drop i ns =
    drop-cons ns (i - 1) n inside ∙ (λ k. sym is k ∷ drop (next k) ns) in
    sym (put_keys nat_cmp n n (in_order nat_cmp (map (λ m. (m, m)) (drop i ns))))
    ∙ ap (distinct_in_order nat_cmp) (sym cut)
