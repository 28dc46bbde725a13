-- Booleans as facts. Facts by `≡ true` are in std's lemmas on Bool.
use Rattle.std.proofs.Common.{◌≡◌, Bool, true, false, ◌&&◌, T, refl, sym, subst}

-- a fact that holds, as a test
pub true_from_fact : (b : Bool) → T b → b ≡ true
true_from_fact true h = refl
true_from_fact false h = absurd h

-- a test that holds, as a fact
pub fact_from_true : {b : Bool} → b ≡ true → T b
fact_from_true h = subst T (sym h) tt

-- both parts of a fact
pub both_facts : (a b : Bool) → T (a && b) → T a × T b
both_facts true b h = (tt, h)
both_facts false b h = absurd h

-- a fact of two parts
pub fact_of_both : (a b : Bool) → T a → T b → T (a && b)
fact_of_both true b g h = h
fact_of_both false b g h = absurd g
