-- The draws of a plain line.
use Rattle.std.proofs.Common.{◌≡◌, ◌+◌, ◌≤◌, ◌<◌, ◌^◌, ℕ, suc, List, [], ◌∷◌, length, map, codes, cond, false, nat_lt, Some, None, refl, sym, ap, ap₂, ◌∙◌, le-leb, le-ltb, arith}
use Rattle.std.proofs.Math.Dec.{lit≤}
use Rattle.std.proofs.lemmas.List.Elements.{All-head, All-tail}
use Rattle.std.specs.List.{enumerate_from, All}
use Rattle.serde_json.specs.Data.{Members, array, number, unsigned}
use Rattle.serde_json.specs.Find.{get_member}
use Rattle.kp_json.specs.Answers.{too_many_at}
use Rattle.kp_json.specs.Paths.{member_path}
use Rattle.kp_json.specs.Places.{Place, item_list, item_place, member_place}
use Rattle.kp_row_defs.specs.Rows.{each_up_to, first_in, limited_fault, or_then, row_fault, rows_fault}
use Rattle.kp_text_defs.proofs.Between.{between_same}
use Rattle.kp_text_defs.specs.PacketText.{draw_from, draw_rows, listed_in}
use Rattle.kp_packet_lines.specs.Plain.{whole_items}
use Rattle.kp_packet_lines.specs.Taken.{object_place}

-- the places of listed numbers, from the number of the first on
abbrev places : Place → ℕ → List ℕ → List Place
places p k ns = map (λ e. item_place p e.0 e.1) (enumerate_from k (item_list (whole_items ns)))

fits : (n : ℕ) → n < 2 ^ 31 → n ≤ 2147483647
fits n low = let top : 2 ^ 31 ≤ 2147483648 = lit≤ tt in omega (arith, low, top)

faultless : (p : Place) (k n : ℕ) → n ≤ 2147483647 → rows_fault draw_rows (item_place p k (number (unsigned n))) ≡ None
faultless p k n low = rw (le-leb 0 n (omega arith), le-leb n 2147483647 low)

all_faultless : (p : Place) (k : ℕ) (ns : List ℕ) → All (λ n. n < 2 ^ 31) ns → first_in (map (rows_fault draw_rows) (places p k ns)) ≡ None
all_faultless p k [] low = refl
all_faultless p k (n ∷ ns) low =
    ap (λ f. or_then f (first_in (map (rows_fault draw_rows) (places p (k + 1) ns)))) (faultless p k n (fits n (All-head (λ m. m < 2 ^ 31) n ns low)))
    ∙ all_faultless p (k + 1) ns (All-tail (λ m. m < 2 ^ 31) n ns low)

drawn : (p : Place) (k : ℕ) (ns : List ℕ) → All (λ n. n < 2 ^ 31) ns → map draw_from (places p k ns) ≡ ns
drawn p k [] low = refl
drawn p k (n ∷ ns) low =
    ap₂ (λ m ms. m ∷ ms) (between_same 0 2147483647 n (omega arith) (fits n (All-head (λ m. m < 2 ^ 31) n ns low))) (drawn p (k + 1) ns (All-tail (λ m. m < 2 ^ 31) n ns low))

as_many : (p : Place) (k : ℕ) (ns : List ℕ) → length (places p k ns) ≡ length ns
as_many p k [] = refl
as_many p k (n ∷ ns) = ap suc (as_many p (k + 1) ns)

-- no draw of a list is at fault, and the list isn't too long
list_faultless : (path ns : List ℕ) → All (λ n. n < 2 ^ 31) ns → length ns ≤ 1000
    → limited_fault 1000 (λ r. rows_fault draw_rows r) (record { value = array (whole_items ns); path = path }) ≡ None
list_faultless path ns low few =
    let q : Place = record { value = array (whole_items ns); path = path } in
    let short : nat_lt 1000 (length (places q 0 ns)) ≡ false = ap (nat_lt 1000) (as_many q 0 ns) ∙ le-ltb 1000 (length ns) few in
    ap (λ b. or_then (cond b (Some (too_many_at path (length (places q 0 ns)))) None) (first_in (map (rows_fault draw_rows) (places q 0 ns)))) short
    ∙ all_faultless q 0 ns low

-- a member with these draws
pub all_drawn : (ms : Members) (ns : List ℕ) → get_member (codes "draws") ms ≡ Some (array (whole_items ns)) → All (λ n. n < 2 ^ 31) ns → length ns ≤ 1000
    → (row_fault (each_up_to 1000 (codes "draws") draw_rows) (object_place ms) ≡ None) × (Some ns ≡ listed_in (object_place ms))
all_drawn ms ns found low few =
    let p = member_place (object_place ms) (codes "draws") (array (whole_items ns)) in
    (rw found (list_faultless (member_path [] (codes "draws")) ns low few), sym (rw found (ap Some (drawn p 0 ns low))))
