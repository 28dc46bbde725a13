-- Members of an object that are put one after another: the last of a name is found.
use Rattle.std.proofs.Common.{◌≡◌, ℕ, List, [], ◌∷◌, ◌++◌, true, false, bytes_eq, true≢false, Some, Bor, sym, ap, ◌∙◌}
use Rattle.std.proofs.lemmas.List.Sums.{fold-append}
use Rattle.std.proofs.lemmas.Slice.Eq.{bytes_eq-Decides}
use Rattle.serde_json.specs.Data.{no_members, put}
use Rattle.serde_json.specs.Find.{get_member}
use Rattle.serde_json.proofs.Views.{get_member-put, get_member-put_other}
use Rattle.kp_packet_lines.specs.Plain.{members_of, plain_data, put_member}
use Rattle.kp_packet_lines.specs.declared.object.Plain.{Plain}

-- one more member
pub one_more : (ms : List (Bor (List ℕ) × Plain)) (m : Bor (List ℕ) × Plain) → members_of (ms ++ m ∷ []) ≡ put m.0.now (plain_data m.1) (members_of ms)
one_more ms m = fold-append put_member no_members ms (m ∷ [])

-- the last member, where it has the name
pub found_last : (ms : List (Bor (List ℕ) × Plain)) (m : Bor (List ℕ) × Plain) (name : List ℕ) → bytes_eq m.0.now name ≡ true
    → get_member name (members_of (ms ++ m ∷ [])) ≡ Some (plain_data m.1)
found_last ms m name same =
    ap (λ k. get_member k (members_of (ms ++ m ∷ []))) (sym ((bytes_eq-Decides m.0.now name).0 same))
    ∙ ap (get_member m.0.now) (one_more ms m) ∙ get_member-put m.0.now (plain_data m.1) (members_of ms)

-- another member than the last, where that has another name
pub found_before : (ms : List (Bor (List ℕ) × Plain)) (m : Bor (List ℕ) × Plain) (name : List ℕ) → bytes_eq m.0.now name ≡ false
    → get_member name (members_of (ms ++ m ∷ [])) ≡ get_member name (members_of ms)
found_before ms m name other =
    ap (get_member name) (one_more ms m)
    ∙ get_member-put_other name m.0.now (plain_data m.1) (members_of ms) (λ same. true≢false (sym ((bytes_eq-Decides m.0.now name).1 (sym same)) ∙ other))
