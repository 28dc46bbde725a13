-- The place of a member that was found.
use Rattle.std.proofs.Common.{◌≡◌, ℕ, List, Option, Some, None, Ok, ok_or, unwrap_or, ap}
use Rattle.kp_json.specs.Answers.{◌>>=◌}
use Rattle.kp_json.specs.Places.{Place, field_at, member_at}
use Rattle.kp_json.specs.declared.fault.BadField.{BadField}
use Rattle.kp_row_defs.specs.Fields.{inner, nowhere}

found_in : {A : Type 0} (o : Option A) (m : Option Place) (wrong : BadField) (q : Place)
    → (ok_or o wrong >>= λ x. Ok m) ≡ Ok (Some q) → m ≡ Some q
found_in None m wrong q h = absurd (cc)
found_in (Some x) None wrong q h = absurd (cc)
found_in (Some x) (Some r) wrong q h = search h

-- a member that is there stands at its inner place
pub inner_from : (p : Place) (name : List ℕ) (q : Place) → field_at p name ≡ Ok (Some q)
    → inner name p ≡ q
inner_from p name q there = ap (λ m. unwrap_or m nowhere) (found_in _ (member_at p name) _ q there)
