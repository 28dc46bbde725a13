-- What is read of a member that is an object.
use Rattle.std.proofs.Common.{◌≡◌, ℕ, List, Some, None, Result, Ok, sym, subst}
use Rattle.kp_json.specs.Places.{Place, field_at}
use Rattle.kp_json.specs.declared.fault.FieldFault.{FieldFault}
use Rattle.kp_row_defs.proofs.Found.{inner_from}
use Rattle.kp_row_defs.specs.Fields.{inner}
use Rattle.kp_row_defs.specs.Reads.{Reads}
use Rattle.kp_row_defs.specs.Rows.{Rows, row_fault, rows_fault, inside, optional, on_member}

-- what is read of the object is what is read of the member
pub inside_reads : {X : Type 0} (r : Result X FieldFault) (p q : Place) (name : List ℕ) (rows : Rows) (value : Place → X) → field_at p name ≡ Ok (Some q)
    → Reads (λ x. x) r (rows_fault rows q) (value q) → Reads (λ x. x) r (row_fault (inside name optional rows) p) (value (inner name p))
inside_reads r p q name rows value there h =
    let here : inner name p ≡ q = inner_from p name q there in
    subst (λ x. Reads (λ x. x) r (row_fault (inside name optional rows) p) (value x)) (sym here)
    (subst (λ f. Reads (λ x. x) r (on_member f None (λ q. rows_fault rows q)) (value q)) (sym there) h)
