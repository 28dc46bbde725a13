-- An address that was read is of the family of another one.
use Rattle.std.proofs.Common.{◌≡◌, ℕ, true, false, cond, List, Option, Some, None, option_and_then, option_map, unwrap_or, Ok, ok_or, refl, sym, ap, ◌∙◌}
use Rattle.kp_base.specs.Net.{AddressParts, same_family}
use Rattle.kp_base.specs.Six.{any_address_of}
use Rattle.kp_fields.proofs.EmptyText.{address_of_text}
use Rattle.kp_json.specs.Answers.{◌>>=◌, fault_at}
use Rattle.kp_json.specs.Places.{Place, field_at, member_at}
use Rattle.kp_json.specs.declared.fault.BadField.{BadField}
use Rattle.kp_json.specs.declared.fault.Why.TheVariants.{BadAddress}
use Rattle.kp_row_defs.specs.Fields.{address_at, address_in, not_empty, text_of}
use Rattle.kp_row_defs.specs.Rows.{absent_fault, address_like, is_address_like, is_like, needed, on_member, on_ok, row_fault, text_fault}

member_by : {M : Type 0} (e : BadField) (q : Place) (o : Option M) (m : Option Place)
    → (ok_or o e >>= λ ms. Ok m) ≡ Ok (Some q) → m ≡ Some q
member_by e q None m h = absurd (cc)
member_by e q (Some ms) m h = let same : m ≡ Some q = cc in same

fine_by : (e f : BadField) (other : Option AddressParts) (b : AddressParts) (o : Option (List ℕ))
    → Some b ≡ option_and_then any_address_of o → is_like other b ≡ true
    → on_ok (ok_or o e) (λ text. cond (is_address_like other text) None (Some f)) ≡ None
fine_by e f other b None h alike = absurd (cc)
fine_by e f other b (Some text) h alike =
    ap (λ found. cond (unwrap_or (option_map (is_like other) found) false) None (Some f)) (sym h)
    ∙ ap (λ t. cond t None (Some f)) alike

at_by : (o : Option (List ℕ)) → option_and_then any_address_of o
    ≡ option_and_then any_address_of (option_and_then not_empty o)
at_by None = refl
at_by (Some text) = address_of_text text

-- a member's address that is like another has no fault, and is the member's
pub read_alike : (name other : List ℕ) (p q : Place) (a b : AddressParts)
    → address_in other p ≡ Some a → field_at p name ≡ Ok (Some q) → Some b ≡ address_at q
    → same_family a.family b.family ≡ true
    → (row_fault (address_like name other) p ≡ None) × (Some b ≡ address_in name p)
read_alike name other p q a b of_a there of_b alike =
    let like : is_like (address_in other p) b ≡ true = ap (λ o. is_like o b) of_a ∙ alike in (
      ap (λ found. on_member found (absent_fault needed p name)
          (text_fault (is_address_like (address_in other p)) BadAddress)) there
          ∙ fine_by _ (fault_at BadAddress q.path) (address_in other p) b (text_of q) of_b like,
      of_b ∙ at_by (text_of q)
          ∙ ap (λ m. option_and_then any_address_of (option_and_then not_empty
          (option_and_then text_of m))) (sym (member_by _ q _ (member_at p name) there)),
    )
