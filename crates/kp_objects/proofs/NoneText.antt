-- The text `None` writes no cluster address, and has no fault.
use Rattle.std.proofs.Common.{◌≡◌, ℕ, true, cond, List, bytes_eq, codes, Option, Some, None, Ok, option_and_then, ok_or, refl, sym, ap, ◌∙◌}
use Rattle.std.specs.Net.Reader.{read_ipv6, read_segments, read_segment, read_octet, read_ipv4, read_number}
use Rattle.std.proofs.lemmas.Slice.Eq.{bytes_eq-Decides}
use Rattle.kp_base.specs.Net.{AddressParts}
use Rattle.kp_base.specs.Six.{any_address_of}
use Rattle.kp_json.specs.Answers.{fault_at}
use Rattle.kp_json.specs.Places.{Place, text_at}
use Rattle.kp_json.specs.declared.fault.BadField.{BadField}
use Rattle.kp_json.specs.declared.fault.Why.TheVariants.{BadAddress}
use Rattle.kp_row_defs.specs.Fields.{address_at, text_of}
use Rattle.kp_row_defs.specs.Rows.{cluster_address_text, form_fault, is_cluster_address_text, on_ok}

none_writes_nothing : any_address_of (codes "None") ≡ None
unfolding read_ipv6 read_segments read_segment read_octet read_ipv4 read_number
none_writes_nothing = refl

-- a text that was read is there
there_from : (o : Option (List ℕ)) (wrong : BadField) (text : List ℕ) → ok_or o wrong ≡ Ok text → o ≡ Some text
there_from None wrong text h = absurd (cc)
there_from (Some t) wrong text h = search h

pub none_here : (p : Place) (text : List ℕ) → text_at p ≡ Ok text → bytes_eq text (codes "None") ≡ true
    → (form_fault cluster_address_text p ≡ None) × (◌≡◌ {A = Option AddressParts} None (address_at p))
none_here p text read none =
    let is : text ≡ codes "None" = (bytes_eq-Decides text (codes "None")).0 none in (
      ap (λ r. on_ok r (λ t. cond (is_cluster_address_text t) None (Some (fault_at BadAddress p.path)))) (read ∙ ap Ok is),
      sym (ap (option_and_then any_address_of) (there_from (text_of p) _ text read ∙ ap Some is) ∙ none_writes_nothing),
    )
