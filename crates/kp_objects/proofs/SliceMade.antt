-- The slice that was read, put together. Its rows depend on its address type.
use Rattle.std.proofs.Common.{◌≡◌, Option, None, Result, Ok, Err, codes, ap, sym, subst, ◌∙◌}
use Rattle.kp_json.specs.Answers.{Gives}
use Rattle.kp_json.specs.Places.{Place}
use Rattle.kp_json.specs.declared.fault.BadField.{BadField}
use Rattle.kp_json.specs.declared.fault.FieldFault.{FieldFault}
use Rattle.kp_json.specs.declared.fault.FieldFault.TheVariants.{Bad, NoMemory}
use Rattle.kp_types.specs.declared.slice.AddressType.{AddressType}
use Rattle.kp_types.specs.declared.slice.Slice.{Slice}
use Rattle.kp_row_defs.specs.Fields.{texts_of}
use Rattle.kp_row_defs.specs.Reads.{Reads}
use Rattle.kp_row_defs.specs.Rows.{row_fault, rows_fault, field_fault, done, ◌▸◌, needed, choice, or_then, unless_fault}
use Rattle.kp_event_defs.specs.SliceText.{address_types, address_type_in, endpoints_row, metadata_row, ports_row, read_slice, slice_from}
use Rattle.kp_objects.specs.SliceMetadata.{metadata_at, slice_with}
use Rattle.kp_objects.specs.declared.slice.metadata.Metadata.{Metadata}

gives : (r : Result Slice FieldFault) (fault : Option BadField) (value : Slice) → Reads (λ s. s) r fault value → Gives (λ s. s) r (unless_fault fault value)
gives (Ok s) fault value (none, is) = ap (λ f. unless_fault f value) none ∙ ap Ok (sym is)
gives (Err (NoMemory refused)) fault value h = tt
gives (Err (Bad e)) fault value h = ap (λ f. unless_fault f value) h

-- what is read with the metadata and the address type of the place is what reading gives
pub read_gives : (p : Place) (r : Result Slice FieldFault) (m : Metadata) (family : AddressType) → (row_fault metadata_row p ≡ None) × (m ≡ metadata_at p)
    → (field_fault (codes "addressType") needed (choice (texts_of address_types)) p ≡ None) × (family ≡ address_type_in p)
    → Reads (λ s. s) r (rows_fault (endpoints_row family ▸ ports_row ▸ done) p) (slice_with m family p) → Gives (λ s. s) r (read_slice p)
read_gives p r m family (fine, at) (known, type) h =
    gives r _ (slice_from p) (subst (λ (t : Option BadField × Slice). Reads (λ s. s) r t.0 t.1)
    (λ i. (or_then (sym fine i) (or_then (sym known i) (rows_fault (endpoints_row (type i) ▸ ports_row ▸ done) p)), slice_with (at i) (type i) p)) h)
