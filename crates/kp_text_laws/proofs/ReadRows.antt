-- What a value without a fault by its rows says of its numbers and of its elements.
use Rattle.std.proofs.Common.{◌≡◌, ℕ, zero, suc, ◌&&◌, Bool, true, false, cond, nat_le, nat_lt, List, [], ◌∷◌, ◌++◌, map, length, Contains, Option, Some, None, is_some, option_map, option_and_then, unwrap_or, Ok, Err, ok_or, refl, sym, ap, subst, ◌∙◌, arith, inl, inr}
use Rattle.std.specs.Result.{result_err}
use Rattle.std.proofs.lemmas.Bool.{and_parts}
use Rattle.std.proofs.lemmas.Bool.Decides.{nat_tests}
use Rattle.std.proofs.lemmas.Option.{same_Some}
use Rattle.serde_json.specs.Data.{Items}
use Rattle.serde_json.specs.Find.{as_str}
use Rattle.kp_lemmas.proofs.Members.{none_in, in_cases}
use Rattle.kp_json.specs.Answers.{◌>>=◌, fault_at, too_many_at}
use Rattle.kp_json.specs.Places.{Place, elements_at, elements_of, field_at, member_at, places_of_items, whole_at, within}
use Rattle.kp_json.specs.declared.fault.BadField.{BadField}
use Rattle.kp_json.specs.declared.fault.Why.{Why}
use Rattle.kp_json.specs.declared.fault.Why.TheVariants.{BadAddress, OutOfRange}
use Rattle.kp_base.specs.Net.{AddressParts, same_family}
use Rattle.kp_base.specs.Six.{any_address_of}
use Rattle.kp_base.specs.declared.port.Proto.{Proto}
use Rattle.kp_fields.proofs.EmptyText.{address_of_text}
use Rattle.kp_restore_defs.specs.RuleText.{is_port_number}
use Rattle.kp_row_defs.specs.Fields.{address_in, inner, items_in, not_empty, nowhere, text_of, whole_in, whole_of}
use Rattle.kp_row_defs.specs.Rows.{Form, Presence, Row, Rows, ◌▸◌, address_like, address_text, done, each, each_port, each_up_to, field, first_in, form_fault, inside, is_address_like, is_address_text, is_like, needed, on_member, on_ok, optional, or_then, port_id, ports_fault, row_fault, rows_fault, twin_fault, unless_empty, whole, whole_or_text}

-- neither of two faults
pub neither : (a b : Option BadField) → or_then a b ≡ None → (a ≡ None) × (b ≡ None)
neither None b h = (refl, h)
neither (Some fault) b h = absurd (cc)

-- the row at a place of a table
abbrev pub row_at : ℕ → Rows → Option Row
row_at i done = None
row_at zero (row ▸ rows) = Some row
row_at (suc i) (row ▸ rows) = row_at i rows

-- a value without a fault by a table has none by its rows
pub row_fine : (i : ℕ) (rows : Rows) (p : Place) (row : Row) → row_at i rows ≡ Some row
    → rows_fault rows p ≡ None → row_fault row p ≡ None
row_fine zero done p row is h = absurd (cc)
row_fine (suc i) done p row is h = absurd (cc)
row_fine zero (first ▸ rows) p row is h =
    ap (λ r. row_fault r p) (sym (same_Some first row is)) ∙ (neither _ _ h).0
row_fine (suc i) (first ▸ rows) p row is h = row_fine i rows p row is (neither _ _ h).1

-- ---- Members

member_by : {M : Type 0} (e : BadField) (absent : Option BadField)
    (faults : Place → Option BadField)
    (q : Place) (o : Option M) (m : Option Place)
    → on_member (ok_or o e >>= λ ms. Ok m) absent faults ≡ None → m ≡ Some q → faults q ≡ None
member_by e absent faults q None m h is = absurd (cc)
member_by e absent faults q (Some ms) None h is = absurd (cc)
member_by e absent faults q (Some ms) (Some r) h is = ap faults (sym (same_Some r q is)) ∙ h

-- a member that is there has no fault
member_fine : (p : Place) (name : List ℕ) (absent : Option BadField)
    (faults : Place → Option BadField) (q : Place)
    → on_member (field_at p name) absent faults ≡ None → member_at p name ≡ Some q
    → faults q ≡ None
member_fine p name absent faults q h is = member_by _ absent faults q _ _ h is

inner_by : (P : Place → Type 0) (m : Option Place) → P nowhere → ((q : Place) → m ≡ Some q → P q)
    → P (unwrap_or m nowhere)
inner_by P None h k = h
inner_by P (Some q) h k = k q refl

-- what holds where nothing is, and of a member without a fault, holds of a member
pub inside_fine : (name : List ℕ) (presence : Presence) (rows : Rows) (p : Place)
    (P : Place → Type 0) → P nowhere → ((q : Place) → rows_fault rows q ≡ None → P q)
    → row_fault (inside name presence rows) p ≡ None → P (inner name p)
inside_fine name presence rows p P h k fine =
    inner_by P _ h (λ q is. k q (member_fine p name _ (λ r. rows_fault rows r) q fine is))

value_by : {M : Type 0} (e : BadField) (absent : Option BadField) (form : Form) (q : Place)
    (o : Option M) (m : Option Place)
    → on_member ((ok_or o e >>= λ ms. Ok m) >>= λ found. Ok (unless_empty false found)) absent
    (form_fault form) ≡ None → m ≡ Some q → form_fault form q ≡ None
value_by e absent form q None m h is = absurd (cc)
value_by e absent form q (Some ms) None h is = absurd (cc)
value_by e absent form q (Some ms) (Some r) h is = ap (form_fault form) (sym (same_Some r q is)) ∙ h

there_by : {M : Type 0} (e f : BadField) (form : Form) (o : Option M) (m : Option Place)
    → on_member ((ok_or o e >>= λ ms. Ok m) >>= λ found. Ok (unless_empty false found)) (Some f)
    (form_fault form) ≡ None → (q : Place) × (m ≡ Some q)
there_by e f form None m h = absurd (cc)
there_by e f form (Some ms) None h = absurd (cc)
there_by e f form (Some ms) (Some q) h = (q, refl)

-- ---- Addresses

-- the text at a place that passes a test
text_by : (test : List ℕ → Bool) (why : Why) (q : Place) (e : BadField) (o : Option (List ℕ))
    → on_ok (ok_or o e) (λ text. cond (test text) None (Some (fault_at why q.path))) ≡ None
    → (text : List ℕ) × (o ≡ Some text) × (test text ≡ true)
text_by test why q e None h = absurd (cc)
text_by test why q e (Some text) h = (text, refl, passed (test text) h)
  where
    passed : (b : Bool) → cond b None (Some (fault_at why q.path)) ≡ None → b ≡ true
    passed true h = refl
    passed false h = absurd (cc)

-- the address of a place is that of its member
member_is : (name : List ℕ) (p q : Place) (text : List ℕ) → member_at p name ≡ Some q
    → as_str q.value ≡ Some text → address_in name p ≡ any_address_of text
member_is name p q text found is =
    ap (λ m. option_and_then any_address_of (option_and_then not_empty (option_and_then text_of m)))
    found
    ∙ ap (λ o. option_and_then any_address_of (option_and_then not_empty o)) is
    ∙ sym (address_of_text text)

-- an address that has to be there is there, where there is no fault
pub address_there : (name : List ℕ) (p : Place)
    → row_fault (field name needed address_text) p ≡ None
    → (a : AddressParts) × (address_in name p ≡ Some a)
address_there name p h =
    let (q, found) = there_by _ _ address_text _ _ h in
    let (text, is, passes) = text_by is_address_text BadAddress q _ _
    (value_by _ _ address_text q _ _ h found) in
    let (a, read) = there (any_address_of text) passes in
    (a, member_is name p q text found is ∙ read)
  where
    there : (o : Option AddressParts) → is_some o ≡ true → (a : AddressParts) × (o ≡ Some a)
    there None none = absurd (cc)
    there (Some a) some = (a, refl)

like_by : (other : AddressParts) (o : Option AddressParts)
    → unwrap_or (option_map (is_like (Some other)) o) false ≡ true
    → (a : AddressParts) × (o ≡ Some a) × (same_family other.family a.family ≡ true)
like_by other None h = absurd (cc)
like_by other (Some a) h = (a, refl, h)

placed_by : {M : Type 0} (e f : BadField) (faults : Place → Option BadField) (o : Option M)
    (m : Option Place)
    → on_member (ok_or o e >>= λ ms. Ok m) (Some f) faults ≡ None
    → (q : Place) × (m ≡ Some q) × (faults q ≡ None)
placed_by e f faults None m h = absurd (cc)
placed_by e f faults (Some ms) None h = absurd (cc)
placed_by e f faults (Some ms) (Some q) h = (q, refl, h)

-- so is one of the family of another that is there
pub like_there : (name other : List ℕ) (p : Place) (a : AddressParts) → address_in other p ≡ Some a
    → row_fault (address_like name other) p ≡ None
    → (b : AddressParts) × (address_in name p ≡ Some b) × (same_family a.family b.family ≡ true)
like_there name other p a of_a h =
    let (q, found, fine) = placed_by _ _ _ _ _ h in
    let (text, is, passes) = text_by _ BadAddress q _ _ fine in
    let (b, read, alike) = like_by a (any_address_of text)
    (ap (λ o. is_address_like o text) (sym of_a) ∙ passes) in
    (b, member_is name p q text found is ∙ read, alike)

-- ---- Numbers

bounds_by : (q : Place) (least most n : ℕ) (b : Bool) → (nat_le least n && nat_le n most) ≡ b
    → result_err (cond b (Ok n) (Err (fault_at OutOfRange q.path))) ≡ None
    → (nat_le least n && nat_le n most) ≡ true
bounds_by q least most n true is h = is
bounds_by q least most n false is h = absurd (cc)

number_by : (q : Place) (e : BadField) (least most n : ℕ) (o : Option ℕ)
    → result_err (ok_or o e >>= within q least most) ≡ None → o ≡ Some n
    → (nat_le least n && nat_le n most) ≡ true
number_by q e least most n None h is = absurd (cc)
number_by q e least most n (Some m) h is =
    subst (λ k. (nat_le least k && nat_le k most) ≡ true) (same_Some m n is)
    (bounds_by q least most m _ refl h)

-- a number without a fault is within its bounds
pub number_fine : (q : Place) (least most n : ℕ) → result_err (whole_at q least most) ≡ None
    → whole_of q ≡ Some n → (nat_le least n && nat_le n most) ≡ true
number_fine q least most n h is = number_by q _ least most n _ h is

found_by : (q : Place) (e : BadField) (least most : ℕ) (o : Option ℕ)
    → result_err (ok_or o e >>= within q least most) ≡ None → (n : ℕ) × (o ≡ Some n)
found_by q e least most None h = absurd (cc)
found_by q e least most (Some n) h = (n, refl)

whole_by : (least most n : ℕ) (m : Option Place)
    → ((q : Place) → m ≡ Some q → result_err (whole_at q least most) ≡ None)
    → option_and_then whole_of m ≡ Some n → (nat_le least n && nat_le n most) ≡ true
whole_by least most n None h is = absurd (cc)
whole_by least most n (Some q) h is = number_fine q least most n (h q refl) is

-- a member that may be absent
pub optional_fine : (name : List ℕ) (least most n : ℕ) (p : Place)
    → row_fault (field name optional (whole least most)) p ≡ None → whole_in name p ≡ Some n
    → (nat_le least n && nat_le n most) ≡ true
optional_fine name least most n p h is =
    whole_by least most n _ (λ q found. value_by _ None (whole least most) q _ _ h found) is

-- a member that has to be there
pub needed_fine : (name : List ℕ) (least most : ℕ) (p : Place)
    → row_fault (field name needed (whole least most)) p ≡ None
    → (nat_le least (unwrap_or (whole_in name p) 0) && nat_le
    (unwrap_or (whole_in name p) 0) most) ≡ true
needed_fine name least most p h =
    let (q, there) = there_by _ _ (whole least most) _ _ h in
    let fine : result_err (whole_at q least most) ≡ None =
    value_by _ _ (whole least most) q _ _ h there in
    let (n, found) = found_by q _ least most _ fine in
    let is : whole_in name p ≡ Some n = ap (option_and_then whole_of) there ∙ found in
    subst (λ o. (nat_le least (unwrap_or o 0) && nat_le (unwrap_or o 0) most) ≡ true) (sym is)
    (number_fine q least most n fine found)

-- a number or a text that may be absent
pub either_fine : (name : List ℕ) (least most : ℕ) (p q : Place)
    → row_fault (field name optional (whole_or_text least most)) p ≡ None
    → member_at p name ≡ Some q → form_fault (whole_or_text least most) q ≡ None
either_fine name least most p q h is = value_by _ None (whole_or_text least most) q _ _ h is

-- ---- Elements

elements_by : (e : BadField) (r : Place) (f : List Place → Option BadField) (o : Option Items)
    → on_ok (ok_or o e >>= λ ds. Ok (places_of_items r ds)) f ≡ None
    → f (unwrap_or (option_map (places_of_items r) o) []) ≡ None
elements_by e r f None h = absurd (cc)
elements_by e r f (Some ds) h = h

items_by : (P : Place → Type 0) (f : Place → List Place → Option BadField)
    → ((r : Place) (items : List Place) → f r items ≡ None → (q : Place) → Contains items q → P q)
    → (m : Option Place) → ((r : Place) → m ≡ Some r → on_ok (elements_at r) (f r) ≡ None)
    → (q : Place) → Contains (elements_of (unwrap_or m nowhere)) q → P q
items_by P f holds None h q c = absurd (none_in q c)
items_by P f holds (Some r) h q c = holds r (elements_of r) (elements_by _ r (f r) _ (h r refl)) q c

-- what holds of each element of lists without a fault holds of each element of a member
items_fine : (name : List ℕ) (p : Place) (P : Place → Type 0)
    (f : Place → List Place → Option BadField)
    → ((r : Place) (items : List Place) → f r items ≡ None → (q : Place) → Contains items q → P q)
    → on_member (field_at p name) None (λ r. on_ok (elements_at r) (f r)) ≡ None → (q : Place)
    → Contains (items_in name p) q → P q
items_fine name p P f holds h q c =
    items_by P f holds _
    (λ r is. member_fine p name None (λ s. on_ok (elements_at s) (f s)) r h is) q c

all_fine : (faults : Place → Option BadField) (items : List Place)
    → first_in (map faults items) ≡ None → (q : Place) → Contains items q → faults q ≡ None
all_fine faults [] h q c = absurd (none_in q c)
all_fine faults (p ∷ ps) h q c =
    let parts = neither _ _ h in
    elim (in_cases q p ps c) [
      | inl e ↦ ap faults (sym e) ∙ parts.0
      | inr d ↦ all_fine faults ps parts.1 q d
    ]

ports_fine : (faults : Place → Option BadField) (earlier : List (List ℕ × Proto))
    (items : List Place) → ports_fault faults earlier items ≡ None → (q : Place) → Contains items q
    → faults q ≡ None
ports_fine faults earlier [] h q c = absurd (none_in q c)
ports_fine faults earlier (p ∷ ps) h q c =
    let parts = neither (faults p) _ h in
    let rest = neither (twin_fault earlier p) _ parts.1 in
    elim (in_cases q p ps c) [
      | inl e ↦ ap faults (sym e) ∙ parts.0
      | inr d ↦ ports_fine faults (earlier ++ port_id p ∷ []) ps rest.1 q d
    ]

-- the elements of a list
pub each_fine : (name : List ℕ) (rows : Rows) (p : Place) → row_fault (each name rows) p ≡ None
    → (q : Place) → Contains (items_in name p) q → rows_fault rows q ≡ None
each_fine name rows p h q c =
    items_fine name p (λ r. rows_fault rows r ≡ None)
    (λ r items. first_in (map (λ s. rows_fault rows s) items))
    (λ r. all_fine (λ s. rows_fault rows s)) h q c

-- those of a list with at most so many
pub limited_fine : (most : ℕ) (name : List ℕ) (rows : Rows) (p : Place)
    → row_fault (each_up_to most name rows) p ≡ None → (q : Place) → Contains (items_in name p) q
    → rows_fault rows q ≡ None
limited_fine most name rows p h q c =
    items_fine name p (λ r. rows_fault rows r ≡ None) (λ r items. or_then
    (cond (nat_lt most (length items)) (Some (too_many_at r.path (length items))) None)
    (first_in (map (λ s. rows_fault rows s) items)))
    (λ r items fine. all_fine (λ s. rows_fault rows s) items (neither _ _ fine).1) h q c

-- those of a list of ports
pub each_port_fine : (name : List ℕ) (rows : Rows) (p : Place)
    → row_fault (each_port name rows) p ≡ None → (q : Place) → Contains (items_in name p) q
    → rows_fault rows q ≡ None
each_port_fine name rows p h q c =
    items_fine name p (λ r. rows_fault rows r ≡ None)
    (λ r. ports_fault (λ s. rows_fault rows s) [])
    (λ r. ports_fine (λ s. rows_fault rows s) []) h q c

-- ---- Ports

-- a number from 1 to 65535 is a port's
pub port_from : (n : ℕ) → (nat_le 1 n && nat_le n 65535) ≡ true → is_port_number n ≡ true
port_from n h =
    let parts = and_parts (nat_le 1 n) (nat_le n 65535) h in
    let from : nat_le 1 n ≡ true = parts.0 in
    let to : nat_le n 65535 ≡ true = parts.1 in
    grind (arith, nat_tests, from, to)
