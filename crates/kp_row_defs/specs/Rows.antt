-- How objects and lines are read from JSON text: tables of rows in order, and the first fault of a value by a
-- table (Kubernetes API conventions; for names "Object Names and IDs"). Which faults there are, and that the first one
-- in the order of the rows counts, is this project's choice.
use Rattle.std.specs.Prelude.{ℕ, ◌&&◌, ◌||◌, nat_lt, nat_le, Bool, true, false, List, [], ◌∷◌, ◌++◌, codes, length, map, cond, bytes_eq, Option, Some, None, option_map, unwrap_or, is_some, Result, Ok, Err}
use Rattle.std.specs.List.{list_any}
use Rattle.std.specs.Result.{result_err}
use Rattle.serde_json.specs.Data.{Data, null, boolean, number, string, array, object}
use Rattle.kp_json.specs.Answers.{◌>>=◌, fault_at, too_many_at}
use Rattle.kp_json.specs.Paths.{member_path, item_path}
use Rattle.kp_json.specs.Places.{Place, field_at, text_at, flag_at, whole_at, elements_at, members_at}
use Rattle.kp_json.specs.declared.fault.Why.{Why}
use Rattle.kp_json.specs.declared.fault.Why.TheVariants.{Missing, OutOfRange, BadName, BadAddress, BadCidr, DuplicatePort}
use Rattle.kp_json.specs.declared.fault.BadField.{BadField}
use Rattle.kp_base.specs.Net.{AddressParts, same_family}
use Rattle.kp_base.specs.Six.{any_address_of, any_range_of}
use Rattle.kp_base.specs.Grammar.{is_name_text, is_port_name_text, is_label_text}
use Rattle.kp_base.specs.declared.port.Proto.{Proto}
use Rattle.kp_base.specs.Keys.{same_proto}
use Rattle.kp_row_defs.specs.Fields.{text_in, is_text, address_in, ranges_of_text, port_name_in, proto_in}

-- what a value is
pub data Form : Type 0 where
  -- a text, and texts of some form
  any_text : Form
  name_text : Form
  port_name_text : Form
  label_text : Form
  -- an address or a range of either family, `None` or an address, and one range or one of each family
  address_text : Form
  range_text : Form
  cluster_address_text : Form
  ranges_text : Form
  -- the name of a port that may not be empty: lines ask this
  filled_port_name_text : Form
  choice : List (List ℕ) → Form
  -- a whole number within bounds
  whole : ℕ → ℕ → Form
  -- such a number or a text
  whole_or_text : ℕ → ℕ → Form
  truth_value : Form
  -- an object whose members are texts
  texts : Form

-- whether a member has to be there
pub data Presence : Type 0 where
  needed : Presence
  optional : Presence

infixr 20 ◌▸◌
mutual
  -- what one member of an object is
  pub data Row : Type 0 where
    -- a member of this name and form
    field : List ℕ → Presence → Form → Row
    -- a member that is an object, with rows of its own
    inside : List ℕ → Presence → Rows → Row
    -- a member that is a list, with rows for each element
    each : List ℕ → Rows → Row
    -- such a list with at most so many elements
    each_up_to : ℕ → List ℕ → Rows → Row
    -- such a list of ports, no two of one name and protocol
    each_port : List ℕ → Rows → Row
    -- a list whose first element has this form; both have to be there, and the other elements aren't read
    first_item : List ℕ → Form → Row
    -- an address that has to be there, of the family of the address of another member
    address_like : List ℕ → List ℕ → Row
    -- this value itself has this form
    itself : Form → Row
    -- rows that count only where the member is this text
    where_text : List ℕ → List ℕ → Rows → Row

  -- a table
  pub data Rows : Type 0 where
    done : Rows
    ◌▸◌ : Row → Rows → Rows

-- the first of two faults
abbrev pub or_then : Option BadField → Option BadField → Option BadField
or_then None later = later
or_then (Some fault) later = Some fault

-- the first fault of a list
abbrev pub first_in : List (Option BadField) → Option BadField
first_in [] = None
first_in (fault ∷ faults) = or_then fault (first_in faults)

-- the fault of a reading, or else the fault of what was read
abbrev pub on_ok : {A : Type 0} → Result A BadField → (A → Option BadField) → Option BadField
on_ok (Ok x) faults = faults x
on_ok (Err fault) faults = Some fault

-- the same of a member, where an absent one has a fault or none
abbrev pub on_member : Result (Option Place) BadField → Option BadField → (Place → Option BadField) → Option BadField
on_member (Ok None) absent faults = absent
on_member (Ok (Some p)) absent faults = faults p
on_member (Err fault) absent faults = Some fault

-- the fault of a value that is no text, or a text that a test refuses
abbrev pub text_fault : (List ℕ → Bool) → Why → Place → Option BadField
text_fault test kind p = on_ok (text_at p) (λ text. cond (test text) None (Some (fault_at kind p.path)))

-- an address of either family
abbrev pub is_address_text : List ℕ → Bool
is_address_text text = is_some (any_address_of text)

-- a range of either family
abbrev pub is_range_text : List ℕ → Bool
is_range_text text = is_some (any_range_of text)

-- a range, or one of each family
abbrev pub is_ranges_text : List ℕ → Bool
is_ranges_text text = is_some (ranges_of_text text)

-- the name of a port, which isn't empty
abbrev pub is_filled_port_name_text : List ℕ → Bool
is_filled_port_name_text text = nat_le 1 (length text) && is_port_name_text text

-- `None` or an address
abbrev pub is_cluster_address_text : List ℕ → Bool
is_cluster_address_text text = bytes_eq text (codes "None") || is_address_text text

-- two addresses of one family, where the first one is there
abbrev pub is_like : Option AddressParts → AddressParts → Bool
is_like None a = true
is_like (Some other) a = same_family other.family a.family

-- an address of the family of another one, if that is there
abbrev pub is_address_like : Option AddressParts → List ℕ → Bool
is_address_like other text = unwrap_or (option_map (is_like other) (any_address_of text)) false

-- one of some texts
abbrev pub is_one_of : List (List ℕ) → List ℕ → Bool
is_one_of choices text = list_any (λ c. bytes_eq text c) choices

-- whether a value is a text
abbrev pub is_string : Data → Bool
is_string (string s) = true
is_string null = false
is_string (boolean b) = false
is_string (number n) = false
is_string (array ds) = false
is_string (object ms) = false

-- whether a value is the empty text
abbrev pub is_empty_string : Data → Bool
is_empty_string (string []) = true
is_empty_string (string (b ∷ bs)) = false
is_empty_string null = false
is_empty_string (boolean b) = false
is_empty_string (number n) = false
is_empty_string (array ds) = false
is_empty_string (object ms) = false

-- the fault of a value by its form
abbrev pub form_fault : Form → Place → Option BadField
form_fault any_text p = result_err (text_at p)
form_fault name_text p = text_fault is_name_text BadName p
form_fault port_name_text p = text_fault is_port_name_text BadName p
form_fault label_text p = text_fault is_label_text BadName p
form_fault address_text p = text_fault is_address_text BadAddress p
form_fault range_text p = text_fault is_range_text BadCidr p
form_fault cluster_address_text p = text_fault is_cluster_address_text BadAddress p
form_fault ranges_text p = text_fault is_ranges_text BadCidr p
form_fault filled_port_name_text p = text_fault is_filled_port_name_text BadName p
form_fault (choice choices) p = text_fault (is_one_of choices) OutOfRange p
form_fault (whole least most) p = result_err (whole_at p least most)
form_fault (whole_or_text least most) p = cond (is_string p.value) None (result_err (whole_at p least most))
form_fault truth_value p = result_err (flag_at p)
form_fault texts p = on_ok (members_at p) (λ ms. first_in (map (λ m. result_err (text_at m.1)) ms))

-- whether a form is one of texts whose empty text counts as absent
abbrev pub is_text_form : Form → Bool
is_text_form any_text = true
is_text_form name_text = true
is_text_form port_name_text = true
is_text_form label_text = true
is_text_form address_text = true
is_text_form range_text = true
is_text_form cluster_address_text = true
is_text_form ranges_text = true
is_text_form filled_port_name_text = false
is_text_form (choice choices) = true
is_text_form (whole least most) = false
is_text_form (whole_or_text least most) = false
is_text_form truth_value = false
is_text_form texts = false

-- Whether the empty text counts as absent: for a choice, and for each text that may be absent.
abbrev pub skips_empty : Presence → Form → Bool
skips_empty optional form = is_text_form form
skips_empty needed (choice choices) = true
skips_empty needed _ = false

-- a member unless it is the empty text
abbrev pub unless_empty : Bool → Option Place → Option Place
unless_empty skips None = None
unless_empty true (Some p) = cond (is_empty_string p.value) None (Some p)
unless_empty false (Some p) = Some p

-- the fault of an absent member
abbrev pub absent_fault : Presence → Place → List ℕ → Option BadField
absent_fault needed p name = Some (fault_at Missing (member_path p.path name))
absent_fault optional p name = None

-- the fault of a member by its form
abbrev pub field_fault : List ℕ → Presence → Form → Place → Option BadField
field_fault name presence form p =
    on_member (field_at p name >>= λ found. Ok (unless_empty (skips_empty presence form) found))
    (absent_fault presence p name) (form_fault form)

-- the fault of a list, element by element
abbrev pub list_fault : (Place → Option BadField) → Place → Option BadField
list_fault faults p = on_ok (elements_at p) (λ items. first_in (map faults items))

-- the same where there may be only so many elements
abbrev pub limited_fault : ℕ → (Place → Option BadField) → Place → Option BadField
limited_fault most faults p =
    on_ok (elements_at p) (λ items.
    or_then (cond (nat_lt most (length items)) (Some (too_many_at p.path (length items))) None) (first_in (map faults items)))

-- the name and the protocol of a port
abbrev pub port_id : Place → List ℕ × Proto
port_id p = (port_name_in p, proto_in p)

-- two ports of one name and protocol
abbrev pub same_id : List ℕ × Proto → List ℕ × Proto → Bool
same_id a b = bytes_eq a.0 b.0 && same_proto a.1 b.1

-- the fault of a port with the name and protocol of an earlier one
abbrev pub twin_fault : List (List ℕ × Proto) → Place → Option BadField
twin_fault earlier p = cond (list_any (same_id (port_id p)) earlier) (Some (fault_at DuplicatePort p.path)) None

-- the fault of ports behind earlier ones: each by its rows, and then by its name and protocol
abbrev pub ports_fault : (Place → Option BadField) → List (List ℕ × Proto) → List Place → Option BadField
ports_fault faults earlier [] = None
ports_fault faults earlier (p ∷ ps) =
    or_then (faults p) (or_then (twin_fault earlier p) (ports_fault faults (earlier ++ port_id p ∷ []) ps))

-- the fault of a list of ports
abbrev pub port_list_fault : (Place → Option BadField) → Place → Option BadField
port_list_fault faults p = on_ok (elements_at p) (ports_fault faults [])

-- the fault of a list's first element
abbrev pub head_fault : Form → Place → List Place → Option BadField
head_fault form p [] = Some (fault_at Missing (item_path p.path 0))
head_fault form p (first ∷ others) = form_fault form first

-- the first fault of a value by a row, and by a table
abbrev mutual
  pub row_fault : Row → Place → Option BadField
  row_fault (field name presence form) p = field_fault name presence form p
  row_fault (inside name presence rows) p = on_member (field_at p name) (absent_fault presence p name) (λ q. rows_fault rows q)
  row_fault (each name rows) p = on_member (field_at p name) None (list_fault (λ q. rows_fault rows q))
  row_fault (each_up_to most name rows) p = on_member (field_at p name) None (limited_fault most (λ q. rows_fault rows q))
  row_fault (each_port name rows) p = on_member (field_at p name) None (port_list_fault (λ q. rows_fault rows q))
  row_fault (first_item name form) p =
      on_member (field_at p name) (absent_fault needed p name) (λ q. on_ok (elements_at q) (head_fault form q))
  row_fault (address_like name other) p =
      on_member (field_at p name) (absent_fault needed p name) (text_fault (is_address_like (address_in other p)) BadAddress)
  row_fault (itself form) p = form_fault form p
  row_fault (where_text name text rows) p = cond (is_text text (text_in name p)) (rows_fault rows p) None

  pub rows_fault : Rows → Place → Option BadField
  rows_fault done p = None
  rows_fault (row ▸ rows) p = or_then (row_fault row p) (rows_fault rows p)

-- the rows of an address in a list
abbrev pub address_rows : Rows
address_rows = itself address_text ▸ done

-- what is read, unless there is a fault
abbrev pub unless_fault : {A : Type 0} → Option BadField → A → Result A BadField
unless_fault None x = Ok x
unless_fault (Some fault) x = Err fault
