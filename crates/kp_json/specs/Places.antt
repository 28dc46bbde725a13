-- What is read at a position of a JSON tree: a value, or the fault of the field there. A null member counts as
-- absent (Kubernetes API conventions, "Optional vs. Required"), and a null element doesn't. A value of another
-- JSON type is a wrong type, and so is a number that is no whole number below 2^64.
use Rattle.std.specs.Prelude.{ℕ, List, [], ◌∷◌, Bool, true, false, ◌&&◌, nat_le, cond, length, map, filter, Option, Some, None, option_map, option_and_then, unwrap_or, Result, Ok, Err, ok_or}
use Rattle.std.specs.List.{enumerate_from}
use Rattle.serde_json.specs.Data.{Data, null, boolean, number, string, array, object, Items, no_items, item, Members, no_members, member}
use Rattle.serde_json.specs.Find.{get, as_bool, as_str, as_array, as_object, as_number, as_u64}
use Rattle.kp_json.specs.Answers.{fault_at, ◌>>=◌}
use Rattle.kp_json.specs.Paths.{member_path, item_path}
use Rattle.kp_json.specs.declared.fault.Why.TheVariants.{Missing, WrongType, OutOfRange}
use Rattle.kp_json.specs.declared.fault.BadField.{BadField}

-- a position: the value there, and its path from the root
pub record Place : Type 0 where
  pub value : Data
  pub path : List ℕ

-- the value unless it is null
abbrev pub not_null : Data → Option Data
not_null null = None
not_null (boolean b) = Some (boolean b)
not_null (number n) = Some (number n)
not_null (string s) = Some (string s)
not_null (array ds) = Some (array ds)
not_null (object ms) = Some (object ms)

-- whether a value isn't null
abbrev pub is_present : Data → Bool
is_present null = false
is_present (boolean b) = true
is_present (number n) = true
is_present (string s) = true
is_present (array ds) = true
is_present (object ms) = true

-- the elements as a list
abbrev pub item_list : Items → List Data
item_list no_items = []
item_list (item d ds) = d ∷ item_list ds

-- the members as a list, by bytes of their names
abbrev pub member_list : Members → List (List ℕ × Data)
member_list no_members = []
member_list (member k d ms) = (k, d) ∷ member_list ms

-- the place of a member
abbrev pub member_place : Place → List ℕ → Data → Place
member_place p name d = record { value = d; path = member_path p.path name }

-- the place of an element
abbrev pub item_place : Place → ℕ → Data → Place
item_place p i d = record { value = d; path = item_path p.path i }

-- the places of a list's elements
abbrev pub places_of_items : Place → Items → List Place
places_of_items p ds = map (λ e. item_place p e.0 e.1) (enumerate_from 0 (item_list ds))

-- the names and places of an object's members that are not null, by bytes of their names
abbrev pub places_of_members : Place → Members → List (List ℕ × Place)
places_of_members p ms =
    map (λ m. (m.0, member_place p m.0 m.1)) (filter (λ m. is_present m.1) (member_list ms))

-- the elements of the list at a place, and none where there is no list
abbrev pub elements_of : Place → List Place
elements_of p = unwrap_or (option_map (places_of_items p) (as_array p.value)) []

-- the members of the object at a place, and none where there is no object
abbrev pub members_of : Place → List (List ℕ × Place)
members_of p = unwrap_or (option_map (places_of_members p) (as_object p.value)) []

-- what was found at a place where one type is expected, or a wrong type there
abbrev pub expected : {A : Type 0} → Place → Option A → Result A BadField
expected p found = ok_or found (fault_at WrongType p.path)

-- the data of a member that is not null
abbrev pub present_member : List ℕ → Data → Option Data
present_member name d = option_and_then not_null (get name d)

-- the member of this name, unless it is absent or null; none where there is no object
abbrev pub member_at : Place → List ℕ → Option Place
member_at p name = option_map (member_place p name) (present_member name p.value)

-- the member of this name in an object, unless it is absent or null
abbrev pub field_at : Place → List ℕ → Result (Option Place) BadField
field_at p name = do
  _ms ← expected p (as_object p.value)
  Ok (member_at p name)

-- the member of this name in an object, which has to be there
abbrev pub needed_at : Place → List ℕ → Result Place BadField
needed_at p name = do
  found ← field_at p name
  ok_or found (fault_at Missing (member_path p.path name))

-- a text
abbrev pub text_at : Place → Result (List ℕ) BadField
text_at p = expected p (as_str p.value)

-- a truth value
abbrev pub flag_at : Place → Result Bool BadField
flag_at p = expected p (as_bool p.value)

-- the number unless it is outside its bounds
abbrev pub within : Place → ℕ → ℕ → ℕ → Result ℕ BadField
within p least most n = cond (nat_le least n && nat_le n most) (Ok n) (Err (fault_at OutOfRange p.path))

-- a whole number within bounds
abbrev pub whole_at : Place → ℕ → ℕ → Result ℕ BadField
whole_at p least most = expected p (option_and_then as_u64 (as_number p.value)) >>= within p least most

-- the elements of a list
abbrev pub elements_at : Place → Result (List Place) BadField
elements_at p = do
  ds ← expected p (as_array p.value)
  Ok (places_of_items p ds)

-- the members of an object that are not null
abbrev pub members_at : Place → Result (List (List ℕ × Place)) BadField
members_at p = do
  ms ← expected p (as_object p.value)
  Ok (places_of_members p ms)

-- how many elements a list has
abbrev pub list_len_at : Place → Result ℕ BadField
list_len_at p = do
  ds ← elements_at p
  Ok (length ds)

-- how many members an object has that are not null
abbrev pub member_len_at : Place → Result ℕ BadField
member_len_at p = do
  ms ← members_at p
  Ok (length ms)
