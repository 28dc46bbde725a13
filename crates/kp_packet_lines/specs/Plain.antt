-- The JSON values of plain objects.
use Rattle.std.specs.Prelude.{ℕ, List, [], ◌∷◌, fold}
use Rattle.std.specs.Borrow.{Bor}
use Rattle.serde_json.specs.Data.{Data, number, unsigned, string, boolean, array, Items, no_items, item, Members, no_members, put}
use Rattle.kp_packet_lines.specs.declared.object.Plain.{Plain}
use Rattle.kp_packet_lines.specs.declared.object.PlainObject.{PlainObject}
use Rattle.kp_packet_lines.specs.declared.object.Plain.TheVariants.{Text, Whole, Flag, Numbers}

-- a list of whole numbers
abbrev pub whole_items : List ℕ → Items
whole_items [] = no_items
whole_items (n ∷ ns) = item (number (unsigned n)) (whole_items ns)

-- the value of a member
abbrev pub plain_data : Plain → Data
plain_data (Text s) = string s.now
plain_data (Whole n) = number (unsigned n)
plain_data (Flag b) = boolean b
plain_data (Numbers d) = array (whole_items d.numbers)

-- members with one more, which takes the place of an earlier one of its name
abbrev pub put_member : Members → Bor (List ℕ) × Plain → Members
put_member ms m = put m.0.now (plain_data m.1) ms

-- the members of an object, put one after another
abbrev pub members_of : List (Bor (List ℕ) × Plain) → Members
members_of ms = fold put_member no_members ms

-- the members of a plain object
abbrev pub members_in : PlainObject → Members
members_in o = members_of o.members.items
