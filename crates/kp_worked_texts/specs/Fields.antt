-- Worked readings of single fields of JSON objects (Kubernetes API conventions, "Optional vs.
-- Required"), and of whole texts (RFC 8259, of at most 127 levels).
use Rattle.std.specs.Prelude.{◌≡◌, ℕ, true, List, [], ◌∷◌, ◌++◌, codes, map, replicate, Option, Some, None, is_some, is_none, option_map, option_and_then, Result, Ok, Err}
use Rattle.std.specs.List.{list_all}
use Rattle.json.specs.Print as print
use Rattle.serde_json.specs.Find.{as_str}
use Rattle.kp_json.specs.Answers.{fault_at, too_many_at}
use Rattle.kp_json.specs.Paths.{item_path}
use Rattle.kp_json.specs.Places.{Place, member_at, field_at, needed_at, text_at, flag_at, whole_at, elements_of, members_of, list_len_at, member_len_at}
use Rattle.kp_json.specs.declared.fault.BadField.{BadField}
use Rattle.kp_json.specs.declared.fault.Why.{Why}
use Rattle.kp_json.specs.declared.fault.Why.TheVariants.{Missing, WrongType, OutOfRange}
use Rattle.kp_text_defs.specs.JsonText.{json_of}
use Rattle.kp_worked_texts.specs.Readings.{quoted}

-- an object with a member of each type
abbrev pub object : List ℕ
object =
    quoted
    (codes "{'text':'t','flag':true,'n':7,'most':18446744073709551615,'below':-1,'none':null,"
    ++ codes "'list':[10,null,[]],'twice':1,'twice':2,"
    ++ codes "'labels':{'z':null,'b/c.d':'x','a q':'y'}}")

-- what is asked of the object's member of a name, if it is there
abbrev pub asked : {A : Type 0} → (Place → A) → List ℕ → Option A
asked call name =
    option_map call
    (option_and_then (λ d. member_at (record { value = d; path = [] }) name) (json_of object))

-- a call answers this of a member
abbrev pub Gives : {A : Type 0} → (Place → Result A BadField) → List ℕ → A → Type 0
Gives call name value = asked call name ≡ Some (Ok value)

-- a call is refused at a member for this reason
abbrev pub Refuses : {A : Type 0} → (Place → Result A BadField) → List ℕ → Why → Type 0
Refuses call name why = asked call name ≡ Some (Err (fault_at why name))

-- a text, a truth value, and how many elements and members there are that aren't null
abbrev pub Values : Type 0
Values =
    Gives text_at (codes "text") (codes "t") × Gives flag_at (codes "flag") true
    × Gives list_len_at (codes "list") 3 × Gives member_len_at (codes "labels") 2

-- values of other types
abbrev pub OtherTypes : Type 0
OtherTypes =
    Refuses text_at (codes "list") WrongType × Refuses flag_at (codes "text") WrongType
    × Refuses list_len_at (codes "text") WrongType × Refuses member_len_at (codes "list") WrongType

-- the number at a member within bounds
abbrev pub number : ℕ → ℕ → Place → Result ℕ BadField
number least most p = whole_at p least most

-- whole numbers within bounds; of a member that comes twice the last counts
abbrev pub Numbers : Type 0
Numbers =
    Gives (number 7 7) (codes "n") 7
    × Gives (number 0 18446744073709551615) (codes "most") 18446744073709551615
    × Gives (number 0 9) (codes "twice") 2

-- numbers past their bounds
abbrev pub OutOfBounds : Type 0
OutOfBounds =
    Refuses (number 8 99) (codes "n") OutOfRange × Refuses (number 8 99) (codes "most") OutOfRange

-- whether a member is no whole number from 8 to 99, since it is none below 2^64
abbrev pub NoNumber : List ℕ → Type 0
NoNumber name = Refuses (number 8 99) name WrongType

-- what is no whole number below 2^64
abbrev pub NoNumbers : Type 0
NoNumbers = NoNumber (codes "below") × NoNumber (codes "flag")

-- the members of the labels
abbrev pub label : List ℕ → Place → Option Place
label name labels = member_at labels name

-- a member that is null and one that isn't there are absent; a name stands in a path as it is
abbrev pub Absent : Type 0
Absent =
    (asked (λ p. field_at p (codes "z")) (codes "labels") ≡ Some (Ok None))
    × (asked (label (codes "y")) (codes "labels") ≡ Some None)
    × (asked (λ p. needed_at p (codes "y\"")) (codes "labels")
    ≡ Some (Err (fault_at Missing (codes "labels.y\""))))
    × (asked (λ p. option_map (λ q. q.path) (label (codes "b/c.d") p)) (codes "labels")
    ≡ Some (Some (codes "labels.b/c.d")))

-- the faults of a list: it has no members, no text, no element behind its last, or too many of them
abbrev pub OfList : Type 0
OfList =
    (asked (λ p. field_at p (codes "a")) (codes "list")
    ≡ Some (Err (fault_at WrongType (codes "list"))))
    × (asked (λ p. as_str p.value) (codes "list") ≡ Some None)
    × (asked (λ p. fault_at Missing (item_path p.path 3)) (codes "list")
    ≡ Some (record { why = Missing; path = codes "list[3]"; count = 0 }))
    × (asked (λ p. (too_many_at p.path 7).path) (codes "list") ≡ Some (codes "list"))

-- a member's name and text
abbrev pub named_text : List ℕ × Place → List ℕ × Result (List ℕ) BadField
named_text m = (m.0, text_at m.1)

-- elements come in order, and members by the bytes of their names
abbrev pub Order : Type 0
Order =
    (asked (λ p. map (λ q. q.path) (elements_of p)) (codes "list")
    ≡ Some (codes "list[0]" ∷ codes "list[1]" ∷ codes "list[2]" ∷ []))
    × (asked (λ p. map named_text (members_of p)) (codes "labels")
    ≡ Some ((codes "a q", Ok (codes "y")) ∷ (codes "b/c.d", Ok (codes "x")) ∷ []))

-- a text in quotation marks, with a letter of two bytes
abbrev pub Quoted : Type 0
Quoted =
    print.quoted (codes "a\"\\\n" ++ (1 ∷ 195 ∷ 169 ∷ []))
    ≡ codes "\"a\\\"\\\\\\n\\u0001" ++ (195 ∷ 169 ∷ codes "\"")

-- lists within lists
abbrev pub nested : ℕ → List ℕ
nested levels = replicate levels 91 ++ replicate levels 93

-- a text that is read, with blanks at its ends; one of 127 levels is the deepest
abbrev pub Read : Type 0
Read =
    (is_some (json_of (quoted (codes " {'a':[null,10,-1]}\r"))) ≡ true)
    × (is_some (json_of (nested 127)) ≡ true) × (is_none (json_of (nested 128)) ≡ true)

-- texts that are no JSON, or more than is read, or no UTF-8
abbrev pub Bad : Type 0
Bad =
    list_all (λ text. is_none (json_of text))
    (quoted (codes "{'op':'packet',") ∷ codes "{} {}" ∷ [] ∷ (34 ∷ 255 ∷ 34 ∷ [])
    ∷ [])
    ≡ true
