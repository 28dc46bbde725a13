-- The values that tokens begin with, a turn at a time.
use Rattle.std.proofs.Common.{◌≡◌, ℕ, ◌-◌, ◌^◌, ◌<◌, ◌≤◌, ◌==◌, true, false, get_or, lt-ltb, eq-eqb, List, [], ◌∷◌, ◌++◌, length, Bool, Option, Some, None, option_map, option_and_then, refl, sym, ap, ◌∙◌, arith}
use Rattle.std.specs.Option.{SomeIff}
use Rattle.std.specs.Prelude.{IfSome}
use Rattle.fast_float.specs.Text.{Parts, scan, digits_of, IsInteger}
use Rattle.json.specs.Json as json
use Rattle.json.specs.Token.{Token}
use Rattle.json.specs.Lex.{tokens}
use Rattle.json.proofs.Grammar.{items_end, items_more, members_end, members_more, value_is, value-begin_array, value-begin_object}
use Rattle.serde_json.specs.Data.{Data, Items, Members, no_members, item, put, array, object, number, string, boolean, unsigned}
use Rattle.serde_json.specs.Read.{of_json, of_items, of_members, number_of, number_from, is_integer, read}
use Rattle.kp_packet_lines.specs.Plain.{whole_items}
use Rattle.kp_packet_lines.specs.Reading.{BeginsWith, HasItems, HasMembers}

-- ---- values of one token

pub string_first : (depth : ℕ) (s : List ℕ) (ts : List Token) → BeginsWith depth (Token.string s ∷ ts) (string s) ts
string_first depth s ts = (json.string s, value_is depth (Token.string s ∷ ts), refl)

pub flag_first : (depth : ℕ) (b : Bool) (ts : List Token) → BeginsWith depth (Token.boolean b ∷ ts) (boolean b) ts
flag_first depth b ts = (json.boolean b, value_is depth (Token.boolean b ∷ ts), refl)

pub whole_first : (depth : ℕ) (s : List ℕ) (n : ℕ) (ts : List Token) → number_of s ≡ Some (unsigned n)
    → BeginsWith depth (Token.number s ∷ ts) (number (unsigned n)) ts
whole_first depth s n ts is = (json.number s, value_is depth (Token.number s ∷ ts), ap (option_map number) is)

-- ---- lists

-- wherever these items end, those from here on are the items before them and these
abbrev pub ItemsSoFar : List Token → List ℕ → List Token → ℕ → Type 0
ItemsSoFar first found ts n =
    (js : json.Items) (rest : List Token) (ns : List ℕ) → json.items (json.value 125) n ts ≡ Some (js, rest) → of_items js ≡ Some (whole_items ns)
    → HasItems first (whole_items (found ++ ns)) rest

one_behind : (found : List ℕ) (n : ℕ) (ns : List ℕ) → (found ++ n ∷ []) ++ ns ≡ found ++ n ∷ ns
one_behind [] n ns = refl
one_behind (m ∷ found) n ns = ap (λ xs. m ∷ xs) (one_behind found n ns)

none_behind : (found : List ℕ) → found ++ [] ≡ found
none_behind [] = refl
none_behind (m ∷ found) = ap (λ xs. m ∷ xs) (none_behind found)

pub one_more_item : (first : List Token) (found : List ℕ) (ts after : List Token) (n whole : ℕ) → 0 < n
    → json.after_end_array ts ≡ None → BeginsWith 125 ts (number (unsigned whole)) after
    → ItemsSoFar first found ts n → ItemsSoFar first (found ++ whole ∷ []) after (n - 1)
one_more_item first found ts after n whole some going begins before js rest ns is read =
    let all = items_more (json.value 125) n ts after begins.0 some going begins.1 ∙ ap (json.parse_map (json.item begins.0)) is in
    let seen = ap (option_and_then (λ d. option_map (item d) (of_items js))) begins.2 ∙ ap (option_map (item (number (unsigned whole)))) read in
    rw (one_behind found whole ns) (before (json.item begins.0 js) rest (whole ∷ ns) all seen)

pub all_items : (first : List Token) (found : List ℕ) (ts rest : List Token) (n : ℕ) → length ts ≤ n → json.after_end_array ts ≡ Some rest
    → ItemsSoFar first found ts n → HasItems first (whole_items found) rest
all_items first found ts rest n enough over before =
    rw (none_behind found) at (before json.no_items rest [] (items_end (json.value 125) n ts rest enough over) refl)

pub list_first : (ts rest : List Token) (ds : Items) → HasItems ts ds rest → BeginsWith 126 (Token.begin_array ∷ ts) (array ds) rest
list_first ts rest ds items =
    (json.array items.0, value-begin_array 126 ts (omega arith) ∙ ap (json.parse_map json.array) items.1, ap (option_map array) items.2)

-- ---- objects

-- wherever these members end, those from here on are put to those found before them
abbrev pub MembersSoFar : List Token → Members → List Token → ℕ → Type 0
MembersSoFar first found ts n =
    (js : json.Members) (rest : List Token) (ms : Members) → json.members (json.value 126) n ts ≡ Some (js, rest) → of_members js found ≡ Some ms
    → HasMembers first ms rest

pub one_more_member : (first : List Token) (found : Members) (ts middle after : List Token) (n : ℕ) (name : List ℕ) (d : Data) → 0 < n
    → json.read_key ts ≡ Some (Some name, middle) → BeginsWith 126 middle d after
    → MembersSoFar first found ts n → MembersSoFar first (put name d found) after (n - 1)
one_more_member first found ts middle after n name d some key begins before js rest ms is read =
    let all = members_more (json.value 126) n name ts middle after begins.0 some key begins.1 ∙ ap (json.parse_map (json.member name begins.0)) is in
    before (json.member name begins.0 js) rest ms all (ap (option_and_then (λ e. of_members js (put name e found))) begins.2 ∙ read)

pub all_members : (first : List Token) (found : Members) (ts rest : List Token) (n : ℕ) → length ts ≤ n → json.read_key ts ≡ Some (None, rest)
    → MembersSoFar first found ts n → HasMembers first found rest
all_members first found ts rest n enough over before =
    before json.no_members rest found (members_end (json.value 126) n ts rest enough over) refl

-- ---- the whole text

pub object_read : (text : List ℕ) (ts : List Token) (ms : Members) → tokens text ≡ Token.begin_object ∷ ts → HasMembers ts ms [] → read text ≡ Some (object ms)
object_read text ts ms begins members =
    let value = ap (json.value 127) begins ∙ value-begin_object 127 ts (omega arith) ∙ ap (json.parse_map json.object) members.1 in
    ap (λ o. option_and_then of_json (option_and_then (λ p. json.if_last p.0 p.1) o)) value ∙ ap (option_map object) members.2

-- ---- numbers

-- the text of a number without a sign, a fraction and an exponent
pub whole_text : (text bytes : List ℕ) (parts : Parts) (number : Option ℕ) → bytes ≡ text → (get_or bytes 0 0 == 45) ≡ false → parts ≡ scan bytes
    → SomeIff number (IsInteger parts × (digits_of parts < 2 ^ 64)) (digits_of parts) → IfSome number (λ n. number_of text ≡ Some (unsigned n))
unfolding number_of
whole_text text bytes parts None same plain is fits = tt
whole_text text bytes parts (Some n) same plain is fits =
    let integer : is_integer parts ≡ true = rw (lt-ltb 0 (length parts.whole) fits.0.0.0, fits.0.0.1, eq-eqb (length parts.exponent) 0 fits.0.0.2) in
    let first : number_of bytes ≡ number_from false (scan bytes) = rw plain in
    let taken : number_from false parts ≡ Some (unsigned (digits_of parts)) = rw (integer, lt-ltb _ _ fits.0.1) in
    ap number_of (sym same) ∙ first ∙ ap (number_from false) (sym is) ∙ taken ∙ ap (λ k. Some (unsigned k)) (sym fits.1)
