-- The elements of a list and the members of an object, as the code holds them and as contracts see them.
use Rattle.std.proofs.Common.{◌≡◌, ℕ, ◌+◌, ◌<◌, ◌≤◌, zero, suc, List, [], ◌∷◌, length, map, filter, Bool, true, false, not, cond, Option, Some, None, IsSome, option_map, slice_get, drop, String, Global, string_bytes, Ok, refl, ap, ◌∙◌, sym, arith, add-zero}
use Rattle.std.proofs.lemmas.List.{length-map}
use Rattle.std.proofs.lemmas.List.Filters.{length-filter_both}
use Rattle.std.proofs.lemmas.List.FromFn.{length-enumerate_from}
use Rattle.std.specs.List.{enumerate_from}
use Rattle.serde_json.specs.Data as json
use Rattle.serde_json.specs.Data.{Data, null, boolean, number, string, array, object, Items, no_items, item}
use Rattle.serde_json.specs.Find.{at, get_item, as_array, as_object}
use Rattle.serde_json.specs.View.{view, items_view, members_view}
use Rattle.serde_json.specs.declared.value.Value.{Value}
use Rattle.kp_json.specs.Paths.{way_path}
use Rattle.kp_json.specs.Places.{Place, is_present, item_list, member_list, places_of_items, places_of_members, elements_of, members_of, item_place, member_place, list_len_at, elements_at, members_at}
use Rattle.kp_json.specs.Views.{entry_member, numbered_element, members_left, elements_left}
use Rattle.kp_json.specs.declared.elements.Elements.{Elements}
use Rattle.kp_json.specs.declared.members.Members.{Members}

length-item_list : (vs : List Value) → length (item_list (items_view vs)) ≡ length vs
length-item_list [] = refl
length-item_list (v ∷ vs) = ap suc (length-item_list vs)

-- there are as many places as elements
pub length-places : (p : Place) (vs : List Value) → length (places_of_items p (items_view vs)) ≡ length vs
length-places p vs =
    length-map (enumerate_from 0 (item_list (items_view vs))) (λ e. item_place p e.0 e.1)
    ∙ length-enumerate_from 0 (item_list (items_view vs)) ∙ length-item_list vs

-- the length of the list that is found
pub list_len_found : (p : Place) (ds : Items) → as_array p.value ≡ Some ds → list_len_at p ≡ Ok (length (places_of_items p ds))
list_len_found p ds found = rw found

from_place : (p : Place) (k : ℕ) (ds : Items) (i : ℕ) → slice_get (map (λ e. item_place p e.0 e.1) (enumerate_from k (item_list ds))) i ≡ option_map (item_place p (k + i)) (get_item i ds)
from_place p k no_items i = refl
from_place p k (item d ds) zero = rw add-zero
from_place p k (item d ds) (suc i) =
    from_place p (k + 1) ds i ∙ ap (λ n. option_map (item_place p n) (get_item i ds)) (omega arith)

-- the element with a number is the one that serde_json finds
element_at_from : (p : Place) (d : Data) (i : ℕ) → p.value ≡ d → slice_get (elements_of p) i ≡ option_map (item_place p i) (at i p.value)
element_at_from p null i e = rw e
element_at_from p (boolean b) i e = rw e
element_at_from p (number n) i e = rw e
element_at_from p (string s) i e = rw e
element_at_from p (array ds) i e = rw e (from_place p 0 ds i ∙ ap (λ n. option_map (item_place p n) (get_item i ds)) (omega arith))
element_at_from p (object ms) i e = rw e

pub element_at : (p : Place) (i : ℕ) → slice_get (elements_of p) i ≡ option_map (item_place p i) (at i p.value)
element_at p i = element_at_from p p.value i refl

is_there : {X : Type 0} (xs : List X) (i : ℕ) (x : Option X) → x ≡ slice_get xs i → i < length xs → IsSome x
is_there [] i x found below = absurd (omega arith)
is_there (y ∷ ys) zero x found below = rw found
is_there (y ∷ ys) (suc i) x found below = is_there ys i x found (omega arith)

-- what shows the element with a number below the length is there
pub is_there_as : {X Y : Type 0} (shows : Y → X) (xs : List X) (i : ℕ) (o : Option Y) → option_map shows o ≡ slice_get xs i → i < length xs → IsSome o
is_there_as shows xs i None found below = is_there xs i None found below
is_there_as shows xs i (Some y) found below = refl

-- the member of an entry
abbrev entry_place : Place → String Global × Value → List ℕ × Place
entry_place p e = entry_member p.path e

kept : (p : Place) (e : String Global × Value) (es : List (String Global × Value)) (rest : List (List ℕ × Place)) (b : Bool)
    → map (λ m. (m.0, member_place p m.0 m.1)) (filter (λ m. is_present m.1) (member_list (members_view es))) ≡ rest
    → map (λ m. (m.0, member_place p m.0 m.1)) (cond b ((string_bytes e.0, view e.1) ∷ filter (λ m. is_present m.1) (member_list (members_view es))) (filter (λ m. is_present m.1) (member_list (members_view es))))
    ≡ cond b (entry_place p e ∷ rest) rest
kept p e es rest true h = ap (λ ms. entry_place p e ∷ ms) h
kept p e es rest false h = h

moved : (p : Place) (e : String Global × Value) (es : List (String Global × Value)) (b : Bool)
    → cond b (entry_place p e ∷ map (entry_place p) (filter (λ e. is_present (view e.1)) es)) (map (entry_place p) (filter (λ e. is_present (view e.1)) es))
    ≡ map (entry_place p) (cond b (e ∷ filter (λ e. is_present (view e.1)) es) (filter (λ e. is_present (view e.1)) es))
moved p e es true = refl
moved p e es false = refl

-- the members that aren't null are those of the entries
places_of_entries : (p : Place) (es : List (String Global × Value)) → places_of_members p (members_view es) ≡ map (entry_place p) (filter (λ e. is_present (view e.1)) es)
places_of_entries p [] = refl
places_of_entries p (e ∷ es) = kept p e es _ (is_present (view e.1)) (places_of_entries p es) ∙ moved p e es (is_present (view e.1))

-- the members of the object that is found
pub members_found : (p : Place) (ms : json.Members) → as_object p.value ≡ Some ms → members_at p ≡ Ok (places_of_members p ms)
members_found p ms found = rw found

-- the members that are left where an object begins are all that aren't null
pub all_left : (p : Place) (m : Members) (es : List (String Global × Value)) → m.rest ≡ es → way_path m.way.now ≡ p.path → places_of_members p (members_view es) ≡ members_left m
all_left p m es rest way =
    places_of_entries p es ∙ sym (λ i. map (entry_member (way i)) (filter (λ e. is_present (view e.1)) (rest i)))

-- no more members are left than the object has entries
pub length-members_left : (m : Members) (es : List (String Global × Value)) → m.rest ≡ es → length (members_left m) ≤ length es
length-members_left m es rest =
    let kept : length (filter (λ e. is_present (view e.1)) es) ≤ length es =
    omega (arith, length-filter_both (λ (e : String Global × Value). is_present (view e.1)) (λ e. not (is_present (view e.1))) (λ e. refl) es) in
    rw (length-map (filter (λ e. is_present (view e.1)) m.rest) (entry_member (way_path m.way.now)), rest) kept

places_from_items : (p : Place) (n : ℕ) (vs : List Value) → map (λ e. item_place p e.0 e.1) (enumerate_from n (item_list (items_view vs))) ≡ map (numbered_element p.path) (enumerate_from n vs)
places_from_items p n [] = refl
places_from_items p n (v ∷ vs) = ap (λ ps. numbered_element p.path (n, v) ∷ ps) (places_from_items p (n + 1) vs)

-- the elements that are left where a list begins are all
pub all_elements_left : (p : Place) (e : Elements) (vs : List Value) → e.items.now ≡ vs → e.index ≡ 0 → way_path e.way.now ≡ p.path → places_of_items p (items_view vs) ≡ elements_left e
all_elements_left p e vs items index way =
    places_from_items p 0 vs ∙ sym (λ i. map (numbered_element (way i)) (enumerate_from (index i) (drop (index i) (items i))))

-- the elements of the list that is found
pub elements_found : (p : Place) (ds : Items) → as_array p.value ≡ Some ds → elements_at p ≡ Ok (places_of_items p ds)
elements_found p ds found = rw found

-- the elements and the members that are found, where a list or an object is known to be there
pub elements_of_found : (p : Place) (ds : Items) → as_array p.value ≡ Some ds → elements_of p ≡ places_of_items p ds
elements_of_found p ds found = rw found

pub members_of_found : (p : Place) (ms : json.Members) → as_object p.value ≡ Some ms → members_of p ≡ places_of_members p ms
members_of_found p ms found = rw found
