-- What contracts see of a tree, of a position in it, and of the members and elements that are still to come.
use Rattle.std.specs.Prelude.{ℕ, List, map, filter, drop, String, string_bytes}
use Rattle.std.specs.List.{enumerate_from}
use Rattle.std.specs.declared.alloc.Global.{Global}
use Rattle.std.specs.Borrow.{Bor}
use Rattle.serde_json.specs.Data.{Data}
use Rattle.serde_json.specs.View.{view}
use Rattle.kp_json.specs.Paths.{way_path, member_path, item_path}
use Rattle.kp_json.specs.Places.{Place, is_present}
use Rattle.serde_json.specs.declared.value.Value.{Value}
use Rattle.kp_json.specs.declared.tree.Tree.{Tree}
use Rattle.kp_json.specs.declared.spot.Spot.{Spot}
use Rattle.kp_json.specs.declared.elements.Elements.{Elements}
use Rattle.kp_json.specs.declared.members.Members.{Members}

-- the data of a tree
abbrev pub data_of : Tree → Data
data_of t = view t.value

-- the data and the path of a position
abbrev pub place_of : Spot → Place
place_of s = record { value = view s.value.now; path = way_path s.way }

-- a member's name and position
abbrev pub named_place : Bor (List ℕ) × Spot → List ℕ × Place
named_place m = (m.0.now, place_of m.1)

-- the member of an entry of the object at a path
abbrev pub entry_member : List ℕ → String Global × Value → List ℕ × Place
entry_member path e =
    (string_bytes e.0, record { value = view e.1; path = member_path path (string_bytes e.0) })

-- the members that are still to come, those that are not null
abbrev pub members_left : Members → List (List ℕ × Place)
members_left m =
    map (entry_member (way_path m.way.now)) (filter (λ e. is_present (view e.1)) m.rest)

-- an element of the list at a path, with its number
abbrev pub numbered_element : List ℕ → ℕ × Value → Place
numbered_element path e = record { value = view e.1; path = item_path path e.0 }

-- the elements that are still to come
abbrev pub elements_left : Elements → List Place
elements_left e = map (numbered_element (way_path e.way.now)) (enumerate_from e.index (drop e.index e.items.now))
