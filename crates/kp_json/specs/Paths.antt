-- Paths of fields in a JSON tree, as Kubernetes writes them in its messages: the names of members with
-- dots between them, and the numbers of list elements in brackets (API conventions, "Field paths"). A
-- name stands in a path as it is, whatever bytes it has: this project's choice.
use Rattle.std.specs.Prelude.{ℕ, List, [], ◌∷◌, ◌++◌, decimal}
use Rattle.kp_json.specs.declared.path.Way.{Way, fold-Way}
use Rattle.kp_json.specs.declared.path.Way.TheOpen.{Way-F}

-- the path of a member of what stands at a path: the root's members have no dot
abbrev pub member_path : List ℕ → List ℕ → List ℕ
member_path [] name = name
member_path (b ∷ bs) name = (b ∷ bs) ++ 46 ∷ name

-- the path of an element of what stands at a path
abbrev pub item_path : List ℕ → ℕ → List ℕ
item_path path i = path ++ 91 ∷ (decimal i ++ 93 ∷ [])

-- one step behind the path of those before it
abbrev pub way_step : Way-F (List ℕ) → List ℕ
way_step Way-F.Root = []
way_step (Way-F.Member parent name) = member_path parent.now name.now
way_step (Way-F.Item parent i) = item_path parent.now i

-- the path of a way
abbrev pub way_path : Way → List ℕ
way_path = fold-Way (List ℕ) way_step
