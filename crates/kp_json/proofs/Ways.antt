-- The path of a way, step by step.
use Rattle.std.proofs.Common.{◌≡◌, ℕ, List, Bor, rules}
use Rattle.kp_json.specs.declared.path.Way.{Way, Member, Item, the_lemmas}
use Rattle.kp_json.specs.Paths.{way_path, member_path, item_path}

pub way_path-Member : (parent : Bor Way) (name : Bor (List ℕ)) → way_path (Member parent name) ≡ member_path (way_path parent.now) name.now
way_path-Member parent name = search (rules, the_lemmas)

pub way_path-Item : (parent : Bor Way) (i : ℕ) → way_path (Item parent i) ≡ item_path (way_path parent.now) i
way_path-Item parent i = search (rules, the_lemmas)
