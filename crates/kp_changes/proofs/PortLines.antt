-- A door's line, and the lines of a port's doors: of those that are there after, and then of those
-- that went.
use Rattle.std.proofs.Common.{◌≡◌, ℕ, cond, codes, List, [], ◌++◌, map, filter, flat_map, ap, ◌∙◌}
use Rattle.std.specs.List.{list_any}
use Rattle.kp_types.specs.Setting.{Naming}
use Rattle.kp_object_defs.specs.PortInfo.{PortInfo}
use Rattle.kp_door_defs.specs.Doors.{Door}
use Rattle.kp_change_defs.specs.ChangeText.{change_line, kept_text, turned_text}
use Rattle.kp_change_defs.specs.DoorText.{head_text}
use Rattle.kp_change_defs.specs.ValueText.{list_text, states_text}
use Rattle.kp_change_defs.specs.DoorChanges.{DoorChange, change_from, change_to, changes_of_doors, differs, doors_gone, same_door}
use Rattle.kp_report.proofs.Pieces.{two_added}
use Rattle.kp_changes.proofs.Pieces.{both, left, made}

-- the pieces of a line, one after the other, where its door and values are seen by themselves
pub line_added : (name_of : Naming) (infos : List PortInfo) (seen change : DoorChange)
    → seen ≡ change → (old head colon states list kept turned new : List ℕ)
    → head ≡ old ++ head_text name_of seen.door → colon ≡ head ++ codes ": "
    → states ≡ colon ++ states_text seen.before seen.after
    → list ≡ states ++ list_text seen.before seen.after
    → kept ≡ list ++ kept_text change → turned ≡ kept ++ turned_text infos change
    → new ≡ turned ++ codes "\n" → new ≡ old ++ change_line name_of infos change
line_added name_of infos seen change is old head colon states list kept turned new
    h1 h2 h3 h4 h5 h6 h7 =
    two_added old turned new _ _ (two_added old kept turned _ _ (two_added old list kept _ _
    (two_added old states list _ _
    (two_added old colon states _ _ (two_added old head colon _ _ h1 h2)
    h3) h4) h5) h6) h7
    ∙ ap (λ c. old ++ (head_text name_of c.door ++ codes ": " ++ states_text c.before c.after
    ++ list_text c.before c.after ++ kept_text change ++ turned_text infos change ++ codes "\n")) is

module _ (line : DoorChange → List ℕ) where
  -- the line of a door that differs
  abbrev shown : DoorChange → List ℕ
  shown c = cond (differs c) (line c) []

  pub by_doors : (before after : List Door)
      → flat_map line (filter differs (changes_of_doors before after))
      ≡ flat_map (λ d. shown (change_to before d)) after
      ++ flat_map (λ d. cond (list_any (same_door d) after) [] (shown (change_from d))) before
  by_doors before after =
      both differs line (map (change_to before) after) (map change_from (doors_gone before after))
      ∙ (λ i. made differs line (change_to before) after i
      ++ (made differs line change_from (doors_gone before after)
      ∙ left (λ d. list_any (same_door d) after) (λ d. shown (change_from d)) before) i)
