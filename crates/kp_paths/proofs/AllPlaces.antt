-- The lines of all paths, place by place.
use Rattle.std.proofs.Common.{◌≡◌, ℕ, zero, suc, ◌+◌, ◌-◌, List, [], ◌∷◌, ◌++◌, length, map, Option, Some, option_map, slice_get, refl, sym, ap, ◌∙◌, arith}
use Rattle.std.specs.List.{range_with_len}
use Rattle.std.proofs.lemmas.List.{append-nil}
use Rattle.std.proofs.lemmas.List.FromFn.{length-map-range_with_len}
use Rattle.kp_base.specs.declared.key.Endpoint.{Endpoint}
use Rattle.kp_types.specs.Setting.{FamilyConfig}
use Rattle.kp_types.specs.declared.packet.Packet.{Packet}
use Rattle.kp_choice_defs.specs.Recent.{RecentParts}
use Rattle.kp_object_defs.specs.PortInfo.{PortInfo}
use Rattle.kp_door_defs.specs.Decision.{Translation}
use Rattle.kp_decide.specs.Told.{translation_told}
use Rattle.kp_decide.specs.declared.translation.Translation as told
use Rattle.kp_path_defs.specs.Chances.{chances_from, chances_of, whole}
use Rattle.kp_path_defs.specs.PathText.{path_lines, path_text, paths_text}
use Rattle.kp_path_defs.specs.Paths.{Path, path_by, path_count}
use Rattle.kp_paths.specs.Lines.{only}
use Rattle.kp_paths.specs.Places.{chance_at, picked, place_text, places_from, places_text}
use Rattle.kp_paths.specs.Told.{count_told, path_told}
use Rattle.kp_paths.specs.declared.routes.Stand.{Stand}
use Rattle.kp_paths.proofs.PathWords.{told_count, told_path}

-- lines of so many places, the first of which is this, of what is left
abbrev lines_by : (ℕ → ℕ → List ℕ) → ℕ → ℕ → ℕ → List ℕ
lines_by line left place zero = []
lines_by line left place (suc n) =
    line (chance_at left (suc n)) place
    ++ lines_by line (left - chance_at left (suc n)) (suc place) n

module _ (config : FamilyConfig) (infos : List PortInfo) (packet : Packet) (lists : RecentParts) (number : ℕ) (t : ℕ → Option Translation) where
  -- the path of a place
  abbrev pub path_of : ℕ → Path
  path_of place = path_by config infos packet lists (t place)

  -- what is told of it
  abbrev shown_at : ℕ → Option told.Translation
  shown_at place = option_map translation_told (t place)

  -- where its line stands
  abbrev stand_at : ℕ → ℕ → ℕ → Stand
  stand_at count chance place =
      record { number = number; place = suc place; count = count; chance = chance }

  -- its line
  abbrev line_at : ℕ → ℕ → ℕ → List ℕ
  line_at count chance place =
      path_told config infos packet (stand_at count chance place) (shown_at place)

  -- its text stands before the others
  one_more : (count chance place : ℕ) (rest others : List ℕ) → rest ≡ others
      → path_text number (suc place) count chance (path_of place) ++ rest
      ≡ line_at count chance place ++ others
  one_more count chance place rest others same =
      λ i. told_path config infos packet lists number (suc place) count chance (t place) i ++ same i

  -- all lines from a place on
  by_places : (count left place n : ℕ)
      → path_lines number count (suc place) (chances_from left n)
      (map path_of (range_with_len place n))
      ≡ lines_by (line_at count) left place n
  by_places count left place zero = refl
  by_places count left place (suc zero) = one_more count left place [] [] refl
  by_places count left place (suc (suc n)) =
      let next : place + 1 ≡ suc place = omega arith in
      let chance : ℕ = chance_at left (suc (suc n)) in
      one_more count chance place
      (path_lines number count (suc (suc place)) (chances_from (left - chance) (suc n))
      (map path_of (range_with_len (place + 1) (suc n))))
      (lines_by (line_at count) (left - chance) (suc place) (suc n))
      (ap (λ first. path_lines number count (suc (suc place)) (chances_from (left - chance) (suc n))
      (map path_of (range_with_len first (suc n)))) next
      ∙ by_places count (left - chance) (suc place) (suc n))

  -- all lines
  pub all_lines : (n : ℕ) → count_told (shown_at 0) ≡ n
      → paths_text number (map path_of (range_with_len 0 (path_count (t 0))))
      ≡ lines_by (line_at n) whole 0 n
  all_lines n many =
      let count : path_count (t 0) ≡ n = told_count (t 0) ∙ many in
      ap (λ n. paths_text number (map path_of (range_with_len 0 n))) count
      ∙ ap (λ m. path_lines number m 1 (chances_of m) (map path_of (range_with_len 0 n)))
      (length-map-range_with_len path_of 0 n)
      ∙ by_places n whole 0 n

  -- the only line
  pub one_line : count_told (shown_at 0) ≡ 1
      → paths_text number (map path_of (range_with_len 0 (path_count (t 0))))
      ≡ path_told config infos packet (only number) (shown_at 0)
  one_line many = all_lines 1 many ∙ append-nil (line_at 1 whole 0)

  -- a translation is told of each place of a list that draws pick from
  abbrev AreDrawn : told.Translation → Type 0
  AreDrawn u =
      (place : ℕ) → shown_at place ≡ option_map (picked u place) (slice_get u.offer.endpoints place)

  -- the lines of such places
  drawn_from : (u : told.Translation) → AreDrawn u → (left place : ℕ) (es : List Endpoint)
      → ((k : ℕ) → slice_get u.offer.endpoints (place + k) ≡ slice_get es k)
      → lines_by (line_at (length u.offer.endpoints)) left place (length es)
      ≡ places_from (place_text config infos number packet u) left place es
  drawn_from u are left place [] same = refl
  drawn_from u are left place (e ∷ es) same =
      let chance : ℕ = chance_at left (suc (length es)) in
      let here : place + 0 ≡ place = omega arith in
      let at : shown_at place ≡ Some (picked u place e) =
      are place
      ∙ ap (option_map (picked u place))
      (ap (slice_get u.offer.endpoints) (sym here) ∙ same 0) in
      let more = drawn_from u are (left - chance) (suc place) es
      (λ k. ap (slice_get u.offer.endpoints) (omega arith) ∙ same (suc k)) in
      λ i. path_told config infos packet (stand_at (length u.offer.endpoints) chance place) (at i)
      ++ more i

  -- all lines of such a list
  pub drawn_lines : (u : told.Translation) → AreDrawn u
      → count_told (shown_at 0) ≡ length u.offer.endpoints
      → paths_text number (map path_of (range_with_len 0 (path_count (t 0))))
      ≡ places_text config infos number packet u
  drawn_lines u are many =
      all_lines (length u.offer.endpoints) many
      ∙ drawn_from u are whole 0 u.offer.endpoints
      (λ k. ap (slice_get u.offer.endpoints) (omega arith))
