-- What the sender of a packet gets, by ports that are enough.
use Rattle.std.proofs.Common.{◌≡◌, Bool, true, false, cond, List, [], ◌∷◌, filter, Option, Some, None, option_map, slice_get, refl, ap, ◌∙◌}
use Rattle.std.specs.List.{find}
use Rattle.kp_types.specs.Setting.{FamilyConfig}
use Rattle.kp_types.specs.declared.packet.Packet.{Packet}
use Rattle.kp_object_defs.specs.PortInfo.{PortInfo}
use Rattle.kp_door_defs.specs.Doors.{Door, doors_of, fits, taking_door}
use Rattle.kp_door_defs.specs.Filter.{Line, filtered}
use Rattle.kp_decide.specs.Enough.{AreEnough}
use Rattle.kp_decide.specs.Findings.{fitting_doors}
use Rattle.kp_path_defs.specs.Paths.{refusing_door, first_of}
use Rattle.kp_path_defs.specs.Sources.{Served, Closes, served_by, served_of, verdict_untaken, cause_at}
use Rattle.kp_paths.specs.SourceWords.{closes_by, opens_at}

-- the first that passes
first_found : {X : Type 0} (p : X → Bool) (xs : List X) → slice_get (filter p xs) 0 ≡ find p xs
first_found p [] = refl
first_found p (x ∷ xs) = by (p x) (first_found p xs)
  where
    by : (b : Bool) → slice_get (filter p xs) 0 ≡ find p xs
        → slice_get (cond b (x ∷ filter p xs) (filter p xs)) 0 ≡ cond b (Some x) (find p xs)
    by true rest = refl
    by false rest = rest

module _ (config : FamilyConfig) (packet : Packet) where
  abbrev by_line : Option Line → Option Door → Option Served
  by_line line (Some d) = Some (Closes (verdict_untaken line) (cause_at d packet.source) d)
  by_line line None = None

  closes : (line : Option Line) (first : Option Door)
      → closes_by packet line first
      ≡ by_line line (first_of (option_map (λ l. l.door) line) first)
  closes (Some line) first = refl
  closes None (Some d) = refl
  closes None None = refl

  by_refusing : (infos : List PortInfo) (other : Option Door)
      → by_line (filtered config infos packet) other ≡ served_by config infos packet None other
  by_refusing infos (Some d) = refl
  by_refusing infos None = refl

  module _ (some all : List PortInfo) (enough : AreEnough config packet some all) where
    pub untaken : (doors : List Door) → doors ≡ fitting_doors config all packet
        → None ≡ taking_door config some packet
        → closes_by packet (filtered config some packet) (slice_get doors 0)
        ≡ served_of config all packet
    untaken doors are none =
        ap (λ l. closes_by packet l (slice_get doors 0)) enough.line
        ∙ ap (λ ds. closes_by packet (filtered config all packet) (slice_get ds 0)) are
        ∙ ap (closes_by packet (filtered config all packet)) (first_found (fits config.addresses packet) (doors_of all))
        ∙ closes (filtered config all packet) (find (fits config.addresses packet) (doors_of all))
        ∙ by_refusing all (refusing_door config all packet)
        ∙ ap (λ d. served_by config all packet d (refusing_door config all packet)) (none ∙ enough.door)

    pub taken : (d : Door) → Some d ≡ taking_door config some packet
        → Some (opens_at config all packet d) ≡ served_of config all packet
    taken d takes = ap (λ o. served_by config all packet o (refusing_door config all packet)) (takes ∙ enough.door)
