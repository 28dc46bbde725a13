-- The doors that a packet fits: which of them takes it, and how they are gathered port by port.
use Rattle.std.proofs.Common.{◌≡◌, ℕ, suc, ◌&&◌, Bool, true, false, cond, List, [], ◌∷◌, ◌++◌, take, filter, flat_map, slice_get, Some, sym, refl, ap, ◌∙◌, append-nil, append_assoc}
use Rattle.std.specs.List.{find}
use Rattle.std.proofs.lemmas.Grind.{flat_map-append}
use Rattle.std.proofs.lemmas.List.Elements.{filter-append}
use Rattle.kp_types.specs.Setting.{FamilyConfig}
use Rattle.kp_types.specs.declared.packet.Packet.{Packet}
use Rattle.kp_object_defs.specs.PortInfo.{PortInfo}
use Rattle.kp_door_defs.specs.Doors.{Door, doors_of, fits, taking_door, takes}
use Rattle.kp_decide.specs.Findings.{fitting_doors}
use Rattle.kp_decide.specs.Listed.{offers}
use Rattle.kp_decide.proofs.FoundSoFar.{one_more}

module _ (config : FamilyConfig) (packet : Packet) where
  -- the first that takes the packet is the first that fits and offers an endpoint
  pub taking_fits : (ds : List Door) → find (takes config packet) ds ≡ find (offers config packet) (filter (fits config.addresses packet) ds)
  taking_fits [] = refl
  taking_fits (d ∷ ds) = by (fits config.addresses packet d) (taking_fits ds)
    where
      by : (b : Bool) → find (takes config packet) ds ≡ find (offers config packet) (filter (fits config.addresses packet) ds) → cond (b && offers config packet d) (Some d) (find (takes config packet) ds) ≡ find (offers config packet) (cond b (d ∷ filter (fits config.addresses packet) ds) (filter (fits config.addresses packet) ds))
      by true rest = ap (cond (offers config packet d) (Some d)) rest
      by false rest = rest

  -- ports with the same fitting doors have the same door that takes the packet
  pub same_taking : (some all : List PortInfo) → fitting_doors config some packet ≡ fitting_doors config all packet → taking_door config some packet ≡ taking_door config all packet
  same_taking some all same =
      taking_fits (doors_of some)
      ∙ ap (find (offers config packet)) same
      ∙ sym (taking_fits (doors_of all))

module _ {D : Type 0} (p : D → Bool) (before now after : List D) where
  -- what passes of some and then of more is what passes of both
  gathered : (some more all : List D) → now ≡ before ++ filter p some → after ≡ now ++ filter p more → all ≡ some ++ more → after ≡ before ++ filter p all
  gathered some more all so_far adds joined =
      adds
      ∙ ap (λ ds. ds ++ filter p more) so_far
      ∙ append_assoc before (filter p some) (filter p more)
      ∙ ap (λ ds. before ++ ds) (sym (filter-append p some more) ∙ ap (filter p) (sym joined))

  -- what passes of the lists up to a place and of the one at it
  pub more_lists : {X : Type 0} (f : X → List D) (xs : List X) (i n : ℕ) (x : X) → n ≡ suc i → slice_get xs i ≡ Some x → now ≡ before ++ filter p (flat_map f (take i xs)) → after ≡ now ++ filter p (f x) → after ≡ before ++ filter p (flat_map f (take n xs))
  more_lists f xs i n x next at so_far adds =
      gathered (flat_map f (take i xs)) (f x) (flat_map f (take n xs)) so_far adds
      (ap (λ m. flat_map f (take m xs)) next
      ∙ ap (flat_map f) (one_more xs i x at)
      ∙ flat_map-append f (take i xs) (x ∷ [])
      ∙ ap (λ ds. flat_map f (take i xs) ++ ds) (append-nil (f x)))
