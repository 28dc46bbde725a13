-- What was staged at destinations is kept, one destination after another.
use Rattle.std.proofs.Common.{◌≡◌, Bool, true, false, cond, List, [], ◌∷◌, ◌++◌, Option, Some, None}
use Rattle.std.proofs.Common.{refl, sym, ap, ◌∙◌}
use Rattle.std.specs.FinMap as finite
use Rattle.std.specs.FinMap.{find, get, get-empty, get-from_entries, get-insert, get-remove}
use Rattle.std.specs.Option.{unwrap_or}
use Rattle.std.specs.Ordering.{eq_by_cmp}
use Rattle.kp_object_defs.proofs.InOrder.{find-append, first_some}
use Rattle.kp_vmap_defs.proofs.Destinations.{destination_total}
use Rattle.kp_vmap_defs.specs.VerdictMap.{destination_cmp}
use Rattle.kp_vmap_defs.specs.declared.door.Destination.{Destination}
use Rattle.kp_vmap.specs.Places.{PortMap, at_place, placed, staged_at}

with_some : {X : Type 0} (t : Bool) (x other : X) (o : Option X)
    → unwrap_or (cond t (Some x) o) other ≡ cond t x (unwrap_or o other)
with_some true x other o = refl
with_some false x other o = refl

with_none : {X : Type 0} (t : Bool) (other : X) (o : Option X)
    → unwrap_or (cond t None o) other ≡ cond t other (unwrap_or o other)
with_none true other o = refl
with_none false other o = refl

-- a destination without ports is let go
pub removed_at : (before after : List (Destination × PortMap)) (at : Destination) (ports : PortMap)
    → placed after ≡ finite.remove (placed before) at → ports ≡ finite.empty
    → (d : Destination) → at_place after d
    ≡ cond (eq_by_cmp destination_cmp d at) ports (at_place before d)
removed_at before after at ports is none d =
    ap (λ m. unwrap_or (get m d) finite.empty) is
    ∙ ap (λ o. unwrap_or o finite.empty) (get-remove destination_total (placed before) at d)
    ∙ with_none (eq_by_cmp destination_cmp d at) finite.empty (get (placed before) d)
    ∙ ap (λ p. cond (eq_by_cmp destination_cmp d at) p (at_place before d)) (sym none)

-- one with ports is kept
pub inserted_at : (before after : List (Destination × PortMap)) (at : Destination) (ports : PortMap)
    → placed after ≡ finite.insert (placed before) at ports
    → (d : Destination) → at_place after d
    ≡ cond (eq_by_cmp destination_cmp d at) ports (at_place before d)
inserted_at before after at ports is d =
    ap (λ m. unwrap_or (get m d) finite.empty) is
    ∙ ap (λ o. unwrap_or o finite.empty) (get-insert destination_total (placed before) at ports d)
    ∙ with_some (eq_by_cmp destination_cmp d at) ports finite.empty (get (placed before) d)

-- the last of the staged destinations may be kept first
pub last_first : (before after left all : List (Destination × PortMap)) (at : Destination)
    (ports : PortMap)
    → all ≡ left ++ (at, ports) ∷ []
    → ((d : Destination) → at_place after d
    ≡ cond (eq_by_cmp destination_cmp d at) ports (at_place before d))
    → (d : Destination) → staged_at after left d ≡ staged_at before all d
last_first before after left all at ports is kept d =
    ap (λ o. unwrap_or o (at_place after d)) (get-from_entries destination_total left d)
    ∙ by (find destination_cmp d left)
    ∙ ap (λ o. unwrap_or o (at_place before d))
    (sym (get-from_entries destination_total (left ++ (at, ports) ∷ []) d
    ∙ find-append destination_cmp d left ((at, ports) ∷ [])))
    ∙ ap (λ es. staged_at before es d) (sym is)
  where
    by : (o : Option PortMap)
        → unwrap_or o (at_place after d)
        ≡ unwrap_or (first_some o (cond (eq_by_cmp destination_cmp d at) (Some ports) None))
        (at_place before d)
    by (Some x) = refl
    by None =
        kept d ∙ sym (with_some (eq_by_cmp destination_cmp d at) ports (at_place before d) None)

-- where nothing is staged, what is kept stands
pub none_staged : (kept staged : List (Destination × PortMap)) → staged ≡ [] → (d : Destination)
    → staged_at kept staged d ≡ at_place kept d
none_staged kept staged is d =
    ap (λ es. staged_at kept es d) is
    ∙ ap (λ o. unwrap_or o (at_place kept d)) (get-empty destination_cmp d)
