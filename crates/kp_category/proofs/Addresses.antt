-- A family has an address among some exactly where it has one among those that stand once.
use Rattle.std.proofs.Common.{◌≡◌, Bool, true, false, cond, not, ◌||◌, List, [], ◌∷◌, refl, sym, ap, ◌∙◌}
use Rattle.std.specs.List.{list_any, filter}
use Rattle.kp_base.specs.Net.{AddressParts, same_address, same_family}
use Rattle.kp_base.specs.declared.address.Family.{Family}
use Rattle.kp_object_defs.specs.Desired.{is_empty}
use Rattle.kp_object_defs.specs.Order.{first_places}
use Rattle.kp_object_defs.specs.PortInfo.{addresses_in}

-- a list whose elements stand once is empty where the list is
once : {A : Type 0} (same : A → A → Bool) (xs : List A) → is_empty (first_places same xs) ≡ is_empty xs
once same [] = refl
once same (x ∷ xs) = refl

-- some element passes where the filtered list isn't empty
passes : {A : Type 0} (p : A → Bool) (xs : List A) → list_any p xs ≡ not (is_empty (filter p xs))
passes p [] = refl
passes p (x ∷ xs) =
    elim (p x) as (λ b. (b || list_any p xs) ≡ not (is_empty (cond b (x ∷ filter p xs) (filter p xs)))) [
      | true ↦ refl
      | false ↦ passes p xs
    ]

pub has_address : (family : Family) (xs : List AddressParts) → list_any (λ a. same_family a.family family) xs ≡ not (is_empty (addresses_in family xs))
has_address family xs =
    passes (λ (a : AddressParts). same_family a.family family) xs
    ∙ sym (ap not (once same_address (filter (λ (a : AddressParts). same_family a.family family) xs)))
