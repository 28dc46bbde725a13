-- How the parts of a decision are stored.
use Rattle.std.specs.Prelude.{◌≡◌, ℕ, zero, suc, refl}
use Rattle.std.specs.Coded.{Coded, code_by, coded×, coded_list, coded_option, coded_ℕ}
use Rattle.kp_base.specs.contracts.address.Address as address_row
use Rattle.kp_base.specs.contracts.key.Endpoint as endpoint_row
use Rattle.kp_types.specs.contracts.decision.DoorKind as kind_row
use Rattle.kp_types.specs.contracts.decision.ListKind as list_row
use Rattle.kp_types.specs.contracts.info.PortInfo as info_row
use Rattle.kp_door_defs.specs.Doors.{Door, Offer}
use Rattle.kp_door_defs.specs.Filter.{Line, Refusal, Rejects, DropsClosed, DropsNoLocal}

-- a door, by its fields
abbrev pub door_code : Coded Door
door_code =
    code_by _
    (coded× kind_row.the_row.coded
    (coded× info_row.the_row.coded
    (coded× (coded_option address_row.the_row.coded) coded_ℕ)))
    (λ d. (d.kind, (d.info, (d.address, d.number))))
    (λ p. record { kind = p.0; info = p.1.0; address = p.1.1.0; number = p.1.1.1 })
    (λ _. refl)

-- an offer, by its fields
abbrev pub offer_code : Coded Offer
offer_code =
    code_by _
    (coded× list_row.the_row.coded (coded_list endpoint_row.the_row.coded))
    (λ o. (o.kind, o.endpoints))
    (λ p. record { kind = p.0; endpoints = p.1 })
    (λ _. refl)

-- the number of a refusal
abbrev pub refusal_number : Refusal → ℕ
refusal_number Rejects = 0
refusal_number DropsClosed = 1
refusal_number DropsNoLocal = 2

-- the refusal of a number
abbrev pub numbered_refusal : ℕ → Refusal
numbered_refusal zero = Rejects
numbered_refusal (suc zero) = DropsClosed
numbered_refusal (suc (suc n)) = DropsNoLocal

pub refusal_numbered : (r : Refusal) → numbered_refusal (refusal_number r) ≡ r
refusal_numbered Rejects = refl
refusal_numbered DropsClosed = refl
refusal_numbered DropsNoLocal = refl

-- a refusal, by its number
abbrev pub refusal_code : Coded Refusal
refusal_code = code_by ℕ coded_ℕ refusal_number numbered_refusal refusal_numbered

-- a line, by its fields
abbrev pub line_code : Coded Line
line_code =
    code_by _ (coded× door_code refusal_code) (λ l. (l.door, l.refusal))
    (λ p. record { door = p.0; refusal = p.1 }) (λ _. refl)
