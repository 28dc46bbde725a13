-- How a door's values and its change are stored.
use Rattle.std.specs.Prelude.{refl}
use Rattle.std.specs.Coded.{Coded, code_by, coded×, coded_list, coded_option, coded_ℕ}
use Rattle.kp_base.specs.contracts.key.Endpoint as endpoint_row
use Rattle.kp_base.specs.contracts.range.Cidr as range_row
use Rattle.kp_types.specs.contracts.service.Policy as policy_row
use Rattle.kp_decide.specs.Stored.{door_code}
use Rattle.kp_change_defs.specs.DoorChanges.{DoorChange}
use Rattle.kp_change_defs.specs.DoorValues.{DoorValues}
use Rattle.kp_change_defs.specs.contracts.DoorState as state_row

-- a door's values, by its fields
abbrev pub values_code : Coded DoorValues
values_code =
    code_by _
    (coded× state_row.the_row.coded
    (coded× (coded_list endpoint_row.the_row.coded)
    (coded× (coded_list endpoint_row.the_row.coded)
    (coded× policy_row.the_row.coded
    (coded× (coded_option coded_ℕ) (coded_option (coded_list range_row.the_row.coded)))))))
    (λ v. (v.state, (v.list, (v.inside, (v.policy, (v.affinity, v.sources))))))
    (λ p. record {
      state = p.0;
      list = p.1.0;
      inside = p.1.1.0;
      policy = p.1.1.1.0;
      affinity = p.1.1.1.1.0;
      sources = p.1.1.1.1.1;
    })
    (λ _. refl)

-- a change of a door, by its fields
abbrev pub change_code : Coded DoorChange
change_code =
    code_by _ (coded× door_code (coded× values_code values_code))
    (λ c. (c.door, (c.before, c.after)))
    (λ p. record { door = p.0; before = p.1.0; after = p.1.1 })
    (λ _. refl)
