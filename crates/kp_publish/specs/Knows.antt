-- What a reader knows.
use Rattle.std.specs.Prelude.{List, [], refl}
use Rattle.std.specs.Coded.{Coded, code_by, coded×, coded_list}
use Rattle.atomic_table.specs.Seated.{TableId, table_id_coded}
use Rattle.kp_publish.specs.declared.entry.Entry.{Entry}
use Rattle.kp_publish.specs.contracts.entry.Entry as entry_row

-- the history that it saw last, the longest that it learned, and from which pair of copies it reads
pub record Knows : Type 0 where
  pub seen : List Entry
  pub told : List Entry
  pub pair : TableId

-- a reader of a pair that has seen nothing
abbrev pub nothing_of : TableId → Knows
nothing_of pair = record { seen = []; told = []; pair = pair }

-- it is stored as a tuple
abbrev pub knows_code : Coded Knows
knows_code =
    code_by (List Entry × (List Entry × TableId))
    (coded× (coded_list entry_row.the_row.coded) (coded× (coded_list entry_row.the_row.coded) table_id_coded))
    (λ k. (k.seen, (k.told, k.pair))) (λ p. record { seen = p.0; told = p.1.0; pair = p.1.1 }) (λ _. refl)
