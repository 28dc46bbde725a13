-- What contracts see of a worker's pass.
use Rattle.std.specs.Prelude.{ℕ, List, [], Option, Some, None, length, max, refl}
use mathlib.Core.List.{IsPrefix}
use Rattle.std.specs.Coded.{Coded, code_by, coded×, coded_ℕ, coded_list}
use Rattle.kp_publish.specs.Entries.{records_of}
use Rattle.kp_publish.specs.Knows.{Knows}
use Rattle.kp_publish.specs.declared.entry.Entry.{Entry}
use Rattle.kp_publish.specs.contracts.entry.Entry as entry_row

-- The history that its reader saw last, the longest front that it learned and the last one; and how
-- many of its syncs were accepted, and refused.
pub record Worker : Type 0 where
  pub seen : List Entry
  pub told : List Entry
  pub learned : List Entry
  pub accepted : ℕ
  pub refused : ℕ

-- it is stored as a tuple
abbrev pub worker_code : Coded Worker
worker_code =
    code_by (List Entry × (List Entry × (List Entry × (ℕ × ℕ))))
    (coded× (coded_list entry_row.the_row.coded) (coded× (coded_list entry_row.the_row.coded)
    (coded× (coded_list entry_row.the_row.coded) (coded× coded_ℕ coded_ℕ))))
    (λ w. (w.seen, (w.told, (w.learned, (w.accepted, w.refused)))))
    (λ p. record {
      seen = p.0;
      told = p.1.0;
      learned = p.1.1.0;
      accepted = p.1.1.1.0;
      refused = p.1.1.1.1;
    }) (λ _. refl)

-- what a pass knows by its reader, the front that it learned last and its counts
abbrev pub worker_of : Option Knows → List Entry → ℕ → ℕ → Worker
worker_of None learned accepted refused = record {
  seen = [];
  told = [];
  learned = learned;
  accepted = accepted;
  refused = refused;
}
worker_of (Some reader) learned accepted refused = record {
  seen = reader.seen;
  told = reader.told;
  learned = learned;
  accepted = accepted;
  refused = refused;
}

-- a reader is outside, and has learned this front
abbrev pub IsOutside : Option Knows → List Entry → Type 0
IsOutside None learned = ⊥
IsOutside (Some reader) learned = IsPrefix learned reader.told

-- a pass that has seen nothing and synced nothing
abbrev pub new_worker : Worker
new_worker = record { seen = []; told = []; learned = []; accepted = 0; refused = 0 }

-- how many records it knows of: those that it saw, or learned of
abbrev pub known : Worker → ℕ
known w = max (length (records_of w.seen)) (length (records_of w.told))

-- a pass that counts nothing any more
abbrev pub uncounted : Worker → Worker
uncounted w = record w { accepted = 0; refused = 0 }
