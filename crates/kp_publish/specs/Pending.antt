-- What a publisher has taken in and not published.
use Rattle.std.specs.Prelude.{◌≡◌, ◌==◌, cond, false, length, ℕ, List, refl, Option, Some, None}
use Rattle.std.specs.List.{fold}
use Rattle.std.specs.Coded.{Coded, code_by, coded×, coded_ℕ, coded_list}
use Rattle.atomic_table.specs.Seated.{TableId, table_id_coded}
use Rattle.kp_publish.specs.declared.entry.Entry.{Entry}
use Rattle.kp_publish.specs.contracts.entry.Entry as entry_row
use Rattle.kp_publish.specs.Entries.{records_of, is_ended}

-- the history that is published, the one with what is pending, the pair of copies that it writes, and
-- how often there was no memory for that
pub record Keeps : Type 0 where
  pub published : List Entry
  pub newest : List Entry
  pub pair : TableId
  pub refusals : ℕ

-- it is stored as a tuple
abbrev pub keeps_code : Coded Keeps
keeps_code =
    code_by (List Entry × (List Entry × (TableId × ℕ)))
    (coded× (coded_list entry_row.the_row.coded) (coded× (coded_list entry_row.the_row.coded)
    (coded× table_id_coded coded_ℕ))) (λ k. (k.published, (k.newest, (k.pair, k.refusals))))
    (λ p. record { published = p.0; newest = p.1.0; pair = p.1.1.0; refusals = p.1.1.1 }) (λ _. refl)

-- An addition is the history before it and the one after it. What is shown becomes the latter
-- where it is as long as the former, and else it stays.
abbrev pub after : List Entry → List Entry × List Entry → List Entry
after shown addition = cond (length shown == length addition.0) addition.1 shown

-- the newest history: the published one, then what is pending, and then the one held
abbrev pub newest_of : {O : Type 0} → (List Entry → O → List Entry) → List Entry → List O → Option O → List Entry
newest_of applied shown pending (Some held) = applied (fold applied shown pending) held
newest_of applied shown pending None = fold applied shown pending

-- What a publisher says, beside the history of the copy that readers take and that with what is
-- pending. Until it is closed they are the same; then no record is pending.
pub record Fits (published newest shown pending : List Entry) : Type 0 where
  pub is_open : is_ended newest ≡ false → (published ≡ shown) × (newest ≡ pending)
  pub records : records_of published ≡ records_of shown
