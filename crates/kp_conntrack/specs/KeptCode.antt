-- How what is kept is stored.
use Rattle.std.specs.Prelude.{ℕ, List, refl}
use Rattle.std.specs.Coded.{Coded, code_by, coded×, coded_list, coded_ℕ}
use Rattle.kp_track_defs.specs.contracts.flow.Entry as entry_row
use Rattle.kp_track_defs.specs.declared.flow.Entry.{Entry}
use Rattle.kp_track_defs.specs.Kept.{Kept}

-- as the pair of its fields
abbrev pub kept_code : Coded Kept
kept_code =
    code_by (List Entry × ℕ) (coded× (coded_list entry_row.the_row.coded) coded_ℕ)
    (λ k. (k.entries, k.moment)) (λ p. record { entries = p.0; moment = p.1 }) (λ _. refl)
