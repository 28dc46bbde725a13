-- What a replay shows is read back.
use Rattle.std.proofs.Common.{◌≡◌, ℕ, suc, zero, ◌-◌, Bool, true, false, cond, List, [], ◌∷◌, ◌++◌, take, Contains, inl, inr, refl, sym, ap, subst, ◌∙◌}
use Rattle.std.specs.List.{list_any}
use Rattle.std.proofs.lemmas.Bool.{false≢true}
use Rattle.std.proofs.lemmas.Grind.{flat_map-append}
use Rattle.kp_lemmas.proofs.Members.{none_in, in_cases, first_in, later_in}
use Rattle.kp_base.specs.Net.{same_family}
use Rattle.kp_base.specs.declared.address.Family.{Family}
use Rattle.kp_base.specs.declared.address.Family.TheVariants.{V4, V6}
use Rattle.kp_types.specs.Places.{filter_of, nat_of}
use Rattle.kp_types.specs.Setting.{both_families, has_tables_of, view_of}
use Rattle.kp_types.specs.declared.chain.TableName.{TableName}
use Rattle.kp_types.specs.declared.event.Event.{Event}
use Rattle.kp_table_defs.specs.Rebuild.{Chains}
use Rattle.kp_history_defs.specs.History.{covered, objects_covered}
use Rattle.kp_restore_defs.specs.TableText.{section_lines, section_text_of}
use Rattle.kp_run_defs.specs.ReplayText as replay
use Rattle.kp_run_defs.specs.ReplayText.{Standing, chains_in, last_edits, replay_of, section_if, settings_in, shown_text, syncs_in}
use Rattle.kp_text_laws.specs.Bounds.{AreBounded, AreBoundedEvents}
use Rattle.kp_text_laws.specs.BoundLaws.{ObjectsAreBounded}
use Rattle.kp_text_laws.specs.TableLaws.{ChangesReadBack, FullTableReadsBack, IsPrintable, ProductIsPrintable}
use Rattle.kp_text_laws.specs.ShownLaws.{CoveredChangesReadBack, CoveredTablesReadBack, ReplaysAreBounded, SectionsAreTable, ShownBatchesReadBack, ShownTablesReadBack, batch_shown, both_shown}

-- ---- Histories

from_take : {A : Type 0} (n : ℕ) (xs : List A) (x : A) → Contains (take n xs) x → Contains xs x
from_take zero xs x c = absurd (none_in x c)
from_take (suc n) [] x c = absurd (none_in x c)
from_take (suc n) (y ∷ ys) x c =
    elim (in_cases x y _ c) [
      | inl e ↦ subst (Contains (y ∷ ys)) e (first_in y ys)
      | inr d ↦ later_in x y ys (from_take n ys x d)
    ]

module _ (objects : ObjectsAreBounded) where
  covered_bounded : (events : List Event) (counts : List ℕ) (n : ℕ) → AreBoundedEvents events
      → AreBounded (objects_covered events counts n)
  covered_bounded events counts n h =
      objects (covered events counts n) (λ e c. h e (from_take _ events e c))

  pub covered_tables_read_back_by : FullTableReadsBack → CoveredTablesReadBack
  covered_tables_read_back_by tables settings events counts n family has printable h =
      tables settings (objects_covered events counts n) family has printable
      (covered_bounded events counts n h)

  pub covered_changes_read_back_by : ChangesReadBack → CoveredChangesReadBack
  covered_changes_read_back_by changes settings events counts m n family has printable h =
      changes settings (objects_covered events counts m) (objects_covered events counts n) family
      has printable (covered_bounded events counts m h) (covered_bounded events counts n h)

-- ---- What is shown

pub sections_are_table : SectionsAreTable
sections_are_table family chains =
    flat_map-append (λ line. line ++ 10 ∷ []) (section_lines chains (nat_of family))
    (section_lines chains (filter_of family))

-- where a node has tables of IPv6, these are shown
six_shown : (dual : Bool) (chains : Chains) (table : TableName)
    → list_any (same_family V6) (cond dual both_families (V4 ∷ [])) ≡ true
    → section_if dual chains table ≡ section_text_of chains table
six_shown true chains table has = refl
six_shown false chains table has = absurd (false≢true has)

sections_shown : (family : Family) (s : Standing) → has_tables_of family (settings_in s) ≡ true
    → both_shown family s
    ≡ section_text_of (chains_in s) (nat_of family)
    ++ section_text_of (chains_in s) (filter_of family)
sections_shown V4 s has = refl
sections_shown V6 s has =
    λ i.
    six_shown s.config.dual (chains_in s) (nat_of V6) has i
    ++ six_shown s.config.dual (chains_in s) (filter_of V6) has i

edits_shown : (family : Family) (s : Standing)
    → shown_text (batch_shown family) s ≡ replay.batch_shown family s.counts (last_edits s)
edits_shown V4 s = refl
edits_shown V6 s = refl

module _ (bounded : ReplaysAreBounded) (printable : ProductIsPrintable) where
  view_prints : (lines : List (List ℕ)) (family : Family)
      → IsPrintable (view_of family (settings_in (replay_of lines).at))
  view_prints lines family = printable family (replay_of lines).at.config (bounded lines).config

  pub shown_tables_read_back_by : CoveredTablesReadBack → ShownTablesReadBack
  shown_tables_read_back_by tables lines family has =
      let s : Standing = (replay_of lines).at in record {
        table = tables (settings_in s) s.events s.counts (syncs_in s) family has
            (view_prints lines family) (bounded lines).events;
        printed = sections_shown family s has ∙ sym (sections_are_table family (chains_in s));
      }

  pub shown_batches_read_back_by : CoveredChangesReadBack → ShownBatchesReadBack
  shown_batches_read_back_by back lines family has =
      let s : Standing = (replay_of lines).at in record {
        batch = back (settings_in s) s.events s.counts (syncs_in s - 1) (syncs_in s) family has
            (view_prints lines family) (bounded lines).events;
        printed = λ n counts is.
            edits_shown family s ∙ ap (λ c. replay.batch_shown family c (last_edits s)) is;
      }
