-- Ports without a chain at a place don't matter to a look-up there.
use Rattle.std.proofs.Common.{◌≡◌, Bool, true, false, cond, List, [], ◌∷◌, Contains}
use Rattle.std.proofs.Common.{filter, flat_map, Some, None, refl, sym, ap, ◌∙◌}
use Rattle.std.specs.Ordering.{eq_by_cmp}
use Rattle.std.specs.FinMap.{find, get-from_entries}
use Rattle.kp_lemmas.proofs.Members.{first_in, later_in}
use Rattle.kp_types.specs.Places.{chain_cmp}
use Rattle.kp_types.specs.Setting.{Setting}
use Rattle.kp_types.specs.declared.chain.ChainAt.{ChainAt}
use Rattle.kp_types.specs.declared.rule.Rule.{Rule}
use Rattle.kp_types.proofs.ChainOrder.{chain_total}
use Rattle.kp_object_defs.specs.PortInfo.{PortInfo}
use Rattle.kp_table_defs.specs.Layout.{port_rows, rows_of}
use Rattle.kp_object_defs.proofs.InOrder.{find-append, first_some}
use Rattle.kp_writer_laws.specs.LocalLaws.{LookUpsAreLocal, TablesAgreeElsewhere, fixed_rows}
use Rattle.kp_writer_laws.specs.LocalLaws.{own_chain}

abbrev Row : Type 0
Row = ChainAt × List Rule

module _ (setting : Setting) (at : ChainAt) (matters : PortInfo → Bool) where
  -- the chains of ports
  abbrev rows : List PortInfo → List Row
  rows infos = flat_map (port_rows setting) infos

  by_first : (i : PortInfo) (is : List PortInfo) → (matters i ≡ false → own_chain setting at i
      ≡ None)
      → find chain_cmp at (rows is) ≡ find chain_cmp at (rows (filter matters is))
      → (b : Bool) → matters i ≡ b
      → find chain_cmp at (rows (i ∷ is))
      ≡ find chain_cmp at (rows (cond b (i ∷ filter matters is) (filter matters is)))
  by_first i is none rest true h =
      find-append chain_cmp at (port_rows setting i) (rows is)
      ∙ ap (first_some (find chain_cmp at (port_rows setting i))) rest
      ∙ sym (find-append chain_cmp at (port_rows setting i) (rows (filter matters is)))
  by_first i is none rest false h =
      find-append chain_cmp at (port_rows setting i) (rows is)
      ∙ ap (λ o. first_some o (find chain_cmp at (rows is))) (none h)
      ∙ rest

  pub found_among : (infos : List PortInfo)
      → ((i : PortInfo) → Contains infos i → matters i ≡ false → own_chain setting at i ≡ None)
      → find chain_cmp at (rows infos) ≡ find chain_cmp at (rows (filter matters infos))
  found_among [] none = refl
  found_among (i ∷ is) none =
      by_first i is (none i (first_in i is))
      (found_among is (λ j c. none j (later_in j i is c))) (matters i) refl

pub look_ups_are_local : LookUpsAreLocal
look_ups_are_local setting infos at matters none = found_among setting at matters infos none

-- ---- Fixed chains

module _ (at : ChainAt) where
  -- rows for the same places, so that a look-up finds a row of both or of neither
  abbrev Alike : List (ChainAt × List Rule) → List (ChainAt × List Rule) → Type 0
  Alike [] ws = Unit {0}
  Alike (f ∷ fs) [] = ⊥
  Alike (f ∷ fs) (w ∷ ws) = (w.0 ≡ f.0) × Alike fs ws

  -- those behind the fixed ones
  abbrev behind : List Row → List Row → List Row
  behind [] ws = ws
  behind (f ∷ fs) [] = []
  behind (f ∷ fs) (w ∷ ws) = behind fs ws

  behind_by : (f w : Row) (fs ws rest : List Row) → w.0 ≡ f.0
      → (find chain_cmp at fs ≡ None → find chain_cmp at ws ≡ find chain_cmp at rest)
      → (b : Bool) → eq_by_cmp chain_cmp at f.0 ≡ b
      → cond b (Some f.1) (find chain_cmp at fs) ≡ None
      → find chain_cmp at (w ∷ ws) ≡ find chain_cmp at rest
  behind_by f w fs ws rest place later true is none = absurd (cc)
  behind_by f w fs ws rest place later false is none =
      ap (λ b. cond b (Some w.1) (find chain_cmp at ws)) (ap (eq_by_cmp chain_cmp at) place ∙ is)
      ∙ later none

  found_behind : (fs ws : List Row) → Alike fs ws → find chain_cmp at fs ≡ None
      → find chain_cmp at ws ≡ find chain_cmp at (behind fs ws)
  found_behind [] ws alike none = refl
  found_behind (f ∷ fs) [] alike none = absurd alike
  found_behind (f ∷ fs) (w ∷ ws) alike none =
      behind_by f w fs ws (behind fs ws) alike.0 (found_behind fs ws alike.1)
      (eq_by_cmp chain_cmp at f.0) refl none

  module _ (setting : Setting) (infos : List PortInfo)
      (none : find chain_cmp at (fixed_rows setting.family) ≡ None) where
    alike : Alike (fixed_rows setting.family) (rows_of setting infos)
    alike = (
      refl,
      (
        refl,
        (
          refl,
          (
            refl,
            (
              refl,
              (
                refl,
                (
                  refl,
                  (
                    refl,
                    (
                      refl,
                      (
                        refl,
                        (
                          refl,
                          (
                            refl,
                            (
                              refl,
                              (refl, (refl, tt)),
                            ),
                          ),
                        ),
                      ),
                    ),
                  ),
                ),
              ),
            ),
          ),
        ),
      ),
    )

    -- a place that isn't a fixed chain's is looked for among the ports' own chains
    pub found_own : find chain_cmp at (rows_of setting infos)
        ≡ find chain_cmp at (flat_map (port_rows setting) infos)
    found_own = found_behind (fixed_rows setting.family) (rows_of setting infos) alike none

pub tables_agree_elsewhere : TablesAgreeElsewhere
tables_agree_elsewhere setting before after at kept same old new none =
    get-from_entries chain_total (rows_of setting before) at
    ∙ found_own at setting before none
    ∙ found_among setting at kept before old
    ∙ ap (λ is. find chain_cmp at (flat_map (port_rows setting) is)) same
    ∙ sym (found_among setting at kept after new)
    ∙ sym (found_own at setting after none)
    ∙ sym (get-from_entries chain_total (rows_of setting after) at)
