-- What the writers of both families make of a sync.
use Rattle.std.proofs.Common.{◌≡◌, ◌≤◌, ◌+◌, [], ◌∷◌, None, Some, slice_get, filter_map, ap, ◌∙◌, arith}
use Rattle.std.specs.List.{cons_option, sum_by}
use Rattle.std.specs.Option.{option_to_list}
use Rattle.std.proofs.lemmas.List.Sums.{sum_by-cons}
use Rattle.kp_full_table.specs.Faults.{TellsClash}
use Rattle.kp_full_table.specs.declared.fault.TableFault.{TableFault}
use Rattle.kp_full_table.specs.declared.fault.TableFault.TheVariants.{ChainClash, NoMemory}
use Rattle.kp_writer.specs.Written.{WriterParts, clash_of}
use Rattle.kp_plane.specs.Families.{listed, newest_clash, own_dirty_rules}
use Rattle.kp_plane.specs.declared.per_family.PerFamily.{PerFamily}

module _ (x : PerFamily WriterParts) where
  -- that of IPv4 is told
  pub first_told : (fault : TableFault) → TellsClash (clash_of x.four x.four.newest) fault
      → TellsClash (newest_clash x) fault
  first_told (ChainClash clash) told =
      ap (λ o. slice_get (cons_option o (filter_map (λ w. clash_of w w.newest)
      (option_to_list x.six))) 0) told
  first_told (NoMemory refused) told = tt

  -- and where it has none, that of IPv6
  pub then_told : (w : WriterParts) → x.six ≡ Some w → clash_of x.four x.four.newest ≡ None
      → (fault : TableFault) → TellsClash (clash_of w w.newest) fault
      → TellsClash (newest_clash x) fault
  then_told w six none (ChainClash clash) told =
      (λ i. slice_get (cons_option (none i) (filter_map (λ v. clash_of v v.newest)
      (option_to_list (six i)))) 0)
      ∙ ap (λ o. slice_get (cons_option o []) 0) told
  then_told w six none (NoMemory refused) told = tt

  -- the rules of the dirty ports of both count
  pub rules_first : own_dirty_rules x.four ≤ sum_by own_dirty_rules (listed x)
  rules_first =
      omega (arith, sum_by-cons own_dirty_rules x.four (option_to_list x.six))

  pub rules_both : (w : WriterParts) → x.six ≡ Some w
      → own_dirty_rules x.four + own_dirty_rules w ≡ sum_by own_dirty_rules (listed x)
  rules_both w six =
      omega (
        arith,
        sum_by-cons own_dirty_rules x.four (w ∷ []),
        sum_by-cons own_dirty_rules w [],
        ap (λ o. sum_by own_dirty_rules (x.four ∷ option_to_list o)) six,
      )
