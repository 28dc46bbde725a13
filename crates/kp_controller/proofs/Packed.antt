-- Slices in place of others.
use Rattle.std.proofs.Common.{◌≡◌, List, [], ◌∷◌, ◌++◌, map, filter, not, refl, ap, ◌∙◌}
use Rattle.std.specs.FinMap as finite
use Rattle.kp_base.specs.Keys.{key_cmp}
use Rattle.kp_base.specs.declared.key.ObjectKey.{ObjectKey}
use Rattle.kp_types.specs.declared.slice.Slice.{Slice}
use Rattle.kp_base.specs.declared.address.Family.{Family}
use Rattle.kp_object_defs.specs.OwnKeys.{IsUnderOwnKeys}
use Rattle.kp_object_defs.specs.PackingLaws.{is_managed_for}
use Rattle.kp_object_defs.specs.SlicesNow.{Slices, managed_slices, with_managed}
use Rattle.kp_controller.specs.Replaced.{AreGone, with_slices, without_keys}
use Rattle.kp_controller.proofs.Gone.{gone_enough}
use Rattle.kp_controller.proofs.Kept.{without_passing}

-- the last of them may be put in first
pub put_last : (more : List Slice) (s : Slice) (m : Slices) → with_slices (more ++ s ∷ []) m ≡ with_slices more (finite.insert m s.key s)
put_last [] s m = refl
put_last (t ∷ more) s m = ap (λ rest. finite.insert rest t.key t) (put_last more s m)

-- put into a map of entries, they stand before these
pub before_entries : (more : List Slice) (es : List (ObjectKey × Slice)) → with_slices more (finite.from_entries {R = key_cmp} es) ≡ finite.from_entries {R = key_cmp} (map (λ s. (s.key, s)) more ++ es)
before_entries [] es = refl
before_entries (s ∷ more) es = ap (λ m. finite.insert m s.key s) (before_entries more es)

-- what packing makes stands in place of the managed slices
pub repacked : (family : Family) (service : ObjectKey) (packed : List Slice) (gone : List ObjectKey) (old rest : Slices)
    → IsUnderOwnKeys (λ (s : Slice). s.key) old
    → AreGone (managed_slices family service old) packed gone
    → rest ≡ without_keys gone old
    → with_slices packed rest ≡ with_managed family service packed old
repacked family service packed gone old rest own are is =
    ap (with_slices packed) is
    ∙ gone_enough (managed_slices family service old) packed gone old are
    ∙ ap (with_slices packed) (without_passing (is_managed_for family service) old own)
    ∙ before_entries packed
    (filter (λ e. not (is_managed_for family service e.1)) (finite.entries old))
