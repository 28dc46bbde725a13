-- A node's clash is one of its families'.
use Rattle.std.proofs.Common.{◌≡◌, ◌||◌, Bool, true, false, List, [], ◌∷◌, Option, Some, None, refl, ap, ◌∙◌}
use Rattle.std.specs.Prelude.{slice_get}
use Rattle.std.specs.List.{cons_option, filter_map, list_any}
use Rattle.std.proofs.lemmas.Bool.{false≢true}
use Rattle.kp_base.specs.Net.{same_family}
use Rattle.kp_base.specs.declared.address.Family.{Family}
use Rattle.kp_base.proofs.SameParts.{family_itself, same_family_exact}
use Rattle.kp_types.specs.Setting.{view_of}
use Rattle.kp_types.specs.declared.chain.Clash.{Clash}
use Rattle.kp_table_defs.specs.Rebuild.{clash_among}
use Rattle.kp_table_laws.specs.Families.{NoClashInFamilies}

module _ {X : Type 0} (given : Family → Option X) where
  -- whether nothing is given at any of some families
  abbrev NoneGiven : List Family → Type 0
  NoneGiven families =
      (family : Family) → list_any (same_family family) families ≡ true → given family ≡ None

  first_none : (o : Option X) (rest : List X) → slice_get (cons_option o rest) 0 ≡ None
      → (o ≡ None) × (slice_get rest 0 ≡ None)
  first_none None rest h = (refl, h)
  first_none (Some x) rest h = absurd (cc)

  among : (f : Family) (fs : List Family) → given f ≡ None → NoneGiven fs
      → (family : Family) (b : Bool) → same_family family f ≡ b
      → (b || list_any (same_family family) fs) ≡ true → given family ≡ None
  among f fs none rest family true same h = ap given (same_family_exact family f same) ∙ none
  among f fs none rest family false differs h = rest family h

  none_given : (fs : List Family) → slice_get (filter_map given fs) 0 ≡ None → NoneGiven fs
  none_given [] h family has = absurd (false≢true has)
  none_given (f ∷ fs) h family has =
      let both = first_none (given f) (filter_map given fs) h in
      among f fs both.0 (none_given fs both.1) family _ refl has

  none_first : (fs : List Family) → NoneGiven fs → slice_get (filter_map given fs) 0 ≡ None
  none_first [] h = refl
  none_first (f ∷ fs) h =
      (λ i. slice_get (cons_option (h f (ap (λ b. b || list_any (same_family f) fs)
      (family_itself f)) i) (filter_map given fs)) 0)
      ∙ none_first fs (λ family has. h family (later (same_family family f) _ has))
    where
      later : (b c : Bool) → c ≡ true → (b || c) ≡ true
      later true c k = refl
      later false c k = k

pub no_clash_in_families : NoClashInFamilies
no_clash_in_families settings infos =
    let given : Family → Option Clash =
    λ family. clash_among (view_of family settings) (infos family) in
    (none_given given settings.families, none_first given settings.families)
