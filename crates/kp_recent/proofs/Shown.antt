-- What contracts see of a part: its pairs as sightings.
use Rattle.std.proofs.Common.{◌≡◌, ℕ, Bool, true, false, cond, ◌||◌, [], ◌∷◌, filter, take, not, Option, Some, is_some, option_map, unwrap_or, refl, ap, sym, ◌∙◌, subst}
use Rattle.std.specs.List.{IsDistinct, AllByRecursion, list_any}
use Rattle.std.specs.Map.{keys_of, remove_entry}
use Rattle.std.proofs.Math.Bool.{or-false}
use Rattle.std.proofs.lemmas.List.{take-map}
use Rattle.std.proofs.lemmas.Map.Keys.{IsDistinct-head, IsDistinct-tail}
use Rattle.kp_base.specs.Net.{AddressParts, same_address}
use Rattle.kp_choice_defs.specs.Recent.{is_of, is_within}
use Rattle.kp_recent.specs.Moments.{Pairs, sighting, sightings_of, has_recent, recent, with_set, is_recent, recent_pairs, moment_of, with_source}
use Rattle.kp_recent.proofs.Sources.{same_swap, one_address}

-- one more pair, or none
one_more : (b : Bool) (e : AddressParts × ℕ) (es : Pairs) → sightings_of (cond b (e ∷ es) es) ≡ cond b (sighting e ∷ sightings_of es) (sightings_of es)
one_more true e es = refl
one_more false e es = refl

-- those within the timeout
pub recent_is : (now seconds : ℕ) (es : Pairs) → sightings_of (recent_pairs now seconds es) ≡ recent now seconds (sightings_of es)
recent_is now seconds [] = refl
recent_is now seconds (e ∷ es) =
    one_more (is_recent now seconds e.1) e (recent_pairs now seconds es)
    ∙ ap (λ ss. cond (is_recent now seconds e.1) (sighting e ∷ ss) ss) (recent_is now seconds es)

module _ (source : AddressParts) where
  -- no pair is of the source
  abbrev Lacks : Pairs → Type 0
  Lacks es = AllByRecursion (λ k. same_address source k ≡ false) (keys_of es)

  others_all : (es : Pairs) → Lacks es → filter (λ s. not (is_of source s)) (sightings_of es) ≡ sightings_of es
  others_all [] all = refl
  others_all (e ∷ es) all =
      ap (λ t. cond (not t) (sighting e ∷ filter (λ s. not (is_of source s)) (sightings_of es)) (filter (λ s. not (is_of source s)) (sightings_of es))) (same_swap e.0 source ∙ all.0)
      ∙ ap (λ ss. sighting e ∷ ss) (others_all es all.1)

  none_of : (es : Pairs) → Lacks es → filter (is_of source) (sightings_of es) ≡ []
  none_of [] all = refl
  none_of (e ∷ es) all =
      ap (λ t. cond t (sighting e ∷ filter (is_of source) (sightings_of es)) (filter (is_of source) (sightings_of es))) (same_swap e.0 source ∙ all.0)
      ∙ none_of es all.1

  -- the pairs behind one of the source lack it
  lacks_rest : (e : AddressParts × ℕ) (es : Pairs) → IsDistinct same_address (keys_of (e ∷ es)) → same_address source e.0 ≡ true → Lacks es
  lacks_rest e es once is =
      subst (λ a. AllByRecursion (λ k. same_address a k ≡ false) (keys_of es)) (sym (one_address source e.0 is))
      (IsDistinct-head same_address e.0 (keys_of es) once)

  -- the other sources
  others_by : (e : AddressParts × ℕ) (es : Pairs) (b : Bool) → same_address source e.0 ≡ b → IsDistinct same_address (keys_of (e ∷ es)) → filter (λ s. not (is_of source s)) (sightings_of es) ≡ sightings_of (remove_entry (same_address source) es) → filter (λ s. not (is_of source s)) (sightings_of (e ∷ es)) ≡ sightings_of (cond b es (e ∷ remove_entry (same_address source) es))
  others_by e es true is once rest =
      ap (λ t. cond (not t) (sighting e ∷ filter (λ s. not (is_of source s)) (sightings_of es)) (filter (λ s. not (is_of source s)) (sightings_of es))) (same_swap e.0 source ∙ is)
      ∙ others_all es (lacks_rest e es once is)
  others_by e es false is once rest =
      ap (λ t. cond (not t) (sighting e ∷ filter (λ s. not (is_of source s)) (sightings_of es)) (filter (λ s. not (is_of source s)) (sightings_of es))) (same_swap e.0 source ∙ is)
      ∙ ap (λ ss. sighting e ∷ ss) rest

  others : (es : Pairs) → IsDistinct same_address (keys_of es) → filter (λ s. not (is_of source s)) (sightings_of es) ≡ sightings_of (remove_entry (same_address source) es)
  others [] once = refl
  others (e ∷ es) once =
      others_by e es (same_address source e.0) refl once (others es (IsDistinct-tail same_address e.0 (keys_of es) once))

  -- a set
  pub set_is : (size now : ℕ) (es : Pairs) → IsDistinct same_address (keys_of es) → sightings_of (with_source size source now es) ≡ with_set size source now (sightings_of es)
  set_is size now es once =
      sym (take-map sighting size ((source, now) ∷ remove_entry (same_address source) es))
      ∙ ap (λ ss. take size (sighting (source, now) ∷ ss)) (sym (others es once))

  -- a source is there by the moment beside it
  first_found : (b : Bool) (m : ℕ) (o : Option ℕ) → (b || is_some o) ≡ is_some (cond b (Some m) o)
  first_found true m o = refl
  first_found false m o = refl

  pub there_is : (es : Pairs) → list_any (is_of source) (sightings_of es) ≡ is_some (moment_of source es)
  there_is [] = refl
  there_is (e ∷ es) =
      (λ i. same_swap e.0 source i || there_is es i) ∙ first_found (same_address source e.0) e.1 (moment_of source es)

  module _ (now seconds : ℕ) where
    -- whether a moment is there within the timeout
    abbrev by_moment : Option ℕ → Bool
    by_moment o = unwrap_or (option_map (is_recent now seconds) o) false

    live_by : (e : AddressParts × ℕ) (es : Pairs) (b : Bool) → same_address source e.0 ≡ b → IsDistinct same_address (keys_of (e ∷ es)) → has_recent now seconds source (sightings_of es) ≡ by_moment (moment_of source es) → has_recent now seconds source (sightings_of (e ∷ es)) ≡ by_moment (cond b (Some e.1) (moment_of source es))
    live_by e es true is once rest =
        ap (λ t. list_any (is_within now seconds) (cond t (sighting e ∷ filter (is_of source) (sightings_of es)) (filter (is_of source) (sightings_of es)))) (same_swap e.0 source ∙ is)
        ∙ ap (λ ss. list_any (is_within now seconds) (sighting e ∷ ss)) (none_of es (lacks_rest e es once is))
        ∙ or-false (is_recent now seconds e.1)
    live_by e es false is once rest =
        ap (λ t. list_any (is_within now seconds) (cond t (sighting e ∷ filter (is_of source) (sightings_of es)) (filter (is_of source) (sightings_of es)))) (same_swap e.0 source ∙ is)
        ∙ rest

    pub live_is : (es : Pairs) → IsDistinct same_address (keys_of es) → has_recent now seconds source (sightings_of es) ≡ by_moment (moment_of source es)
    live_is [] once = refl
    live_is (e ∷ es) once =
        live_by e es (same_address source e.0) refl once (live_is es (IsDistinct-tail same_address e.0 (keys_of es) once))
