-- The counts once a sync was followed, and the endpoints that fell to none.
use Rattle.std.proofs.Common.{◌≡◌, ℕ, ◌+◌, ◌==◌, nat_le, nat_lt, Bool, true, false, not, ◌&&◌, cond, List, [], ◌++◌, flat_map, count_by, refl, sym, ap, ◌∙◌, arith}
use Rattle.std.proofs.lemmas.Bool.Decides.{nat_tests}
use Rattle.std.proofs.Math.Bool.{and-false}
use Rattle.kp_base.specs.declared.address.Family.TheVariants.{V4, V6}
use Rattle.kp_base.specs.declared.config.Config.{Config}
use Rattle.kp_base.specs.declared.key.Endpoint.{Endpoint}
use Rattle.kp_types.specs.Setting.{config_for}
use Rattle.kp_object_defs.specs.Objects.{Objects}
use Rattle.kp_object_laws.specs.PortLaws.{InfoHasKey, InfosByKeys}
use Rattle.kp_history_laws.specs.DirtyLaws.{InfosByName}
use Rattle.kp_history_defs.specs.declared.dirty.DirtyPort.{DirtyPort}
use Rattle.kp_track_defs.specs.Stands.{is_endpoint}
use Rattle.kp_udp_endpoints.specs.Counts.{AreCounted, Counts, HaveFallen, IsFollowed, fallen_of, with_new, without_gone}
use Rattle.kp_udp_endpoints.specs.Changed.{AreAdded, AreKept}
use Rattle.kp_udp_endpoints.specs.declared.changed.Changed.{Changed}
use Rattle.kp_udp_endpoints.specs.Endpoints.{gone_of, lists_with, new_of}
use Rattle.kp_udp_endpoints.proofs.Apart.{both_added, from_none}
use Rattle.kp_udp_endpoints.proofs.Counting.{all_fewer, all_more, falls, told}
use Rattle.kp_udp_endpoints.proofs.Listed.{all_kept}
use Rattle.kp_udp_endpoints.proofs.Standing.{any_counted, stands_listed}

-- all that went was there, so all go exactly where some were there, and none is kept or came
all_go : (kept gone new : ℕ)
    → falls ((kept + gone) + new) gone ≡ (not (kept + gone == 0) && not (not (kept + new == 0)))
all_go kept gone new = by (kept + new == 0) refl
  where
    some : (kept + new == 0) ≡ true → nat_lt 0 ((kept + gone) + new) ≡ not (kept + gone == 0)
    some none = at (kept + gone == 0) refl
      where
        at : (b : Bool) → (kept + gone == 0) ≡ b → nat_lt 0 ((kept + gone) + new) ≡ not b
        at true is = grind (arith, nat_tests)
        at false is = grind (arith, nat_tests)

    fits : (kept + new == 0) ≡ true → nat_le ((kept + gone) + new) gone ≡ true
    fits none = grind (arith, nat_tests)

    over : (kept + new == 0) ≡ false → nat_le ((kept + gone) + new) gone ≡ false
    over others = grind (arith, nat_tests)

    by : (none : Bool) → (kept + new == 0) ≡ none
        → falls ((kept + gone) + new) gone ≡ (not (kept + gone == 0) && not (not none))
    by true is = λ i. some is i && fits is i
    by false is =
        ap (λ b. nat_lt 0 ((kept + gone) + new) && b) (over is) ∙ and-false _
        ∙ sym (and-false (not (kept + gone == 0)))

-- one is told of what falls, and else none
some_told : (b : Bool) → not (cond b 1 0 == 0) ≡ b
some_told true = refl
some_told false = refl

abbrev tally : Endpoint → List Endpoint → ℕ
tally e = count_by (is_endpoint e)

module _ (config : Config) (after : Objects) (four six : List DirtyPort) where
  -- the endpoints that the lists of these ports had, and those that they have
  abbrev pub gone : List Endpoint
  gone = flat_map gone_of four ++ flat_map gone_of six

  abbrev pub new : List Endpoint
  new =
      flat_map (new_of V4 (config_for V4 config) after) four
      ++ flat_map (new_of V6 (config_for V6 config) after) six

  -- those that went and came are these, but for some that are counted on both sides
  pub apart_of : (start mid last : Changed) (went came : List Endpoint)
      → start.went.items ≡ [] → start.came.items ≡ []
      → AreAdded (flat_map gone_of four) (flat_map (new_of V4 (config_for V4 config) after) four) start mid
      → AreAdded (flat_map gone_of six) (flat_map (new_of V6 (config_for V6 config) after) six) mid last
      → went ≡ last.went.items → came ≡ last.came.items → (e : Endpoint)
      → AreKept (tally e gone) (tally e new) (tally e went) (tally e came)
  apart_of start mid last went came no_went no_came first second is_went is_came e =
      let of = from_none gone new start last no_went no_came
      (both_added (flat_map gone_of four) (flat_map gone_of six)
      (flat_map (new_of V4 (config_for V4 config) after) four)
      (flat_map (new_of V6 (config_for V6 config) after) six) start mid last first second) e in
      record {
        kept = of.kept;
        before = of.before ∙ ap (λ es. of.kept + tally e es) (sym is_went);
        after = of.after ∙ ap (λ es. of.kept + tally e es) (sym is_came);
      }

module _ (has_key : InfoHasKey) (by_keys : InfosByKeys) (by_name : InfosByName) (config : Config) (before after : Objects)
    (four six : List DirtyPort) (c : Counts) (followed : IsFollowed config before after four six c)
    (went came : List Endpoint) where
  module _ (apart : (e : Endpoint)
      → AreKept (tally e (gone config after four six)) (tally e (new config after four six))
      (tally e went) (tally e came)) where
    kept : (e : Endpoint)
        → AreKept (lists_with config before e) (lists_with config after e) (tally e went) (tally e came)
    kept e =
        let of = all_kept has_key by_keys by_name config before after followed.own followed.own_after e in
        let both = apart e in
        record {
          kept = of.kept + both.kept;
          before = of.before ∙ (λ i. of.kept + tally e
              (flat_map gone_of (sym followed.four i) ++ flat_map gone_of (sym followed.six i)))
              ∙ ap (λ n. of.kept + n) both.before ∙ omega arith;
          after = of.after ∙ (λ i. of.kept + tally e
              (flat_map (new_of V4 (config_for V4 config) after) (sym followed.four i)
              ++ flat_map (new_of V6 (config_for V6 config) after) (sym followed.six i)))
              ∙ ap (λ n. of.kept + n) both.after ∙ omega arith;
        }

    pub counted : AreCounted config after (without_gone went (with_new came c))
    counted e =
        let of = kept e in
        omega (
          arith,
          all_fewer went (with_new came c) e,
          all_more came c e,
          followed.counted e,
          of.before,
          of.after,
        )

    pub fallen : HaveFallen config before after (fallen_of went (with_new came c))
    fallen e =
        let of = kept e in
        any_counted (is_endpoint e) (fallen_of went (with_new came c))
        ∙ ap (λ n. not (n == 0)) (told went (with_new came c) e)
        ∙ some_told _
        ∙ ap (λ n. falls n (tally e went))
        (all_more came c e ∙ ap (λ n. n + tally e came) (followed.counted e ∙ of.before))
        ∙ all_go of.kept (tally e went) (tally e came)
        ∙ (λ i. not (sym of.before i == 0) && not (not (sym of.after i == 0)))
        ∙ (λ i. sym (stands_listed e config before) i && not (sym (stands_listed e config after) i))
