-- What a plane collects.
use Rattle.std.proofs.Common.{◌≡◌, ◌||◌, ℕ, Bool, true, false, List, map, take, drop, refl, sym, ap, ◌∙◌}
use Rattle.std.proofs.Common.{Bor}
use mathlib.Core.Bool.{or-false}
use Rattle.std.proofs.Math.Bool.{or-true}
use Rattle.std.specs.List.{list_any}
use Rattle.std.specs.Ordering.{eq_by_cmp}
use Rattle.std.specs.FinMap as finite
use Rattle.std.proofs.lemmas.List.{take-append-drop}
use Rattle.std.proofs.lemmas.List.Folds.{list_any-append}
use Rattle.kp_base.specs.Keys.{key_cmp}
use Rattle.kp_base.specs.declared.key.ObjectKey.{ObjectKey}
use Rattle.kp_store.specs.Touched.{AddsTo, is_touched}
use Rattle.kp_store.specs.declared.touched.Touched.{Touched}
use Rattle.kp_store.proofs.Unions.{among_keys, any_shown}
use Rattle.kp_plane.specs.Collected.{AreJoined, Collects, CollectsSame, is_collected}
use Rattle.kp_plane.specs.declared.collected.Collected.{Collected}
use Rattle.kp_plane.proofs.Touching.{both_answers}

absorbed : (a b c : Bool) → (b ≡ true → a ≡ true) → a || (b || c) ≡ a || c
absorbed true b c f = refl
absorbed false true c f = absurd (both_answers false (f refl) refl)
absorbed false false c f = refl

-- some of the keys were added, and no more
pub some_added : (keys : List (Bor ObjectKey)) (i : ℕ) (before after : Touched)
    → AddsTo (λ k. list_any (λ (q : Bor ObjectKey). eq_by_cmp key_cmp k q.now) (take i keys))
    before after
    → (k : ObjectKey)
    → list_any (eq_by_cmp key_cmp k) (map (λ q. q.now) keys) || is_touched after k
    ≡ list_any (eq_by_cmp key_cmp k) (map (λ q. q.now) keys) || is_touched before k
some_added keys i before after adds k =
    let test = λ (q : Bor ObjectKey). eq_by_cmp key_cmp k q.now in
    let all = list_any (eq_by_cmp key_cmp k) (map (λ q. q.now) keys) in
    ap (λ b. all || b) (adds k)
    ∙ absorbed all (list_any test (take i keys)) (is_touched before k) (λ some.
    sym (any_shown (λ (q : Bor ObjectKey). q.now) (eq_by_cmp key_cmp k) keys)
    ∙ ap (list_any test) (sym (take-append-drop i keys))
    ∙ list_any-append test (take i keys) (drop i keys)
    ∙ ap (λ b. b || list_any test (drop i keys)) some)

module _ (others before after : Touched) where
  -- where others are all Services
  pub by_all : others.all ≡ true → AddsTo (λ k. true) before after
      → AddsTo (is_touched others) before after
  by_all all adds k =
      adds k
      ∙ ap (λ b. (b || finite.contains_key others.keys k) || is_touched before k) (sym all)

  pub by_all_few : others.all ≡ true → (k : ObjectKey)
      → is_touched others k || is_touched after k ≡ is_touched others k || is_touched before k
  by_all_few all k =
      ap (λ b. (b || finite.contains_key others.keys k) || is_touched after k) all
      ∙ sym (ap (λ b. (b || finite.contains_key others.keys k) || is_touched before k) all)

  module _ (keys : List (Bor ObjectKey)) (some : others.all ≡ false)
      (are : map (λ q. q.now) keys ≡ finite.keys others.keys) where
    -- else they are those of their keys
    keys_are : (k : ObjectKey)
        → list_any (eq_by_cmp key_cmp k) (map (λ q. q.now) keys) ≡ is_touched others k
    keys_are k =
        ap (list_any (eq_by_cmp key_cmp k)) are
        ∙ among_keys others.keys k
        ∙ ap (λ b. b || finite.contains_key others.keys k) (sym some)

    pub listed : AddsTo (λ k. list_any (eq_by_cmp key_cmp k) (map (λ q. q.now) keys)) before after
        → AddsTo (is_touched others) before after
    listed adds k = adds k ∙ ap (λ b. b || is_touched before k) (keys_are k)

    pub listed_few : ((k : ObjectKey)
        → list_any (eq_by_cmp key_cmp k) (map (λ q. q.now) keys) || is_touched after k
        ≡ list_any (eq_by_cmp key_cmp k) (map (λ q. q.now) keys) || is_touched before k)
        → (k : ObjectKey)
        → is_touched others k || is_touched after k ≡ is_touched others k || is_touched before k
    listed_few few k =
        ap (λ b. b || is_touched after k) (sym (keys_are k))
        ∙ few k ∙ ap (λ b. b || is_touched before k) (keys_are k)

-- ---- What a plane collects

-- the latest event's are joined, and nothing stands apart any more
module _ (t : Collected) (joined none : Touched) (adds : AddsTo (is_touched t.last) t.joined joined)
    (new : (k : ObjectKey) → is_touched none k ≡ false) where
  pub all_joined : AreJoined (record { joined = joined; last = none })
  all_joined k = ap (λ b. b || is_touched joined k) (sym (new k))

  pub joined_same : CollectsSame t (record { joined = joined; last = none })
  joined_same k = ap (λ b. b || is_touched joined k) (new k) ∙ adds k

-- after that those of one event more stand apart
pub one_apart : (before middle : Collected) (none last : Touched) (test : ObjectKey → Bool)
    → CollectsSame before middle → AreJoined middle
    → ((k : ObjectKey) → is_touched none k ≡ false) → AddsTo test none last
    → Collects test before (record middle { last = last })
one_apart before middle none last test same joined new adds k =
    ap (λ b. b || is_touched middle.joined k)
    (adds k ∙ ap (λ b. test k || b) (new k) ∙ or-false (test k))
    ∙ ap (λ b. test k || b) (joined k ∙ same k)

-- all are, where all of the latest event or all others are
pub has_all : (t : Collected) → t.joined.all || t.last.all ≡ true → (k : ObjectKey)
    → is_collected t k ≡ true
has_all t all k =
    by t.joined.all t.last.all (finite.contains_key t.joined.keys k)
    (finite.contains_key t.last.keys k) all
  where
    by : (a b c d : Bool) → a || b ≡ true → (b || d) || (a || c) ≡ true
    by a true c d is = refl
    by true false c d is = or-true d
    by false false c d is = absurd (both_answers false is refl)

-- so no others are added
pub none_more : (t : Collected) (test : ObjectKey → Bool)
    → ((k : ObjectKey) → is_collected t k ≡ true) → Collects test t t
none_more t test all k = all k ∙ sym (ap (λ b. test k || b) (all k) ∙ or-true (test k))
