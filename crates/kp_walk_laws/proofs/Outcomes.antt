-- Rules one after the other, and the first of them that ends a walk.
use Rattle.std.proofs.Common.{◌≡◌, inl, inr, ℕ, Bool, true, false, cond, List, [], ◌∷◌, ◌++◌, map, Contains, Option, Some, None, option_map, flat_map, refl, sym, ap, subst, ◌∙◌}
use Rattle.std.specs.List.{find}
use Rattle.std.specs.Option.{option_or}
use Rattle.std.proofs.lemmas.List.Folds.{find-append}
use Rattle.std.proofs.lemmas.Option.{same_Some}
pub use Rattle.kp_lemmas.proofs.Members.{first_in, later_in}
use Rattle.kp_lemmas.proofs.Members.{none_in, in_cases}
use Rattle.kp_lemmas.proofs.Options.{map_or, none_of_map}
use Rattle.kp_types.specs.declared.rule.Rule.{Rule}
use Rattle.kp_types.specs.declared.walk.Ending.{Ending}
use Rattle.kp_table_defs.specs.Matching.{WalkState, Surroundings}
use Rattle.kp_table_defs.specs.Walk.{Outcome, and_then, returned_from, rule_outcome, rules_outcome}
use Rattle.kp_table_defs.specs.Walk.Outcome.{Next, Left, Ended, Stuck}

-- three steps in a row
pub and_then_assoc : (o : Outcome) (f g : WalkState → Outcome)
    → and_then (and_then o f) g ≡ and_then o (λ s. and_then (f s) g)
and_then_assoc (Next s) f g = refl
and_then_assoc (Left s) f g = refl
and_then_assoc (Ended end path s) f g = refl
and_then_assoc Stuck f g = refl

-- nothing behind a step
pub and_then_next : (o : Outcome) → and_then o (λ s. Next s) ≡ o
and_then_next (Next s) = refl
and_then_next (Left s) = refl
and_then_next (Ended end path s) = refl
and_then_next Stuck = refl

module _ (e : Surroundings) (jump : List ℕ → WalkState → Outcome) where
  -- rules behind rules
  pub rules_append : (rs qs : List Rule) (s : WalkState)
      → rules_outcome e jump (rs ++ qs) s ≡ and_then (rules_outcome e jump rs s)
      (rules_outcome e jump qs)
  rules_append [] qs s = refl
  rules_append (r ∷ rs) qs s =
      ap (and_then (rule_outcome e jump r s)) (λ i t. rules_append rs qs t i)
      ∙ sym (and_then_assoc (rule_outcome e jump r s) (rules_outcome e jump rs)
      (rules_outcome e jump qs))

-- the outcome that was found, or else on
abbrev pub or_next : Option Outcome → WalkState → Outcome
or_next None s = Next s
or_next (Some o) s = o

-- an outcome behind which nothing is tried
pub record IsLast (o : Outcome) : Type 0 where
  pub stays : (next : WalkState → Outcome) → and_then o next ≡ o

pub ended_last : (end : Ending) (path : List (List ℕ)) (s : WalkState) → IsLast (Ended end path s)
ended_last end path s = record { stays = λ next. refl }

pub stuck_last : IsLast Stuck
stuck_last = record { stays = λ next. refl }

-- the first that is found ends, and the next ones count where nothing was found
or_next_append : (a b : Option Outcome) (s : WalkState) (next : WalkState → Outcome)
    → ((o : Outcome) → a ≡ Some o → IsLast o) → (a ≡ None → next s ≡ or_next b s)
    → and_then (or_next a s) next ≡ or_next (option_or a b) s
or_next_append None b s next last h = h refl
or_next_append (Some o) b s next last h = (last o refl).stays next

-- ---- Outcomes without their paths

-- an outcome without the chains that it went through
abbrev pub pathless : Outcome → Outcome
pathless (Next s) = Next s
pathless (Left s) = Left s
pathless (Ended end path s) = Ended end [] s
pathless Stuck = Stuck

-- and one with others
abbrev pub on_path : List (List ℕ) → Outcome → Outcome
on_path path (Next s) = Next s
on_path path (Left s) = Left s
on_path path (Ended end other s) = Ended end path s
on_path path Stuck = Stuck

-- two steps in a row
pub pathless_then : (o : Outcome) (f : WalkState → Outcome)
    → pathless (and_then o f) ≡ and_then (pathless o) (λ s. pathless (f s))
pathless_then (Next s) f = refl
pathless_then (Left s) f = refl
pathless_then (Ended end path s) f = refl
pathless_then Stuck f = refl

-- a chain changes nothing but the path, and whether it was left
pub pathless_returned : (chain : List ℕ) (o : Outcome)
    → pathless (returned_from chain o) ≡ pathless (returned_from chain (pathless o))
pathless_returned chain (Next s) = refl
pathless_returned chain (Left s) = refl
pathless_returned chain (Ended end path s) = refl
pathless_returned chain Stuck = refl

-- what goes on has no path
pub next_of : (o : Outcome) (s : WalkState) → pathless o ≡ Next s → o ≡ Next s
next_of (Next t) s h = h
next_of o s h = absurd (cc)

-- what ends has one
pub ended_of : (o : Outcome) (end : Ending) (s : WalkState) → pathless o ≡ Ended end [] s
    → (path : List (List ℕ)) × (o ≡ Ended end path s)
ended_of (Next t) end s h = absurd (cc)
ended_of (Left t) end s h = absurd (cc)
ended_of (Ended other path t) end s h = (path, ap (on_path path) h)
ended_of Stuck end s h = absurd (cc)

-- an outcome by a test, without its path
pub pathless_by : (o : Outcome) (b : Bool) (end : Ending) (t s : WalkState)
    → o ≡ cond b (Ended end [] t) (Next s) → pathless o ≡ cond b (Ended end [] t) (Next s)
pathless_by o true end t s h = ap pathless h
pathless_by o false end t s h = ap pathless h

-- ---- Rules and doors

-- Rules do in a state what the first of some doors does whose test holds, whatever chains they go
-- through.
pub record FindIn {D : Type 0} (test : D → Bool) (stop : D → Outcome) (e : Surroundings)
    (jump : List ℕ → WalkState → Outcome) (s : WalkState) (rules : List Rule)
    (doors : List D) : Type 0 where
  pub same : pathless (rules_outcome e jump rules s)
      ≡ or_next (option_map stop (find test doors)) s

-- A rule does in a state what a door does whose test holds.
pub record IsRuleOf {D : Type 0} (test : D → Bool) (stop : D → Outcome) (e : Surroundings)
    (jump : List ℕ → WalkState → Outcome) (s : WalkState) (r : Rule) (d : D) : Type 0 where
  pub same : pathless (rule_outcome e jump r s) ≡ cond (test d) (stop d) (Next s)

-- the first of some elements and others is that of the ones or of the others
none_before : {D : Type 0} (a b : Option D) → option_or a b ≡ None → (a ≡ None) × (b ≡ None)
none_before None b h = (refl, h)
none_before (Some d) b h = absurd (cc)

-- where nothing is found, nothing is found in a part
pub none_in_append : {D : Type 0} (test : D → Bool) (xs ys : List D)
    → find test (xs ++ ys) ≡ None → (find test xs ≡ None) × (find test ys ≡ None)
none_in_append test xs ys h = none_before _ _ (sym (find-append test xs ys) ∙ h)

none_first_by : {D : Type 0} (b : Bool) (d : D) (found : Option D) → cond b (Some d) found ≡ None
    → b ≡ false
none_first_by true d found h = absurd (cc)
none_first_by false d found h = refl

-- nor is the first element
pub none_first : {D : Type 0} (test : D → Bool) (d : D) (ds : List D)
    → find test (d ∷ ds) ≡ None → test d ≡ false
none_first test d ds h = none_first_by _ d _ h

-- nor anything in the doors of an element
pub none_in_each : {X D : Type 0} (test : D → Bool) (doors : X → List D) (xs : List X)
    → find test (flat_map doors xs) ≡ None
    → (x : X) → Contains xs x → find test (doors x) ≡ None
none_in_each test doors [] h x c = absurd (none_in x c)
none_in_each test doors (y ∷ ys) h x c =
    let parts = none_in_append test _ _ h in
    elim (in_cases x y ys c) [
      | inl is ↦ ap (λ z. find test (doors z)) (sym is) ∙ parts.0
      | inr d ↦ none_in_each test doors ys parts.1 x d
    ]

-- and where none passes, nothing is found
pub none_found : {X D : Type 0} (test : D → Bool) (door : X → D) (xs : List X)
    → ((x : X) → Contains xs x → test (door x) ≡ false) → find test (map door xs) ≡ None
none_found test door [] h = refl
none_found test door (x ∷ xs) h =
    ap (λ b. cond b (Some (door x)) (find test (map door xs))) (h x (first_in x xs))
    ∙ none_found test door xs (λ y c. h y (later_in y x xs c))

-- nothing is found in the parts, and so in the whole
pub none_appended : {D : Type 0} (test : D → Bool) (xs ys : List D)
    → find test xs ≡ None → find test ys ≡ None → find test (xs ++ ys) ≡ None
none_appended test xs ys h k =
    find-append test xs ys ∙ ap (λ a. option_or a (find test ys)) h ∙ k

pub none_in_all : {X D : Type 0} (test : D → Bool) (doors : X → List D) (xs : List X)
    → ((x : X) → Contains xs x → find test (doors x) ≡ None)
    → find test (flat_map doors xs) ≡ None
none_in_all test doors [] h = refl
none_in_all test doors (x ∷ xs) h =
    none_appended test _ _ (h x (first_in x xs))
    (none_in_all test doors xs (λ y c. h y (later_in y x xs c)))

-- what is found of the doors is last
found_last : {D : Type 0} (stop : D → Outcome) → ((d : D) → IsLast (stop d)) → (a : Option D)
    (o : Outcome) → option_map stop a ≡ Some o → IsLast o
found_last stop last None o h = absurd (cc)
found_last stop last (Some d) o h = subst IsLast (same_Some (stop d) o h) (last d)

by_test : {D : Type 0} (stop : D → Outcome) (s : WalkState) (d : D) (b : Bool)
    → cond b (stop d) (Next s) ≡ or_next (option_map stop (cond b (Some d) None)) s
by_test stop s d true = refl
by_test stop s d false = refl

-- one rule for one door
pub find_in_one : {D : Type 0} {test : D → Bool} {stop : D → Outcome} {e : Surroundings}
    {jump : List ℕ → WalkState → Outcome} {s : WalkState} {r : Rule} {d : D}
    → IsRuleOf test stop e jump s r d → FindIn test stop e jump s (r ∷ []) (d ∷ [])
find_in_one {test = test} {stop = stop} {e = e} {jump = jump} {s = s} {r = r} {d = d} h = record {
  same = ap pathless (and_then_next _) ∙ h.same ∙ by_test stop s d _;
}

module _ {D : Type 0} {test : D → Bool} {stop : D → Outcome} {e : Surroundings}
    {jump : List ℕ → WalkState → Outcome} {s : WalkState}
    (last : (d : D) → IsLast (stop d)) where
  -- rules that find in some doors, behind others, which were not found
  pub find_in_behind : {rules more : List Rule} {doors others : List D}
      → FindIn test stop e jump s rules doors
      → (find test doors ≡ None → FindIn test stop e jump s more others)
      → FindIn test stop e jump s (rules ++ more) (doors ++ others)
  find_in_behind {rules = rules} {more = more} {doors = doors} {others = others} h k =
      let next : WalkState → Outcome = λ t. pathless (rules_outcome e jump more t) in
      let found : Option D = find test doors in
      record {
        same =
            ap pathless (rules_append e jump rules more s)
            ∙ pathless_then (rules_outcome e jump rules s) (rules_outcome e jump more)
            ∙ ap (λ o. and_then o next) h.same
            ∙ or_next_append _ _ s next
            (found_last stop last found) (λ n. (k (none_of_map stop found n)).same)
            ∙ ap (λ o. or_next o s) (sym (map_or stop found _))
            ∙ ap (λ o. or_next (option_map stop o) s) (sym (find-append test doors others));
      }

  -- rules that find in some doors, behind others
  pub find_in_append : {rules more : List Rule} {doors others : List D}
      → FindIn test stop e jump s rules doors → FindIn test stop e jump s more others
      → FindIn test stop e jump s (rules ++ more) (doors ++ others)
  find_in_append h k = find_in_behind h (λ n. k)

  -- rules that find in the doors of each element
  pub find_in_each : {X : Type 0} (rules : X → List Rule) (doors : X → List D) (xs : List X)
      → ((x : X) → Contains xs x → FindIn test stop e jump s (rules x) (doors x))
      → FindIn test stop e jump s (flat_map rules xs) (flat_map doors xs)
  find_in_each rules doors [] h = record { same = refl }
  find_in_each rules doors (x ∷ xs) h =
      find_in_append (h x (first_in x xs))
      (find_in_each rules doors xs (λ y k. h y (later_in y x xs k)))

  -- a rule for each door
  pub find_in_map : {X : Type 0} (rule : X → Rule) (door : X → D) (xs : List X)
      → ((x : X) → Contains xs x → IsRuleOf test stop e jump s (rule x) (door x))
      → FindIn test stop e jump s (map rule xs) (map door xs)
  find_in_map rule door [] h = record { same = refl }
  find_in_map rule door (x ∷ xs) h =
      find_in_append (find_in_one (h x (first_in x xs)))
      (find_in_map rule door xs (λ y k. h y (later_in y x xs k)))
