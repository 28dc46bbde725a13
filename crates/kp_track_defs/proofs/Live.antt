-- How many openers are live.
use Rattle.std.proofs.Common.{◌≡◌, ℕ, ◌+◌, ◌≤◌, nat_lt, Bool, true, false, ◌&&◌, List, [], ◌∷◌, filter, length, cond, Option, Some, None, option_map, is_some, ◌⊎◌, inl, inr, subst, refl, sym, ap, ◌∙◌, arith, length-append}
use Rattle.std.specs.List.{list_any}
use Rattle.std.specs.Option.{option_to_list}
use Rattle.std.proofs.lemmas.Bool.{and_from, and_parts}
use Rattle.std.proofs.lemmas.Bool.Decides.{nat_tests}
use Rattle.std.proofs.lemmas.List.Sums.{length-filter}
use Rattle.kp_base.specs.declared.key.Endpoint.{Endpoint}
use Rattle.kp_types.specs.declared.verdict.Verdict.{Verdict}
use Rattle.kp_types.specs.declared.verdict.Verdict.TheVariants.{To, Rejected, Dropped, LeftAlone}
use Rattle.kp_track_defs.specs.declared.flow.Connection.{Connection}
use Rattle.kp_track_defs.specs.declared.flow.Entry.{Entry}
use Rattle.kp_track_defs.specs.declared.flow.Flow.{Flow}
use Rattle.kp_track_defs.specs.Entries.{answer_by, change_first, connection_of, has_connection, same_connection}
use Rattle.kp_track_defs.specs.Steps.{Step, Passed, Synced, after_step, after_steps, tracked_after}
use Rattle.kp_track_defs.specs.TrackLaws.{FewLive, OneOwner}
use Rattle.kp_track_defs.specs.Tracking.{Opener, Tracked, after_opened, after_owned, after_sync, cleared_by, entry_by, has_room, heard, heard_at, is_live, kept_opener, live_replied_by, live_with, moment_at, most_openers, nothing_tracked, opener_of, owned}
use Rattle.kp_track_defs.proofs.Connections.{same_connection_exact}
use Rattle.kp_track_defs.proofs.FirstChanged.{fewer, fewer_of_changed, fewer_of_map, none_passes_unfound, pass_append}
use Rattle.kp_track_defs.proofs.Liveness.{entry_after_sync, live_after_sync, live_before}
use Rattle.kp_track_defs.proofs.Parts.{moment_rises}

-- how many pass, among those of a state at its moment
abbrev passing : (ℕ → Opener → Bool) → Tracked → ℕ
passing p t = length (filter (p t.moment) t.openers)

-- A test of live openers: it fails later where it failed before, hearing of a flow and a sync make
-- nobody pass.
record IsOfLive (p : ℕ → Opener → Bool) : Type 0 where
  before : (n m : ℕ) (o : Opener) → n ≤ m → p m o ≡ true → p n o ≡ true
  heard : (m : ℕ) (o : Opener) → is_live m o ≡ true → p m (heard m o) ≡ true → p m o ≡ true
  synced : (stands : Endpoint → Bool) (m : ℕ) (o : Opener) → p m (cleared_by stands o) ≡ true → p m o ≡ true

module _ (p : ℕ → Opener → Bool) (is : IsOfLive p) where
  heard_fewer : (m : ℕ) (c : Connection) (os : List Opener)
      → length (filter (p m) (heard_at m c os)) ≤ length (filter (p m) os)
  heard_fewer m c os = by_test (list_any (live_with m c) os)
    where
      by_test : (b : Bool) → length (filter (p m) (cond b (change_first (live_with m c) (heard m) os) (change_first (live_replied_by m c) (heard m) os))) ≤ length (filter (p m) os)
      by_test true =
          fewer_of_changed (p m) (live_with m c) (heard m) (λ o passes. is.heard m o (and_parts _ _ passes).0) os
      by_test false =
          fewer_of_changed (p m) (live_replied_by m c) (heard m) (λ o passes. is.heard m o (and_parts _ _ passes).0) os

  later_fewer : (n m : ℕ) (os : List Opener) → n ≤ m
      → length (filter (p m) os) ≤ length (filter (p n) os)
  later_fewer n m os later = fewer (p m) (p n) (λ o. is.before n m o later) os

  owned_fewer : (t : Tracked) (f : Flow) → passing p (after_owned t f) ≤ passing p t
  owned_fewer t f =
      let m = moment_at t.moment f in
      let first = heard_fewer m (connection_of f) t.openers in
      let second = later_fewer t.moment m t.openers (moment_rises t.moment f) in
      omega (arith, first, second)

  synced_fewer : (t : Tracked) (stands : Endpoint → Bool) → passing p (after_sync stands t) ≤ passing p t
  synced_fewer t stands =
      fewer_of_map (p t.moment) (cleared_by stands) (λ o. is.synced stands t.moment o) t.openers

  opened_is : (t : Tracked) (f : Flow) (verdict : Verdict)
      → passing p (after_opened t f verdict)
      ≡ length (filter (p (moment_at t.moment f)) t.openers)
      + length (filter (p (moment_at t.moment f)) (option_to_list (kept_opener t f verdict)))
  opened_is t f verdict =
      ap length (pass_append (p (moment_at t.moment f)) t.openers (option_to_list (kept_opener t f verdict)))
      ∙ length-append (filter (p (moment_at t.moment f)) t.openers) _

-- ---- Live ones

live_passes : IsOfLive is_live
live_passes = record {
  before = live_before;
  heard = λ m o live passes. live;
  synced = λ stands m o passes. (and_parts _ _ (sym (live_after_sync stands m o) ∙ passes)).0;
}

at_most_one : (p : Opener → Bool) (o : Option Opener) → length (filter p (option_to_list o)) ≤ 1
at_most_one p None = omega arith
at_most_one p (Some o) = by_test (p o)
  where
    by_test : (b : Bool) → length (cond b (o ∷ []) []) ≤ 1
    by_test true = omega arith
    by_test false = omega arith

-- one more where there is room
one_more : (p : Opener → Bool) (n : ℕ) (r : Bool) (o : Option Opener) → nat_lt n most_openers ≡ r → n ≤ most_openers
    → n + length (filter p (option_to_list (cond r o None))) ≤ most_openers
one_more p n true o room few = let most = at_most_one p o in let some : n + 1 ≤ most_openers = grind (arith, nat_tests) in omega (arith, most, some)
one_more p n false o room few = omega (arith, few)

few_opened : (t : Tracked) (f : Flow) (verdict : Verdict) → passing is_live t ≤ most_openers
    → passing is_live (after_opened t f verdict) ≤ most_openers
few_opened t f verdict few =
    let m = moment_at t.moment f in
    let fewer_now = later_fewer is_live live_passes t.moment m t.openers (moment_rises t.moment f) in
    let room : nat_lt (length (filter (is_live m) t.openers)) most_openers ≡ has_room m t.openers =
    ap (λ n. nat_lt n most_openers) (length-filter (is_live m) t.openers) in
    let all = one_more (is_live m) (length (filter (is_live m) t.openers)) _ (option_map opener_of (entry_by m f verdict)) room (omega (arith, fewer_now, few)) in
    omega (arith, opened_is is_live live_passes t f verdict, all)

either_few : (p : ℕ → Opener → Bool) (n : ℕ) (b : Bool) (s u : Tracked) → (b ≡ true → passing p s ≤ n)
    → (b ≡ false → passing p u ≤ n) → passing p (cond b s u) ≤ n
either_few p n true s u first second = first refl
either_few p n false s u first second = second refl

few_step : (t : Tracked) (step : Step) → passing is_live t ≤ most_openers
    → passing is_live (after_step t step) ≤ most_openers
few_step t (Passed f verdict) few =
    either_few is_live most_openers (is_some (owned t f)) (after_owned t f) (after_opened t f verdict)
    (λ _. let fewer_now = owned_fewer is_live live_passes t f in omega (arith, fewer_now, few))
    (λ _. few_opened t f verdict few)
few_step t (Synced stands) few =
    let fewer_now = synced_fewer is_live live_passes t stands in omega (arith, fewer_now, few)

few_steps : (t : Tracked) (steps : List Step) → passing is_live t ≤ most_openers
    → passing is_live (after_steps t steps) ≤ most_openers
few_steps t [] few = few
few_steps t (step ∷ steps) few = few_steps (after_step t step) steps (few_step t step few)

pub few_live : FewLive
few_live steps =
    let t = tracked_after steps in
    let few = few_steps nothing_tracked steps (omega arith) in
    subst (λ n. n ≤ most_openers) (length-filter (is_live t.moment) t.openers) few

-- ---- Those of one connection

connected : (c : Connection) → IsOfLive (λ m o. live_with m c o)
connected c = record {
  before = λ n m o later passes.
      let both = and_parts _ _ passes in
      and_from _ _ (live_before n m o later both.0) both.1;
  heard = λ m o live passes. let both = and_parts _ _ passes in and_from _ _ live both.1;
  synced = λ stands m o passes.
      let both = and_parts _ _ passes in
      let live = and_parts _ _ (sym (live_after_sync stands m o) ∙ both.0) in
      and_from _ _ live.0 (sym (ap (has_connection c) (entry_after_sync stands o)) ∙ both.1);
}

nobody : (o r : Option Entry) → is_some (answer_by o r) ≡ false → o ≡ None
nobody None r h = refl
nobody (Some e) r h = cc

unmapped : {A B : Type 0} (f : A → B) (o : Option A) → option_map f o ≡ None → o ≡ None
unmapped f None h = refl
unmapped f (Some x) h = cc

-- of a flow that opens nobody has the connection
none_before : (t : Tracked) (f : Flow) → is_some (owned t f) ≡ false
    → filter (live_with (moment_at t.moment f) (connection_of f)) t.openers ≡ []
none_before t f h =
    none_passes_unfound _ t.openers (unmapped (λ (o : Opener). o.entry) _ (nobody _ _ h))

-- without the second of two tests nothing passes
none_without : {A : Type 0} (a b : Bool) (x : A) → b ≡ false → length (cond (a && b) (x ∷ []) []) ≡ 0
none_without true true x h = cc
none_without true false x h = refl
none_without false b x h = refl

-- the opener that is kept of a flow has its connection
kept_connection : (m : ℕ) (f : Flow) (c : Connection) (r : Bool) (verdict : Verdict)
    → (length (filter (live_with m c) (option_to_list (cond r (option_map opener_of (entry_by m f verdict)) None))) ≡ 0)
    ⊎ (same_connection (connection_of f) c ≡ true)
kept_connection m f c true (To endpoint masked) = by_test (same_connection (connection_of f) c) refl
  where
    e : Entry
    e = record { connection = connection_of f; endpoint = endpoint; masked = masked; latest = m }

    by_test : (b : Bool) → same_connection (connection_of f) c ≡ b → (length (filter (live_with m c) (opener_of e ∷ [])) ≡ 0) ⊎ (same_connection (connection_of f) c ≡ true)
    by_test true h = inr h
    by_test false h = inl (none_without (is_live m (opener_of e)) (same_connection (connection_of f) c) (opener_of e) h)
kept_connection m f c true Rejected = inl refl
kept_connection m f c true Dropped = inl refl
kept_connection m f c true LeftAlone = inl refl
kept_connection m f c false verdict = inl refl

one_opened : (c : Connection) (t : Tracked) (f : Flow) (verdict : Verdict)
    → is_some (owned t f) ≡ false → passing (λ m o. live_with m c o) t ≤ 1
    → passing (λ m o. live_with m c o) (after_opened t f verdict) ≤ 1
one_opened c t f verdict opens few =
    let m = moment_at t.moment f in
    let is = opened_is (λ m o. live_with m c o) (connected c) t f verdict in
    let fewer_now = later_fewer (λ m o. live_with m c o) (connected c) t.moment m t.openers (moment_rises t.moment f) in
    elim (kept_connection m f c (has_room m t.openers) verdict) [
      | inl none ↦ omega (arith, is, fewer_now, few, none)
      | inr same ↦
          let one = same_connection_exact (connection_of f) c same in
          let none : length (filter (live_with m c) t.openers) ≡ 0 =
          subst (λ d. length (filter (live_with m d) t.openers) ≡ 0) one (ap length (none_before t f opens)) in
          let most = at_most_one (live_with m c) (kept_opener t f verdict) in
          omega (arith, is, none, most)
    ]

one_step : (c : Connection) (t : Tracked) (step : Step) → passing (λ m o. live_with m c o) t ≤ 1
    → passing (λ m o. live_with m c o) (after_step t step) ≤ 1
one_step c t (Passed f verdict) few =
    either_few (λ m o. live_with m c o) 1 (is_some (owned t f)) (after_owned t f) (after_opened t f verdict)
    (λ _. let fewer_now = owned_fewer (λ m o. live_with m c o) (connected c) t f in omega (arith, fewer_now, few))
    (λ opens. one_opened c t f verdict opens few)
one_step c t (Synced stands) few =
    let fewer_now = synced_fewer (λ m o. live_with m c o) (connected c) t stands in omega (arith, fewer_now, few)

one_steps : (c : Connection) (t : Tracked) (steps : List Step) → passing (λ m o. live_with m c o) t ≤ 1
    → passing (λ m o. live_with m c o) (after_steps t steps) ≤ 1
one_steps c t [] few = few
one_steps c t (step ∷ steps) few = one_steps c (after_step t step) steps (one_step c t step few)

pub one_owner : OneOwner
one_owner steps c =
    let t = tracked_after steps in
    let few = one_steps c nothing_tracked steps (omega arith) in
    subst (λ n. n ≤ 1) (length-filter (live_with t.moment c) t.openers) few
