-- The part of the openers that is live, step by step.
use Rattle.std.proofs.Common.{◌≡◌, ℕ, ◌≤◌, nat_lt, Bool, true, false, ◌&&◌, List, [], ◌∷◌, ◌++◌, map, filter, length, cond, Option, Some, None, option_map, is_some, count_by, refl, sym, ap, ◌∙◌, arith}
use Rattle.std.specs.Option.{option_to_list}
use Rattle.std.proofs.lemmas.List.{length-map}
use Rattle.std.proofs.lemmas.List.Sums.{length-filter}
use Rattle.kp_types.specs.declared.verdict.Verdict.{Verdict}
use Rattle.kp_types.specs.declared.verdict.Verdict.TheVariants.{To, Rejected, Dropped, LeftAlone}
use Rattle.kp_track_defs.specs.declared.flow.Connection.{Connection}
use Rattle.kp_track_defs.specs.declared.flow.Entry.{Entry}
use Rattle.kp_track_defs.specs.declared.flow.Flow.{Flow}
use Rattle.kp_track_defs.specs.Entries.{answer_by, change_first, connection_of, has_connection, is_replied_by, is_within, renewed, timeout_of}
use Rattle.kp_track_defs.specs.Kept.{Kept, at_flow, kept_answer, kept_entry, kept_heard, kept_part}
use Rattle.kp_track_defs.specs.TrackLaws.{KeptAnswers, KeptKeeps, KeptOwns, KeptOpens, KeptPasses, KeptSyncs}
use Rattle.kp_track_defs.specs.Tracking.{Opener, Tracked, after_opened, after_owned, cleared_by, entry_by, has_room, heard, heard_at, is_live, kept_opener, live_replied_by, live_with, loses, moment_at, most_openers, opener_of, owned, owned_at}
use Rattle.kp_track_defs.proofs.FirstChanged.{pass_append}
use Rattle.kp_track_defs.proofs.Liveness.{dead_later, entry_after_sync, heard_is_live, live_after_sync, live_is_within, opened_is_live}
use Rattle.kp_track_defs.proofs.OfLive.{any_passed, changed_passed, found_passed, left_passed, within_passed}

-- the entries of those that are live at a moment
abbrev live_entries : ℕ → List Opener → List Entry
live_entries now os = map (λ o. o.entry) (filter (is_live now) os)

-- what is left at a later moment
pub left_at : (n m : ℕ) (os : List Opener) → n ≤ m
    → filter (is_within m) (live_entries n os) ≡ live_entries m os
left_at n m os before =
    within_passed (λ o. o.entry) (is_within m) (is_live n) (is_live m)
    (λ o. dead_later n m o before) (λ o. live_is_within n m o) os

pub moment_rises : (n : ℕ) (f : Flow) → n ≤ moment_at n f
moment_rises n f = grind arith

left_at_flow : (t : Tracked) (f : Flow)
    → (at_flow (kept_part t) f).entries ≡ live_entries (moment_at t.moment f) t.openers
left_at_flow t f = left_at t.moment (moment_at t.moment f) t.openers (moment_rises t.moment f)

-- ---- Owned flows

answers_at : (m : ℕ) (c : Connection) (os : List Opener)
    → kept_answer c (live_entries m os) ≡ owned_at m c os
answers_at m c os =
    sym (λ i. answer_by (found_passed (λ o. o.entry) (is_live m) (has_connection c) os i)
    (found_passed (λ o. o.entry) (is_live m) (is_replied_by c) os i))

pub kept_answers : KeptAnswers
kept_answers t f =
    ap (kept_answer (connection_of f)) (left_at_flow t f)
    ∙ answers_at (moment_at t.moment f) (connection_of f) t.openers

heard_by : (m : ℕ) (q : Entry → Bool) (os : List Opener)
    → live_entries m (change_first (λ o. is_live m o && q o.entry) (heard m) os)
    ≡ change_first q (renewed m) (live_entries m os)
heard_by m q os =
    changed_passed (λ o. o.entry) (is_live m) q (heard m) (renewed m) (heard_is_live m)
    (λ o. refl) os

either_heard : (m : ℕ) (c : Connection) (os : List Opener) (a b : Bool) → b ≡ a
    → cond a (change_first (has_connection c) (renewed m) (live_entries m os))
    (change_first (is_replied_by c) (renewed m) (live_entries m os))
    ≡ live_entries m
    (cond b (change_first (live_with m c) (heard m) os)
    (change_first (live_replied_by m c) (heard m) os))
either_heard m c os true true same = sym (heard_by m (has_connection c) os)
either_heard m c os false false same = sym (heard_by m (is_replied_by c) os)
either_heard m c os true false same = cc
either_heard m c os false true same = cc

heard_all : (m : ℕ) (c : Connection) (os : List Opener)
    → kept_heard m c (live_entries m os) ≡ live_entries m (heard_at m c os)
heard_all m c os =
    either_heard m c os _ _ (any_passed (λ o. o.entry) (is_live m) (has_connection c) os)

pub kept_owns : KeptOwns
kept_owns t f =
    let m = moment_at t.moment f in
    let es : kept_heard m (connection_of f) (at_flow (kept_part t) f).entries ≡ live_entries m (heard_at m (connection_of f) t.openers) =
    ap (kept_heard m (connection_of f)) (left_at_flow t f)
    ∙ heard_all m (connection_of f) t.openers in
    λ i. record { entries = es i; moment = m }

-- ---- Flows that open

live_count : (m : ℕ) (os : List Opener) → length (live_entries m os) ≡ count_by (is_live m) os
live_count m os = length-map _ _ ∙ length-filter (is_live m) os

room_is : (t : Tracked) (f : Flow)
    → nat_lt (length (at_flow (kept_part t) f).entries) most_openers
    ≡ has_room (moment_at t.moment f) t.openers
room_is t f =
    ap (λ n. nat_lt n most_openers)
    (ap length (left_at_flow t f) ∙ live_count (moment_at t.moment f) t.openers)

entry_is : (t : Tracked) (f : Flow) (verdict : Verdict)
    → kept_entry (kept_part t) f verdict
    ≡ cond (has_room (moment_at t.moment f) t.openers) (entry_by (moment_at t.moment f) f verdict) None
entry_is t f verdict = ap (λ r. cond r (entry_by (moment_at t.moment f) f verdict) None) (room_is t f)

same_keeps : (r : Bool) (e : Option Entry)
    → is_some (cond r e None) ≡ is_some (cond r (option_map opener_of e) None)
same_keeps true None = refl
same_keeps true (Some e) = refl
same_keeps false e = refl

pub kept_keeps : KeptKeeps
kept_keeps t f verdict =
    ap is_some (entry_is t f verdict)
    ∙ same_keeps (has_room (moment_at t.moment f) t.openers) (entry_by (moment_at t.moment f) f verdict)

-- an opener that is kept is live
one_opened : (m : ℕ) (f : Flow) (r : Bool) (verdict : Verdict)
    → option_to_list (cond r (entry_by m f verdict) None)
    ≡ live_entries m (option_to_list (cond r (option_map opener_of (entry_by m f verdict)) None))
one_opened m f true (To endpoint masked) =
    let e : Entry = record { connection = connection_of f; endpoint = endpoint; masked = masked; latest = m } in
    sym (λ i. map (λ (o : Opener). o.entry) (cond (opened_is_live m (timeout_of f.packet.proto) i) (opener_of e ∷ []) []))
one_opened m f true Rejected = refl
one_opened m f true Dropped = refl
one_opened m f true LeftAlone = refl
one_opened m f false verdict = refl

entries_append : (m : ℕ) (os ps : List Opener)
    → live_entries m (os ++ ps) ≡ live_entries m os ++ live_entries m ps
entries_append m os ps =
    ap (map (λ (o : Opener). o.entry)) (pass_append (is_live m) os ps)
    ∙ map_append (filter (is_live m) os) (filter (is_live m) ps)
  where
    map_append : (xs ys : List Opener) → map (λ (o : Opener). o.entry) (xs ++ ys) ≡ map (λ (o : Opener). o.entry) xs ++ map (λ (o : Opener). o.entry) ys
    map_append [] ys = refl
    map_append (x ∷ xs) ys = ap (λ zs. x.entry ∷ zs) (map_append xs ys)

pub kept_opens : KeptOpens
kept_opens t f verdict =
    let m = moment_at t.moment f in
    let es : (at_flow (kept_part t) f).entries ++ option_to_list (kept_entry (kept_part t) f verdict) ≡ live_entries m (t.openers ++ option_to_list (kept_opener t f verdict)) =
    (λ i. left_at_flow t f i ++ option_to_list (entry_is t f verdict i))
    ∙ ap (λ es. live_entries m t.openers ++ es) (one_opened m f (has_room m t.openers) verdict)
    ∙ sym (entries_append m t.openers (option_to_list (kept_opener t f verdict))) in
    λ i. record { entries = es i; moment = m }

-- ---- All steps

either : (a b : Bool) (x y : Kept) (s u : Tracked) → a ≡ b → x ≡ kept_part s → y ≡ kept_part u
    → cond a x y ≡ kept_part (cond b s u)
either true true x y s u same first second = first
either false false x y s u same first second = second
either true false x y s u same first second = cc
either false true x y s u same first second = cc

pub kept_passes : KeptPasses
kept_passes t f verdict =
    either _ (is_some (owned t f)) _ _ (after_owned t f) (after_opened t f verdict)
    (ap is_some (kept_answers t f)) (kept_owns t f) (kept_opens t f verdict)

pub kept_syncs : KeptSyncs
kept_syncs t stands =
    let es = left_passed (λ o. o.entry) (loses stands) (is_live t.moment) (cleared_by stands)
    (λ o. live_after_sync stands t.moment o) (λ o. entry_after_sync stands o) t.openers in
    λ i. record { entries = sym es i; moment = t.moment }
