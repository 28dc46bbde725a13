-- What a flow is answered, and what is left, call by call.
use Rattle.std.proofs.Common.{◌≡◌, ℕ, nat_lt, Bool, true, false, ◌||◌, List, [], ◌∷◌, ◌++◌, map, length, cond, Option, Some, None, option_map, is_some, refl, sym, ap, ◌∙◌}
use Rattle.std.specs.List.{find, list_any}
use Rattle.std.specs.Option.{option_to_list}
use Rattle.std.proofs.lemmas.List.{append-nil}
use Rattle.kp_types.specs.declared.verdict.Verdict.{Verdict}
use Rattle.kp_types.specs.declared.verdict.Verdict.TheVariants.{To, Rejected, Dropped, LeftAlone}
use Rattle.kp_track_defs.specs.declared.flow.Connection.{Connection}
use Rattle.kp_track_defs.specs.declared.flow.Entry.{Entry}
use Rattle.kp_track_defs.specs.declared.flow.Flow.{Flow}
use Rattle.kp_track_defs.specs.declared.flow.Owned.{Owned}
use Rattle.kp_track_defs.specs.Entries.{answer_by, change_first, connection_of, has_connection, is_replied_by, renewed}
use Rattle.kp_track_defs.specs.Kept.{Kept, at_flow, kept_after_owned, kept_answer, kept_heard, kept_owned}
use Rattle.kp_conntrack.specs.Laid.{as_door, as_later, with_found}

pub any_is : (test : Entry → Bool) (es : List Entry) → list_any test es ≡ is_some (find test es)
any_is test [] = refl
any_is test (e ∷ es) = step (test e) (any_is test es)
  where
    step : (b : Bool) → list_any test es ≡ is_some (find test es) → (b || list_any test es) ≡ is_some (cond b (Some e) (find test es))
    step true more = refl
    step false more = more

-- where nothing is found, nothing changes
pub unchanged : (test : Entry → Bool) (now : ℕ) (es : List Entry) → find test es ≡ None → change_first test (renewed now) es ≡ es
unchanged test now [] missed = refl
unchanged test now (e ∷ es) missed = step (test e) missed (unchanged test now es)
  where
    step : (t : Bool) → cond t (Some e) (find test es) ≡ None → (find test es ≡ None → change_first test (renewed now) es ≡ es)
        → cond t (renewed now e ∷ es) (e ∷ change_first test (renewed now) es) ≡ e ∷ es
    step true missed more = cc
    step false missed more = ap (λ xs. e ∷ xs) (more missed)

-- the first of two is answered
answered_first : (a b : Option Entry) (o : Owned) → option_map as_later a ≡ Some o → answer_by a b ≡ Some o
answered_first None b o h = cc
answered_first (Some e) b o h = h

answered_second : (a b : Option Entry) → option_map as_later a ≡ None → answer_by a b ≡ option_map as_door b
answered_second None None h = refl
answered_second None (Some e) h = refl
answered_second (Some e) b h = cc

some_mapped : (a : Option Entry) (o : Owned) → option_map as_later a ≡ Some o → is_some a ≡ true
some_mapped None o h = cc
some_mapped (Some e) o h = refl

pub none_mapped : (a : Option Entry) → option_map as_later a ≡ None → a ≡ None
none_mapped None h = refl
none_mapped (Some e) h = cc

module _ (k : Kept) (c : Connection) where
  -- where the connection is found
  pub later_answer : (o : Owned) → option_map as_later (find (has_connection c) k.entries) ≡ Some o → kept_answer c k.entries ≡ Some o
  later_answer o h = answered_first (find (has_connection c) k.entries) (find (is_replied_by c) k.entries) o h

  pub later_heard : (o : Owned) → option_map as_later (find (has_connection c) k.entries) ≡ Some o
      → kept_heard k.moment c k.entries ≡ change_first (has_connection c) (renewed k.moment) k.entries
  later_heard o h =
      let found = any_is (has_connection c) k.entries ∙ some_mapped _ o h in
      λ i. cond (found i) (change_first (has_connection c) (renewed k.moment) k.entries) (change_first (is_replied_by c) (renewed k.moment) k.entries)

  -- and where it isn't
  pub reply_answer : option_map as_later (find (has_connection c) k.entries) ≡ None
      → kept_answer c k.entries ≡ option_map as_door (find (is_replied_by c) k.entries)
  reply_answer h = answered_second (find (has_connection c) k.entries) (find (is_replied_by c) k.entries) h

  pub reply_heard : option_map as_later (find (has_connection c) k.entries) ≡ None
      → kept_heard k.moment c k.entries ≡ change_first (is_replied_by c) (renewed k.moment) k.entries
  reply_heard h =
      let missed = any_is (has_connection c) k.entries ∙ ap is_some (none_mapped _ h) in
      λ i. cond (missed i) (change_first (has_connection c) (renewed k.moment) k.entries) (change_first (is_replied_by c) (renewed k.moment) k.entries)

-- ---- What a flow is answered

module _ (k : Kept) (f : Flow) (a : Kept) (c : Connection) (at : a ≡ at_flow k f) (is : c ≡ connection_of f) where
  -- where its connection is open
  pub owned_later : (o : Owned) (s : Kept) → Some o ≡ option_map as_later (find (has_connection c) a.entries)
      → s ≡ with_found (has_connection c) a → s ≡ kept_after_owned k f
  owned_later o s answer after =
      let now = sym (answer ∙ (λ i. option_map as_later (find (has_connection (is i)) (at i).entries))) in
      let heard = later_heard (at_flow k f) (connection_of f) o now in
      after ∙ (λ i. with_found (has_connection (is i)) (at i))
      ∙ sym (λ i. record { entries = heard i; moment = (at_flow k f).moment })

  module _ (none : None ≡ option_map as_later (find (has_connection c) a.entries)) (b : Kept) (same : b ≡ with_found (has_connection c) a) where
    none_now : option_map as_later (find (has_connection (connection_of f)) (at_flow k f).entries) ≡ None
    none_now = sym (none ∙ (λ i. option_map as_later (find (has_connection (is i)) (at i).entries)))

    stays : b ≡ at_flow k f
    stays =
        let es = unchanged (has_connection (connection_of f)) (at_flow k f).moment (at_flow k f).entries (none_mapped _ none_now) in
        same ∙ (λ i. with_found (has_connection (is i)) (at i))
        ∙ (λ i. record { entries = es i; moment = (at_flow k f).moment })

    -- where it isn't, its replies may be
    pub owned_reply : (o : Option Owned) → o ≡ option_map as_door (find (is_replied_by c) b.entries) → o ≡ kept_owned k f
    owned_reply o answer =
        answer ∙ (λ i. option_map as_door (find (is_replied_by (is i)) (stays i).entries))
        ∙ sym (reply_answer (at_flow k f) (connection_of f) none_now)

    pub owned_reply_after : (s : Kept) → s ≡ with_found (is_replied_by c) b → s ≡ kept_after_owned k f
    owned_reply_after s after =
        let heard = reply_heard (at_flow k f) (connection_of f) none_now in
        after ∙ (λ i. with_found (is_replied_by (is i)) (stays i))
        ∙ sym (λ i. record { entries = heard i; moment = (at_flow k f).moment })
