-- What the chain of an endpoint does: it marks a packet that comes from the endpoint itself, and
-- translates.
use Rattle.std.proofs.Common.{◌≡◌, ℕ, suc, Bool, true, false, List, [], ◌∷◌, Option, Some, None, refl, ap, ◌∙◌}
use Rattle.kp_base.specs.Net.{same_address, single_range}
use Rattle.kp_base.specs.declared.key.Endpoint.{Endpoint}
use Rattle.kp_types.specs.Setting.{Setting}
use Rattle.kp_types.specs.Rules.{rule_of}
use Rattle.kp_types.specs.Ports.{same_proto}
use Rattle.kp_types.specs.declared.chain.TableName.TheVariants.{Nat}
use Rattle.kp_types.specs.declared.chain.ChainAt.{ChainAt}
use Rattle.kp_types.specs.declared.rule.Match.TheVariants as match
use Rattle.kp_types.specs.declared.rule.Rule.{Rule}
use Rattle.kp_types.specs.declared.rule.Target.TheVariants as target
use Rattle.kp_types.specs.declared.walk.Ending.TheVariants as ending
use Rattle.kp_choice_defs.specs.Recent.{set_at}
use Rattle.kp_object_defs.specs.PortInfo.{PortInfo}
use Rattle.kp_table_defs.specs.Matching.{WalkState, Surroundings, tried_as, and_also, with_lists, try_all}
use Rattle.kp_table_defs.specs.Layout.{mark_masq, endpoint_chain, endpoint_rules, set_seen}
use Rattle.kp_table_defs.specs.Walk.{Outcome, and_then, found_outcome, returned_from, target_if, matched_outcome, rules_outcome, chain_outcome}
use Rattle.kp_table_defs.specs.Walk.Outcome.{Next, Ended}
use Rattle.kp_walk_laws.proofs.Matches.{rule_if, src_tried}

-- the state with the mark set where a test says so
abbrev pub marked_if : Bool → WalkState → WalkState
marked_if true s = record s { marked = true }
marked_if false s = s

-- the mark leaves the source
pub marked_source : (b : Bool) (s : WalkState) → (marked_if b s).source ≡ s.source
marked_source true s = refl
marked_source false s = refl

-- the mark leaves the number of draws
pub marked_used : (b : Bool) (s : WalkState) → (marked_if b s).used ≡ s.used
marked_used true s = refl
marked_used false s = refl

-- the mark leaves the recent lists
pub marked_lists : (b : Bool) (s : WalkState) → (marked_if b s).lists ≡ s.lists
marked_lists true s = refl
marked_lists false s = refl

-- the state in which the source was put into a recent list under session affinity
abbrev pub seen_if : Surroundings → Option ℕ → List ℕ → WalkState → WalkState
seen_if e None list s = s
seen_if e (Some seconds) list s = with_lists s (set_at s.lists list s.source e.now)

-- what the chain of an endpoint does with a packet of its port's protocol
abbrev pub sent_by : Surroundings → Setting → PortInfo → Endpoint → WalkState → Outcome
sent_by e setting i f s =
    Ended (ending.Dnat f) (endpoint_chain setting i f ∷ [])
    (seen_if e i.affinity (endpoint_chain setting i f)
    (marked_if (same_address f.address s.source) s))

module _ (e : Surroundings) (at : ChainAt → Option (List Rule))
    (mark : at (record { table = Nat; chain = mark_masq }) ≡ Some (rule_of [] target.SetMark ∷ []))
  where
    -- the chain that marks
    pub mark_outcome : (n : ℕ) (s : WalkState)
        → chain_outcome e at Nat (suc n) mark_masq s ≡ Next (record s { marked = true })
    mark_outcome n s = ap (λ o. found_outcome e (chain_outcome e at Nat n) mark_masq o s) mark

    -- a jump to it under a condition
    pub mark_by : (n : ℕ) (b : Bool) (s : WalkState)
        → target_if b (chain_outcome e at Nat (suc n)) (target.Jump mark_masq) s
        ≡ Next (marked_if b s)
    mark_by n true s = mark_outcome n s
    mark_by n false s = refl

    -- the matches of a translation hold for a packet of the port's protocol
    list_tried : (list : List ℕ) (affinity : Option ℕ) (s : WalkState)
        → try_all e (set_seen list affinity) s ≡ tried_as (seen_if e affinity list s) true
    list_tried list None s = refl
    list_tried list (Some seconds) s = refl

    translation_tried : (i : PortInfo) (list : List ℕ) (s : WalkState)
        → same_proto i.key.proto e.proto ≡ true
        → try_all e (match.Proto i.key.proto ∷ set_seen list i.affinity) s
        ≡ tried_as (seen_if e i.affinity list s) true
    translation_tried i list s h =
        ap (λ b. and_also (tried_as s b) (try_all e (set_seen list i.affinity))) h
        ∙ list_tried list i.affinity s

    -- the chain of an endpoint
    pub endpoint_outcome : (setting : Setting) (i : PortInfo) (f : Endpoint)
        → at (record { table = Nat; chain = endpoint_chain setting i f })
        ≡ Some (endpoint_rules setting i f)
        → (n : ℕ) (s : WalkState) → same_proto i.key.proto e.proto ≡ true
        → chain_outcome e at Nat (suc (suc n)) (endpoint_chain setting i f) s
        ≡ sent_by e setting i f s
    endpoint_outcome setting i f found n s proto =
        let jump : List ℕ → WalkState → Outcome = chain_outcome e at Nat (suc n) in
        let name : List ℕ = endpoint_chain setting i f in
        let own : Bool = same_address f.address s.source in
        let translate : Rule =
        rule_of (match.Proto i.key.proto ∷ set_seen name i.affinity) (target.Dnat f) in
        ap (λ o. found_outcome e jump name o s) found
        ∙ ap (λ o. returned_from name (and_then o (rules_outcome e jump (translate ∷ []))))
        (rule_if e jump s (match.Src (single_range f.address) false ∷ []) _ own
        (src_tried e jump s f.address) ∙ mark_by n own s)
        ∙ ap (λ t. returned_from name (and_then (matched_outcome jump (target.Dnat f) t)
        (λ u. Next u))) (translation_tried i name _ proto)
