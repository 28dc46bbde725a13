-- Each step keeps the rule of the queue.
use Rattle.std.proofs.Common.{◌≡◌, ◌≢◌, ℕ, zero, suc, ◌+◌, ◌<◌, ◌⊎◌, inl, inr, ⊎_elim, true, true≢false, List, [], ◌∷◌, ◌++◌, filter, length, set, length-set, refl, sym, ap, subst, ◌∙◌, arith, append_assoc, le_refl, lt_irrefl}
use Rattle.std.proofs.Math.Nat.{lt_of_not-le}
use mathlib.Core.Option.{Option, some, none, some-injective, some-ne-none}
use lib.ListN.{get_elem?}
use Rattle.crossbeam_queue.specs.Fifo.{Pushes, Pops, Forks, Merges, Learns}
use Rattle.crossbeam_queue.proofs.Lists.{at_set}
use Rattle.kp_lemmas.proofs.ListFacts.{all_weaker, all_append}
use Rattle.kp_types.specs.declared.event.Event.{Event}
use Rattle.kp_history_defs.specs.declared.fed.Fed.{Fed}
use Rattle.kp_history_defs.specs.Runs.{at_number, is_of_stream, numbered}
use Rattle.kp_feed.specs.declared.rule.Known.{Known}
use Rattle.kp_feed.specs.Feeding.{Delivers, FitsFeeder, FitsTaker, FitsEnded, Fits, Kept, at_first, made_one, newcomer, ended_one, Feeds, Takes, Learned}
use Rattle.kp_feed.proofs.Events.{at_here, at_else, pushed, found, not_empty, next_number}

-- ---- Views

-- a fact holds of each view
abbrev Each : (ℕ → Known → Type 0) → List Known → Type 0
Each F views = (at : ℕ) (v : Known) → get_elem? views at ≡ some v → F at v

each_one : (F : ℕ → Known → Type 0) (v : Known) → F 0 v → Each F (v ∷ [])
each_one F v mine zero u e = subst (F 0) (some-injective v u e) mine
each_one F v mine (suc j) u e = absurd (some-ne-none u (sym e))

each_set : (F : ℕ → Known → Type 0) (views : List Known) (at : ℕ) (w : Known) → F at w
    → ((j : ℕ) (u : Known) → j ≢ at → get_elem? views j ≡ some u → F j u) → Each F (set views at w)
each_set F views at w mine others j u e =
    ⊎_elim (λ (x : (j ≡ at) × (w ≡ u)). subst (λ (y : ℕ × Known). F y.0 y.1) (λ i. (sym x.0 i, x.1 i)) mine)
    (λ (x : (j ≢ at) × (get_elem? views j ≡ some u)). others j u x.0 x.1) (at_set views at j w u e)

last_of : (views : List Known) (r : Known) (j : ℕ) (u : Known) → get_elem? (views ++ r ∷ []) j ≡ some u
    → (get_elem? views j ≡ some u) ⊎ ((j ≡ length views) × (r ≡ u))
last_of [] r zero u e = inr (refl, some-injective r u e)
last_of [] r (suc j) u e = absurd (some-ne-none u (sym e))
last_of (x ∷ views) r zero u e = inl e
last_of (x ∷ views) r (suc j) u e =
    ⊎_elim inl (λ (y : (j ≡ length views) × (r ≡ u)). inr (ap suc y.0, y.1)) (last_of views r j u e)

is_there : (views : List Known) (at : ℕ) (v : Known) → get_elem? views at ≡ some v → length views ≡ 0 → ⊥
is_there [] at v e empty = some-ne-none v (sym e)
is_there (x ∷ views) at v e empty = lt_irrefl 0 (subst (λ n. 0 < n) empty (omega arith))

module _ (pass : ℕ → Option ℕ) (at : ℕ) (p : ℕ) (mine : pass p ≡ some at) where
  -- a feeder of another pass is another
  apart : (q j : ℕ) → j ≢ at → pass q ≡ some j → q ≢ p
  apart q j other is same = other (some-injective j at (sym is ∙ ap pass same ∙ mine))

  -- and so is one that has none
  apart_none : (q : ℕ) → pass q ≡ none → q ≢ p
  apart_none q is same = some-ne-none at (sym mine ∙ ap pass (sym same) ∙ is)

-- ---- The first state

pub begins : Kept [] (at_first ∷ [])
begins = (
  λ p. none,
  λ p. [],
  [],
  λ p. refl,
  each_one (Fits (λ p. none) (λ p. []) []) at_first ((λ may. absurd (true≢false (sym may))), λ first. (refl, (λ p le. (refl, refl)), tt)),
)

-- ---- A push

pub feeds : (n at : ℕ) (v : Known) (f : Fed) → v.feeds ≡ true → v.feeder ≡ f.feeder → f.number ≡ suc (length v.fed)
    → Pushes Kept n at v f (Feeds v f)
feeds n at v f may by number items views _ (pass, fed, taken, whole, all) here =
    let w : Known = record v { fed = v.fed ++ f.event ∷ [] } in
    let mine = (all at v here).0 may in
    let now : ℕ → List Event = at_number fed f.feeder (fed f.feeder ++ f.event ∷ []) in
    let own : v.fed ≡ fed f.feeder = mine.1 ∙ ap fed by in
    let seat : pass f.feeder ≡ some at = ap pass (sym by) ∙ mine.0 in
    let taker : (j : ℕ) (u : Known) → FitsTaker pass fed taken j u → FitsTaker pass now taken j u = λ j u fits first.
    let t = fits first in (
      t.0,
      (λ p le. ((t.1 p le).0, at_else fed f.feeder (fed f.feeder ++ f.event ∷ []) p (apart_none pass at f.feeder seat p (t.1 p le).0) ∙ (t.1 p le).1)),
      all_weaker (FitsEnded pass fed u.made) (FitsEnded pass now u.made)
          (λ e x. (x.0, x.1 ∙ sym (at_else fed f.feeder (fed f.feeder ++ f.event ∷ []) e.feeder (apart_none pass at f.feeder seat e.feeder x.0)), x.2)) u.ended t.2,
    ) in (
      w,
      (
        pass,
        now,
        taken,
        λ p. ap (filter (is_of_stream p)) (sym (append_assoc taken items (f ∷ [])))
            ∙ pushed (taken ++ items) fed f (number ∙ ap (λ l. suc (length l)) own) whole p,
        each_set (Fits pass now taken) views at w
            ((λ _. (mine.0, ap (λ l. l ++ f.event ∷ []) own ∙ sym (at_here fed f.feeder (fed f.feeder ++ f.event ∷ [])) ∙ ap now (sym by))), taker at w (all at v here).1)
            (λ j u other e. (
              (λ feeds. let theirs = (all j u e).0 feeds in
                  (theirs.0, theirs.1 ∙ sym (at_else fed f.feeder (fed f.feeder ++ f.event ∷ []) u.feeder (apart pass at f.feeder seat u.feeder j other theirs.0)))),
              taker j u (all j u e).1,
            )),
      ),
      refl,
    )

-- ---- A pop

pub takes : (at : ℕ) (v : Known) → at ≡ 0 → Pops Kept at v (Takes v)
takes at v first f items views (pass, fed, taken, whole, all) here =
    let w : Known = record v { taken = v.taken ++ f ∷ [] } in
    let mine = (all at v here).1 first in
    let stands : filter (is_of_stream f.feeder) v.taken ++ f ∷ filter (is_of_stream f.feeder) items ≡ numbered f.feeder 0 (fed f.feeder) =
    sym (found v.taken items f) ∙ ap (λ l. filter (is_of_stream f.feeder) (l ++ f ∷ items)) mine.0 ∙ whole f.feeder in
    let zero_more : 0 + length (filter (is_of_stream f.feeder) v.taken) ≡ length (filter (is_of_stream f.feeder) v.taken) = omega arith in (
      w,
      (
        pass,
        fed,
        taken ++ f ∷ [],
        λ p. ap (filter (is_of_stream p)) (append_assoc taken (f ∷ []) items) ∙ whole p,
        each_set (Fits pass fed (taken ++ f ∷ [])) views at w
            ((all at v here).0, λ _. (ap (λ l. l ++ f ∷ []) mine.0, mine.1, mine.2))
            (λ j u other e. ((all j u e).0, λ zero. absurd (other (zero ∙ sym first)))),
      ),
      (
        refl,
        (
          next_number f.feeder 0 (filter (is_of_stream f.feeder) v.taken) (filter (is_of_stream f.feeder) items) f (fed f.feeder) stands ∙ ap suc zero_more,
          lt_of_not-le (λ le. not_empty (filter (is_of_stream f.feeder) v.taken) (filter (is_of_stream f.feeder) items) f
              (stands ∙ ap (numbered f.feeder 0) (mine.1 f.feeder le).1)),
        ),
      ),
    )

pub learns : (at : ℕ) (v : Known) → at ≡ 0 → Learns Kept at v (Learned v)
learns at v first items views (pass, fed, taken, whole, all) here =
    let mine = (all at v here).1 first in
    let mine_whole : (p : ℕ) → Delivers (v.taken ++ items) p (fed p) = λ p. ap (λ l. filter (is_of_stream p) (l ++ items)) mine.0 ∙ whole p in (
      all_weaker (FitsEnded pass fed v.made) (λ e. Delivers (v.taken ++ items) e.feeder e.fed)
          (λ e x. mine_whole e.feeder ∙ ap (numbered e.feeder 0) (sym x.1)) v.ended mine.2,
      λ p le. mine_whole p ∙ ap (numbered p 0) (mine.1 p le).1,
    )

-- ---- A feeder is made

pub makes : (at : ℕ) (v : Known) → at ≡ 0 → Forks Kept at v (made_one v) (newcomer v)
makes at v first items views (pass, fed, taken, whole, all) here =
    let mine = (all at v here).1 first in
    let vs : List Known = set views at (made_one v) in
    let now : ℕ → Option ℕ = at_number pass v.made (some (length vs)) in
    let empty = mine.1 v.made (le_refl v.made) in
    let feeder : (j : ℕ) (u : Known) → FitsFeeder pass fed j u → FitsFeeder now fed j u = λ j u fits feeds.
    let theirs = fits feeds in
    let other : u.feeder ≢ v.made = λ same. some-ne-none j (sym theirs.0 ∙ ap pass same ∙ empty.0) in
    (at_else pass v.made (some (length vs)) u.feeder other ∙ theirs.0, theirs.1) in
    let old : Each (Fits now fed taken) vs = each_set (Fits now fed taken) views at (made_one v) (
      feeder at v (all at v here).0,
      λ _. (
        mine.0,
        (λ p le. (at_else pass v.made (some (length vs)) p (λ same. lt_irrefl v.made (subst (λ n. v.made < n) same le)) ∙ (mine.1 p (omega arith)).0, (mine.1 p (omega arith)).1)),
        all_weaker (FitsEnded pass fed v.made) (FitsEnded now fed (suc v.made))
            (λ e x. (at_else pass v.made (some (length vs)) e.feeder (λ same. lt_irrefl v.made (subst (λ n. n < v.made) same x.2)) ∙ x.0, x.1, omega arith)) v.ended mine.2,
      ),
    )
    (λ j u other e. (feeder j u (all j u e).0, λ zero. absurd (other (zero ∙ sym first)))) in
    let new : (j : ℕ) → j ≡ length vs → Fits now fed taken j (newcomer v) = λ j last. (
      (λ _. (at_here pass v.made (some (length vs)) ∙ ap some (sym last), sym empty.1)),
      (λ zero. absurd (is_there views at v here (sym (length-set views at (made_one v)) ∙ sym last ∙ zero))),
    ) in (
      now,
      fed,
      taken,
      whole,
      λ j u e. ⊎_elim (λ x. old j u x)
          (λ (x : (j ≡ length vs) × (newcomer v ≡ u)). subst (Fits now fed taken j) x.1 (new j x.0)) (last_of vs (newcomer v) j u e),
    )

-- ---- A feeder is ended

pub ends : (at : ℕ) (v : Known) (other : ℕ) (u : Known) → at ≡ 0 → u.feeds ≡ true
    → Merges Kept at v other u (ended_one v u) at_first
ends at v other u first may items views (pass, fed, taken, whole, all) here two there =
    let mine = (all at v here).1 first in
    let both : Known = ended_one v u in
    let vs : List Known = set views at both in
    let was : get_elem? views other ≡ some u = ⊎_elim (λ x. absurd (two x.0)) (λ x. x.1) (at_set views at other both u there) in
    let theirs = (all other u was).0 may in
    let now : ℕ → Option ℕ = at_number pass u.feeder none in
    let feeder : (j : ℕ) (y : Known) → j ≢ other → FitsFeeder pass fed j y → FitsFeeder now fed j y = λ j y apart_j fits feeds.
    let x = fits feeds in
    (at_else pass u.feeder none y.feeder (apart pass other u.feeder theirs.0 y.feeder j apart_j x.0) ∙ x.0, x.1) in
    let gone : (p : ℕ) → pass p ≡ none → now p ≡ none = λ p is. at_else pass u.feeder none p (apart_none pass other u.feeder theirs.0 p is) ∙ is in
    let before : u.feeder < v.made = lt_of_not-le (λ le. some-ne-none other (sym theirs.0 ∙ (mine.1 u.feeder le).0)) in
    let taker : FitsTaker now fed taken at both = λ _. (
      mine.0,
      (λ p le. (gone p (mine.1 p le).0, (mine.1 p le).1)),
      all_append (FitsEnded now fed v.made) v.ended (record { feeder = u.feeder; fed = u.fed } ∷ [])
          (all_weaker (FitsEnded pass fed v.made) (FitsEnded now fed v.made) (λ e x. (gone e.feeder x.0, x.1, x.2)) v.ended mine.2)
          ((at_here pass u.feeder none, theirs.1, before), tt),
    ) in
    let Still : ℕ → Known → Type 0 = λ j y. j ≢ other → Fits now fed taken j y in
    let still : Each Still vs = each_set Still views at both (λ away. (feeder at v away (all at v here).0, taker))
    (λ j y not_at e away. (feeder j y away (all j y e).0, λ zero. absurd (not_at (zero ∙ sym first)))) in (
      now,
      fed,
      taken,
      whole,
      each_set (Fits now fed taken) vs other at_first
          ((λ p. absurd (true≢false (sym p))), λ zero. absurd (two (zero ∙ sym first)))
          (λ j y away e. still j y e away),
    )
