-- One worker's lists among those of all.
use Rattle.std.proofs.Common.{◌≡◌, ◌<◌, ◌%◌, ◌==◌, ℕ, zero, suc, Bool, true, false, cond, List, ◌++◌, length, get_or, set, slice_get, replicate, Some, None, IfSome, ap, sym, subst, refl, ◌∙◌, arith}
use Rattle.std.specs.FinMap.{empty, get}
use Rattle.std.specs.Prelude.{Result, Ok, Err, IfOk, OnOk}
use Rattle.std.proofs.lemmas.Bool.Decides.{nat_tests}
use Rattle.std.proofs.Math.ListN.{get_or-map}
use Rattle.std.proofs.lemmas.List.{length-map, length-set, map-set}
use Rattle.std.proofs.lemmas.Nat.{mod_below}
use Rattle.std.proofs.lemmas.Option.{slice_get-get_or}
use Rattle.kp_base.specs.Net.{AddressParts}
use Rattle.kp_choice_defs.specs.Recent.{RecentParts, Shard}
use Rattle.kp_recent.specs.Held.{no_sources}
use Rattle.kp_part_laws.specs.Beside.{IsInPart, united, worker_of}
use Rattle.kp_part_laws.proofs.Steps.{step_sized, united_step}
use Rattle.kp_part_laws.proofs.United.{kept_get, look, same_lists, united_look, united_none}
use Rattle.kp_table_defs.specs.Walk.{Walked}
use Rattle.kp_types.specs.declared.verdict.Answer.{Answer}
use Rattle.kp_types.specs.declared.verdict.Verdict.{Verdict}
use Rattle.kp_walker.specs.Answers.{answered, names_of}
use Rattle.kp_workers.specs.Workers.{AreLike, SeesAs, lists_of, size_in, together}
use Rattle.kp_workers.specs.declared.worker.Worker.{Worker}
use Rattle.kp_workers.proofs.BesideLemmas.{own_lists, set_keeps, size_stays, stay_alike}

-- ---- Lists without sources

repeated : {A : Type 0} (n w : ℕ) (x : A) (P : A → Type 0) → P x
    → IfSome (slice_get (replicate n x) w) P
repeated zero w x P p = tt
repeated (suc n) zero x P p = p
repeated (suc n) (suc w) x P p = repeated n w x P p

first_size : (n : ℕ) (x : RecentParts) → 0 < n → size_in (replicate n x) ≡ x.size
first_size zero x some = absurd (omega (arith, some))
first_size (suc n) x some = refl

pub none_together : (values : List RecentParts) (n size : ℕ) → 0 < n
    → values ≡ replicate n (no_sources size) → together values ≡ no_sources size
none_together values n size some is =
    ap together is
    ∙ ap (λ s. united (worker_of (length (replicate n (no_sources size)))) s
    (replicate n (no_sources size))) (first_size n (no_sources size) some)
    ∙ united_none (worker_of (length (replicate n (no_sources size)))) size
    (replicate n (no_sources size))
    (λ w. repeated n w (no_sources size) (λ x. x.parts ≡ empty) refl)

-- ---- The lists of one of them

module _ (workers : List Worker) (alike : AreLike (lists_of workers)) (part : ℕ) (d : Worker) where
  abbrev place : ℕ
  place = worker_of (length workers) part

  abbrev own : RecentParts
  own = (get_or workers place d).lists

  some_workers : 0 < length workers
  some_workers = subst (λ n. 0 < n) (length-map workers (λ x. x.lists)) alike.some

  pub within : place < length workers
  within = mod_below (part % 16) (length workers) some_workers

  within_lists : place < length (lists_of workers)
  within_lists = subst (λ n. place < n) (sym (length-map workers (λ x. x.lists))) within

  own_there : slice_get (lists_of workers) place ≡ Some own
  own_there =
      slice_get-get_or (lists_of workers) place d.lists within_lists
      ∙ ap Some (get_or-map (λ x. x.lists) workers place d)

  own_sized : own.size ≡ size_in (lists_of workers)
  own_sized =
      subst (λ o. IfSome o (λ v. v.size ≡ size_in (lists_of workers))) own_there
      (alike.sized place)

  -- all of them together, by the number of workers
  together_is : together (lists_of workers)
      ≡ united (worker_of (length workers)) (size_in (lists_of workers)) (lists_of workers)
  together_is = λ i.
      united (worker_of (length-map workers (λ x. x.lists) i)) (size_in (lists_of workers))
      (lists_of workers)

  -- what a packet of a source in this part sees of them
  sees : (q : Shard) (b : Bool) → (worker_of (length workers) q.part == place) ≡ b
      → cond b (get own.parts q) None
      ≡ cond b (get (together (lists_of workers)).parts q) None
  sees q false other = refl
  sees q true same =
      let here : worker_of (length workers) q.part ≡ place = grind (arith, nat_tests) in
      sym (ap (λ (l : RecentParts). get l.parts q) together_is
      ∙ united_look (worker_of (length workers)) q (size_in (lists_of workers))
      (lists_of workers)
      ∙ ap (λ v. look q (slice_get (lists_of workers) v)) here ∙ ap (look q) own_there)

  -- the parts that it has
  abbrev has : ℕ → Bool
  has p = worker_of (length workers) p == place

  has_own : (p : ℕ) → worker_of (length workers) p ≡ place → has p ≡ true
  has_own p here = grind (arith, nat_tests)

  pub sees_own : (source : AddressParts) → source.number % 16 ≡ part
      → SeesAs source own (together (lists_of workers))
  sees_own source is = (
    has,
    has_own (source.number % 16) (ap (worker_of (length workers)) is),
    same_lists _ _ own_sized (λ q.
        kept_get has own q ∙ sees q (has q.part) refl
        ∙ sym (kept_get has (together (lists_of workers)) q)),
  )

  module _ (on : Worker) where
    abbrev others : List Worker
    others = set workers place on

    -- a step in this part
    pub step_own : {B : Type 0} (step : RecentParts → B × RecentParts) → IsInPart part step
        → on.lists ≡ (step own).1
        → step (together (lists_of workers)) ≡ ((step own).0, together (lists_of others))
    step_own step local is =
        let sized = ap (λ (l : RecentParts). l.size) is ∙ step_sized part step local own in
        let long = length-set workers place on in
        let stays = size_stays own_lists workers others long (set_keeps workers place on d sized) in
        ap step together_is
        ∙ united_step part step local (worker_of (length workers)) (size_in (lists_of workers))
        (lists_of workers) own within_lists own_there own_sized
        ∙ (λ i. (
          (step own).0,
          united
              (worker_of ((sym long ∙ sym (length-map others (λ x. x.lists))) i)) (sym stays i)
              ((ap (set (lists_of workers) place) (sym is)
              ∙ sym (map-set (λ x. x.lists) workers place on)) i),
        ))

-- what a worker is looked up by
pub sees_at : (workers : List Worker) → AreLike (lists_of workers) → (source : AddressParts)
    (count part place : ℕ) (x : Worker) (all : RecentParts) → count ≡ length workers
    → part ≡ source.number % 16 → place ≡ worker_of count part → x ≡ get_or workers place x
    → all ≡ together (lists_of workers) → SeesAs source x.lists all
sees_at workers alike source count part place x all many in_part at is whole =
    let here : place ≡ worker_of (length workers) part =
    at ∙ ap (λ n. worker_of n part) many in
    let same : x ≡ get_or workers (worker_of (length workers) part) x =
    is ∙ ap (λ p. get_or workers p x) here in
    subst (λ o. SeesAs source o all) (sym (ap (λ (y : Worker). y.lists) same))
    (subst (SeesAs source (get_or workers (worker_of (length workers) part) x).lists) (sym whole)
    (sees_own workers alike part x source (sym in_part)))

-- ---- A step of one of them

module _ (workers : List Worker) (place : ℕ) (old on : Worker)
    (here : old ≡ get_or workers place old) (same : on.lists.size ≡ old.lists.size) where
  -- its lists may change, but not their size
  pub like_after : AreLike (lists_of workers) → AreLike (lists_of (set workers place on))
  like_after alike =
      stay_alike workers (set workers place on) (length-set workers place on)
      (set_keeps workers place on old (same ∙ ap (λ (y : Worker). y.lists.size) here)) alike

  -- nor that of all lists
  pub size_after : (all : RecentParts) → all ≡ together (lists_of workers)
      → (together (lists_of (set workers place on))).size ≡ all.size
  size_after all whole =
      size_stays own_lists workers (set workers place on) (length-set workers place on)
      (set_keeps workers place on old (same ∙ ap (λ (y : Worker). y.lists.size) here))
      ∙ ap (λ (l : RecentParts). l.size) (sym whole)

module _ (workers : List Worker) (alike : AreLike (lists_of workers)) (count part place : ℕ)
    (old on : Worker) (all : RecentParts) (many : count ≡ length workers)
    (at : place ≡ worker_of count part) (here : old ≡ get_or workers place old)
    (whole : all ≡ together (lists_of workers)) where
  abbrev after : RecentParts
  after = together (lists_of (set workers place on))

  step_after : {B : Type 0} (step : RecentParts → B × RecentParts) → IsInPart part step
      → on.lists ≡ (step old.lists).1 → step all ≡ ((step old.lists).0, after)
  step_after step local is =
      let there : place ≡ worker_of (length workers) part =
      at ∙ ap (λ n. worker_of n part) many in
      let same : (get_or workers (worker_of (length workers) part) old).lists ≡ old.lists =
      ap (λ (y : Worker). y.lists) (sym (here ∙ ap (λ p. get_or workers p old) there)) in
      ap step whole
      ∙ step_own workers alike part old on step local (is ∙ ap (λ l. (step l).1) (sym same))
      ∙ (λ i. ((step (same i)).0, together (lists_of (set workers (sym there i) on))))

  -- what it tells is what all of them tell, and so are its lists
  pub told_after : {A B E : Type 0} (step : RecentParts → B × RecentParts) → IsInPart part step
      → (tell : A → B) (result : Result A E) → IfOk result (λ a. tell a ≡ (step old.lists).0)
      → OnOk result (on.lists ≡ (step old.lists).1)
      → IfOk result (λ a. tell a ≡ (step all).0) × OnOk result (after ≡ (step all).1)
  told_after step local tell (Ok a) told is =
      let did = sym (step_after step local is) in (told ∙ ap (λ r. r.0) did, ap (λ r. r.1) did)
  told_after step local tell (Err e) told is = (tt, tt)

  -- a text that it adds is that of all of them
  pub text_after : {A E : Type 0} (step : RecentParts → List ℕ × RecentParts) → IsInPart part step
      → (result : Result A E) (before now : List ℕ)
      → OnOk result (now ≡ before ++ (step old.lists).0)
      → OnOk result (on.lists ≡ (step old.lists).1)
      → OnOk result (now ≡ before ++ (step all).0) × OnOk result (after ≡ (step all).1)
  text_after step local (Ok a) before now text is =
      let did = sym (step_after step local is) in
      (text ∙ ap (λ r. before ++ r.0) did, ap (λ r. r.1) did)
  text_after step local (Err e) before now text is = (tt, tt)

  -- and so is a walk
  pub walked_after : {E : Type 0} (walk : RecentParts → Walked)
      → IsInPart {B = Verdict × List (List (List ℕ))} part (λ lists. (((walk lists).verdict, (walk lists).trail), (walk lists).lists))
      → (result : Result Answer E) → IfOk result (λ a. answered a on.lists ≡ walk old.lists)
      → IfOk result (λ a. answered a after ≡ walk all)
  walked_after walk local (Ok a) is =
      let told : ((walk all).verdict, (walk all).trail) ≡ (a.verdict, names_of a.trail) =
      ap (λ r. r.0) (step_after _ local (ap (λ (w : Walked). w.lists) is))
      ∙ sym (ap (λ (w : Walked). (w.verdict, w.trail)) is) in
      let lists = ap (λ r. r.1) (step_after _ local (ap (λ (w : Walked). w.lists) is)) in
      sym (λ i. record { verdict = (told i).0; trail = (told i).1; lists = lists i })
  walked_after walk local (Err e) is = tt
