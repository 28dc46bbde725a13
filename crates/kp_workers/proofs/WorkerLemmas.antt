-- One worker.
use Rattle.std.proofs.Common.{◌≡◌, ◌<◌, ◌+◌, ◌==◌, ℕ, Bool, true, false, cond, List, [], ◌∷◌, ◌++◌, length, take, get_or, None, ap, sym, subst, ◌∙◌, append_assoc, append-nil}
use Rattle.std.specs.Prelude.{Result, Ok, Err, OnOk}
use Rattle.std.specs.Result.{result_err}
use Rattle.std.proofs.lemmas.List.Elements.{filter_more}
use Rattle.kp_choice_defs.specs.Recent.{RecentParts}
use Rattle.kp_part_laws.specs.Beside.{one_by_one, own_items}
use Rattle.kp_part_laws.proofs.Beside.{done_more}
use Rattle.kp_workers.specs.Texts.{Keeps, kept_in}
use Rattle.kp_workers.specs.Workers.{GoesOn, HasDone, done_own}
use Rattle.kp_workers.specs.declared.worker.Worker.{Worker}

module _ {T : Type 0} (worker : T → ℕ) (own : ℕ) (items : List T) (n : ℕ) (x : T)
    (within : n < length items) (is : x ≡ get_or items n x) where
  -- one more item, of this worker or of another
  pub own_by : (b : Bool) → (worker x == own) ≡ b
      → own_items worker own (take (n + 1) items)
      ≡ own_items worker own (take n items) ++ cond b (x ∷ []) []
  own_by b mine =
      filter_more (λ y. worker y == own) items n x within
      ∙ ap (λ y. own_items worker own (take n items) ++ cond (worker y == own) (y ∷ []) []) (sym is)
      ∙ ap (λ c. own_items worker own (take n items) ++ cond c (x ∷ []) []) mine

module _ {T : Type 0} (worker : T → ℕ) (step : T → RecentParts → List ℕ × RecentParts) (own : ℕ)
    (items : List T) (n : ℕ) (x : T) (within : n < length items) (is : x ≡ get_or items n x) where
  -- an item of another worker
  pub goes_past : (before after : Worker) → (worker x == own) ≡ false
      → GoesOn (done_own worker step (take n items) own before.lists) before after
      → GoesOn (done_own worker step (take (n + 1) items) own before.lists) before after
  goes_past before after other goes =
      subst (λ xs. GoesOn (one_by_one step xs before.lists) before after)
      (sym (own_by worker own items n x within is false other
      ∙ append-nil (own_items worker own (take n items)))) goes

  -- its own
  pub goes_on : (before now after : Worker) → (worker x == own) ≡ true
      → GoesOn (done_own worker step (take n items) own before.lists) before now
      → GoesOn ((step x now.lists).0 ∷ [], (step x now.lists).1) now after
      → GoesOn (done_own worker step (take (n + 1) items) own before.lists) before after
  goes_on before now after mine goes more =
      let so_far = own_items worker own (take n items) in
      let done = one_by_one step so_far before.lists in
      let next : one_by_one step (so_far ++ x ∷ []) before.lists
      ≡ (done.0 ++ (step x now.lists).0 ∷ [], (step x now.lists).1) =
      done_more step so_far x before.lists
      ∙ ap (λ l. (done.0 ++ (step x l).0 ∷ [], (step x l).1)) (sym goes.lists) in
      subst (λ d. GoesOn d before after)
      (sym (ap (λ xs. one_by_one step xs before.lists)
      (own_by worker own items n x within is true mine) ∙ next))
      (record {
        texts = λ told keeps.
            subst (Keeps (kept_in after.texts))
            (append_assoc told done.0 ((step x now.lists).0 ∷ []))
            (more.texts (told ++ done.0) (goes.texts told keeps));
        lists = more.lists;
      })

-- what is done from no texts on
pub has_done : {E : Type 0} (result : Result (Unit {0}) E) (done : List (List ℕ) × RecentParts)
    (before after : Worker) → Keeps (kept_in before.texts) []
    → OnOk result (GoesOn done before after) → result_err result ≡ None → HasDone done after
has_done (Ok tt) done before after none goes is = record {
  texts = goes.texts [] none;
  lists = goes.lists;
}
has_done (Err e) done before after none goes is = absurd (cc)
