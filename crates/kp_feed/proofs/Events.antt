-- What a feeder's events are after one more was fed, and which number an event has that is taken.
use Rattle.std.proofs.Common.{◌≡◌, ℕ, suc, ◌+◌, ◌==◌, Bool, true, false, true≢false, cond, List, [], ◌∷◌, ◌++◌, filter, length, get_or, drop, refl, sym, ap, ◌∙◌, arith, eq-eqb, ne_eqb, ◌≢◌}
use Rattle.std.proofs.lemmas.Bool.{eqb-true}
use Rattle.std.proofs.lemmas.List.{append-nil}
use Rattle.std.proofs.lemmas.List.Elements.{filter-append}
use Rattle.kp_types.specs.declared.event.Event.{Event}
use Rattle.kp_history_defs.specs.declared.fed.Fed.{Fed}
use Rattle.kp_history_defs.specs.Runs.{at_number, is_of_stream, numbered}
use Rattle.kp_history_defs.proofs.Numbered.{numbered_push}
use Rattle.kp_lemmas.specs.Lists.{is_empty}
use Rattle.kp_feed.specs.Feeding.{Delivers}

-- ---- A value in place of that at a number

pub at_here : {A : Type 0} (f : ℕ → A) (n : ℕ) (x : A) → at_number f n x n ≡ x
at_here f n x = ap (λ b. cond b x (f n)) (eq-eqb n n refl)

pub at_else : {A : Type 0} (f : ℕ → A) (n : ℕ) (x : A) (m : ℕ) → m ≢ n → at_number f n x m ≡ f m
at_else f n x m other = ap (λ b. cond b x (f m)) (ne_eqb m n other)

-- ---- One more event

pushed_by : (before : List Fed) (fed : ℕ → List Event) (f : Fed) → f.number ≡ suc (length (fed f.feeder)) → ((p : ℕ) → Delivers before p (fed p))
    → (p : ℕ) (b : Bool) → (p == f.feeder) ≡ b
    → filter (is_of_stream p) before ++ cond b (f ∷ []) [] ≡ numbered p 0 (cond b (fed f.feeder ++ f.event ∷ []) (fed p))
pushed_by before fed f number holds p true is =
    let same : p ≡ f.feeder = eqb-true p f.feeder is in
    let none : length (fed f.feeder) ≡ 0 + length (fed f.feeder) = omega arith in
    ap (λ l. l ++ f ∷ []) (holds p ∙ ap (λ (m : ℕ). numbered m 0 (fed m)) same)
    ∙ ap (λ (m : ℕ). let g : Fed = record { feeder = f.feeder; number = m; event = f.event } in numbered f.feeder 0 (fed f.feeder) ++ g ∷ []) (number ∙ ap suc none)
    ∙ sym (numbered_push f.feeder 0 (fed f.feeder) f.event)
    ∙ ap (λ (m : ℕ). numbered m 0 (fed f.feeder ++ f.event ∷ [])) (sym same)
pushed_by before fed f number holds p false is = append-nil (filter (is_of_stream p) before) ∙ holds p

pub pushed : (before : List Fed) (fed : ℕ → List Event) (f : Fed) → f.number ≡ suc (length (fed f.feeder)) → ((p : ℕ) → Delivers before p (fed p))
    → (p : ℕ) → Delivers (before ++ f ∷ []) p (at_number fed f.feeder (fed f.feeder ++ f.event ∷ []) p)
pushed before fed f number holds p =
    filter-append (is_of_stream p) before (f ∷ []) ∙ pushed_by before fed f number holds p (p == f.feeder) refl

-- ---- The event that is taken

-- it stands among its feeder's events, behind those that were taken before
pub found : (taken items : List Fed) (f : Fed) → filter (is_of_stream f.feeder) (taken ++ f ∷ items) ≡ filter (is_of_stream f.feeder) taken ++ f ∷ filter (is_of_stream f.feeder) items
found taken items f =
    filter-append (is_of_stream f.feeder) taken (f ∷ items)
    ∙ ap (λ b. filter (is_of_stream f.feeder) taken ++ cond b (f ∷ filter (is_of_stream f.feeder) items) (filter (is_of_stream f.feeder) items)) (eq-eqb f.feeder f.feeder refl)

pub not_empty : (before rest : List Fed) (f : Fed) → before ++ f ∷ rest ≡ [] → ⊥
not_empty [] rest f e = true≢false (sym (ap is_empty e))
not_empty (x ∷ before) rest f e = true≢false (sym (ap is_empty e))

pub next_number : (p n : ℕ) (before rest : List Fed) (f : Fed) (es : List Event) → before ++ f ∷ rest ≡ numbered p n es → f.number ≡ suc (n + length before)
next_number p n before rest f [] e = absurd (not_empty before rest f e)
next_number p n [] rest f (x ∷ es) e =
    let zero : n ≡ n + 0 = omega arith in ap (λ l. (get_or l 0 f).number) e ∙ ap suc zero
next_number p n (b ∷ before) rest f (x ∷ es) e =
    let more : suc n + length before ≡ n + suc (length before) = omega arith in
    next_number p (suc n) before rest f es (ap (drop 1) e) ∙ ap suc more
