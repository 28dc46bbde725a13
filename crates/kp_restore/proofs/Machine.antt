-- A reader that goes by lines: each list of lines that it takes begins the text of a value, and it takes the lines of
-- each value's text. So the first line that it doesn't take is the first bad one.
use Rattle.std.proofs.Common.{◌≡◌, ℕ, Bool, true, List, [], ◌∷◌, ◌++◌, map, take, drop, Option, Some, None, refl, sym, ap, ◌∙◌, option_and_then}
use Rattle.std.specs.List.{list_all, take-map}
use Rattle.std.proofs.lemmas.Bool.{and_parts, and_from}
use Rattle.std.proofs.lemmas.List.{map-append, take-append-drop}
use Rattle.std.proofs.lemmas.List.Folds.{list_all-append, list_all-map}
use Rattle.std.proofs.lemmas.Option.{none-some, same_Some}
use Rattle.kp_restore_defs.specs.FirstBadLine.{ended_lines}
use Rattle.kp_restore_defs.specs.TableText.{text_of_lines}
use Rattle.kp_restore.specs.Machine.{run}
use Rattle.kp_restore_text.specs.Pieces.{no_line_feed}
use Rattle.kp_restore.proofs.Texts.{lines_again}
use Rattle.kp_lemmas.proofs.ListFacts.{test_weaker}

-- ---- Runs

module _ {S X : Type 0} (step : S → X → Option S) where
  pub run-append : (s : S) (xs ys : List X) → run step s (xs ++ ys) ≡ option_and_then (λ m. run step m ys) (run step s xs)
  run-append s [] ys = refl
  run-append s (x ∷ xs) ys =
      elim (step s x) as (λ o. option_and_then (λ m. run step m (xs ++ ys)) o ≡ option_and_then (λ m. run step m ys) (option_and_then (λ m. run step m xs) o)) [ None ↦ refl | Some m ↦ run-append m xs ys ]

  -- a run goes on from where it is
  pub run_on : (s m : S) (xs ys : List X) → run step s xs ≡ Some m → run step s (xs ++ ys) ≡ run step m ys
  run_on s m xs ys h = run-append s xs ys ∙ ap (option_and_then (λ n. run step n ys)) h

  -- a run over more elements has a state between them
  pub run_between : (s e : S) (xs ys : List X) → run step s (xs ++ ys) ≡ Some e → (m : S) × (run step s xs ≡ Some m) × (run step m ys ≡ Some e)
  run_between s e xs ys h =
      elim (run step s xs) as (λ o. run step s xs ≡ o → option_and_then (λ m. run step m ys) o ≡ Some e → (m : S) × (run step s xs ≡ Some m) × (run step m ys ≡ Some e)) [
        | None ↦ λ p q. absurd (none-some e q)
        | Some m ↦ λ p q. (m, p, q)
      ] refl (sym (run-append s xs ys) ∙ h)

  -- one more element
  pub run_one : (s m n : S) (xs : List X) (x : X) → run step s xs ≡ Some m → step m x ≡ Some n → run step s (xs ++ x ∷ []) ≡ Some n
  run_one s m n xs x h k = run_on s m xs (x ∷ []) h ∙ ap (option_and_then (λ e. Some e)) k

  -- what the machine makes of the last element
  pub run_last : (s m e : S) (xs : List X) (x : X) → run step s xs ≡ Some m → run step s (xs ++ x ∷ []) ≡ Some e → step m x ≡ Some e
  run_last s m e xs x h k = elim (step m x) as (λ o. option_and_then (λ n. Some n) o ≡ Some e → o ≡ Some e) [ None ↦ λ p. p | Some n ↦ λ p. p ] (sym (run_on s m xs (x ∷ []) h) ∙ k)

  -- good elements lead from the state to an end
  abbrev pub LeadsToEnd : (good : X → Bool) (IsEnd : S → Type 0) → S → Type 0
  LeadsToEnd good IsEnd s = (ys : List X) × (list_all good ys ≡ true) × (e : S) × (run step s ys ≡ Some e) × IsEnd e

-- ---- Readers

-- a machine over the lines of the texts of values
pub record IsReader {S X V : Type 0} (step : S → X → Option S) (start : S) (IsEnd : S → Type 0) (value : S → V) (text : X → List ℕ) (good : X → Bool)
    (has_text : V → Type 0) (lines_of : V → List (List ℕ)) : Type 0 where
  pub exact : (x y : X) → good x ≡ true → good y ≡ true → text x ≡ text y → x ≡ y
  pub plain : (x : X) → good x ≡ true → no_line_feed (text x) ≡ true
  pub sound : (xs : List X) (s : S) → list_all good xs ≡ true → run step start xs ≡ Some s → IsEnd s → has_text (value s) × (lines_of (value s) ≡ map text xs)
  pub complete : (v : V) → has_text v → (xs : List X) × (list_all good xs ≡ true) × (lines_of v ≡ map text xs) × (s : S) × (run step start xs ≡ Some s) × IsEnd s × (value s ≡ v)
  pub ends : (xs : List X) (s : S) → list_all good xs ≡ true → run step start xs ≡ Some s → LeadsToEnd step good IsEnd s

-- a reader of values that are made of others, with their texts
pub tied : {S X V W : Type 0} {step : S → X → Option S} {start : S} {IsEnd : S → Type 0} {value : S → V} {text : X → List ℕ} {good : X → Bool}
    {has_text : V → Type 0} {lines_of : V → List (List ℕ)} → IsReader step start IsEnd value text good has_text lines_of
    → (has : W → Type 0) (lines : W → List (List ℕ)) (from : V → W) → ((v : V) → has_text v → has (from v) × (lines (from v) ≡ lines_of v)) → ((w : W) → has w → (v : V) × has_text v × (from v ≡ w))
    → IsReader step start IsEnd (λ s. from (value s)) text good has lines
tied {value = value} reader has lines from comes goes = record {
  exact = reader.exact;
  plain = reader.plain;
  sound = λ xs s g r end.
      let k = reader.sound xs s g r end in
      let c = comes (value s) k.0 in
      (c.0, c.1 ∙ k.1);
  complete = λ w h.
      let m = goes w h in
      let k = reader.complete m.0 m.1 in
      (k.0, k.1, sym (ap lines m.2) ∙ (comes m.0 m.1).1 ∙ k.2, k.3, k.4, k.5, ap from k.6 ∙ m.2);
  ends = reader.ends;
}

-- the last element of what a map gives
last_of_map : {A B : Type 0} (f : A → B) (ls : List B) (l : B) (ps : List A) → map f ps ≡ ls ++ l ∷ []
    → (xs : List A) × (x : A) × (ps ≡ xs ++ x ∷ []) × (map f xs ≡ ls) × (f x ≡ l)
last_of_map f [] l [] h = absurd (cc)
last_of_map f [] l (p ∷ []) h = ([], p, refl, refl, cc)
last_of_map f [] l (p ∷ q ∷ ps) h = absurd (cc)
last_of_map f (k ∷ ls) l [] h = absurd (cc)
last_of_map f (k ∷ ls) l (p ∷ ps) h =
    let first : f p ≡ k = cc in
    let more = last_of_map f ls l ps (cc) in
    (p ∷ more.0, more.1, ap (λ xs. p ∷ xs) more.2, λ i. first i ∷ more.3 i, more.4)

pub all_front : {A : Type 0} (p : A → Bool) (xs ys : List A) → list_all p (xs ++ ys) ≡ true → (list_all p xs ≡ true) × (list_all p ys ≡ true)
all_front p xs ys h = and_parts _ _ (sym (list_all-append p xs ys) ∙ h)

module _ {S X V : Type 0} {step : S → X → Option S} {start : S} {IsEnd : S → Type 0} {value : S → V} {text : X → List ℕ} {good : X → Bool}
    {has_text : V → Type 0} {lines_of : V → List (List ℕ)} (reader : IsReader step start IsEnd value text good has_text lines_of) where
  -- good parts with one text are one list
  same_parts : (xs ys : List X) → list_all good xs ≡ true → list_all good ys ≡ true → map text xs ≡ map text ys → xs ≡ ys
  same_parts [] [] g h e = refl
  same_parts [] (y ∷ ys) g h e = absurd (cc)
  same_parts (x ∷ xs) [] g h e = absurd (cc)
  same_parts (x ∷ xs) (y ∷ ys) g h e =
      let p = and_parts _ _ g in
      let q = and_parts _ _ h in
      λ i. reader.exact x y p.0 q.0 (cc) i ∷ same_parts xs ys p.1 q.1 (cc) i

  pub all_plain : (xs : List X) → list_all good xs ≡ true → list_all no_line_feed (map text xs) ≡ true
  all_plain xs h = list_all-map no_line_feed text xs ∙ test_weaker good (λ x. no_line_feed (text x)) reader.plain xs h

  -- the lines of a value's text are its lines
  pub lines_known : (v : V) → has_text v → (bytes : List ℕ) → text_of_lines (lines_of v) ≡ bytes → ended_lines bytes ≡ lines_of v
  lines_known v h bytes e =
      let k = reader.complete v h in
      ap ended_lines (sym e ∙ ap text_of_lines k.2) ∙ lines_again (map text k.0) (all_plain k.0 k.1) ∙ sym k.2

  -- a state behind all lines of a value
  pub state_of : (v : V) → has_text v → (xs : List X) → list_all good xs ≡ true → lines_of v ≡ map text xs → (s : S) × (run step start xs ≡ Some s) × IsEnd s × (value s ≡ v)
  state_of v h xs all is =
      let (ys, good, are, s, ran, end, of) = reader.complete v h in
      (s, ap (run step start) (same_parts xs ys all good (sym is ∙ are)) ∙ ran, end, of)

  -- values with one text are one
  pub same_value : (a b : V) → has_text a → has_text b → text_of_lines (lines_of a) ≡ text_of_lines (lines_of b) → a ≡ b
  same_value a b g h e =
      let (xs, all, is, s, ran, end, of) = reader.complete a g in
      let (u, goes, over, made) = state_of b h xs all (sym (lines_known b h _ (sym e)) ∙ lines_known a g _ refl ∙ is) in
      sym of ∙ ap value (same_Some s u (sym ran ∙ goes)) ∙ made

  module _ (xs : List X) (s : S) (all : list_all good xs ≡ true) (ran : run step start xs ≡ Some s) where
    -- the lines so far begin the text of a value
    pub begun : (v : V) × has_text v × (ys : List X) × (lines_of v ≡ map text xs ++ map text ys)
    begun =
        let rest = reader.ends xs s all ran in
        let sound = reader.sound (xs ++ rest.0) rest.2 (list_all-append good xs rest.0 ∙ and_from _ _ all rest.1) (run_on step start s xs rest.0 ran ∙ rest.3) rest.4 in
        (value rest.2, sound.0, rest.0, sound.1 ∙ map-append text xs rest.0)

    -- no value has a line that the reader doesn't take behind them
    pub not_with : (line : List ℕ) → ((x : X) → good x ≡ true → text x ≡ line → step s x ≡ None)
        → (v : V) → has_text v → (n : ℕ) → map text xs ++ line ∷ [] ≡ take n (lines_of v) → ⊥
    not_with line stuck v h n e =
        let (ys, fine, is, end, goes, over, made) = reader.complete v h in
        let ps = take n ys in
        let cut = last_of_map text (map text xs) line ps (sym (take-map text n ys) ∙ ap (take n) (sym is) ∙ sym e) in
        let good_ps = all_front good ps (drop n ys) (ap (list_all good) (take-append-drop n ys) ∙ fine) in
        let good_cut = all_front good cut.0 (cut.1 ∷ []) (ap (list_all good) (sym cut.2) ∙ good_ps.0) in
        let m = run_between step start end ps (drop n ys) (ap (run step start) (take-append-drop n ys) ∙ goes) in
        let taken = run_last step start s m.0 xs cut.1 ran (ap (λ zs. run step start (zs ++ cut.1 ∷ [])) (sym (same_parts cut.0 xs good_cut.0 all cut.3)) ∙ ap (run step start) (sym cut.2) ∙ m.1) in
        absurd (none-some _ (sym (stuck cut.1 (and_parts _ _ good_cut.1).0 cut.4) ∙ taken))
