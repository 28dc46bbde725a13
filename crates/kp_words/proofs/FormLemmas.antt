-- Words of a form give their mode by what the command finds, and all others have none.
use Rattle.std.proofs.Common.{◌≡◌, ◌∙◌, ◌⊎◌, ◌&&◌, ◌||◌, ◌==◌, ◌<◌, ◌≤◌, ◌^◌, ◌-◌, ℕ, Bool, true}
use Rattle.std.proofs.Common.{false, not, List, [], ◌∷◌, ◌++◌, Option, Some, None, inl, inr, refl}
use Rattle.std.proofs.Common.{sym, ap, ap₂, subst, codes, take, drop, map, length, arith}
use Rattle.std.specs.Prelude.{if◌then◌else◌, option_and_then, option_map}
use Rattle.std.specs.List.{slice_index_or}
use Rattle.std.specs.Str.{bytes_eq}
use Rattle.std.proofs.lemmas.Slice.Eq.{bytes_eq-Decides}
use Rattle.std.proofs.lemmas.List.{take-append-drop}
use Rattle.clap.specs.Walk.{Text, first_of, all_of}
use Rattle.clap.specs.Simple.{matches_of}
use Rattle.clap.specs.Takes.{takes}
use Rattle.clap.proofs.WalkLemmas.{both}
use Rattle.kp_words.specs.declared.mode.Mode.{Mode}
use Rattle.kp_words.specs.declared.mode.Mode.TheVariants.{Gen, Replay}
use Rattle.kp_words.specs.Words.{is_number_length, number_of, named_mode, replay_with, gen_of}
use Rattle.kp_words.specs.Words.{workers_word, mode_of_two, mode_of_three, mode_of_four, mode_of}
use Rattle.kp_words.specs.Command.{kproxy, is_plain, is_option, has_option, has_value, are_plain}
use Rattle.kp_words.specs.Command.{has_form, mode_of_matches}
use Rattle.kp_words.proofs.CommandLemmas.{Finds, no_dash, never, one_word, four_words}
use Rattle.kp_words.proofs.CommandLemmas.{option_behind, option_before, value_behind, value_before}

abbrev replay : Text
replay = codes "replay"

abbrev workers : Text
workers = codes "--workers"

is_text : (word text : Text) → bytes_eq word text ≡ true → word ≡ text
is_text word text e = (bytes_eq-Decides word text).0 e

starts : (n : ℕ) (word text : Text) → bytes_eq (take n word) text ≡ true
    → text ++ drop n word ≡ word
starts n word text e =
    ap (λ t. t ++ drop n word) (sym (is_text (take n word) text e)) ∙ take-append-drop n word

flipped : (b : Bool) → not b ≡ false → b ≡ true
flipped true e = refl
flipped false e = absurd (cc)

either : (x y : Bool) → (x || y) ≡ true → (x ≡ true) ⊎ (y ≡ true)
either true y e = inl refl
either false y e = inr e

neither : (x y : Bool) → (x || y) ≡ false → (x ≡ false) × (y ≡ false)
neither true y e = absurd (cc)
neither false y e = (refl, e)

alone : (x : Bool) → (x && true) ≡ false → x ≡ false
alone true e = e
alone false e = refl

-- ---- Words without a form

dashed : (word : Text) → is_plain word ≡ false → 45 ∷ drop 1 word ≡ word
dashed word e = starts 1 word (codes "-") (flipped _ e)

no_number : (least most : ℕ) (word : Text) → is_plain word ≡ false
    → number_of least most word ≡ None
no_number least most word e = subst (λ w. number_of least most w ≡ None) (dashed word e)
    (rw (never (is_number_length (length (45 ∷ drop 1 word)))) refl)

no_replay : (value : Text) → is_plain value ≡ false → replay_with value ≡ None
no_replay value e = ap (option_map Replay) (no_number 1 64 value e)

no_option : (word : Text) → is_option word ≡ false → workers_word word ≡ None
no_option word e = ap (λ b. if b then replay_with (drop 10 word) else None) e

none_if : (b : Bool) (x y : Option Mode) → (b ≡ true → x ≡ None) → (b ≡ false → y ≡ None)
    → (if b then x else y) ≡ None
none_if true x y p q = p refl
none_if false x y p q = q refl

none_within : (s n : Option ℕ)
    → option_and_then (λ s. option_and_then (λ n. option_map (Gen s n) None) n) s ≡ None
none_within None n = refl
none_within (Some s) None = refl
none_within (Some s) (Some n) = refl

nothing : (s : Option ℕ) → ◌≡◌ {A = Option Mode} (option_and_then (λ s. None) s) None
nothing None = refl
nothing (Some s) = refl

no_gen : (a b c : Text) → (is_plain a && (is_plain b && is_plain c)) ≡ false → gen_of a b c ≡ None
no_gen a b c form = go (is_plain a) (is_plain b) (is_plain c) refl refl refl form
  where
    go : (p q r : Bool) → is_plain a ≡ p → is_plain b ≡ q → is_plain c ≡ r
        → (p && (q && r)) ≡ false → gen_of a b c ≡ None
    go true true true d e f g = absurd (cc)
    go false q r d e f g = rw (no_number 0 (2 ^ 64 - 1) a d) refl
    go true false r d e f g =
        rw (no_number 1 10000 b e) (nothing (number_of 0 (2 ^ 64 - 1) a))
    go true true false d e f g = rw (no_number 0 60000 c f)
        (none_within (number_of 0 (2 ^ 64 - 1) a) (number_of 1 10000 b))

unfit_two : (a b : Text) → has_option a b ≡ false → mode_of_two a b ≡ None
unfit_two a b form = none_if (bytes_eq a replay) _ _
    (λ e. no_option b
    (neither _ _ (subst (λ w. has_option w b ≡ false) (is_text a _ e) form)).0)
    (λ _. none_if (bytes_eq b replay) _ _
    (λ e. no_option a (alone _ (neither (is_plain a && is_option replay) _
    (subst (λ w. has_option a w ≡ false) (is_text b _ e) form)).1))
    (λ _. refl))

unfit_three : (a b c : Text) → has_value a b c ≡ false → mode_of_three a b c ≡ None
unfit_three a b c form = none_if (bytes_eq a replay && bytes_eq b workers) _ _
    (λ e. let t = both _ _ e in
    no_replay c (alone _ (subst (λ w. has_value w workers c ≡ false) (is_text a _ t.0)
    (subst (λ w. has_value a w c ≡ false) (is_text b _ t.1) form))))
    (λ _. none_if (bytes_eq a workers && bytes_eq c replay) _ _
    (λ e. let t = both _ _ e in
    no_replay b (subst (λ w. has_value w b replay ≡ false) (is_text a _ t.0)
    (subst (λ w. has_value a b w ≡ false) (is_text c _ t.1) form)))
    (λ _. refl))

unfit_four : (a b c d : Text) → are_plain a b c d ≡ false → mode_of_four a b c d ≡ None
unfit_four a b c d form = none_if (bytes_eq a (codes "gen")) _ _
    (λ e. no_gen b c d (subst (λ w. are_plain w b c d ≡ false) (is_text a _ e) form))
    (λ _. refl)

-- words that have no form have no mode
pub unfit : (words : List Text) → has_form words ≡ false → None ≡ mode_of words
unfit [] form = refl
unfit (program ∷ []) form = refl
unfit (program ∷ a ∷ []) form = sym (subst (λ w. named_mode w ≡ None) (dashed a form) refl)
unfit (program ∷ a ∷ b ∷ []) form = sym (unfit_two a b form)
unfit (program ∷ a ∷ b ∷ c ∷ []) form = sym (unfit_three a b c form)
unfit (program ∷ a ∷ b ∷ c ∷ d ∷ []) form = sym (unfit_four a b c d form)
unfit (program ∷ a ∷ b ∷ c ∷ d ∷ e ∷ words) form = refl

-- too few words have no form
pub few : {X : Type 0} (f : X → Text) (words : List X) → length words < 2
    → false ≡ has_form (map f words)
few f [] h = refl
few f (x ∷ []) h = refl
few f (x ∷ y ∷ words) h = absurd (omega arith)

-- three words, and four
pub three : {X : Type 0} (f : X → Text) (words : List X) (a b : X)
    → 3 ≤ length words → length words < 4 → a ≡ slice_index_or words 1 a
    → b ≡ slice_index_or words 2 b → has_option (f a) (f b) ≡ has_form (map f words)
three f (x ∷ y ∷ z ∷ []) a b least below p q = ap₂ (λ v w. has_option (f v) (f w)) p q
three f (x ∷ y ∷ z ∷ w ∷ words) a b least below p q = absurd (omega arith)
three f (x ∷ y ∷ []) a b least below p q = absurd (omega arith)
three f (x ∷ []) a b least below p q = absurd (omega arith)
three f [] a b least below p q = absurd (omega arith)

pub four : {X : Type 0} (f : X → Text) (words : List X) (a b c : X)
    → 4 ≤ length words → length words < 5 → a ≡ slice_index_or words 1 a
    → b ≡ slice_index_or words 2 b → c ≡ slice_index_or words 3 c
    → has_value (f a) (f b) (f c) ≡ has_form (map f words)
four f (x ∷ y ∷ z ∷ w ∷ []) a b c least below p q r =
    λ i. has_value (f (p i)) (f (q i)) (f (r i))
four f (x ∷ y ∷ z ∷ w ∷ v ∷ words) a b c least below p q r = absurd (omega arith)
four f (x ∷ y ∷ z ∷ []) a b c least below p q r = absurd (omega arith)
four f (x ∷ y ∷ []) a b c least below p q r = absurd (omega arith)
four f (x ∷ []) a b c least below p q r = absurd (omega arith)
four f [] a b c least below p q r = absurd (omega arith)

-- ---- Words of a form

-- the command takes the words, and what it finds says their mode
pub record Fits (words : List Text) : Type 0 where
  pub taken : takes kproxy words ≡ true
  pub found : mode_of_matches (first_of (codes "workers") (matches_of kproxy words))
      (all_of (codes "others") (matches_of kproxy words)) ≡ mode_of words

fitting : {words : List Text} {value : Option Text} {rest : List Text}
    → Finds words value rest → mode_of_matches value (Some rest) ≡ mode_of words → Fits words
fitting finds is = record {
  taken = finds.taken;
  found = ap₂ mode_of_matches finds.workers finds.others ∙ is;
}

fit_two : (program a b : Text) → has_option a b ≡ true → Fits (program ∷ a ∷ b ∷ [])
fit_two program a b form = elim (either _ _ form) [
  | inl h ↦ let t = both _ _ h in
      subst (λ w. Fits (program ∷ a ∷ w ∷ [])) (starts 10 b (codes "--workers=") t.1)
      (fitting (option_behind program a (drop 10 b) t.0) refl)
  | inr h ↦ let t = both _ _ h in
      subst (λ w. Fits (program ∷ w ∷ b ∷ [])) (starts 10 a (codes "--workers=") t.0)
      (fitting (option_before program b (drop 10 a) t.1) refl)
]

not_option : (word : Text) → is_plain word ≡ true → bytes_eq word workers ≡ false
not_option [] plain = refl
not_option (x ∷ xs) plain = let dash : (x == 45) ≡ false = no_dash (x == 45) plain in rw dash refl

same_mode : (r w c : Bool) (x y : Option Mode) → w ≡ false
    → (if r then x else None) ≡ (if r && true then x else (if w && c then y else None))
same_mode true w c x y e = refl
same_mode false w c x y e = rw e refl

fit_three : (program a b c : Text) → has_value a b c ≡ true → Fits (program ∷ a ∷ b ∷ c ∷ [])
fit_three program a b c form =
    let t = both _ _ form in
    elim (either _ _ t.1) [
      | inl h ↦ let u = both _ _ h in
          subst (λ w. Fits (program ∷ a ∷ w ∷ c ∷ [])) (sym (is_text b _ u.1))
          (fitting (value_behind program a c u.0 t.0) (same_mode (bytes_eq a replay)
          (bytes_eq a workers) (bytes_eq c replay) _ _ (not_option a u.0)))
      | inr h ↦ let u = both _ _ h in
          subst (λ w. Fits (program ∷ w ∷ b ∷ c ∷ [])) (sym (is_text a _ u.0))
          (fitting (value_before program c b t.0 u.1) refl)
    ]

pub fit : (words : List Text) → has_form words ≡ true → Fits words
fit [] form = absurd (cc)
fit (program ∷ []) form = absurd (cc)
fit (program ∷ a ∷ []) form = fitting (one_word program a form) refl
fit (program ∷ a ∷ b ∷ []) form = fit_two program a b form
fit (program ∷ a ∷ b ∷ c ∷ []) form = fit_three program a b c form
fit (program ∷ a ∷ b ∷ c ∷ d ∷ []) form =
    let t = both _ _ form in
    let u = both _ _ t.0 in
    let v = both _ _ t.1 in
    fitting (four_words program a b c d u.0 u.1 v.0 v.1) refl
fit (program ∷ a ∷ b ∷ c ∷ d ∷ e ∷ words) form = absurd (cc)
