-- The command takes words of a form, and tells the option from the others.
use Rattle.std.proofs.Common.{◌≡◌, ◌∙◌, ◌&&◌, ◌==◌, Bool, true, false, not, List, [], ◌∷◌, ◌++◌}
use Rattle.std.proofs.Common.{Option, Some, None, refl, ap, ap₂, codes}
use Rattle.std.specs.Prelude.{fold, is_some}
use Rattle.std.specs.List.{list_all}
use Rattle.clap.specs.Walk.{Row, Text, Waiting, Walk, idle, option, positional, nothing_held}
use Rattle.clap.specs.Walk.{walk_from, walked, is_pending, settled_rows, finished, first_of, all_of}
use Rattle.clap.specs.Simple.{Shape, built, entered, is_simple, matches_of}
use Rattle.clap.specs.Takes.{takes, default_passes, entered_passes, is_valid, settle_passes}
use Rattle.clap.specs.Takes.{turn_passes, walk_passes}
use Rattle.clap.proofs.OnLiterals.{clap_on_literals}
use Rattle.kp_words.specs.Command.{kproxy, others, is_plain}

abbrev shape : Shape
shape = (built kproxy).top

abbrev option_id : Text
option_id = codes "workers"

abbrev rest_id : Text
rest_id = codes "others"

-- ---- One more word

-- between two words, with what waits for its values
abbrev standing : List Row → Option (Text × List Text) → Waiting → Walk
standing rows pending waiting = record {
  held = record { rows = rows; pending = pending; skip = 0 };
  waiting = waiting;
  position = 1;
  is_trailing = false;
  stopped = None;
}

-- a word passes and leads from here to there
record Steps (from : Walk) (word : Text) (to : Walk) : Type 0 where
  passes : turn_passes shape [] from word ≡ true
  leads : walked shape.rules [] from word ≡ to

pub no_dash : (b : Bool) → not (b && true) ≡ true → b ≡ false
no_dash true e = absurd (cc)
no_dash false e = refl

pub never : (b : Bool) → (b && false) ≡ false
never true = refl
never false = refl

-- no option waits for a value
abbrev is_free : Waiting → Bool
is_free (option id) = false
is_free _ = true

-- the word is one of the others
abbrev to_rest : List Row → Option (Text × List Text) → Text → Walk
to_rest rows pending word =
    standing (settled_rows shape.rules pending rows) (Some (rest_id, word ∷ [])) positional

-- a plain word is one of the others where no option waits for it
plain_steps : (rows : List Row) (pending : Option (Text × List Text)) (word : Text)
    (waiting : Waiting) → is_free waiting ≡ true → is_plain word ≡ true
    → settle_passes shape.rules false (standing rows pending waiting).held ≡ true
    → Steps (standing rows pending waiting) word (to_rest rows pending word)
unfolding clap_on_literals
plain_steps rows pending word (option id) free plain settles = absurd (cc)
plain_steps rows pending [] idle free plain settles =
    let unlike = never (is_pending others pending) in
    record { passes = rw (settles, unlike) refl; leads = rw unlike refl }
plain_steps rows pending [] positional free plain settles =
    let unlike = never (is_pending others pending) in
    record { passes = rw (settles, unlike) refl; leads = rw unlike refl }
plain_steps rows pending (x ∷ xs) idle free plain settles =
    let dash : (x == 45) ≡ false = no_dash (x == 45) plain in
    let unlike = never (is_pending others pending) in
    record { passes = rw (dash, dash, settles, unlike) refl; leads = rw (dash, dash, unlike) refl }
plain_steps rows pending (x ∷ xs) positional free plain settles =
    let dash : (x == 45) ≡ false = no_dash (x == 45) plain in
    let unlike = never (is_pending others pending) in
    record { passes = rw (dash, dash, settles, unlike) refl; leads = rw (dash, dash, unlike) refl }

-- a plain word is the value of the option that waits for it
value_steps : (rows : List Row) (word : Text) → is_plain word ≡ true
    → Steps (standing rows (Some (option_id, [])) (option option_id)) word
    (standing rows (Some (option_id, word ∷ [])) idle)
unfolding clap_on_literals
value_steps rows [] plain = record { passes = refl; leads = refl }
value_steps rows (x ∷ xs) plain =
    let dash : (x == 45) ≡ false = no_dash (x == 45) plain in
    record { passes = rw (dash, dash) refl; leads = rw (dash, dash) refl }

-- ---- All words

-- the words pass, and lead from here to there
record Leads (from : Walk) (words : List Text) (to : Walk) : Type 0 where
  passes : walk_passes shape [] from words ≡ true
  leads : fold (walked shape.rules []) from words ≡ to

first : {from via to : Walk} {word : Text} {words : List Text}
    → Steps from word via → Leads via words to → Leads from (word ∷ words) to
unfolding clap_on_literals
first step rest = record {
  passes = rw (step.passes, step.leads) rest.passes;
  leads = rw step.leads rest.leads;
}

end : {to : Walk} → Leads to [] to
unfolding clap_on_literals
end = record { passes = refl; leads = refl }

-- a word that is computed
is : {from : Walk} {word : Text} → turn_passes shape [] from word ≡ true
    → Steps from word (walked shape.rules [] from word)
is passes = record { passes = passes; leads = refl }

abbrev start : Walk
start = walk_from nothing_held

-- the command takes these words, and finds this value of the option and these other words
pub record Finds (words : List Text) (value : Option Text) (rest : List Text) : Type 0 where
  pub taken : takes kproxy words ≡ true
  pub workers : first_of option_id (matches_of kproxy words) ≡ value
  pub others : all_of rest_id (matches_of kproxy words) ≡ Some rest

-- whether the command takes the words, by where they lead and whether they pass
abbrev taken_by : Walk → Bool → Bool
taken_by to passes = is_simple kproxy && (entered_passes (built kproxy) to.stopped
    && (passes && (settle_passes shape.rules false to.held && (list_all default_passes shape.rules
    && is_valid shape (finished shape.rules to.held)
    (is_some (entered (built kproxy) to.stopped))))))

finds : {program : Text} {words : List Text} {to : Walk} {value : Option Text} {rest : List Text}
    → Leads start words to → taken_by to true ≡ true
    → first_of option_id (finished shape.rules to.held) ≡ value
    → all_of rest_id (finished shape.rules to.held) ≡ Some rest
    → Finds (program ∷ words) value rest
finds leads takes gives leaves = record {
  taken = ap₂ taken_by leads.leads leads.passes ∙ takes;
  workers =
      ap (λ (w : Walk). first_of option_id (finished shape.rules w.held)) leads.leads ∙ gives;
  others = ap (λ (w : Walk). all_of rest_id (finished shape.rules w.held)) leads.leads ∙ leaves;
}

-- ---- Each form

module _ (program : Text) where
  pub one_word : (a : Text) → is_plain a ≡ true → Finds (program ∷ a ∷ []) None (a ∷ [])
  unfolding clap_on_literals
  one_word a plain = finds (first (plain_steps [] None a idle refl plain refl) end) refl refl refl

  pub four_words : (a b c d : Text) → is_plain a ≡ true → is_plain b ≡ true → is_plain c ≡ true
      → is_plain d ≡ true → Finds (program ∷ a ∷ b ∷ c ∷ d ∷ []) None (a ∷ b ∷ c ∷ d ∷ [])
  unfolding clap_on_literals
  four_words a b c d p q r s = finds (first (plain_steps [] None a idle refl p refl)
      (first (plain_steps _ _ b positional refl q refl)
      (first (plain_steps _ _ c positional refl r refl)
      (first (plain_steps _ _ d positional refl s refl) end)))) refl refl refl

  pub option_behind : (a value : Text) → is_plain a ≡ true
      → Finds (program ∷ a ∷ (codes "--workers=" ++ value) ∷ []) (Some value) (a ∷ [])
  unfolding clap_on_literals
  option_behind a value plain = finds (first (plain_steps [] None a idle refl plain refl)
      (first (is refl) end)) refl refl refl

  pub option_before : (a value : Text) → is_plain a ≡ true
      → Finds (program ∷ (codes "--workers=" ++ value) ∷ a ∷ []) (Some value) (a ∷ [])
  unfolding clap_on_literals
  option_before a value plain = finds (first (is refl)
      (first (plain_steps _ None a idle refl plain refl) end)) refl refl refl

  pub value_behind : (a value : Text) → is_plain a ≡ true → is_plain value ≡ true
      → Finds (program ∷ a ∷ codes "--workers" ∷ value ∷ []) (Some value) (a ∷ [])
  unfolding clap_on_literals
  value_behind a value plain p = finds (first (plain_steps [] None a idle refl plain refl)
      (first (is refl) (first (value_steps _ value p) end))) refl refl refl

  pub value_before : (a value : Text) → is_plain a ≡ true → is_plain value ≡ true
      → Finds (program ∷ codes "--workers" ∷ value ∷ a ∷ []) (Some value) (a ∷ [])
  unfolding clap_on_literals
  value_before a value plain p = finds (first (is refl) (first (value_steps _ value p)
      (first (plain_steps _ (Some (option_id, value ∷ [])) a idle refl plain refl) end)))
      refl refl refl
