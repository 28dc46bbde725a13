-- The command that tells the option from the other words, and the forms of words that it is given
-- (this project's choice). Words that it reads by rules of its own, such as `--` and a lone dash,
-- have none of these forms.
use Rattle.std.specs.Prelude.{◌&&◌, ◌||◌, Bool, true, false, not, ℕ, List, [], ◌∷◌, take, codes}
use Rattle.std.specs.Prelude.{bytes_eq, Option, Some, None, if◌then◌else◌}
use Rattle.clap.specs.Walk.{Rule}
use Rattle.clap.specs.Simple.{App, new_app, new_rule, on_top, with_rule}
use Rattle.clap.specs.declared.builder.action.ArgAction.TheVariants.{Append}
use Rattle.kp_words.specs.Words.{named_mode, replay_with, mode_of_four}
use Rattle.kp_words.specs.declared.mode.Mode.{Mode}

-- ---- The command

-- the option `--workers`, with one value
abbrev pub workers : Rule
workers = record (new_rule (codes "workers")) { long = Some (codes "workers") }

-- all other words
abbrev pub others : Rule
others = record (new_rule (codes "others")) { action = Some Append }

-- one option, and the other words, all as text; there is no `--help`
abbrev pub kproxy : App
kproxy =
    let bare = on_top (λ s. record s { disable_help_flag = true }) (new_app (codes "kproxy")) in
    with_rule (with_rule bare workers) others

-- ---- Forms of words

-- no dash begins the word
abbrev pub is_plain : List ℕ → Bool
is_plain word = not (bytes_eq (take 1 word) (codes "-"))

-- the word is the option with its value in one word
abbrev pub is_option : List ℕ → Bool
is_option word = bytes_eq (take 10 word) (codes "--workers=")

-- one of the words is plain, and the other the option with its value
abbrev pub has_option : List ℕ → List ℕ → Bool
has_option a b = (is_plain a && is_option b) || (is_option a && is_plain b)

-- one of the words is plain, with the option and its value behind it or before it
abbrev pub has_value : List ℕ → List ℕ → List ℕ → Bool
has_value a b c = is_plain c && ((is_plain a && bytes_eq b (codes "--workers"))
    || (bytes_eq a (codes "--workers") && is_plain b))

-- all four words are plain
abbrev pub are_plain : List ℕ → List ℕ → List ℕ → List ℕ → Bool
are_plain a b c d = (is_plain a && is_plain b) && (is_plain c && is_plain d)

-- the words behind the program's name have a form that the command is given
abbrev pub has_form : List (List ℕ) → Bool
has_form (program ∷ a ∷ []) = is_plain a
has_form (program ∷ a ∷ b ∷ []) = has_option a b
has_form (program ∷ a ∷ b ∷ c ∷ []) = has_value a b c
has_form (program ∷ a ∷ b ∷ c ∷ d ∷ []) = are_plain a b c d
has_form _ = false

-- ---- What the command finds

-- the mode of the option's value and of the other words
abbrev pub mode_of_matches : Option (List ℕ) → Option (List (List ℕ)) → Option Mode
mode_of_matches None (Some (name ∷ [])) = named_mode name
mode_of_matches (Some value) (Some (name ∷ [])) =
    if bytes_eq name (codes "replay") then replay_with value else None
mode_of_matches None (Some (name ∷ a ∷ b ∷ c ∷ [])) = mode_of_four name a b c
mode_of_matches _ _ = None
