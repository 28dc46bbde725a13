-- The words of the command line (this project's choice): which of them fit, and what they say. A mode is
-- its name and its numbers. With `replay` the option `--workers` may stand before or behind it, in one
-- word with its value behind `=`, or in two. So no other word that begins with a dash fits.
use Rattle.std.specs.Prelude.{ℕ, ◌&&◌, ◌^◌, ◌-◌, nat_le, Bool, List, [], ◌∷◌, length, drop, take, Option, Some, None, option_map, option_and_then, if◌then◌else◌, codes, bytes_eq}
use Rattle.std.specs.List.{list_all}
use Rattle.std.specs.Str.Parse.{digits_value}
use Rattle.kp_words.specs.declared.mode.Mode.{Mode}
use Rattle.kp_words.specs.declared.mode.Mode.TheVariants.{Replay, Changes, Health, Track, Vmap, Paths, Live, Gen}

-- ---- Numbers

-- a decimal digit
abbrev pub is_digit : ℕ → Bool
is_digit byte = nat_le 48 byte && nat_le byte 57

-- how many digits a number may have
abbrev pub is_number_length : ℕ → Bool
is_number_length length = nat_le 1 length && nat_le length 20

-- 1 to 20 decimal digits; zeros may lead
abbrev pub is_number : List ℕ → Bool
is_number word = is_number_length (length word) && list_all is_digit word

-- a number between these two
abbrev pub within : ℕ → ℕ → ℕ → Option ℕ
within least most number = if nat_le least number && nat_le number most then Some number else None

-- the number of a word, where it is one between these two
abbrev pub number_of : ℕ → ℕ → List ℕ → Option ℕ
number_of least most word = if is_number word then within least most (digits_value 10 word) else None

-- ---- Modes

-- `replay` with 1 to 64 workers
abbrev pub replay_with : List ℕ → Option Mode
replay_with value = option_map Replay (number_of 1 64 value)

-- `gen`, by its seed, 1 to 10,000 Services and 0 to 60,000 pods
abbrev pub gen_of : List ℕ → List ℕ → List ℕ → Option Mode
gen_of seed services pods =
    option_and_then (λ s. option_and_then (λ n. option_map (Gen s n) (number_of 0 60000 pods)) (number_of 1 10000 services))
    (number_of 0 (2 ^ 64 - 1) seed)

-- a mode that is its name alone
abbrev pub named_mode : List ℕ → Option Mode
named_mode name =
    if bytes_eq name (codes "replay") then Some (Replay 1)
    else (if bytes_eq name (codes "changes") then Some Changes
    else (if bytes_eq name (codes "health") then Some Health
    else (if bytes_eq name (codes "track") then Some Track
    else (if bytes_eq name (codes "vmap") then Some Vmap
    else (if bytes_eq name (codes "paths") then Some Paths
    else (if bytes_eq name (codes "live") then Some Live
    else None))))))

-- the option with its value in one word
abbrev pub workers_word : List ℕ → Option Mode
workers_word word = if bytes_eq (take 10 word) (codes "--workers=") then replay_with (drop 10 word) else None

-- the option in one word, behind `replay` or before it
abbrev pub mode_of_two : List ℕ → List ℕ → Option Mode
mode_of_two first second =
    if bytes_eq first (codes "replay") then workers_word second
    else (if bytes_eq second (codes "replay") then workers_word first
    else None)

-- the option in two words, behind `replay` or before it
abbrev pub mode_of_three : List ℕ → List ℕ → List ℕ → Option Mode
mode_of_three first second third =
    if bytes_eq first (codes "replay") && bytes_eq second (codes "--workers") then replay_with third
    else (if bytes_eq first (codes "--workers") && bytes_eq third (codes "replay") then replay_with second
    else None)

-- a mode with three numbers
abbrev pub mode_of_four : List ℕ → List ℕ → List ℕ → List ℕ → Option Mode
mode_of_four name a b c = if bytes_eq name (codes "gen") then gen_of a b c else None

-- the mode of the words behind the program's name
abbrev pub mode_of_rest : List (List ℕ) → Option Mode
mode_of_rest (name ∷ []) = named_mode name
mode_of_rest (first ∷ second ∷ []) = mode_of_two first second
mode_of_rest (first ∷ second ∷ third ∷ []) = mode_of_three first second third
mode_of_rest (name ∷ a ∷ b ∷ c ∷ []) = mode_of_four name a b c
mode_of_rest _ = None

-- the mode that the words say, of which the first is the program's name; none where they don't fit
abbrev pub mode_of : List (List ℕ) → Option Mode
mode_of [] = None
mode_of (program ∷ words) = mode_of_rest words
