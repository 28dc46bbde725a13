-- The numbers of `gen` are those of a script.
use Rattle.std.proofs.Common.{◌≡◌, ◌≤◌, ◌^◌, ◌-◌, ◌&&◌, ℕ, Bool, true, false, List, [], ◌∷◌, Option, Some, None, arith, refl, nat_le}
use Rattle.std.specs.Prelude.{IfSome, codes, bytes_eq, drop, take, option_map, option_and_then, if◌then◌else◌, ⊤}
use Rattle.std.specs.Str.Parse.{digits_value}
use Rattle.std.proofs.lemmas.Bool.Decides.{nat_tests}
use Rattle.kp_gen_defs.specs.Script.{IsPlan}
use Rattle.kp_words.specs.declared.mode.Mode.{Mode}
use Rattle.kp_words.specs.declared.mode.Mode.TheVariants.{Replay, Changes, Health, Track, Vmap, Paths, Live, Gen}
use Rattle.kp_words.specs.Words.{is_number, within, number_of, replay_with, gen_of, named_mode, workers_word, mode_of_two, mode_of_three, mode_of_four, mode_of_rest, mode_of}

-- the numbers of `gen` are within the bounds of a script
abbrev pub Fits : Option Mode → Type 0
Fits None = ⊤
Fits (Some (Replay workers)) = ⊤
Fits (Some Changes) = ⊤
Fits (Some Health) = ⊤
Fits (Some Track) = ⊤
Fits (Some Vmap) = ⊤
Fits (Some Paths) = ⊤
Fits (Some Live) = ⊤
Fits (Some (Gen seed services pods)) = IsPlan (record { seed = seed; services = services; pods = pods })

-- a number that is told is one between these two
abbrev IsBounded : ℕ → ℕ → Option ℕ → Type 0
IsBounded least most number = IfSome number (λ n. (least ≤ n) × (n ≤ most))

within_bounded : (least most n : ℕ) (b : Bool) → (nat_le least n && nat_le n most) ≡ b → IsBounded least most (if b then Some n else None)
within_bounded least most n true e = (grind (arith, nat_tests), grind (arith, nat_tests))
within_bounded least most n false e = tt

number_if : (least most n : ℕ) (b : Bool) → IsBounded least most (if b then within least most n else None)
number_if least most n true = within_bounded least most n _ refl
number_if least most n false = tt

number_bounded : (least most : ℕ) (word : List ℕ) → IsBounded least most (number_of least most word)
number_bounded least most word = number_if least most (digits_value 10 word) (is_number word)

-- ---- Modes

if_fits : (b : Bool) (x y : Option Mode) → Fits x → Fits y → Fits (if b then x else y)
if_fits true x y p q = p
if_fits false x y p q = q

replays_fit : (n : Option ℕ) → Fits (option_map Replay n)
replays_fit None = tt
replays_fit (Some n) = tt

pods_fit : (seed services : ℕ) (pods : Option ℕ) → (1 ≤ services) × (services ≤ 10000) → IsBounded 0 60000 pods → Fits (option_map (Gen seed services) pods)
pods_fit seed services None few fewer = tt
pods_fit seed services (Some pods) few fewer = record { some = few.0; services = few.1; pods = fewer.1 }

services_fit : (seed : ℕ) (services : Option ℕ) (pods : List ℕ) → IsBounded 1 10000 services
    → Fits (option_and_then (λ n. option_map (Gen seed n) (number_of 0 60000 pods)) services)
services_fit seed None pods few = tt
services_fit seed (Some services) pods few = pods_fit seed services (number_of 0 60000 pods) few (number_bounded 0 60000 pods)

seeds_fit : (seed : Option ℕ) (services pods : List ℕ)
    → Fits (option_and_then (λ s. option_and_then (λ n. option_map (Gen s n) (number_of 0 60000 pods)) (number_of 1 10000 services)) seed)
seeds_fit None services pods = tt
seeds_fit (Some seed) services pods = services_fit seed (number_of 1 10000 services) pods (number_bounded 1 10000 services)

gen_fits : (seed services pods : List ℕ) → Fits (gen_of seed services pods)
gen_fits seed services pods = seeds_fit (number_of 0 (2 ^ 64 - 1) seed) services pods

replay_fits : (value : List ℕ) → Fits (replay_with value)
replay_fits value = replays_fit (number_of 1 64 value)

workers_fit : (word : List ℕ) → Fits (workers_word word)
workers_fit word = if_fits (bytes_eq (take 10 word) (codes "--workers=")) (replay_with (drop 10 word)) None (replay_fits (drop 10 word)) tt

named_fits : (name : List ℕ) → Fits (named_mode name)
named_fits name =
    if_fits (bytes_eq name (codes "replay")) _ _ tt
    (if_fits (bytes_eq name (codes "changes")) _ _ tt
    (if_fits (bytes_eq name (codes "health")) _ _ tt
    (if_fits (bytes_eq name (codes "track")) _ _ tt
    (if_fits (bytes_eq name (codes "vmap")) _ _ tt
    (if_fits (bytes_eq name (codes "paths")) _ _ tt
    (if_fits (bytes_eq name (codes "live")) (Some Live) None tt tt))))))

two_fit : (first second : List ℕ) → Fits (mode_of_two first second)
two_fit first second =
    if_fits (bytes_eq first (codes "replay")) _ _ (workers_fit second)
    (if_fits (bytes_eq second (codes "replay")) _ _ (workers_fit first) tt)

three_fit : (first second third : List ℕ) → Fits (mode_of_three first second third)
three_fit first second third =
    if_fits (bytes_eq first (codes "replay") && bytes_eq second (codes "--workers")) _ _ (replay_fits third)
    (if_fits (bytes_eq first (codes "--workers") && bytes_eq third (codes "replay")) _ _ (replay_fits second) tt)

four_fit : (name a b c : List ℕ) → Fits (mode_of_four name a b c)
four_fit name a b c = if_fits (bytes_eq name (codes "gen")) _ _ (gen_fits a b c) tt

rest_fits : (words : List (List ℕ)) → Fits (mode_of_rest words)
rest_fits [] = tt
rest_fits (a ∷ []) = named_fits a
rest_fits (a ∷ b ∷ []) = two_fit a b
rest_fits (a ∷ b ∷ c ∷ []) = three_fit a b c
rest_fits (a ∷ b ∷ c ∷ d ∷ []) = four_fit a b c d
rest_fits (a ∷ b ∷ c ∷ d ∷ e ∷ words) = tt

-- the words of `gen` tell a script
pub mode_fits : (words : List (List ℕ)) → Fits (mode_of words)
mode_fits [] = tt
mode_fits (program ∷ words) = rest_fits words
