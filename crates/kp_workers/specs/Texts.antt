-- How texts in a row are kept: as one text, and the length of each.
use Rattle.std.specs.Prelude.{◌≡◌, ℕ, List, [], ◌++◌, map, length, get_or, string_bytes, IfSome, slice_get}
use Rattle.std.specs.List.{concat}
use Rattle.kp_workers.specs.declared.texts.Texts.{Texts}
use Rattle.kp_workers.specs.declared.texts.TextsOn.{TextsOn}

-- a text, and lengths
abbrev pub Kept : Type 0
Kept = List ℕ × List ℕ

-- as texts are kept
abbrev pub kept_in : Texts → Kept
kept_in texts = (string_bytes texts.text, texts.lengths.items)

-- as those are that are still to be told
abbrev pub left_in : TextsOn → Kept
left_in texts = (texts.text.now, texts.lengths.now)

-- it is kept of these texts
pub record Keeps (kept : Kept) (told : List (List ℕ)) : Type 0 where
  pub text_is : kept.0 ≡ concat told
  pub lengths_are : kept.1 ≡ map length told

-- what is kept by several, of the texts of each
pub record AreKept (all : List Kept) (told : List (List (List ℕ))) : Type 0 where
  pub long : length told ≡ length all
  pub each : (w : ℕ) → IfSome (slice_get all w) (λ kept. Keeps kept (get_or told w []))

-- what stood in a list stands, and after it there may be more
abbrev pub BeginsWith : {A : Type 0} → List A → List A → Type 0
BeginsWith {A} all front = (rest : List A) × (all ≡ front ++ rest)
