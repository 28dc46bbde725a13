-- What `rsplit_once` gives at the last hyphen of a name, and where there is none.
use Rattle.std.proofs.Common.{◌≡◌, List, ℕ, ◌∷◌, ◌++◌, take, drop, Some, None, sym, ap, ◌==◌, ◌∙◌, arith}
use Rattle.std.specs.Str.{NoCharPasses}
use Rattle.std.specs.Str.Pattern.{RFindsChar, SplitsAroundMatch}
use Rattle.std.proofs.lemmas.List.{take-append-drop}
use Rattle.std.proofs.lemmas.Str.Pattern.{NoCharPasses-char}
use Rattle.kp_controller.specs.Clashing.{stem}
use Rattle.kp_controller.proofs.Narrowed.{no_stem, stem_at}

-- what is split off at the last hyphen
pub split_stem : (name front back : List ℕ) → SplitsAroundMatch (RFindsChar 45) name front back → stem name ≡ Some front
unfolding lib.Utf8.encode
split_stem name front back (i, j, found, is, _, _, _, _) =
    let whole : name ≡ take i name ++ 45 ∷ drop j name = sym (take-append-drop i name) ∙ ap (λ behind. take i name ++ behind) found.1.split in
    ap stem whole
    ∙ stem_at (take i name) (drop j name) (λ k within. NoCharPasses-char 45 (drop j name) k found.0 (omega arith) within)
    ∙ ap Some (sym is)

-- a name that isn't split has no hyphen
pub unsplit_stem : (name : List ℕ) → NoCharPasses (λ d. d == 45) name → stem name ≡ None
unsplit_stem name none = no_stem name (λ k within. NoCharPasses-char 45 name k none (omega arith) within)
