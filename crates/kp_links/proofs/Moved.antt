-- A row that leaves its list and comes to the end of one.
use Rattle.std.proofs.Common.{◌≡◌, ◌≢◌, ℕ, [], ◌∷◌, ◌++◌, refl, ap, ◌∙◌}
use Rattle.futures.specs.LinkedLists.{IsIn}
use Rattle.futures.proofs.LinkLemmas.{IsIn-without}
use Rattle.kp_links.specs.Lists.{IsFree, IsMoved, IsPushed, IsUnlinked, Lists, rows_of}

pub free_unlinked : (old new : Lists) (row : ℕ) → IsUnlinked old new row → IsFree new row
free_unlinked old new row is list found =
    (IsIn-without row row (rows_of old list) (rw (← is.left list) found)).1 refl

pub moved : (old between new : Lists) (list row : ℕ) → IsUnlinked old between row
    → IsPushed between new list row → IsMoved old new list row
moved old between new list row out back = record {
  last = back.last ∙ ap (λ rows. rows ++ row ∷ []) (out.left list);
  others = λ other differs. back.others other differs ∙ out.left other;
  sized = record {
    count = back.sized.count ∙ out.sized.count;
    rows = back.sized.rows ∙ out.sized.rows;
  };
}
