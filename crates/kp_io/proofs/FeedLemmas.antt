-- How many line feeds are to come up to the limit of the input, from one step of a search to the next.
use Rattle.std.proofs.Common.{◌≡◌, ℕ, suc, ◌+◌, ◌-◌, ◌≤◌, true, false, cond, List, [], ◌∷◌, ◌++◌, length, take, Option, None, Some, refl, ap, sym, ◌∙◌, append_assoc, append-nil, length-append, zero-add, add-zero, add_comm, arith}
use Rattle.std.specs.Prelude.{count_by}
use Rattle.std.specs.Io.KnownBytes.{Consumes}
use Rattle.std.specs.List.{list_any, before_first, after_first}
use Rattle.std.proofs.Math.Seq.{take-append-add}
use Rattle.std.proofs.lemmas.Grind.{common_steps}
use Rattle.std.proofs.lemmas.List.Sums.{sum_by-append, sum_by-cons}
use Rattle.kp_io.specs.Lines.{is_line_feed}
use Rattle.kp_io.specs.Reader.{feeds_up_to}
use Rattle.kp_io.specs.Told.{FromTold}
use Rattle.kp_io.proofs.LineLemmas.{list_any-before_first, split_at_line_feed, after_first-none}
use Rattle.kp_io.proofs.Told.{FromTold-map, FromTold-consumes}

pub feeds-append : (front text : List ℕ) → count_by is_line_feed (front ++ text) ≡ count_by is_line_feed front + count_by is_line_feed text
feeds-append front text = sum_by-append (λ byte. cond (is_line_feed byte) 1 0) front text

pub feeds_none : (text : List ℕ) → list_any is_line_feed text ≡ false → count_by is_line_feed text ≡ 0
feeds_none [] h = refl
feeds_none (x ∷ xs) h =
    let first : is_line_feed x ≡ false = grind (arith, common_steps) in
    let others : list_any is_line_feed xs ≡ false = grind (arith, common_steps) in
    sum_by-cons (λ byte. cond (is_line_feed byte) 1 0) x xs ∙ (λ i. cond (first i) 1 0 + feeds_none xs others i)

module _ (limit : ℕ) where
  -- as many are to come behind bytes that have none
  pub feeds_behind : (front held text : List ℕ) (taken : ℕ) → list_any is_line_feed front ≡ false → taken ≤ limit + length held → feeds_up_to limit (front ++ held) taken text ≡ feeds_up_to limit held taken text
  feeds_behind front held text taken h fits =
      let room = limit + length held - taken in
      let further : limit + length (front ++ held) - taken ≡ length front + room = omega (arith, length-append front held) in
      ap (λ n. count_by is_line_feed (take n ((front ++ held) ++ text))) further
      ∙ ap (λ l. count_by is_line_feed (take (length front + room) l)) (append_assoc front held text)
      ∙ ap (count_by is_line_feed) (take-append-add front (held ++ text) room)
      ∙ feeds-append front (take room (held ++ text))
      ∙ ap (λ n. n + count_by is_line_feed (take room (held ++ text))) (feeds_none front h)
      ∙ zero-add (count_by is_line_feed (take room (held ++ text)))

  -- one less is to come behind a line
  pub feeds_found : (chunk text : List ℕ) (taken : ℕ) → list_any is_line_feed chunk ≡ true → taken ≤ limit → feeds_up_to limit chunk taken text ≡ 1 + feeds_up_to limit (after_first is_line_feed chunk) taken text
  feeds_found chunk text taken h fits =
      let line = before_first is_line_feed chunk in
      let rest = after_first is_line_feed chunk in
      let room = limit + length rest - taken in
      let one : limit + length (10 ∷ rest) - taken ≡ suc room = omega arith in
      ap (λ c. feeds_up_to limit c taken text) (split_at_line_feed chunk h)
      ∙ feeds_behind line (10 ∷ rest) text taken (list_any-before_first chunk) (omega arith)
      ∙ ap (λ n. count_by is_line_feed (take n (10 ∷ (rest ++ text)))) one
      ∙ sum_by-cons (λ byte. cond (is_line_feed byte) 1 0) 10 (take room (rest ++ text))

  -- as many are to come behind a chunk that has none
  pub feeds_unfound : (chunk text : List ℕ) (taken : ℕ) → list_any is_line_feed chunk ≡ false → taken ≤ limit → feeds_up_to limit chunk taken text ≡ feeds_up_to limit (after_first is_line_feed chunk) taken text
  feeds_unfound chunk text taken h fits =
      ap (λ c. feeds_up_to limit c taken text) (sym (append-nil chunk))
      ∙ feeds_behind chunk [] text taken h (omega arith)
      ∙ ap (λ c. feeds_up_to limit c taken text) (sym (after_first-none chunk h))

  -- as many are to come once bytes are taken
  pub feeds_taken : (chunk text : List ℕ) (taken : ℕ) → feeds_up_to limit [] taken (chunk ++ text) ≡ feeds_up_to limit chunk (taken + length chunk) text
  feeds_taken chunk text taken =
      let same : limit + length {A = ℕ} [] - taken ≡ limit + length chunk - (taken + length chunk) = omega arith in
      ap (λ n. count_by is_line_feed (take n (chunk ++ text))) same

  -- as many are to come as before the first step
  pub feeds_first : (chunk : List ℕ) (taken : ℕ) (left : Option (List ℕ)) → FromTold (λ xs ys. feeds_up_to limit chunk taken xs ≡ feeds_up_to limit chunk taken ys) left left
  feeds_first chunk taken None = tt
  feeds_first chunk taken (Some text) = refl

  -- one less is to come behind a chunk with a line feed
  pub feeds_line : (first old chunk : List ℕ) (start taken : ℕ) (before left : Option (List ℕ)) → list_any is_line_feed old ≡ true → taken ≤ limit → chunk ≡ after_first is_line_feed old → FromTold (λ xs ys. feeds_up_to limit first start xs ≡ feeds_up_to limit old taken ys) before left → FromTold (λ xs ys. feeds_up_to limit first start xs ≡ feeds_up_to limit chunk taken ys + 1) before left
  feeds_line first old chunk start taken before left h fits rest =
      FromTold-map (λ xs ys. feeds_up_to limit first start xs ≡ feeds_up_to limit old taken ys) (λ xs ys. feeds_up_to limit first start xs ≡ feeds_up_to limit chunk taken ys + 1)
      (λ xs ys p. p ∙ feeds_found old ys taken h fits ∙ add_comm 1 (feeds_up_to limit (after_first is_line_feed old) taken ys) ∙ ap (λ c. feeds_up_to limit c taken ys + 1) (sym rest)) before left

  -- as many are to come behind a chunk that has none, and one more read
  pub feeds_more : (first old chunk : List ℕ) (start taken now : ℕ) (before left end : Option (List ℕ)) → list_any is_line_feed old ≡ false → taken ≤ limit → now ≡ taken + length chunk → FromTold (λ xs ys. feeds_up_to limit first start xs ≡ feeds_up_to limit old taken ys) before left → Consumes left end chunk → FromTold (λ xs ys. feeds_up_to limit first start xs ≡ feeds_up_to limit chunk now ys) before end
  feeds_more first old chunk start taken now before left end h fits same =
      FromTold-consumes (λ xs ys. feeds_up_to limit first start xs ≡ feeds_up_to limit old taken ys) (λ xs ys. feeds_up_to limit first start xs ≡ feeds_up_to limit chunk now ys) chunk
      (λ xs ys zs p e. p ∙ feeds_unfound old ys taken h fits ∙ ap (λ c. feeds_up_to limit c taken ys) (after_first-none old h) ∙ ap (feeds_up_to limit [] taken) e ∙ feeds_taken chunk zs taken ∙ ap (λ n. feeds_up_to limit chunk n zs) (sym same)) before left end

  -- the same, in the words of a search that found no line
  pub feeds_stop : (first old chunk : List ℕ) (start taken now : ℕ) (before left end : Option (List ℕ)) → list_any is_line_feed old ≡ false → taken ≤ limit → now ≡ taken + length chunk → FromTold (λ xs ys. feeds_up_to limit first start xs ≡ feeds_up_to limit old taken ys) before left → Consumes left end chunk → FromTold (λ xs ys. feeds_up_to limit first start xs ≡ feeds_up_to limit chunk now ys + 0) before end
  feeds_stop first old chunk start taken now before left end h fits same p q =
      FromTold-map (λ xs ys. feeds_up_to limit first start xs ≡ feeds_up_to limit chunk now ys) (λ xs ys. feeds_up_to limit first start xs ≡ feeds_up_to limit chunk now ys + 0)
      (λ xs ys e. e ∙ sym (add-zero (feeds_up_to limit chunk now ys))) before end
      (feeds_more first old chunk start taken now before left end h fits same p q)
