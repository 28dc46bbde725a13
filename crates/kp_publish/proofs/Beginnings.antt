-- Beginnings of one list, and what records and ends they have.
use Rattle.std.proofs.Common.{◌≡◌, suc, ◌+◌, ◌≤◌, true, false, List, [], ◌∷◌, ◌++◌, length, refl, ap, sym, ◌∙◌, subst, arith, length-append, append_assoc}
use mathlib.Core.List.{IsPrefix}
use Rattle.kp_types.specs.declared.sync.SyncRecord.{SyncRecord}
use Rattle.kp_publish.specs.declared.entry.Entry.{Entry}
use Rattle.kp_publish.specs.declared.entry.Entry.TheVariants.{Record, End}
use Rattle.kp_publish.specs.Entries.{records_of, is_ended, GoesOnFrom}

-- of two beginnings of one list the shorter begins the longer
pub prefix_shorter : {A : Type 0} (xs ys zs : List A) → IsPrefix xs zs → IsPrefix ys zs → length xs ≤ length ys → IsPrefix xs ys
prefix_shorter [] ys zs p q le = (ys, refl)
prefix_shorter (x ∷ xs) [] zs p q le = absurd (omega arith)
prefix_shorter (x ∷ xs) (y ∷ ys) [] p q le = absurd (cc (p.1))
prefix_shorter (x ∷ xs) (y ∷ ys) (z ∷ zs) p q le =
    let heads : x ≡ y = cc (p.1, q.1) in
    let rest = prefix_shorter xs ys zs (p.0, cc (p.1)) (q.0, cc (q.1)) (omega arith) in
    (rest.0, cc (heads, rest.1))

-- a beginning as long as the whole is the whole
pub prefix_whole : {A : Type 0} (xs ys : List A) → IsPrefix xs ys → length ys ≤ length xs → xs ≡ ys
prefix_whole [] [] p le = refl
prefix_whole [] (y ∷ ys) p le = absurd (omega arith)
prefix_whole (x ∷ xs) [] p le = absurd (cc (p.1))
prefix_whole (x ∷ xs) (y ∷ ys) p le =
    let rest = prefix_whole xs ys (p.0, cc (p.1)) (omega arith) in cc (p.1, rest)

pub prefix_length : {A : Type 0} (xs ys : List A) → IsPrefix xs ys → length xs ≤ length ys
prefix_length xs ys p = omega (arith, sym (ap length p.1) ∙ length-append xs p.0)

-- two beginnings of one list that are as long are one
pub prefix_same : {A : Type 0} (xs ys zs : List A) → IsPrefix xs zs → IsPrefix ys zs → length xs ≡ length ys → xs ≡ ys
prefix_same xs ys zs p q same =
    prefix_whole xs ys (prefix_shorter xs ys zs p q (omega (arith, same))) (omega (arith, same))

-- records of a beginning begin those of the whole
pub records_begin : (xs rest : List Entry) → IsPrefix (records_of xs) (records_of (xs ++ rest))
records_begin [] rest = (records_of rest, refl)
records_begin (Record r ∷ xs) rest =
    let more = records_begin xs rest in (more.0, ap (λ rs. r ∷ rs) more.1)
records_begin (End ∷ xs) rest = ([], refl)

-- and are all of them where it is ended
pub records_ended : (xs rest : List Entry) → is_ended xs ≡ true → records_of (xs ++ rest) ≡ records_of xs
records_ended [] rest e = absurd (cc e)
records_ended (Record r ∷ xs) rest e = ap (λ rs. r ∷ rs) (records_ended xs rest e)
records_ended (End ∷ xs) rest e = refl

pub begins_records : (xs zs : List Entry) → IsPrefix xs zs → IsPrefix (records_of xs) (records_of zs)
begins_records xs zs p = subst (λ ys. IsPrefix (records_of xs) (records_of ys)) p.1 (records_begin xs p.0)

pub ended_records : (xs zs : List Entry) → IsPrefix xs zs → is_ended xs ≡ true → records_of zs ≡ records_of xs
ended_records xs zs p e = ap records_of (sym p.1) ∙ records_ended xs p.0 e

-- of two beginnings of one history that with as many records goes on from the other
pub goes_on : (later earlier both : List Entry) → IsPrefix later both → IsPrefix earlier both
    → length (records_of earlier) ≤ length (records_of later) → GoesOnFrom later earlier
goes_on later earlier both p q le =
    let begins = prefix_shorter (records_of earlier) (records_of later) (records_of both) (begins_records earlier both q) (begins_records later both p) le in record {
      begins = begins;
      ended = λ e.
          let all : length (records_of both) ≡ length (records_of earlier) = ap length (ended_records earlier both q e) in
          let less : length (records_of later) ≤ length (records_of both) = prefix_length (records_of later) (records_of both) (begins_records later both p) in
          sym (prefix_whole (records_of earlier) (records_of later) begins (omega (arith, all, less)));
    }

-- an open history has records alone
pub open_length : (xs : List Entry) → is_ended xs ≡ false → length (records_of xs) ≡ length xs
open_length [] e = refl
open_length (Record r ∷ xs) e = ap suc (open_length xs e)
open_length (End ∷ xs) e = absurd (cc e)

-- and goes on by one more
pub records_snoc : (xs : List Entry) (r : SyncRecord) → is_ended xs ≡ false → records_of (xs ++ Record r ∷ []) ≡ records_of xs ++ r ∷ []
records_snoc [] r e = refl
records_snoc (Record x ∷ xs) r e = ap (λ rs. x ∷ rs) (records_snoc xs r e)
records_snoc (End ∷ xs) r e = absurd (cc e)

pub open_snoc : (xs : List Entry) (r : SyncRecord) → is_ended xs ≡ false → is_ended (xs ++ Record r ∷ []) ≡ false
open_snoc [] r e = refl
open_snoc (Record x ∷ xs) r e = open_snoc xs r e
open_snoc (End ∷ xs) r e = absurd (cc e)

pub count_snoc : (xs : List Entry) (r : SyncRecord) → is_ended xs ≡ false → length (records_of xs) + 1 ≡ length (records_of (xs ++ Record r ∷ []))
count_snoc xs r e = sym (ap length (records_snoc xs r e) ∙ length-append (records_of xs) (r ∷ []))

-- an end adds no record
pub records_end : (xs : List Entry) → records_of (xs ++ End ∷ []) ≡ records_of xs
records_end [] = refl
records_end (Record r ∷ xs) = ap (λ rs. r ∷ rs) (records_end xs)
records_end (End ∷ xs) = refl

pub count_end : (xs : List Entry) → length (records_of xs) ≡ length (records_of (xs ++ End ∷ []))
count_end xs = ap length (sym (records_end xs))

pub ended_snoc : (xs : List Entry) → is_ended (xs ++ End ∷ []) ≡ true
ended_snoc [] = refl
ended_snoc (Record r ∷ xs) = ended_snoc xs
ended_snoc (End ∷ xs) = refl

-- a history that begins with an ended one is ended
pub ended_more : (xs rest : List Entry) → is_ended xs ≡ true → is_ended (xs ++ rest) ≡ true
ended_more [] rest e = absurd (cc e)
ended_more (Record r ∷ xs) rest e = ended_more xs rest e
ended_more (End ∷ xs) rest e = refl

pub ended_begin : (xs zs : List Entry) → IsPrefix xs zs → is_ended xs ≡ true → is_ended zs ≡ true
ended_begin xs zs p e = ap is_ended (sym p.1) ∙ ended_more xs p.0 e

-- what goes on from a list goes on from each beginning of it
pub goes_on_through : (later longer earlier : List Entry) → IsPrefix earlier longer → GoesOnFrom later longer → GoesOnFrom later earlier
goes_on_through later longer earlier p on =
    let first = begins_records earlier longer p in record {
      begins = (first.0 ++ on.begins.0, sym (append_assoc (records_of earlier) first.0 on.begins.0) ∙ (ap (λ rs. rs ++ on.begins.0) first.1 ∙ on.begins.1));
      ended = λ e.
          let all : records_of longer ≡ records_of earlier = ended_records earlier longer p e in
          on.ended (ended_begin earlier longer p e) ∙ all;
    }
