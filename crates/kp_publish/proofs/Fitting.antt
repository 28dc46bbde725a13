-- What a publisher says stays true of its copies.
use Rattle.std.proofs.Common.{◌≡◌, ◌==◌, true, false, List, [], ◌∷◌, ◌++◌, length, Option, None, refl, ap, sym, ◌∙◌, arith}
use Rattle.std.specs.List.{fold}
use Rattle.std.proofs.lemmas.Bool.Decides.{nat_tests}
use Rattle.kp_publish.specs.declared.entry.Entry.{Entry}
use Rattle.kp_publish.specs.declared.entry.Entry.TheVariants.{End}
use Rattle.kp_publish.specs.Entries.{records_of, is_ended}
use Rattle.kp_publish.specs.Pending.{Fits, after, newest_of}
use Rattle.kp_publish.proofs.Beginnings.{records_end, ended_snoc}

-- one record more is pending
pub fits_more : (published newest shown kept newest' shown' kept' : List Entry) → Fits published newest shown kept → is_ended newest ≡ false
    → shown' ≡ shown → kept' ≡ newest' → Fits published newest' shown' kept'
fits_more published newest shown kept newest' shown' kept' fits e s k = record {
  is_open = λ _. ((fits.is_open e).0 ∙ sym s, sym k);
  records = fits.records ∙ ap records_of (sym s);
}

-- the end is no record
pub fits_end : (published newest shown kept published' newest' : List Entry) → Fits published newest shown kept → published ≡ newest
    → published' ≡ newest' → newest' ≡ newest ++ End ∷ [] → Fits published' newest' shown kept
fits_end published newest shown kept published' newest' fits whole p n = record {
  is_open = λ e. absurd (cc (sym (ap is_ended n ∙ ended_snoc newest) ∙ e));
  records = ap records_of (p ∙ n) ∙ (records_end newest ∙ (ap records_of (sym whole) ∙ fits.records));
}

pub all_kept : (shown : List Entry) (logged : List (List Entry × List Entry))
    (held : Option (List Entry × List Entry)) → held ≡ None
    → fold after shown logged ≡ newest_of after shown logged held
all_kept shown logged held h = rw h refl

-- an addition to all that was shown and is pending is made
pub taken_in : (kept before later : List Entry) → kept ≡ before → after kept (before, later) ≡ later
taken_in kept before later same =
    let long : (length kept == length before) ≡ true = rw same (grind (arith, nat_tests)) in rw long refl
