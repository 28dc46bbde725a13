-- Entries that are past their timeout, and what is left once there is none.
use Rattle.std.proofs.Common.{◌≡◌, ℕ, ◌-◌, ◌<◌, ◌≤◌, nat_le, Bool, true, false, List, [], ◌∷◌, map, filter, length, cond, slice_get, Option, Some, refl, sym, ap, ◌∙◌, subst, inl, inr, arith}
use Rattle.std.proofs.lemmas.Bool.Decides.{nat_tests}
use Rattle.futures.specs.LinkedLists.{IsIn, without}
use Rattle.kp_base.specs.declared.port.Proto.{Proto}
use Rattle.kp_base.specs.declared.port.Proto.TheVariants.{Sctp, Tcp, Udp}
use Rattle.kp_links.specs.Lists.{Lists, rows_of}
use Rattle.kp_track_defs.specs.declared.flow.Entry.{Entry}
use Rattle.kp_track_defs.specs.Entries.{is_within, timeout_of}
use Rattle.kp_conntrack.specs.Buckets.{age_list, age_of}
use Rattle.kp_conntrack.specs.declared.index.Index.{Index}
use Rattle.kp_conntrack.specs.Laid.{AreAllSized, IsAged, IsLaid, entries_in, entry_at, kept_rows}
use Rattle.kp_conntrack.proofs.Added.{first_in}
use Rattle.kp_conntrack.proofs.Ages.{first_least}

age_low : (p : Proto) → age_of p < 2
age_low Udp = omega arith
age_low Tcp = omega arith
age_low Sctp = omega arith

same_timeout : (p q : Proto) → age_of p ≡ age_of q → timeout_of p ≡ timeout_of q
same_timeout Udp Udp h = refl
same_timeout Udp Tcp h = cc
same_timeout Udp Sctp h = cc
same_timeout Tcp Udp h = cc
same_timeout Tcp Tcp h = refl
same_timeout Tcp Sctp h = refl
same_timeout Sctp Udp h = cc
same_timeout Sctp Tcp h = refl
same_timeout Sctp Sctp h = refl

has_first : (row : ℕ) (xs : List ℕ) → IsIn row xs → (first : ℕ) × (slice_get xs 0 ≡ Some first)
has_first row [] found = absurd found
has_first row (x ∷ xs) found = (x, refl)

younger : (now a b s t : ℕ) → a ≤ b → s ≡ t → nat_le (now - a) s ≡ true → nat_le (now - b) t ≡ true
younger now a b s t less same h = grind (arith, nat_tests)

-- where the first of each age is within its timeout, all are
pub all_within : (rows : List Entry) (kept : List ℕ) (ages : Lists) (now : ℕ) → IsAged rows kept ages
    → ((age row : ℕ) → age < 2 → slice_get (rows_of ages age) 0 ≡ Some row → is_within now (entry_at rows row) ≡ true)
    → (row : ℕ) → IsIn row kept → is_within now (entry_at rows row) ≡ true
all_within rows kept ages now aged fronts row found =
    let age = age_list (entry_at rows row) in
    let listed = aged.listed row found in
    let first = has_first row (rows_of ages age) listed in
    let within = fronts age first.0 (age_low (entry_at rows row).connection.proto) first.1 in
    let least = first_least rows (rows_of ages age) (aged.ascending age) first.0 first.1 row listed in
    let same = (aged.known first.0 age (first_in first.0 (rows_of ages age) first.1)).1 in
    younger now (entry_at rows first.0).latest (entry_at rows row).latest _ _ least
    (same_timeout (entry_at rows first.0).connection.proto (entry_at rows row).connection.proto same) within

-- a test that all rows pass
pub all_pass : {B : Type 0} (e : ℕ → B) (w : B → Bool) (xs : List ℕ) → ((x : ℕ) → IsIn x xs → w (e x) ≡ true)
    → filter w (map e xs) ≡ map e xs
all_pass e w [] all = refl
all_pass e w (x ∷ xs) all =
    let more = all_pass e w xs (λ y found. all y (inr found)) in
    λ i. cond (all x (inl refl) i) (e x ∷ more i) (more i)

-- a row that is found by its age is kept
pub front_kept : (rows : List Entry) (order : Lists) (index : Index) (moment row : ℕ) → IsLaid rows order index moment
    → (age : ℕ) × (slice_get (rows_of index.ages age) 0 ≡ Some row) → IsIn row (kept_rows order)
front_kept rows order index moment row laid front =
    (laid.found.ages.known row front.0 (first_in row (rows_of index.ages front.0) front.1)).0

pub all_sized : (rows : List Entry) (order : Lists) (index : Index) (moment : ℕ) → IsLaid rows order index moment → AreAllSized index
all_sized rows order index moment laid = record {
  ages = laid.found.ages.sized;
  connections = laid.found.connections.sized;
  replies = laid.found.replies.sized;
  endpoints = laid.found.endpoints.sized;
}

-- a later moment
pub laid_later : (rows : List Entry) (order : Lists) (index : Index) (n m : ℕ) → n ≤ m → IsLaid rows order index n → IsLaid rows order index m
laid_later rows order index n m later laid = record {
  len = laid.len;
  ordered = laid.ordered;
  found = laid.found;
  past = λ row found. let past = laid.past row found in omega (arith, past, later);
}
