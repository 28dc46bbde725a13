-- What `put` makes of a part.
use Rattle.std.proofs.Common.{◌≡◌, ℕ, zero, suc, ◌+◌, ◌-◌, ◌<◌, ◌≤◌, Bool, true, false, cond, [], ◌∷◌, take, length, Option, Some, None, refl, ap, sym, ◌∙◌, arith}
use Rattle.std.specs.Option.{option_map_or}
use Rattle.std.specs.Map.{lookup, lookup_entry, remove_entry}
use Rattle.std.proofs.lemmas.Option.{none-some}
use Rattle.std.proofs.lemmas.List.{take_all}
use Rattle.lru.specs.LruCache.{LruCache, lru_cache, put_entries}
use Rattle.lru.proofs.CallerLemmas.{Contains-lookup_entry}
use Rattle.kp_base.specs.contracts.address.AddressPartialEq.TheImpl as address_eq
use Rattle.kp_base.specs.Net.{AddressParts}
use Rattle.kp_recent.specs.Moments.{Pairs, moment_of, with_source}
use Rattle.kp_base.proofs.SameParts.{address_same}
use Rattle.kp_recent.proofs.Sources.{address_test, one_address}

-- a cache of these entries and this capacity
pub same_cache : (c : LruCache AddressParts ℕ) (es : Pairs) (n : ℕ) → c.entries ≡ es → c.cap ≡ n → c ≡ lru_cache es n
same_cache c es n h k = λ i. lru_cache (h i) (k i)

module _ (test : AddressParts → Bool) where
  absent_cons : (s : AddressParts × ℕ) (ss rest : Pairs) (o : Option (AddressParts × ℕ)) (b : Bool) → cond b (Some s) o ≡ None → (o ≡ None → rest ≡ ss) → cond b ss (s ∷ rest) ≡ s ∷ ss
  absent_cons s ss rest o true h k = absurd (none-some s (sym h))
  absent_cons s ss rest o false h k = ap (λ xs. s ∷ xs) (k h)

  -- nothing is removed where nothing is found
  absent : (ss : Pairs) → lookup_entry test ss ≡ None → remove_entry test ss ≡ ss
  absent [] h = refl
  absent (s ∷ ss) h = absent_cons s ss (remove_entry test ss) (lookup_entry test ss) (test s.0) h (absent ss)

  present_cons : (s f : AddressParts × ℕ) (ss rest : Pairs) (o : Option (AddressParts × ℕ)) (b : Bool) → cond b (Some s) o ≡ Some f → (o ≡ Some f → length rest + 1 ≡ length ss) → length (cond b ss (s ∷ rest)) + 1 ≡ length (s ∷ ss)
  present_cons s f ss rest o true h k = omega arith
  present_cons s f ss rest o false h k = omega (arith, k h)

  -- one is removed where one is found
  present : (ss : Pairs) (f : AddressParts × ℕ) → lookup_entry test ss ≡ Some f → length (remove_entry test ss) + 1 ≡ length ss
  present [] f h = absurd (none-some f h)
  present (s ∷ ss) f h = present_cons s f ss (remove_entry test ss) (lookup_entry test ss) (test s.0) h (present ss f)

  module _ (source : AddressParts) (moment size : ℕ) (ss : Pairs) where
    -- `put` by what a look-up finds
    abbrev put_by : Option (AddressParts × ℕ) → Pairs
    put_by o = option_map_or (λ e. (e.0, moment) ∷ remove_entry test ss) o ((source, moment) ∷ take (size - 1) ss)

    put_found : ((a : AddressParts) → test a ≡ true → source ≡ a) → length ss ≤ size → 0 < size → (o : Option (AddressParts × ℕ)) → lookup_entry test ss ≡ o → put_by o ≡ take size ((source, moment) ∷ remove_entry test ss)
    put_found exact fits some (Some f) h =
        ap (λ a. (a, moment) ∷ remove_entry test ss) (sym (exact f.0 (Contains-lookup_entry test ss f h).1))
        ∙ sym (take_all size ((source, moment) ∷ remove_entry test ss) (omega (arith, fits, present ss f h)))
    put_found exact fits some None h =
        ap (λ n. take n ((source, moment) ∷ ss)) (let one : suc (size - 1) ≡ size = omega (arith, some) in one)
        ∙ ap (λ xs. take size ((source, moment) ∷ xs)) (sym (absent ss h))

-- `put` sets a source
pub put_is : (c : LruCache AddressParts ℕ) (source : AddressParts) (moment : ℕ) → length c.entries ≤ c.cap → 0 < c.cap → put_entries address_eq.ghosts.eq c source moment ≡ with_source c.cap source moment c.entries
put_is c source moment fits some =
    put_found (address_eq.ghosts.eq source) source moment c.cap c.entries (λ a h. one_address source a (sym (address_same source a) ∙ h)) fits some _ refl
    ∙ ap (λ test. take c.cap ((source, moment) ∷ remove_entry test c.entries)) (address_test source)

-- the derived test finds the moment beside a source
pub found_moment : (source : AddressParts) (ss : Pairs) → lookup (address_eq.ghosts.eq source) ss ≡ moment_of source ss
found_moment source ss = ap (λ test. lookup test ss) (address_test source)

-- a part that a source was set in is not empty
pub set_some : (size : ℕ) (source : AddressParts) (moment : ℕ) (ss : Pairs) → 0 < size → 0 < length (with_source size source moment ss)
set_some zero source moment ss some = absurd (omega (arith, some))
set_some (suc n) source moment ss some = omega arith
