use Rattle.std.proofs.Common.{◌≡◌, ◌-◌, ◌+◌, ◌<◌, ◌∷◌, Some, None, IfSome, cond, bytes_eq, drop, length, option_and_then, refl, sym, ap, ◌∙◌, subst, arith}
use Rattle.std.specs.List.{find, slice_get}
use Rattle.std.specs.Map.{lookup}
use Rattle.std.proofs.lemmas.List.{drop_more}
use Rattle.std.proofs.lemmas.Option.{slice_get_read}
use Rattle.kp_choice_defs.specs.Names.{chain_name, is_clash, first_clash}
use Rattle.kp_names.specs.Places.{other_of}
use Rattle.kp_names.specs.declared.namesakes.Namesakes.{Namesakes}
use Rattle.kp_names.proofs.Clashes.{Tells, next_tells, next_inside, clash_here, clash_later}
use Rattle.kp_names.proofs.clash.first_places.Goals as goal

-- the key has another one with its name, so the first clash is its
pub loop-place-preserved-in-Some : goal.loop-place-preserved-in-Some
loop-place-preserved-in-Some c =
    let keys = c.args.keys.now in
    let name = chain_name c.args.namer in
    let i = c.loop-place.place - 1 in
    let ks = drop c.loop-place.place keys in
    let k = c.index-keys-place.result in
    let old = c.loop-place.seen.entries in
    let fits : i < length keys = omega (arith, c.loop-place.auto.place, c.loop-place-test.true) in
    let here = slice_get_read keys (length keys) i k refl fits c.index-keys-place.is in
    let back : i + 1 ≡ c.loop-place.place = omega (arith, c.loop-place-test.true) in
    let rest : drop i keys ≡ k ∷ ks = drop_more keys i k fits ∙ (λ j. sym c.index-keys-place.is j ∷ drop (back j) keys) in
    let n : Namesakes = record { first = i; other = c.first_other-other.result } in
    let next : c.first_other-other.result ≡ other_of keys (lookup (bytes_eq (name k)) old) k =
    c.first_other-other.ensures.value k here ∙ ap (λ o. other_of keys o k) (c.copied.ensures ∙ c.get.ensures.value ∙ ap (λ m. lookup (bytes_eq m) old) c.chain_name-name.ensures) in
    let found : find (is_clash name k) ks ≡ slice_get keys c.in-Some.second =
    c.loop-place.invariant.tells k ∙ ap (option_and_then (slice_get keys)) (sym next ∙ c.in-Some.is) in
    let inside = subst (λ o. IfSome o (λ j. j < length keys)) c.in-Some.is c.first_other-other.ensures.within in
    record {
      tells = subst (Tells name keys (λ s. lookup (bytes_eq s) c.insert.new.self.entries)) (sym rest)
          (next_tells name keys k ks n here (λ s. lookup (bytes_eq s) old) c.loop-place.invariant.tells next (λ s. lookup (bytes_eq s) c.insert.new.self.entries)
          (λ s. c.in_ok-insert.ensures.updates.0 s ∙ ap (λ m. cond (bytes_eq m s) (Some n) (lookup (bytes_eq s) old)) c.chain_name-name.ensures));
      inside = λ s. next_inside name keys n (bytes_eq c.chain_name-name.result s) (lookup (bytes_eq s) old) (lookup (bytes_eq s) c.insert.new.self.entries)
          (c.in_ok-insert.ensures.updates.0 s) (fits, c.first_other-other.ensures.within) (c.loop-place.invariant.inside s);
      clash = sym (ap (first_clash name) rest ∙ clash_here name keys k ks i c.in-Some.second here inside found);
      within = (fits, inside);
    }

-- no other one has its name, so the first clash is that of the rest
pub loop-place-preserved : goal.loop-place-preserved
loop-place-preserved c =
    let keys = c.args.keys.now in
    let name = chain_name c.args.namer in
    let i = c.loop-place.place - 1 in
    let ks = drop c.loop-place.place keys in
    let k = c.index-keys-place.result in
    let old = c.loop-place.seen.entries in
    let fits : i < length keys = omega (arith, c.loop-place.auto.place, c.loop-place-test.true) in
    let here = slice_get_read keys (length keys) i k refl fits c.index-keys-place.is in
    let back : i + 1 ≡ c.loop-place.place = omega (arith, c.loop-place-test.true) in
    let rest : drop i keys ≡ k ∷ ks = drop_more keys i k fits ∙ (λ j. sym c.index-keys-place.is j ∷ drop (back j) keys) in
    let n : Namesakes = record { first = i; other = c.first_other-other.result } in
    let next : c.first_other-other.result ≡ other_of keys (lookup (bytes_eq (name k)) old) k =
    c.first_other-other.ensures.value k here ∙ ap (λ o. other_of keys o k) (c.copied.ensures ∙ c.get.ensures.value ∙ ap (λ m. lookup (bytes_eq m) old) c.chain_name-name.ensures) in
    let found : find (is_clash name k) ks ≡ None =
    c.loop-place.invariant.tells k ∙ ap (option_and_then (slice_get keys)) (sym next ∙ c.in_default.is) in
    record {
      tells = subst (Tells name keys (λ s. lookup (bytes_eq s) c.insert.new.self.entries)) (sym rest)
          (next_tells name keys k ks n here (λ s. lookup (bytes_eq s) old) c.loop-place.invariant.tells next (λ s. lookup (bytes_eq s) c.insert.new.self.entries)
          (λ s. c.in_ok-insert.ensures.updates.0 s ∙ ap (λ m. cond (bytes_eq m s) (Some n) (lookup (bytes_eq s) old)) c.chain_name-name.ensures));
      inside = λ s. next_inside name keys n (bytes_eq c.chain_name-name.result s) (lookup (bytes_eq s) old) (lookup (bytes_eq s) c.insert.new.self.entries)
          (c.in_ok-insert.ensures.updates.0 s) (fits, c.first_other-other.ensures.within) (c.loop-place.invariant.inside s);
      clash = c.loop-place.invariant.clash ∙ sym (ap (first_clash name) rest ∙ clash_later name keys k ks found);
      within = c.loop-place.invariant.within;
    }
