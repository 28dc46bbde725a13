use Rattle.std.proofs.Common.{◌≡◌, ◌+◌, ◌-◌, ◌^◌, ◌==◌, ◌<◌, true, false, [], ◌∷◌, ◌++◌, length, sym, ◌∙◌, ap, arith, length-append}
use Rattle.std.proofs.lemmas.Bool.Decides.{nat_tests}
use Rattle.kp_publish.specs.Entries.{records_of, is_ended}
use Rattle.kp_publish.proofs.Beginnings.{open_length}
use Rattle.kp_publish.proofs.Writing.{writes_moves, written}
use Rattle.kp_publish.proofs.front.Front.try_to_write.Goals as goal

pub overflow_add-entries : goal.overflow_add-entries
overflow_add-entries g c =
    let log = c.self.inside.seen.log in
    let is_open : is_ended log ≡ false = ap is_ended c.self.view_is ∙ c.requires.open in
    let room : length (records_of log) < 2 ^ 64 - 1 = rw c.self.view_is c.requires.room in
    omega (arith, c.self.invariant.0, open_length log is_open, room)

pub compare_exchange-found-requires : goal.compare_exchange-found-requires
compare_exchange-found-requires g c =
    let h = c.args.head.now.head_is in
    let again = c.again-seen.ensures in
    let offer = c.plain-offer.ensures in
    let pen = c.no_pen-pen.ensures in
    let book = ap (λ s. s.book) again ∙ (c.self.invariant.2 ∙ sym (ap (λ w. w.book) h)) in (
      ap (λ w. w.tracked) h,
      book,
      pen.0 ∙ book,
      offer.0,
      rw (ap (λ w. w.key) h, pen.1, offer.1, offer.3, again) (writes_moves c.self.inside.seen.log (g.X.Entered.entry c.args.next.now) c.self.inside.entries (sym c.self.invariant.0)),
    )

pub overflow_add-result : goal.overflow_add-result
overflow_add-result g c =
    let log = c.self.inside.seen.log in
    let is_open : is_ended log ≡ false = ap is_ended c.self.view_is ∙ c.requires.open in
    let room : length (records_of log) < 2 ^ 64 - 1 = rw c.self.view_is c.requires.room in
    omega (arith, c.self.invariant.0, open_length log is_open, room)

pub invariant_of-result : goal.invariant_of-result
invariant_of-result g c =
    let log = c.self.inside.seen.log in
    let e = g.X.Entered.entry c.args.next.now in
    let found = c.compare_exchange-found.result in
    let hit : (found == c.self.inside.entries) ≡ true = grind (arith, nat_tests, c.if-found-entries.false) in
    let new : c.compare_exchange-found.new.seen.log ≡ log ++ e ∷ [] =
    written (found == c.self.inside.entries) hit c.compare_exchange-found.ensures.7
    ∙ (λ i. ap (λ s. s.log) c.again-seen.ensures i ++ c.plain-offer.ensures.1 i ∷ []) in
    let more : length (log ++ e ∷ []) ≡ length log + 1 = length-append log (e ∷ []) in
    let records : c.args.records ≡ length (records_of (log ++ e ∷ [])) = rw c.self.view_is c.requires.records in (
      omega (arith, c.self.invariant.0, more, ap length new),
      records ∙ ap (λ l. length (records_of l)) (sym new),
      c.compare_exchange-found.ensures.0 ∙ (ap (λ s. s.book) c.again-seen.ensures ∙ c.self.invariant.2),
    )

pub returns : goal.returns
returns g c =
    let found = c.compare_exchange-found.result in
    let hit : (found == c.self.inside.entries) ≡ true = grind (arith, nat_tests, c.if-found-entries.false) in
    written (found == c.self.inside.entries) hit c.compare_exchange-found.ensures.7
    ∙ (λ i. (ap (λ s. s.log) c.again-seen.ensures ∙ c.self.view_is) i ++ c.plain-offer.ensures.1 i ∷ [])
