use Rattle.std.proofs.Common.{◌≡◌, ◌<◌, length, true, false, is_some, subst, sym, ◌∙◌, ap}
use Rattle.std.specs.List.{list_any}
use Rattle.kp_base.specs.Net.{same_address}
use Rattle.kp_choice_defs.specs.Recent.{is_of}
use Rattle.kp_recent.specs.Hinted.{AreHinted}
use Rattle.kp_recent.specs.Moments.{AreFalling, sightings_of, shown_in, with_set}
use Rattle.kp_recent.proofs.Falling.{falling_set}
use Rattle.kp_recent.proofs.Put.{put_is, found_moment, set_some}
use Rattle.kp_recent.proofs.Shown.{set_is, there_is}
use Rattle.kp_recent.proofs.part.Part.set.Goals as goal
use Rattle.kp_recent.proofs.part.Part.set.Goals.{then-self, else-self}

-- where the source is there, `put` finds it
pub returns-in_err-put-clause-known : goal.returns-in_err-put-clause-known
returns-in_err-put-clause-known c known =
    let es = c.self.inside.seen.entries in
    let there = sym (there_is c.args.source es) ∙ ap (λ s. list_any (is_of c.args.source) (shown_in s)) c.self.view_is ∙ known in
    absurd (let no : false ≡ true = c.in_err-put.ensures.succeeds (ap is_some (found_moment c.args.source es) ∙ there) in cc)

-- the new source is no older than the first, so moments go on falling, and it has its hints
pub invariant_of-self-2 : goal.invariant_of-self-2
invariant_of-self-2 c =
    let placed = ap (λ s. s.entries) c.in_ok-put.ensures.entries ∙ put_is c.self.inside.seen c.args.source c.args.now c.none_is_later-is_latest.ensures.fits c.none_is_later-is_latest.ensures.some in
    let es = c.self.inside.seen.entries in (
      λ h. elim c.if-self.branch [
        | then-self w ↦ subst AreFalling (sym placed) (falling_set (same_address c.args.source) _ c.args.source c.args.now es (c.self.invariant.0 w.if-self.true) (c.none_is_later-is_latest.ensures.later (sym w.self-is ∙ h)))
        | else-self w ↦ absurd (let no : true ≡ false = sym h ∙ w.self-is ∙ w.if-self.false in cc)
      ],
      subst (AreHinted c.set.new.self.marks c.set.new.self.since) (sym placed) (c.set.ensures es c.self.inside.seen.cap c.self.invariant.1),
    )

pub returns-clause-ok : goal.returns-clause-ok
returns-clause-ok c =
    let es = c.self.inside.seen.entries in
    ap shown_in c.in_ok-put.ensures.entries
    ∙ ap sightings_of (put_is c.self.inside.seen c.args.source c.args.now c.none_is_later-is_latest.ensures.fits c.none_is_later-is_latest.ensures.some)
    ∙ set_is c.args.source c.self.inside.seen.cap c.args.now es c.none_is_later-is_latest.ensures.distinct
    ∙ ap (λ s. with_set s.cap c.args.source c.args.now (shown_in s)) c.self.view_is

pub returns-clause-some : goal.returns-clause-some
returns-clause-some c =
    let placed = ap (λ s. s.entries) c.in_ok-put.ensures.entries ∙ put_is c.self.inside.seen c.args.source c.args.now c.none_is_later-is_latest.ensures.fits c.none_is_later-is_latest.ensures.some in
    subst (λ ss. 0 < length ss) (sym placed) (set_some c.self.inside.seen.cap c.args.source c.args.now c.self.inside.seen.entries c.none_is_later-is_latest.ensures.some)
