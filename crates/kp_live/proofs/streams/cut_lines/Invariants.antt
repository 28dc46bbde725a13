use Rattle.std.proofs.Common.{◌≡◌, ℕ, map, take}
use Rattle.std.specs.Prelude.{IfSome, slice_get}
use Rattle.std.specs.List.{filter}
use Rattle.kp_run_defs.specs.LiveLines.{is_line_of}
use Rattle.kp_live.proofs.streams.cut_lines.Given as goal

-- each stream has those of the first lines that are its own
abbrev pub invariant-loop-line : goal.invariant-loop-line
invariant-loop-line g l = record {
  standing : map (λ s. s.standing) l.streams ≡ map (λ s. s.standing) l.initial.streams;
  own : (i : ℕ) → IfSome (slice_get l.streams i)
      (λ s. map (λ x. x.now) s.lines.items ≡ filter (is_line_of i) (take l.line-index l.lines));
}
