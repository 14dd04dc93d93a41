use Rattle.std.proofs.Common.{◌≡◌, ◌≤◌, ◌<◌, ℕ, List, length, take}
use Rattle.std.specs.Prelude.{Option, Result, MatchResult, OnErr}
use Rattle.std.specs.Io.KnownBytes.{Consumes}
use Rattle.std.specs.Str.Iter.{LacksByte}
use Rattle.desk.specs.Lines.{line_limit}
use Rattle.desk.specs.declared.lines.TooLong.{TooLong}
use Rattle.desk.proofs.lines.Line.read.Given as goal

-- whether all of a line has room
abbrev pub Fits : Result (Unit {0}) TooLong → List ℕ → Type 0
Fits kept all = MatchResult kept (λ _. length all ≤ line_limit) (λ _. line_limit < length all)

-- all of a line that is read so far, and the front of it that is kept
pub record LineSoFar (kept : Result (Unit {0}) TooLong) (line : List ℕ) (before left : Option (List ℕ)) : Type 0 where
  pub all : List ℕ
  pub no_end : LacksByte 10 all
  pub front : line ≡ take line_limit all
  pub fits : Fits kept all
  pub consumed : Consumes before left all

abbrev pub invariant-loop : goal.invariant-loop
invariant-loop g l = record {
  no_end : LacksByte 10 l.self;
  full : OnErr l.kept (length l.self ≡ line_limit);
  so_far : LineSoFar l.kept l.self (g.R.Read.remaining l.fn.input) (g.R.Read.remaining l.input);
}
