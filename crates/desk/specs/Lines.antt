-- Lines as they come from the input. Assumes nothing.
use Rattle.std.specs.Prelude.{◌≡◌, ◌≢◌, ◌<◌, ℕ, ◌⊎◌, List, [], ◌∷◌, ◌++◌, length, take, Option, Some, None, Result, Ok, Err}
use Rattle.std.specs.Str.Iter.{LacksByte}
use Rattle.desk.specs.declared.lines.TooLong.{TooLong}

-- the most bytes that a line has
abbrev pub line_limit : ℕ
line_limit = 1_048_576

-- what is held of a line: all of it with no line end in it, as much as there is room for where it is too long, or nothing at the end of the input
abbrev pub Holds : Option (Result (Unit {0}) TooLong) → List ℕ → Type 0
Holds (Some (Ok whole)) bytes = LacksByte 10 bytes
Holds (Some (Err too_long)) bytes = LacksByte 10 bytes × (length bytes ≡ line_limit)
Holds None bytes = bytes ≡ []

-- all of a line and its end are gone from the front of the bytes: a byte 10 ends it, or the end of the input, which ends no empty line
pub record Taken (all before : List ℕ) (after : Option (List ℕ)) : Type 0 where
  pub rest : List ℕ
  pub left : after ≡ Some rest
  pub end : (before ≡ all ++ 10 ∷ rest) ⊎ ((before ≡ all) × (all ≢ []) × (rest ≡ []))

-- all of a line with no room for it is gone, and its front is kept
pub record TooLongTaken (before : List ℕ) (after : Option (List ℕ)) (line : List ℕ) : Type 0 where
  pub all : List ℕ
  pub no_end : LacksByte 10 all
  pub long : line_limit < length all
  pub front : line ≡ take line_limit all
  pub taken : Taken all before after

-- what a read takes of the bytes that are left of the input: a line and its end, or nothing where nothing is left
abbrev pub LineTaken : Option (Result (Unit {0}) TooLong) → List ℕ → Option (List ℕ) → List ℕ → Type 0
LineTaken (Some (Ok whole)) before after line = Taken line before after
LineTaken (Some (Err too_long)) before after line = TooLongTaken before after line
LineTaken None before after line = (before ≡ []) × (after ≡ Some [])
