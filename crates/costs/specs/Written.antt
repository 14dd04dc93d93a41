-- What a kind that goes into certificates says of itself, and the laws that it keeps. Assumes nothing.
use Rattle.std.specs.Prelude.{◌≡◌, ℕ, ◌<◌, ◌≤◌, Bool, true, List}
use Rattle.costs.specs.Bytes.{Body, first_bytes}

-- the most minutes that a table's cell may hold, in every kind
abbrev pub cell_minutes : ℕ
cell_minutes = 1_000_000

pub record Written (C : Type 0) : Type 0 where
  pub code : ℕ
  -- how many bytes a written cost has behind its first one
  pub body_size : ℕ
  pub body : C → List ℕ
  -- whether a table's cell may hold this cost
  pub may_stand : C → Bool
  -- the cost of so many minutes of rest too few
  pub shortage : ℕ → C

-- c is what is read from the front of these bytes
abbrev pub Read : {C : Type 0} → Written C → List ℕ → C → Type 0
Read w bytes c = w.body c ≡ first_bytes w.body_size bytes

pub record WrittenLaws {C : Type 0} (w : Written C) : Type 0 where
  pub code_is_byte : w.code < 256
  pub body_is_short : w.body_size ≤ 16
  pub body_has_size : (c : C) → Body w.body_size (w.body c)
  -- reading a written body gives the cost again
  pub reads_back : (c d : C) → Read w (w.body c) d → d ≡ c
  -- every body of the size is the writing of exactly one cost
  pub writes_every_body : (bs : List ℕ) → Body w.body_size bs → (c : C) × (w.body c ≡ bs) × ((d : C) → w.body d ≡ bs → d ≡ c)
  -- the costs of shortages of 0 to 120 minutes may stand in a cell
  pub shortages_stand : (m : ℕ) → m ≤ 120 → w.may_stand (w.shortage m) ≡ true
