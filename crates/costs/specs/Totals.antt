-- Total: minutes are added, held at 2^64 - 1. Assumes nothing.
use Rattle.std.specs.Prelude.{ℕ, ◌+◌, ◌-◌, ◌^◌, min, nat_le}
use Rattle.std.proofs.Common.{arith}
use Rattle.costs.specs.Bytes.{big_endian}
use Rattle.costs.specs.Kinds.{Operations}
use Rattle.costs.specs.Written.{Written, cell_minutes}
use Rattle.costs.specs.declared.values.Total.{Total}

-- a number held at 2^64 - 1
abbrev pub held : ℕ → ℕ
held n = min n (2 ^ 64 - 1)

-- b - a is 0 where b is not above a
abbrev pub total_operations : Operations Total
total_operations = record {
  empty = record { minutes = 0; fits = omega arith };
  compose = λ a b. record { minutes = held (a.minutes + b.minutes); fits = omega arith };
  at_most = λ a b. nat_le a.minutes b.minutes;
  rest = λ a b. record { minutes = b.minutes - a.minutes; fits = omega arith };
}

abbrev pub total_written : Written Total
total_written = record {
  code = 1;
  body_size = 8;
  body = λ c. big_endian 8 c.minutes;
  may_stand = λ c. nat_le c.minutes cell_minutes;
  shortage = λ m. record { minutes = held m; fits = omega arith };
}
