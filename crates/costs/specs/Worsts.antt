-- Worst: the greater number of minutes counts. Assumes nothing.
use Rattle.std.specs.Prelude.{◌-◌, ◌^◌, min, max, nat_le, nat_lt, if◌then◌else◌}
use Rattle.std.proofs.Common.{arith}
use Rattle.costs.specs.Bytes.{big_endian}
use Rattle.costs.specs.Kinds.{Operations}
use Rattle.costs.specs.Written.{Written, cell_minutes}
use Rattle.costs.specs.declared.values.Worst.{Worst}

abbrev pub no_minutes : Worst
no_minutes = record { minutes = 0; fits = omega arith }

abbrev pub worst_operations : Operations Worst
worst_operations = record {
  empty = no_minutes;
  compose = λ a b. record { minutes = max a.minutes b.minutes; fits = omega arith };
  at_most = λ a b. nat_le a.minutes b.minutes;
  rest = λ a b. if nat_lt a.minutes b.minutes then b else no_minutes;
}

-- a shortage of 0 to 120 minutes is far below the largest number of 32 bits
abbrev pub worst_written : Written Worst
worst_written = record {
  code = 2;
  body_size = 4;
  body = λ c. big_endian 4 c.minutes;
  may_stand = λ c. nat_le c.minutes cell_minutes;
  shortage = λ m. record { minutes = min m (2 ^ 32 - 1); fits = omega arith };
}
