-- Class: the highest class counts, with its minutes. Assumes nothing.
use Rattle.std.specs.Prelude.{ℕ, ◌+◌, ◌-◌, ◌^◌, ◌<◌, Bool, true, false, ◌&&◌, ◌||◌, ◌∷◌, ◌==◌, nat_le, nat_lt, if◌then◌else◌}
use Rattle.std.proofs.Common.{arith}
use Rattle.costs.specs.Bytes.{big_endian}
use Rattle.costs.specs.Kinds.{Operations}
use Rattle.costs.specs.Totals.{held}
use Rattle.costs.specs.Written.{Written, cell_minutes}
use Rattle.costs.specs.declared.values.Class.{Class}

-- 0:0
abbrev pub no_class : Class
no_class = record { class = 0; minutes = 0; byte = omega arith; fits = omega arith }

-- the class of a, with the minutes of both
abbrev pub added : Class → Class → Class
added a b = record { class = a.class; minutes = held (a.minutes + b.minutes); byte = a.byte; fits = omega arith }

-- the class of b, with the minutes that b has more than a
abbrev pub difference : Class → Class → Class
difference a b = record { class = b.class; minutes = b.minutes - a.minutes; byte = b.byte; fits = omega arith }

-- the lower class is less, and in one class the fewer minutes
abbrev pub class_at_most : Class → Class → Bool
class_at_most a b = nat_lt a.class b.class || (a.class == b.class && nat_le a.minutes b.minutes)

abbrev pub class_operations : Operations Class
class_operations = record {
  empty = no_class;
  compose = λ a b. if nat_lt a.class b.class then b else if nat_lt b.class a.class then a else added a b;
  at_most = class_at_most;
  rest = λ a b. if class_at_most a b then if a.class == b.class then difference a b else b else no_class;
}

-- no shortage has no class, up to 60 minutes are of class 1, and more are of class 2
abbrev pub shortage_class : ℕ → ℕ
shortage_class m = if m == 0 then 0 else if nat_le m 60 then 1 else 2

pub shortage_class_small : (none few : Bool) → (if none then 0 else if few then 1 else 2) < 2 ^ 8
shortage_class_small true few = omega arith
shortage_class_small false true = omega arith
shortage_class_small false false = omega arith

abbrev pub class_written : Written Class
class_written = record {
  code = 3;
  body_size = 9;
  body = λ c. c.class ∷ big_endian 8 c.minutes;
  may_stand = λ c. nat_le c.class 9 && nat_le c.minutes cell_minutes;
  shortage = λ m. record { class = shortage_class m; minutes = held m; byte = shortage_class_small (m == 0) (nat_le m 60); fits = omega arith };
}
