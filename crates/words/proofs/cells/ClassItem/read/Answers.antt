use Rattle.std.proofs.Common.{rules, arith}
use Rattle.words.proofs.Digits.{pair_small, pair_widen}
use Rattle.words.proofs.cells.ClassItem.read.Goals as goal

pub returns-in_err-class : goal.returns-in_err-class
returns-in_err-class c = rw c.from_residual.ensures (λ x text. c.in_err-class.ensures x.class x.minutes (pair_widen (omega arith) (omega arith) text))

pub returns-in_err-ok : goal.returns-in_err-ok
returns-in_err-ok c = rw c.from_residual-in_err-ok.ensures (λ x text. let small = pair_small (λ digit. omega arith) text c.in_ok-class.ensures in search rules)
