use Rattle.std.proofs.Common.{rules, arith}
use Rattle.words.proofs.Digits.{pair_small, pair_widen}
use Rattle.words.proofs.items.DutyItem.read.Goals as goal

pub returns-in_err-start : goal.returns-in_err-start
returns-in_err-start c = rw c.from_residual.ensures (λ d text. c.in_err-start.ensures d.start d.finish (pair_widen (omega arith) (omega arith) text))

pub returns-in_err-ok : goal.returns-in_err-ok
returns-in_err-ok c = rw c.from_residual-in_err-ok.ensures (λ d text. let small = pair_small (λ digit. omega arith) text c.in_ok-start.ensures in search rules)

pub returns-in_err-ok-2 : goal.returns-in_err-ok-2
returns-in_err-ok-2 c = rw c.from_residual-in_err-ok-2.ensures (λ d text. let small = pair_small (λ digit. omega arith) text c.in_ok-start.ensures in search rules)
