use Rattle.std.proofs.Common.{None, Some}
use Rattle.words.proofs.Digits.{pair_cut}
use Rattle.words.proofs.numbers.two_numbers.Goals as goal

pub returns-in_err-first : goal.returns-in_err-first
returns-in_err-first c = rw c.from_residual.ensures (λ m n text. pair_cut c.requires.other text None c.in_err-first.ensures.cases c.requires.ascii)

pub returns-in_err-number : goal.returns-in_err-number
returns-in_err-number c = rw c.from_residual-in_err-number.ensures (λ m n text. c.in_err-number.ensures m (pair_cut c.requires.other text (Some (c.in_ok-first.first, c.in_ok-first.second)) c.in_ok-first.ensures.cases c.requires.ascii).0)

pub returns-in_err-number-2 : goal.returns-in_err-number-2
returns-in_err-number-2 c = rw c.from_residual-in_err-number-2.ensures (λ m n text. c.in_err-number-2.ensures n (pair_cut c.requires.other text (Some (c.in_ok-first.first, c.in_ok-first.second)) c.in_ok-first.ensures.cases c.requires.ascii).1)
