use Rattle.std.proofs.Common.{rules}
use Rattle.desk.specs.declared.faults.PriceFault.TheVariants.{NotPriced}
use Rattle.desk.proofs.Mapped.{made_err}
use Rattle.desk.proofs.answers.answer_price.Goals as goal

pub returns-in_err-price : goal.returns-in_err-price
returns-in_err-price c =
    let why = made_err NotPriced _ _ _ c.from_residual-in_err-price.result c.map_err-2.ensures.cases c.in_err-price.was c.from_residual-in_err-price.ensures.1 in
    let answered = rw why.1 at c.price.ensures in
    rw why.2 (search rules)
