-- From what a roster costs in a table to what is answered to the words for them. Assumes nothing.
use Rattle.std.proofs.Common.{◌≡◌, Ok, Err, Result, sym, refl, subst}
use Rattle.std.specs.Result.{result_map_both}
use Rattle.costs.specs.Plain.{CostOf}
use Rattle.costs.specs.declared.values.Widened.{Widened}
use Rattle.words.specs.declared.kinds.Kind.{Kind}
use Rattle.desk.specs.Weighing.{TableWords, WordsWeighed, cost_type, operations_of, text_of, means_of, price_in, KindWeighed}
use Rattle.desk.specs.declared.faults.WeighFault.{WeighFault}

-- an answer in a kind, as a price
pub kind_weighed : (kind k : Kind) → kind ≡ k → (q : TableWords) (r : Result (Widened (cost_type k)) WeighFault) → WordsWeighed (operations_of k) (text_of k) (CostOf (means_of k)) q r → KindWeighed kind q (result_map_both (price_in k) (λ e. e) r)
kind_weighed kind k is q (Ok r) h = subst (λ x. KindWeighed x q (Ok (price_in k r))) (sym is) (r, refl, h)
kind_weighed kind k is q (Err why) h = subst (λ x. KindWeighed x q (Err why)) (sym is) h
