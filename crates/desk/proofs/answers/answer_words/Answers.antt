use Rattle.std.proofs.Common.{drop, codes, inr, arith}
use Rattle.words.proofs.Pieces.{behind}
use Rattle.desk.specs.declared.faults.Fault.TheVariants.{InWeigh}
use Rattle.desk.proofs.Mapped.{same_ok, made_err}
use Rattle.desk.proofs.Texts.{first_and_others, word, five_of, not_five_of}
use Rattle.desk.proofs.answers.answer_words.Goals as goal

pub returns-in-price-2 : goal.returns-in-price-2
returns-in-price-2 c = not_five_of c.args.words.now (codes "price") c.in-price-2.is-price (grind arith) (λ five. grind arith)

pub returns-in_ok-map_err-in-weigh : goal.returns-in_ok-map_err-in-weigh
returns-in_ok-map_err-in-weigh c =
    let parts = c.args.words.now in
    let same = same_ok InWeigh _ _ _ c.map_err-in-weigh.ensures.cases c.in_ok-map_err-in-weigh.was in
    inr (word parts 1, _, five_of parts (codes "weigh") c.in-weigh.is-weigh (omega arith), (rw same at c.answer_weigh.ensures))

pub returns-in_err-map_err-in-weigh : goal.returns-in_err-map_err-in-weigh
returns-in_err-map_err-in-weigh c =
    let parts = c.args.words.now in
    let why = made_err InWeigh _ _ _ c.from_residual-in_err-map_err-in-weigh.result c.map_err-in-weigh.ensures.cases c.in_err-map_err-in-weigh.was c.from_residual-in_err-map_err-in-weigh.ensures.1 in
    rw why.2 (word parts 1, _, five_of parts (codes "weigh") c.in-weigh.is-weigh (omega arith), (rw why.1 at c.answer_weigh.ensures))

pub returns-in-weigh-2 : goal.returns-in-weigh-2
returns-in-weigh-2 c = not_five_of c.args.words.now (codes "weigh") c.in-weigh-2.is-weigh (grind arith) (λ five. grind arith)

pub returns-in_default : goal.returns-in_default
returns-in_default c =
    let parts = c.args.words.now in
    (word parts 0, behind (drop 1 parts), first_and_others parts (grind arith), (λ e. grind arith), (λ e. grind arith))
