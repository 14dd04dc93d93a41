use Rattle.words.specs.declared.kinds.Kind.TheVariants.{Total, Worst, Class}
use Rattle.desk.specs.Weighing.{price_in}
use Rattle.desk.proofs.Mapped.{map_is}
use Rattle.desk.proofs.Weights.{kind_weighed}
use Rattle.desk.proofs.weigh.weigh.Goals as goal

pub returns-in-Total : goal.returns-in-Total
returns-in-Total c = rw (map_is (price_in Total) _ _ c.map.ensures.cases) (kind_weighed c.args.kind Total c.in-Total.is _ _ c.weigh_words.ensures)

pub returns-in-Worst : goal.returns-in-Worst
returns-in-Worst c = rw (map_is (price_in Worst) _ _ c.map-in-Worst.ensures.cases) (kind_weighed c.args.kind Worst c.in-Worst.is _ _ c.weigh_words-in-Worst.ensures)

pub returns-in-Class : goal.returns-in-Class
returns-in-Class c = rw (map_is (price_in Class) _ _ c.map-in-Class.ensures.cases) (kind_weighed c.args.kind Class c.in-Class.is _ _ c.weigh_words-in-Class.ensures)
