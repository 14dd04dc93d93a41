-- What a roster by hand costs: the chosen cells of the rest gauge, composed. Assumes nothing.
use Rattle.std.specs.Prelude.{◌≡◌, ℕ, ◌≤◌, List, ◌++◌, length, Ok, Err, codes, decimal, Result, ◌≢◌, slice_index_or}
use Rattle.words.specs.Words.{kind_name}
use Rattle.costs.specs.Classes.{class_written}
use Rattle.costs.specs.Gauge.{WellFormed, gauged}
use Rattle.costs.specs.Plain.{CostOf, Sum, Highest, HighestClass}
use Rattle.costs.specs.Totals.{total_written}
use Rattle.costs.specs.Worsts.{worst_written}
use Rattle.costs.specs.Written.{Written}
use Rattle.costs.specs.declared.values.Duty.{Duty}
use Rattle.costs.specs.declared.values.Widened.{Widened}
use Rattle.costs.specs.declared.values.Widened.TheVariants.{Allowed, Forbidden}
use Rattle.words.specs.declared.kinds.Kind.{Kind}
use Rattle.words.specs.declared.kinds.Kind.TheVariants.{Total, Worst, Class}
use Rattle.tables.specs.Rosters.{Roster}
use Rattle.tables.specs.Tables.{chosen}
use Rattle.desk.specs.declared.price.Link.{Link}
use Rattle.desk.specs.declared.price.Price.{Price}
use Rattle.desk.specs.declared.price.Price.TheVariants.{InTotal, InWorst, InClass}
use Rattle.desk.specs.declared.price.Unpriced.{Unpriced}
use Rattle.desk.specs.declared.price.Unpriced.TheVariants.{DutyCount, LaterCount, DutyTimes, NoRoster, NoMemory}

-- stands where a list has no duty
abbrev pub no_duty : Duty
no_duty = record { start = 0; finish = 0 }

-- the cell of an earlier and a later duty, by the rest gauge
abbrev pub gauged_grid : {C : Type 0} → Written C → List Duty → List Duty → ℕ → ℕ → Widened C
gauged_grid w earlier later row column = gauged w (slice_index_or earlier row no_duty) (slice_index_or later column no_duty)

-- the roster gives each earlier duty a later one of its own
pub record Linked (link : Link) : Type 0 where
  pub rows : length link.earlier.now ≡ length link.roster.now
  pub roster : Roster (length link.later.now) link.roster.now

-- a price in a kind is what the cells that the roster chooses come to
abbrev pub Priced : Kind → List Duty → List Duty → List ℕ → Price → Type 0
Priced Total earlier later columns (InTotal r) = CostOf Sum (chosen (gauged_grid total_written earlier later) columns) r
Priced Total earlier later columns (InWorst r) = ⊥
Priced Total earlier later columns (InClass r) = ⊥
Priced Worst earlier later columns (InTotal r) = ⊥
Priced Worst earlier later columns (InWorst r) = CostOf Highest (chosen (gauged_grid worst_written earlier later) columns) r
Priced Worst earlier later columns (InClass r) = ⊥
Priced Class earlier later columns (InTotal r) = ⊥
Priced Class earlier later columns (InWorst r) = ⊥
Priced Class earlier later columns (InClass r) = CostOf HighestClass (chosen (gauged_grid class_written earlier later) columns) r

-- one to thirty-two duties a day
abbrev pub Counted : List Duty → Type 0
Counted earlier = (1 ≤ length earlier) × (length earlier ≤ 32)

-- both days' duties lie within their days
abbrev pub Timed : List Duty → List Duty → Type 0
Timed earlier later = WellFormed (length earlier) earlier × WellFormed (length earlier) later

-- a price, or the first thing that is wrong: the number of duties, then of later ones, their times, the roster; want of memory where nothing is
abbrev pub Answered : Kind → List Duty → List Duty → List ℕ → Result Price Unpriced → Type 0
Answered kind earlier later columns (Ok p) = Counted earlier × Timed earlier later × Roster (length earlier) columns × Priced kind earlier later columns p
Answered kind earlier later columns (Err DutyCount) = Counted earlier → ⊥
Answered kind earlier later columns (Err LaterCount) = Counted earlier × (length later ≢ length earlier)
Answered kind earlier later columns (Err DutyTimes) = Counted earlier × (length later ≡ length earlier) × (Timed earlier later → ⊥)
Answered kind earlier later columns (Err NoRoster) = Counted earlier × Timed earlier later × (Roster (length earlier) columns → ⊥)
Answered kind earlier later columns (Err NoMemory) = Counted earlier × Timed earlier later × Roster (length earlier) columns

-- a price as text: minutes, class:minutes, or forbidden
abbrev pub price_text : Price → List ℕ
price_text (InTotal (Allowed c)) = decimal c.minutes
price_text (InTotal Forbidden) = codes "forbidden"
price_text (InWorst (Allowed c)) = decimal c.minutes
price_text (InWorst Forbidden) = codes "forbidden"
price_text (InClass (Allowed c)) = decimal c.class ++ (codes ":" ++ decimal c.minutes)
price_text (InClass Forbidden) = codes "forbidden"

-- a kind has that name
abbrev pub Named : List ℕ → Type 0
Named word = (k : Kind) × (word ≡ kind_name k)
