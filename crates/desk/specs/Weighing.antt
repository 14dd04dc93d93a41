-- What a roster by hand costs in a table by hand. Assumes nothing.
use Rattle.std.specs.Prelude.{◌≡◌, ℕ, ◌*◌, ◌≤◌, ◌⊎◌, List, [], ◌∷◌, ◌++◌, length, Ok, Err, string_bytes, codes, Result, String}
use Rattle.costs.specs.Classes.{class_operations}
use Rattle.costs.specs.Kinds.{Operations}
use Rattle.costs.specs.Plain.{CostOf, Sum, Highest, HighestClass}
use Rattle.costs.specs.Totals.{total_operations}
use Rattle.costs.specs.Wide.{widened}
use Rattle.costs.specs.Worsts.{worst_operations}
use Rattle.costs.specs.declared.values.Class.{Class as ClassCost}
use Rattle.costs.specs.declared.values.Total.{Total as TotalCost}
use Rattle.costs.specs.declared.values.Widened.{Widened}
use Rattle.costs.specs.declared.values.Worst.{Worst as WorstCost}
use Rattle.tables.specs.Rosters.{Roster}
use Rattle.tables.specs.Tables.{grid, chosen}
use Rattle.words.specs.Words.{kind_name, NumberText, TotalText, WorstText, ClassText, CellText, ListText, NoList}
use Rattle.words.specs.declared.kinds.Kind.{Kind}
use Rattle.words.specs.declared.kinds.Kind.TheVariants.{Total, Worst, Class}
use Rattle.desk.specs.Prices.{price_text, Named}
use Rattle.desk.specs.declared.price.Price.{Price}
use Rattle.desk.specs.declared.price.Price.TheVariants.{InTotal, InWorst, InClass}
use Rattle.desk.specs.declared.faults.WeighFault.{WeighFault}
use Rattle.desk.specs.declared.faults.WeighFault.TheVariants.{NoKind, NoSize, NoCells, NoColumns, NotWeighed, NoMemoryLeft}
use Rattle.desk.specs.declared.weigh.TableWords.{TableWords as LentTableWords}
use Rattle.desk.specs.declared.weigh.Unweighed.{Unweighed}
use Rattle.desk.specs.declared.weigh.Unweighed.TheVariants.{CellCount, NoRoster}

-- the words for a table and a roster
pub record TableWords : Type 0 where
  pub size_word : List ℕ
  pub cells_word : List ℕ
  pub roster_word : List ℕ

-- the words behind the references
abbrev pub table_words : LentTableWords → TableWords
table_words lent = record { size_word = lent.size.now; cells_word = lent.cells.now; roster_word = lent.roster.now }

abbrev pub weigh_request : List ℕ → TableWords → List (List ℕ)
weigh_request kind_word q = codes "weigh" ∷ kind_word ∷ q.size_word ∷ q.cells_word ∷ q.roster_word ∷ []

-- a number of rows, 1 to 32
pub record SizeText (word : List ℕ) (n : ℕ) : Type 0 where
  pub number : NumberText 64 word n
  pub some : 1 ≤ n
  pub few : n ≤ 32

-- what the words for rows, cells and roster say, where `Text` tells which text writes which cost
pub record TableSays {C : Type 0} (Text : List ℕ → C → Type 0) (q : TableWords) (n : ℕ) (cells : List (Widened C)) (columns : List ℕ) : Type 0 where
  pub size_is : SizeText q.size_word n
  pub cells_are : ListText (CellText Text) q.cells_word cells
  pub columns_are : ListText (NumberText 8) q.roster_word columns

-- r is what the roster costs in the table, where `Costs` tells what chosen cells cost
pub record Weighed {C : Type 0} (o : Operations C) (Costs : List (Widened C) → Widened C → Type 0) (n : ℕ) (cells : List (Widened C)) (columns : List ℕ) (r : Widened C) : Type 0 where
  pub whole : length cells ≡ n * n
  pub roster : Roster n columns
  pub cost : Costs (chosen (grid (widened o) n cells) columns) r

-- the cost, or the first thing that is wrong with the table and the roster: the number of cells, then the roster
abbrev pub TableWeighed : {C : Type 0} → Operations C → (List (Widened C) → Widened C → Type 0) → ℕ → List (Widened C) → List ℕ → Result (Widened C) Unweighed → Type 0
TableWeighed o Costs n cells columns (Ok r) = Weighed o Costs n cells columns r
TableWeighed o Costs n cells columns (Err CellCount) = length cells ≡ n * n → ⊥
TableWeighed o Costs n cells columns (Err NoRoster) = (length cells ≡ n * n) × (Roster n columns → ⊥)

-- what is answered to words that say something
pub record Heard {C : Type 0} (o : Operations C) (Text : List ℕ → C → Type 0) (Costs : List (Widened C) → Widened C → Type 0) (q : TableWords) (r : Result (Widened C) Unweighed) : Type 0 where
  pub n : ℕ
  pub cells : List (Widened C)
  pub columns : List ℕ
  pub says : TableSays Text q n cells columns
  pub weighed : TableWeighed o Costs n cells columns r

abbrev pub NamesSize : List ℕ → Type 0
NamesSize word = (n : ℕ) × SizeText word n

abbrev pub ListsCells : {C : Type 0} → (List ℕ → C → Type 0) → List ℕ → Type 0
ListsCells {C} Text word = (cells : List (Widened C)) × ListText (CellText Text) word cells

-- what is answered to the words for a table and a roster; an error names the first that cannot be read, the number of rows, the cells or the roster, or else what is wrong with them; memory may be wanting behind the number of rows
abbrev pub WordsWeighed : {C : Type 0} → Operations C → (List ℕ → C → Type 0) → (List (Widened C) → Widened C → Type 0) → TableWords → Result (Widened C) WeighFault → Type 0
WordsWeighed o Text Costs q (Ok r) = Heard o Text Costs q (Ok r)
WordsWeighed o Text Costs q (Err NoKind) = ⊥
WordsWeighed o Text Costs q (Err NoSize) = NamesSize q.size_word → ⊥
WordsWeighed o Text Costs q (Err NoCells) = NamesSize q.size_word × NoList (CellText Text) q.cells_word
WordsWeighed o Text Costs q (Err NoColumns) = NamesSize q.size_word × ListsCells Text q.cells_word × NoList (NumberText 8) q.roster_word
WordsWeighed o Text Costs q (Err (NotWeighed why)) = Heard o Text Costs q (Err why)
WordsWeighed o Text Costs q (Err NoMemoryLeft) = NamesSize q.size_word

-- the costs of each kind, their texts, and what they come to in whole numbers
abbrev pub cost_type : Kind → Type 0
cost_type Total = TotalCost
cost_type Worst = WorstCost
cost_type Class = ClassCost

abbrev pub operations_of : (k : Kind) → Operations (cost_type k)
operations_of Total = total_operations
operations_of Worst = worst_operations
operations_of Class = class_operations

abbrev pub text_of : (k : Kind) → List ℕ → cost_type k → Type 0
text_of Total = TotalText
text_of Worst = WorstText
text_of Class = ClassText

abbrev pub means_of : (k : Kind) → List (cost_type k) → cost_type k → Type 0
means_of Total = Sum
means_of Worst = Highest
means_of Class = HighestClass

abbrev pub price_in : (k : Kind) → Widened (cost_type k) → Price
price_in Total r = InTotal r
price_in Worst r = InWorst r
price_in Class r = InClass r

-- the same in a kind, as a price
abbrev pub KindWeighed : Kind → TableWords → Result Price WeighFault → Type 0
KindWeighed k q (Ok price) = (r : Widened (cost_type k)) × (price ≡ price_in k r) × WordsWeighed (operations_of k) (text_of k) (CostOf (means_of k)) q (Ok r)
KindWeighed k q (Err why) = WordsWeighed (operations_of k) (text_of k) (CostOf (means_of k)) q (Err why)

-- what is answered to a weigh request where the word behind `weigh` names a kind
abbrev pub InKind : List ℕ → TableWords → Result Price WeighFault → Type 0
InKind kind_word q r = (k : Kind) × (kind_word ≡ kind_name k) × KindWeighed k q r

-- the reply to a weigh request
abbrev pub WeighReply : List ℕ → TableWords → List ℕ → Type 0
WeighReply kind_word q reply = (price : Price) × InKind kind_word q (Ok price) × (reply ≡ codes "ok " ++ price_text price)

-- the error: there is no kind of that name, or what is wrong with the words behind it
abbrev pub WeighError : List ℕ → TableWords → WeighFault → Type 0
WeighError kind_word q why = ((why ≡ NoKind) × (Named kind_word → ⊥)) ⊎ InKind kind_word q (Err why)

-- what is answered to a weigh request
abbrev pub WeighAnswered : {A : Type 0} → List ℕ → TableWords → Result (String A) WeighFault → Type 0
WeighAnswered kind_word q (Ok s) = WeighReply kind_word q (string_bytes s)
WeighAnswered kind_word q (Err why) = WeighError kind_word q why
