-- The desk's answers to a line, by its bytes. Assumes nothing.
use Rattle.std.specs.Prelude.{◌≡◌, ℕ, ◌⊎◌, List, [], ◌∷◌, ◌++◌, length, Some, None, Ok, Err, string_bytes, codes, IsUtf8, Option, Result, String, ◌≢◌}
use Rattle.costs.specs.declared.values.Duty.{Duty}
use Rattle.words.specs.Words.{WordsOf, kind_name, NumberText, DutyText, ListText, NoList}
use Rattle.words.specs.declared.kinds.Kind.{Kind}
use Rattle.desk.specs.Prices.{price_text, Named, Answered}
use Rattle.desk.specs.Weighing.{TableWords, weigh_request, WeighReply, WeighError}
use Rattle.desk.specs.declared.answers.PriceWords.{PriceWords as LentPriceWords}
use Rattle.desk.specs.declared.faults.Fault.{Fault}
use Rattle.desk.specs.declared.faults.Fault.TheVariants.{NotText, NoRequest, NotPrice, NotWeigh, InPrice, InWeigh, OutOfMemory}
use Rattle.desk.specs.declared.faults.PriceFault.{PriceFault}
use Rattle.desk.specs.declared.faults.PriceFault.TheVariants.{NoKind, NoDuties, NoColumns, NotPriced, NoMemoryLeft}
use Rattle.desk.specs.declared.price.Price.{Price}
use Rattle.desk.specs.declared.price.Unpriced.{Unpriced}

-- the words of a price request behind the first
pub record PriceWords : Type 0 where
  pub kind_word : List ℕ
  pub earlier_word : List ℕ
  pub later_word : List ℕ
  pub roster_word : List ℕ

-- the words behind the references
abbrev pub price_words : LentPriceWords → PriceWords
price_words lent = record { kind_word = lent.kind.now; earlier_word = lent.earlier.now; later_word = lent.later.now; roster_word = lent.roster.now }

abbrev pub price_request : PriceWords → List (List ℕ)
price_request q = codes "price" ∷ q.kind_word ∷ q.earlier_word ∷ q.later_word ∷ q.roster_word ∷ []

-- what they say
pub record PriceSays (q : PriceWords) (kind : Kind) (earlier later : List Duty) (columns : List ℕ) : Type 0 where
  pub kind_is : q.kind_word ≡ kind_name kind
  pub earlier_is : ListText DutyText q.earlier_word earlier
  pub later_is : ListText DutyText q.later_word later
  pub columns_are : ListText (NumberText 8) q.roster_word columns

-- what is answered to what they say
pub record PriceAnswer (q : PriceWords) (answer : Result Price Unpriced) : Type 0 where
  pub kind : Kind
  pub earlier : List Duty
  pub later : List Duty
  pub columns : List ℕ
  pub says : PriceSays q kind earlier later columns
  pub answered : Answered kind earlier later columns answer

-- the reply to a price request that is priced
abbrev pub PriceReply : PriceWords → List ℕ → Type 0
PriceReply q reply = (price : Price) × PriceAnswer q (Ok price) × (reply ≡ codes "ok " ++ price_text price)

-- a word that lists duties
abbrev pub ListsDuties : List ℕ → Type 0
ListsDuties word = (ds : List Duty) × ListText DutyText word ds

-- the error for one that is not: the first word that cannot be read, the kind, the two lists of duties or the roster, or else why it is refused; memory may be wanting
abbrev pub PriceError : PriceWords → PriceFault → Type 0
PriceError q NoKind = Named q.kind_word → ⊥
PriceError q NoDuties = Named q.kind_word × (NoList DutyText q.earlier_word ⊎ (ListsDuties q.earlier_word × NoList DutyText q.later_word))
PriceError q NoColumns = Named q.kind_word × ListsDuties q.earlier_word × ListsDuties q.later_word × NoList (NumberText 8) q.roster_word
PriceError q (NotPriced why) = PriceAnswer q (Err why)
PriceError q NoMemoryLeft = Named q.kind_word

-- what is answered to a price request
abbrev pub PriceAnswered : {A : Type 0} → PriceWords → Result (String A) PriceFault → Type 0
PriceAnswered q (Ok s) = PriceReply q (string_bytes s)
PriceAnswered q (Err why) = PriceError q why

-- what is answered to a line's words: nothing if there are none, its reply to a request, or an error
abbrev pub WordsReplied : {A : Type 0} → List (List ℕ) → Result (Option (String A)) Fault → Type 0
WordsReplied words (Ok None) = words ≡ []
WordsReplied words (Ok (Some s)) =
    ((q : PriceWords) × (words ≡ price_request q) × PriceReply q (string_bytes s)) ⊎ ((k : List ℕ) × (q : TableWords) × (words ≡ weigh_request k q) × WeighReply k q (string_bytes s))
WordsReplied words (Err NotText) = ⊥
WordsReplied words (Err NoRequest) = (first : List ℕ) × (others : List (List ℕ)) × (words ≡ first ∷ others) × (first ≢ codes "price") × (first ≢ codes "weigh")
WordsReplied words (Err NotPrice) = (others : List (List ℕ)) × (words ≡ codes "price" ∷ others) × (length others ≢ 4)
WordsReplied words (Err NotWeigh) = (others : List (List ℕ)) × (words ≡ codes "weigh" ∷ others) × (length others ≢ 4)
WordsReplied words (Err (InPrice why)) = (q : PriceWords) × (words ≡ price_request q) × PriceError q why
WordsReplied words (Err (InWeigh why)) = (k : List ℕ) × (q : TableWords) × (words ≡ weigh_request k q) × WeighError k q why
WordsReplied words (Err OutOfMemory) = ⊥

-- a line that begins with #
abbrev pub Comment : List ℕ → Type 0
Comment line = (rest : List ℕ) × (line ≡ codes "#" ++ rest)

-- what is answered to a text: what is answered to its words; memory may be wanting
abbrev pub TextReplied : {A : Type 0} → List ℕ → Result (Option (String A)) Fault → Type 0
TextReplied line r = (r ≡ Err OutOfMemory) ⊎ ((words : List (List ℕ)) × WordsOf line words × WordsReplied words r)

-- what is answered to a line: nothing to a comment, an error to what is no text, and otherwise what is answered to the text
abbrev pub Replied : {A : Type 0} → List ℕ → Result (Option (String A)) Fault → Type 0
Replied line r = (Comment line × (r ≡ Ok None)) ⊎ ((Comment line → ⊥) × (((IsUtf8 line → ⊥) × (r ≡ Err NotText)) ⊎ (IsUtf8 line × TextReplied line r)))
