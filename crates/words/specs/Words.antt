-- The words of a line, and what they write. Assumes nothing.
use Rattle.std.specs.Prelude.{◌≡◌, ℕ, ◌^◌, ◌<◌, ◌⊎◌, List, [], ◌∷◌, ◌++◌, length, Ok, Err, vec_items, codes, Result, Vec, ◌≢◌, slice_index_or}
use Rattle.std.specs.Str.Iter.{LacksByte}
use Rattle.std.specs.List.{join_with_byte, AllByRecursion}
use Rattle.std.specs.Str.Parse.{IsNumeral, digits_value}
use Rattle.std.specs.Char.{is_whitespace, is_not_whitespace}
use Rattle.std.specs.Str.{NoCharPasses, EmptyOrStartsWithPassing}
use Rattle.costs.specs.declared.values.Class.{Class as ClassCost}
use Rattle.costs.specs.declared.values.Duty.{Duty}
use Rattle.costs.specs.declared.values.Total.{Total as TotalCost}
use Rattle.costs.specs.declared.values.Widened.{Widened}
use Rattle.costs.specs.declared.values.Widened.TheVariants.{Allowed, Forbidden}
use Rattle.costs.specs.declared.values.Worst.{Worst as WorstCost}
use Rattle.words.specs.declared.kinds.Kind.{Kind}
use Rattle.words.specs.declared.kinds.Kind.TheVariants.{Total, Worst, Class}
use Rattle.words.specs.declared.kinds.UnknownKind.{UnknownKind}
use Rattle.words.specs.declared.lists.Unlisted.{Unlisted}
use Rattle.words.specs.declared.lists.Unlisted.TheVariants.{NoItem, NoMemory}

-- a line is blanks, the word w, and rest, which is empty or begins with a blank
pub record FirstWord (line w rest : List ℕ) : Type 0 where
  pub blanks : List ℕ
  pub cut : line ≡ blanks ++ (w ++ rest)
  pub some : 0 < length w
  pub blank : NoCharPasses is_not_whitespace blanks
  pub solid : NoCharPasses is_whitespace w
  pub ends : (more : List ℕ) × EmptyOrStartsWithPassing is_whitespace rest more

-- the words of a line, in their order
abbrev pub WordsOf : List ℕ → List (List ℕ) → Type 0
WordsOf line [] = NoCharPasses is_not_whitespace line
WordsOf line (w ∷ ws) = (rest : List ℕ) × FirstWord line w rest × WordsOf rest ws

-- a kind's name, in bytes
abbrev pub kind_name : Kind → List ℕ
kind_name Total = codes "total"
kind_name Worst = codes "worst"
kind_name Class = codes "class"

-- what is read from a word: the kind that it names, or none where it names none
abbrev pub KindRead : List ℕ → Result Kind UnknownKind → Type 0
KindRead word (Ok k) = word ≡ kind_name k
KindRead word (Err e) = (k : Kind) → word ≢ kind_name k

-- decimal digits, one or more and nothing else, that write n, a number of so many bits
pub record NumberText (bits : ℕ) (bs : List ℕ) (n : ℕ) : Type 0 where
  pub digits : IsNumeral 10 bs
  pub is : digits_value 10 bs ≡ n
  pub small : n < 2 ^ bits

-- two numbers, of so many bits each, and one byte between them
pub record PairText (between bits_first bits_second : ℕ) (bs : List ℕ) (m n : ℕ) : Type 0 where
  pub first_text : List ℕ
  pub second_text : List ℕ
  pub whole : bs ≡ first_text ++ (between ∷ second_text)
  pub first_is : NumberText bits_first first_text m
  pub second_is : NumberText bits_second second_text n

-- a start, a dash, and a finish
abbrev pub DutyText : List ℕ → Duty → Type 0
DutyText bs d = PairText 45 16 16 bs d.start d.finish

abbrev pub TotalText : List ℕ → TotalCost → Type 0
TotalText bs c = NumberText 64 bs c.minutes

abbrev pub WorstText : List ℕ → WorstCost → Type 0
WorstText bs c = NumberText 32 bs c.minutes

-- a class, a colon, and minutes
abbrev pub ClassText : List ℕ → ClassCost → Type 0
ClassText bs c = PairText 58 8 64 bs c.class c.minutes

-- a cost of a kind, or a dash where the cell is forbidden
abbrev pub CellText : {C : Type 0} → (List ℕ → C → Type 0) → List ℕ → Widened C → Type 0
CellText Text bs (Allowed c) = Text bs c
CellText Text bs Forbidden = bs ≡ codes "-"

-- a word cut at its commas, into one piece or more
pub record CutAtCommas (word : List ℕ) (pieces : List (List ℕ)) : Type 0 where
  pub some : 0 < length pieces
  pub joined : word ≡ join_with_byte 44 pieces
  pub no_comma : AllByRecursion (LacksByte 44) pieces

-- each piece is the text of one item, in their order
abbrev pub Texts : {X : Type 0} → (List ℕ → X → Type 0) → List (List ℕ) → List X → Type 0
Texts Text [] [] = Unit {0}
Texts Text [] (x ∷ xs) = ⊥
Texts Text (p ∷ pieces) [] = ⊥
Texts Text (p ∷ pieces) (x ∷ xs) = Text p x × Texts Text pieces xs

-- some piece is no item's text
abbrev pub NoText : {X : Type 0} → (List ℕ → X → Type 0) → List (List ℕ) → Type 0
NoText {X} Text pieces = (k : ℕ) × (k < length pieces) × ((x : X) → Text (slice_index_or pieces k []) x → ⊥)

-- some piece is an item's text
abbrev pub SomeText : {X : Type 0} → (List ℕ → X → Type 0) → List (List ℕ) → Type 0
SomeText {X} Text pieces = (k : ℕ) × (k < length pieces) × (x : X) × Text (slice_index_or pieces k []) x

-- what is read from pieces: an item from each, or no list where some piece is no item's text; memory can be wanting only for an item that was read
abbrev pub PiecesRead : {X A : Type 0} → (List ℕ → X → Type 0) → List (List ℕ) → Result (Vec X A) Unlisted → Type 0
PiecesRead Text pieces (Ok v) = Texts Text pieces (vec_items v)
PiecesRead Text pieces (Err NoItem) = NoText Text pieces
PiecesRead Text pieces (Err NoMemory) = SomeText Text pieces

-- the items that a word lists: none by `.`, and otherwise those whose texts stand between its commas
abbrev pub ListText : {X : Type 0} → (List ℕ → X → Type 0) → List ℕ → List X → Type 0
ListText Text word xs = ((word ≡ codes ".") × (xs ≡ [])) ⊎ ((pieces : List (List ℕ)) × CutAtCommas word pieces × Texts Text pieces xs)

-- a word that is no list: it is not `.`, and some piece between its commas is no item's text
abbrev pub NoList : {X : Type 0} → (List ℕ → X → Type 0) → List ℕ → Type 0
NoList Text word = (word ≢ codes ".") × ((pieces : List (List ℕ)) × CutAtCommas word pieces × NoText Text pieces)

-- what is read from a word: the items that it lists, or none where it is no list; memory may be wanting, but not for `.`
abbrev pub Listed : {X A : Type 0} → (List ℕ → X → Type 0) → List ℕ → Result (Vec X A) Unlisted → Type 0
Listed Text word (Ok v) = ListText Text word (vec_items v)
Listed Text word (Err NoItem) = NoList Text word
Listed Text word (Err NoMemory) = word ≡ codes "." → ⊥

-- one error for a word that is no list, and another for want of memory
abbrev pub error_for : {E : Type 0} → E → E → Unlisted → E
error_for no_list no_memory NoItem = no_list
error_for no_list no_memory NoMemory = no_memory
