-- A roster's rows and columns, one by one. Assumes nothing.
use Rattle.std.proofs.Common.{◌≡◌, ℕ, ◌<◌, Bool, true, false, List, length, get_or, slice_index, take, Iter, Decides, refl, sym, ap, ◌∙◌, subst, arith, length-take-le, get_or-take, zero-add}
use Rattle.std.specs.Bool.{MatchBool}
use Rattle.std.specs.List.{AllWithin, HoldsAt, Contains, enumerate_from}
use Rattle.std.proofs.lemmas.Bool.{false≢true}
use Rattle.std.proofs.lemmas.List.{get_or_default}
use Rattle.std.proofs.lemmas.List.Elements.{All-from_get_or, recursion_from_All, All-from_recursion, All-get_or}
use Rattle.std.specs.Iterator.Adapters.{enumerate_source, enumerate_count, enumerate_steps}
use Rattle.std.specs.Slice.Iter.{iter_rest}
use Rattle.std.specs.declared.iter.Enumerate.{Enumerate}
use Rattle.std.proofs.lemmas.Fn.{fronts}
use Rattle.std.proofs.lemmas.Iterator.{YieldsList, YieldsList-from_slice}
use Rattle.std.proofs.lemmas.Iterator.Consumers.{YieldsList-at, YieldsList-from_enumerate}
use Rattle.std.proofs.lemmas.List.FromFn.{length-enumerate_from, get_or-enumerate_from}
use Rattle.tables.specs.Rosters.{Roster}

-- what `enumerate` gives of them
pub seats_yielded : {A : Type 0} {rows : Enumerate (Iter A)} {source : Iter A} (columns : List A) → enumerate_source rows ≡ source → iter_rest source ≡ columns → enumerate_count rows ≡ 0 → YieldsList {B = ℕ × A} (enumerate_steps fronts) (λ p. (p.0, p.1.now)) rows (enumerate_from 0 columns)
seats_yielded columns from rest first = YieldsList-from_enumerate (YieldsList-at from (YieldsList-from_slice columns rest)) first

pub seat_at : (columns : List ℕ) (k : ℕ) → k < length columns → get_or (enumerate_from 0 columns) k (0, 0) ≡ (k, get_or columns k 0)
seat_at columns k within = get_or-enumerate_from 0 columns k (0, 0) within ∙ ap (λ r. (r, get_or columns k 0)) (zero-add k)

module _ (n : ℕ) (columns : List ℕ) where
  -- a column that is there, and that no earlier row has
  abbrev pub Fresh : ℕ × ℕ → Type 0
  Fresh p = (p.1 < n) × (Contains (take p.0 columns) p.1 → ⊥)

  abbrev pub Stale : ℕ × ℕ → Type 0
  Stale p = p.1 < n → Contains (take p.0 columns) p.1

  -- a column of an earlier row
  again : (i j : ℕ) → i < j → j < length columns → slice_index columns i ≡ slice_index columns j → Contains (take j columns) (get_or columns j 0)
  again i j lt within same =
      (i, omega (arith, length-take-le j columns (omega arith)), get_or-take j columns i _ lt ∙ get_or_default columns i _ 0 (omega arith) ∙ same)

  roster_if_fresh : length columns ≡ n → AllWithin Fresh (enumerate_from 0 columns) 0 (length (enumerate_from 0 columns)) → Roster n columns
  roster_if_fresh whole fresh = record {
    every_row = whole;
    column_there = recursion_from_All _ columns (All-from_get_or (λ c. c < n) columns 0 (λ k within. (fresh_at k within).0));
    none_twice = λ i j lt up same. let within : j < length columns = omega arith in (fresh_at j within).1 (again i j lt within same);
  }
    where
      fresh_at : (k : ℕ) → k < length columns → Fresh (k, get_or columns k 0)
      fresh_at k within = subst Fresh (seat_at columns k within) (fresh k (0, 0) (omega arith) (omega (arith, length-enumerate_from 0 columns)))

  none_again : Roster n columns → (k : ℕ) → k < length columns → Contains (take k columns) (get_or columns k 0) → ⊥
  none_again roster k within (j, before, same) =
      let lt : j < k = omega (arith, length-take-le k columns (omega arith)) in
      roster.none_twice j k lt (omega (arith, roster.every_row)) (get_or_default columns j 0 _ (omega arith) ∙ sym (get_or-take k columns j _ lt) ∙ same)

  none_stale : Roster n columns → (k : ℕ) → k < length (enumerate_from 0 columns) → HoldsAt Stale (enumerate_from 0 columns) k → ⊥
  none_stale roster k before stale =
      let within : k < length columns = omega (arith, length-enumerate_from 0 columns) in
      none_again roster k within (subst Stale (seat_at columns k within) (stale (0, 0)) (All-get_or (λ c. c < n) columns k 0 within (All-from_recursion _ columns roster.column_there)))

  -- from what `all` answers at the rows and columns one by one
  pub roster_decided : length columns ≡ n → (r : Bool) → MatchBool r (AllWithin Fresh (enumerate_from 0 columns) 0 (length (enumerate_from 0 columns))) ((k : ℕ) × (k < length (enumerate_from 0 columns)) × HoldsAt Stale (enumerate_from 0 columns) k) → Decides r (Roster n columns)
  roster_decided whole true fresh = (λ _. roster_if_fresh whole fresh, λ _. refl)
  roster_decided whole false (k, before, stale) = (λ e. absurd (false≢true e), λ roster. absurd (none_stale roster k before stale))
