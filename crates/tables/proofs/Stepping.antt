-- The cells after a step, place by place, and what a list of steps does. Assumes nothing.
use Rattle.std.proofs.Common.{◌≡◌, ℕ, zero, suc, ◌+◌, ◌*◌, ◌/◌, ◌%◌, ◌<◌, ◌≤◌, Bool, true, false, cond, ltb, List, [], ◌∷◌, ◌++◌, map, length, get_or, take, IfNone, ◌⊎◌, inl, inr, min, drop, length-drop, length-take-le, Some, None, Option, sym, refl, ap, ◌∙◌, subst, ap₂, ⊎_elim, arith, MatchOption}
use Rattle.std.specs.List.{AllByRecursion}
use Rattle.std.proofs.lemmas.Nat.{mul-add-lt, div-mul-add, mod-mul-add}
use Rattle.std.proofs.lemmas.List.{get_or_past, map_more, same_lists, take-append-drop}
use Rattle.std.proofs.lemmas.Bool.{cases_lt, le-ltb, lt-ltb}
use Rattle.std.proofs.lemmas.Bool.Decides.{nat_tests}
use Rattle.costs.specs.Kinds.{Operations, Laws, composed}
use Rattle.costs.specs.Wide.{widened}
use Rattle.costs.specs.declared.values.Widened.{Widened}
use Rattle.costs.specs.declared.values.Widened.TheVariants.{Allowed, Forbidden}
use Rattle.costs.proofs.Rows.{composed_allowed}
use Rattle.costs.specs.WideLaws.{wide_laws}
use Rattle.tables.specs.Promises.{StepMade, StepLowers, StepsLower, SettledWhereReached}
use Rattle.tables.specs.Rosters.{Roster}
use Rattle.tables.specs.Steps.{in_set, changed, changed_at, stepped_from, stepped, stepped_all, Admissible, AllAdmissible, times, taken, value, Absorbed, AllAbsorbed, FirstNotAbsorbed, excess, wide, is_forbidden}
use Rattle.tables.specs.Tables.{grid, Whole, chosen, roster_cost, Cheapest}
use Rattle.tables.specs.declared.values.Step.{Step}
use Rattle.tables.proofs.Lowering.{lowered}
use Rattle.tables.proofs.Orders.{at_most_composed, absorbed_all}

module _ {C : Type 0} (o : Operations C) (n : ℕ) where
  length_from : (s : Step C) (place : ℕ) (cells : List C) → length (stepped_from o n s place cells) ≡ length cells
  length_from s place [] = refl
  length_from s place (b ∷ cells) = ap suc (length_from s (suc place) cells)

  pub length-stepped : (s : Step C) (cells : List C) → length (stepped o n s cells) ≡ length cells
  length-stepped s cells = length_from s 0 cells

  get_or-from : (s : Step C) (place : ℕ) (cells : List C) (k m : ℕ) (d : C) → place + k ≡ m → k < length cells → get_or (stepped_from o n s place cells) k d ≡ changed_at o n s m (get_or cells k d)
  get_or-from s place [] k m d e within = absurd (omega arith)
  get_or-from s place (b ∷ cells) zero m d e within = let here : place ≡ m = omega arith in ap (λ p. changed_at o n s p b) here
  get_or-from s place (b ∷ cells) (suc k) m d e within = get_or-from s (suc place) cells k m d (omega arith) (omega arith)

  -- what a place holds after a step
  get_or-stepped : (s : Step C) (cells : List C) (k : ℕ) (d : C) → k < length cells → get_or (stepped o n s cells) k d ≡ changed_at o n s k (get_or cells k d)
  get_or-stepped s cells k d within = get_or-from s 0 cells k k d (omega arith) within

  -- a place in surplus
  changed_past : (s : Step C) (place : ℕ) (b : C) → n * n ≤ place → changed_at o n s place b ≡ b
  changed_past s place b past = ap (λ t. cond t (changed o s.amount (in_set s.sets.rows (place / n)) (in_set s.sets.columns (place % n)) b) b) (le-ltb place (n * n) past)

  stepped-append : (s : Step C) (place : ℕ) (xs ys : List C) (m : ℕ) → place + length xs ≡ m → stepped_from o n s place (xs ++ ys) ≡ stepped_from o n s place xs ++ stepped_from o n s m ys
  stepped-append s place [] ys m e = let here : place ≡ m = omega arith in ap (λ p. stepped_from o n s p ys) here
  stepped-append s place (x ∷ xs) ys m e = ap (λ l. changed_at o n s place x ∷ l) (stepped-append s (suc place) xs ys m (omega arith))

  -- a step leaves a list of cells in surplus as it is
  all_in_surplus : (s : Step C) (place : ℕ) (cells : List C) → (length cells ≡ 0) ⊎ (n * n ≤ place) → stepped_from o n s place cells ≡ cells
  all_in_surplus s place [] past = refl
  all_in_surplus s place (b ∷ cells) (inl none) = absurd (omega arith)
  all_in_surplus s place (b ∷ cells) (inr past) = ap₂ ◌∷◌ (changed_past s place b past) (all_in_surplus s (suc place) cells (inr (omega arith)))

  -- a place that is not in surplus
  pub changed_there : (s : Step C) (place : ℕ) (b : C) → place < n * n → changed_at o n s place b ≡ changed o s.amount (in_set s.sets.rows (place / n)) (in_set s.sets.columns (place % n)) b
  changed_there s place b there = ap (λ t. cond t (changed o s.amount (in_set s.sets.rows (place / n)) (in_set s.sets.columns (place % n)) b) b) (lt-ltb place (n * n) there)

  -- the same by row and column
  pub grid-stepped : (s : Step C) (cells : List C) → Whole n cells → (r c : ℕ) → r < n → c < n → grid o n (stepped o n s cells) r c ≡ changed o s.amount (in_set s.sets.rows r) (in_set s.sets.columns c) (grid o n cells r c)
  grid-stepped s cells whole r c row column =
      let place = r * n + c in
      let there : place < n * n = mul-add-lt r n c n row column in
      let b = get_or cells place o.empty in
      get_or-stepped s cells place o.empty (omega arith)
      ∙ changed_there s place b there
      ∙ ap₂ (λ x y. changed o s.amount (in_set s.sets.rows x) (in_set s.sets.columns y) b) (div-mul-add r n c column) (mod-mul-add r n c column)

  -- cells in surplus stay
  surplus_stays : (s : Step C) (cells : List C) (k : ℕ) (d : C) → n * n ≤ k → get_or (stepped o n s cells) k d ≡ get_or cells k d
  surplus_stays s cells k d past =
      ⊎_elim
      (λ within. get_or-stepped s cells k d within ∙ changed_past s k (get_or cells k d) past)
      (λ none. get_or_past (stepped o n s cells) k d (omega (arith, length-stepped s cells)) ∙ sym (get_or_past cells k d none))
      (cases_lt k (length cells))

  -- one step more
  stepped_push : (steps : List (Step C)) (s : Step C) (cells : List C) → stepped_all o n (steps ++ (s ∷ [])) cells ≡ stepped o n s (stepped_all o n steps cells)
  stepped_push [] s cells = refl
  stepped_push (x ∷ steps) s cells = stepped_push steps s (stepped o n x cells)

-- what a step takes off every roster, for any kind
module _ {C : Type 0} {o : Operations C} (laws : Laws o) (n : ℕ) where
  abbrev pub Takes : List C → C → List C → Type 0
  Takes before less after = (columns : List ℕ) → Roster n columns → roster_cost o (grid o n before) columns ≡ o.compose less (roster_cost o (grid o n after) columns)

  step_takes : (before : List C) (s : Step C) → Whole n before → Admissible o n (grid o n before) s → Takes before (taken o n s) (stepped o n s before)
  step_takes before s whole admissible = lowered laws n s (grid o n before) (grid o n (stepped o n s before)) admissible (grid-stepped o n s before whole)

  steps_take : (before : List C) (steps : List (Step C)) → Whole n before → AllAdmissible o n before steps → Takes before (value o n steps) (stepped_all o n steps before)
  steps_take before [] whole admissible columns roster = sym (laws.empty_neutral _)
  steps_take before (s ∷ steps) whole admissible columns roster =
      let next = stepped o n s before in
      step_takes before s whole admissible.0 columns roster
      ∙ ap (o.compose (taken o n s)) (steps_take next steps (omega (arith, length-stepped o n s before)) admissible.1 columns roster)
      ∙ sym (laws.compose_associates _ _ _)

  -- a roster whose cells are absorbed by what was taken off costs just that, and every other at least that
  takes_settled : (before : List C) (z : C) (after : List C) → Takes before z after → (columns : List ℕ) → Roster n columns → AllByRecursion (Absorbed o z) (chosen (grid o n after) columns) → (roster_cost o (grid o n before) columns ≡ z) × Cheapest o n (grid o n before) columns
  takes_settled before z after takes columns roster absorbed =
      let is_value : roster_cost o (grid o n before) columns ≡ z = takes columns roster ∙ absorbed_all laws z (chosen (grid o n after) columns) absorbed in (
        is_value,
        record {
          is_roster = roster;
          none_cheaper = λ others is. subst (λ x. o.at_most x (roster_cost o (grid o n before) others) ≡ true) (sym is_value) (subst (λ x. o.at_most z x ≡ true) (sym (takes others is)) (at_most_composed laws z _));
        },
      )

module _ {C : Type 0} (o : Operations C) (n : ℕ) where
  times_wide : (k : ℕ) (c : C) → times (widened o) k (Allowed c) ≡ Allowed (times o k c)
  times_wide zero c = refl
  times_wide (suc k) c = ap ((widened o).compose (Allowed c)) (times_wide k c)

  worths_wide : (steps : List (Step C)) → map (taken (widened o) n) (map wide steps) ≡ map Allowed (map (taken o n) steps)
  worths_wide [] = refl
  worths_wide (s ∷ steps) = ap₂ ◌∷◌ (times_wide (excess n s) s.amount) (worths_wide steps)

  -- allowed amounts have an allowed value
  value_wide : (steps : List (Step C)) → value (widened o) n (map wide steps) ≡ Allowed (value o n steps)
  value_wide steps = ap (composed (widened o)) (worths_wide steps) ∙ composed_allowed o (map (taken o n) steps)

  changed_forbidden : (a : C) (i j : Bool) (b : Widened C) → is_forbidden (changed (widened o) (Allowed a) i j b) ≡ is_forbidden b
  changed_forbidden a true true (Allowed b) = refl
  changed_forbidden a true true Forbidden = refl
  changed_forbidden a true false b = refl
  changed_forbidden a false true b = refl
  changed_forbidden a false false (Allowed b) = refl
  changed_forbidden a false false Forbidden = refl

  at_forbidden : (a : C) (i j there : Bool) (b : Widened C) → is_forbidden (cond there (changed (widened o) (Allowed a) i j b) b) ≡ is_forbidden b
  at_forbidden a i j true b = changed_forbidden a i j b
  at_forbidden a i j false b = refl

  kept_from : (s : Step C) (place : ℕ) (cells : List (Widened C)) → map is_forbidden (stepped_from (widened o) n (wide s) place cells) ≡ map is_forbidden cells
  kept_from s place [] = refl
  kept_from s place (b ∷ cells) = ap₂ ◌∷◌ (at_forbidden s.amount (in_set s.sets.rows (place / n)) (in_set s.sets.columns (place % n)) (ltb place (n * n)) b) (kept_from s (suc place) cells)

  -- a step by an allowed amount forbids nothing and allows nothing
  pub forbidden_kept : (s : Step C) (cells : List (Widened C)) → map is_forbidden (stepped (widened o) n (wide s) cells) ≡ map is_forbidden cells
  forbidden_kept s cells = kept_from s 0 cells

  -- a loop's step: one step more
  pub stepped_more : (steps : List (Step C)) (i : ℕ) (s : Step C) (cells : List (Widened C)) → i < length steps → s ≡ get_or steps i s → stepped (widened o) n (wide s) (stepped_all (widened o) n (map wide (take i steps)) cells) ≡ stepped_all (widened o) n (map wide (take (i + 1) steps)) cells
  stepped_more steps i s cells within read =
      let more : map wide (take (i + 1) steps) ≡ map wide (take i steps) ++ (wide s ∷ []) = map_more wide steps i s within ∙ ap (λ x. map wide (take i steps) ++ (wide x ∷ [])) (sym read) in
      sym (ap (λ l. stepped_all (widened o) n l cells) more ∙ stepped_push (widened o) n (map wide (take i steps)) (wide s) cells)

-- the promises about a table, whose cells may be forbidden
module _ {C : Type 0} {o : Operations C} (laws : Laws o) (n : ℕ) where
  pub step_made : (before : List (Widened C)) (s : Step C) → StepMade o n before s (stepped (widened o) n (wide s) before)
  step_made before s = record { each = grid-stepped (widened o) n (wide s) before; surplus = surplus_stays (widened o) n (wide s) before }

  pub step_lowers : (before : List (Widened C)) (s : Step C) → StepLowers o n before s (stepped (widened o) n (wide s) before)
  step_lowers before s whole admissible =
      subst (λ less. Takes (wide_laws laws) n before less (stepped (widened o) n (wide s) before)) (times_wide o n (excess n s) s.amount) (step_takes (wide_laws laws) n before (wide s) whole admissible)

  pub steps_lower : (before : List (Widened C)) (steps : List (Step C)) → StepsLower o n before steps (stepped_all (widened o) n (map wide steps) before)
  steps_lower before steps whole admissible =
      subst (λ less. Takes (wide_laws laws) n before less (stepped_all (widened o) n (map wide steps) before)) (value_wide o n steps) (steps_take (wide_laws laws) n before (map wide steps) whole admissible)

  pub settled : (cells : List (Widened C)) (z : C) (columns : List ℕ) → AllAbsorbed (widened o) (grid (widened o) n cells) (Allowed z) columns → SettledWhereReached o n cells z columns
  settled cells z columns absorbed first steps reached roster =
      let takes = steps_lower first steps reached.whole reached.admissible in
      let same : Takes (wide_laws laws) n first (Allowed z) cells = subst (λ l. Takes (wide_laws laws) n first (Allowed z) l) (sym reached.left) (subst (λ v. Takes (wide_laws laws) n first (Allowed v) (stepped_all (widened o) n (map wide steps) first)) (sym reached.value_is) takes) in
      let both = takes_settled (wide_laws laws) n first (Allowed z) cells same columns roster absorbed in
      record { costs_value = both.0; cheapest = both.1 }

  pub none_settled : (cells : List (Widened C)) (z : C) (columns : List ℕ) (r : Option ℕ) → MatchOption r (AllAbsorbed (widened o) (grid (widened o) n cells) (Allowed z) columns) (FirstNotAbsorbed (widened o) (grid (widened o) n cells) (Allowed z) columns) → IfNone r (SettledWhereReached o n cells z columns)
  none_settled cells z columns None absorbed = settled cells z columns absorbed
  none_settled cells z columns (Some row) found = tt

-- A step under way, whatever the order of its visits: the places that are done hold what the step makes of them, and all others what they held.
module _ {C : Type 0} (o : Operations C) (n : ℕ) (s : Step C) (before : List C) where
  abbrev held : ℕ → C → Bool → C
  held k d done = cond done (changed_at o n s k (get_or before k d)) (get_or before k d)

  pub record Partway (done : ℕ → Bool) (cells : List C) : Type 0 where
    pub same_length : length cells ≡ length before
    pub places : (k : ℕ) (d : C) → k < length before → get_or cells k d ≡ held k d (done k)

  -- a place that is done, or in surplus, is as it should be
  finished : (k : ℕ) (d : C) (done : Bool) → (k < n * n → done ≡ true) → held k d done ≡ changed_at o n s k (get_or before k d)
  finished k d done all = grind (arith, nat_tests, all)

  pub partway_all : (done : ℕ → Bool) (cells : List C) → Partway done cells → ((k : ℕ) → k < length before → k < n * n → done k ≡ true) → cells ≡ stepped o n s before
  partway_all done cells sofar all =
      same_lists cells (stepped o n s before) (sofar.same_length ∙ sym (length-stepped o n s before)) (λ k d within.
      let there : k < length before = omega (arith, sofar.same_length) in
      sofar.places k d there ∙ finished k d (done k) (all k there) ∙ sym (get_or-stepped o n s before k d there))

module _ {C : Type 0} (o : Operations C) (n : ℕ) (s : Step C) where
  -- the step is made once its places in the table are done, of which there are m
  pub partway_made : (cells : List C) (m : ℕ) (done : ℕ → Bool) (front : List C) → m ≡ min (n * n) (length cells) → Partway o n s (take m cells) done front → ((k : ℕ) → k < length (take m cells) → k < n * n → done k ≡ true) → front ++ drop m cells ≡ stepped o n s cells
  partway_made cells m done front is sofar all =
      ap (λ l. l ++ drop m cells) (partway_all o n s (take m cells) done front sofar all)
      ∙ ap (λ l. stepped o n s (take m cells) ++ l) (sym (all_in_surplus o n s m (drop m cells) (⊎_elim (λ lt. inl (omega (arith, length-drop m cells))) (λ past. inr past) (cases_lt m (n * n)))))
      ∙ sym (stepped-append o n s 0 (take m cells) (drop m cells) m (omega (arith, length-take-le m cells (omega arith))))
      ∙ ap (stepped o n s) (take-append-drop m cells)
