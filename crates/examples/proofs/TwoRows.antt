-- Rosters of two rows: there are two. Assumes nothing.
use Rattle.std.proofs.Common.{◌≡◌, ℕ, zero, suc, ◌<◌, true, List, [], ◌∷◌, get_or, ◌⊎◌, inl, inr, ⊎_elim, refl, sym, ap₂, subst, ◌∙◌, arith}
use Rattle.costs.specs.Kinds.{Operations}
use Rattle.tables.specs.Rosters.{Roster}
use Rattle.tables.specs.Tables.{roster_cost, Cheapest}

below_two : (a : ℕ) → a < 2 → (a ≡ 0) ⊎ (a ≡ 1)
below_two zero h = inl refl
below_two (suc zero) h = inr refl
below_two (suc (suc a)) h = absurd (omega arith)

pair : (a b : ℕ) → (a ≡ b → ⊥) → a < 2 → b < 2 → (a ∷ b ∷ [] ≡ 0 ∷ 1 ∷ []) ⊎ (a ∷ b ∷ [] ≡ 1 ∷ 0 ∷ [])
pair a b differ ha hb =
    ⊎_elim
    (λ a_is. ⊎_elim (λ b_is. absurd (differ (a_is ∙ sym b_is))) (λ b_is. inl (ap₂ (λ x y. x ∷ y ∷ []) a_is b_is)) (below_two b hb))
    (λ a_is. ⊎_elim (λ b_is. inr (ap₂ (λ x y. x ∷ y ∷ []) a_is b_is)) (λ b_is. absurd (differ (a_is ∙ sym b_is))) (below_two b hb))
    (below_two a ha)

two_rosters : (columns : List ℕ) → Roster 2 columns → (columns ≡ 0 ∷ 1 ∷ []) ⊎ (columns ≡ 1 ∷ 0 ∷ [])
two_rosters [] roster = absurd (omega (arith, roster.every_row))
two_rosters (a ∷ []) roster = absurd (omega (arith, roster.every_row))
two_rosters (a ∷ b ∷ []) roster = pair a b (roster.none_twice 0 1 (omega arith) (omega arith)) roster.column_there.0 roster.column_there.1.0
two_rosters (a ∷ b ∷ c ∷ columns) roster = absurd (omega (arith, roster.every_row))

different : (a b : ℕ) → (a ≡ b → ⊥) → (i j : ℕ) → i < j → j < 2 → get_or (a ∷ b ∷ []) i 0 ≡ get_or (a ∷ b ∷ []) j 0 → ⊥
different a b differ i zero lt up e = omega arith
different a b differ zero (suc zero) lt up e = differ e
different a b differ (suc i) (suc zero) lt up e = omega arith
different a b differ i (suc (suc j)) lt up e = omega arith

roster_of : (a b : ℕ) → (a ≡ b → ⊥) → a < 2 → b < 2 → Roster 2 (a ∷ b ∷ [])
roster_of a b differ ha hb = record { every_row = refl; column_there = (ha, (hb, tt)); none_twice = different a b differ }

-- what holds of each of the four places
pub of_four : (P : ℕ → ℕ → Type 0) → P 0 0 → P 0 1 → P 1 0 → P 1 1 → (r c : ℕ) → r < 2 → c < 2 → P r c
of_four P a b c d zero zero hr hc = a
of_four P a b c d zero (suc zero) hr hc = b
of_four P a b c d (suc zero) zero hr hc = c
of_four P a b c d (suc zero) (suc zero) hr hc = d
of_four P a b c d zero (suc (suc k)) hr hc = absurd (omega arith)
of_four P a b c d (suc zero) (suc (suc k)) hr hc = absurd (omega arith)
of_four P a b c d (suc (suc r)) k hr hc = absurd (omega arith)

-- a roster of two rows is cheapest if it costs at most either of the two
pub cheapest_of_two : {C : Type 0} (o : Operations C) (t : ℕ → ℕ → C) (a b : ℕ) → (a ≡ b → ⊥) → a < 2 → b < 2 → o.at_most (roster_cost o t (a ∷ b ∷ [])) (roster_cost o t (0 ∷ 1 ∷ [])) ≡ true → o.at_most (roster_cost o t (a ∷ b ∷ [])) (roster_cost o t (1 ∷ 0 ∷ [])) ≡ true → Cheapest o 2 t (a ∷ b ∷ [])
cheapest_of_two o t a b differ ha hb straight crossed = record {
  is_roster = roster_of a b differ ha hb;
  none_cheaper = λ others roster.
      let cost = roster_cost o t (a ∷ b ∷ []) in
      ⊎_elim
      (λ is. subst (λ l. o.at_most cost (roster_cost o t l) ≡ true) (sym is) straight)
      (λ is. subst (λ l. o.at_most cost (roster_cost o t l) ≡ true) (sym is) crossed)
      (two_rosters others roster);
}
