-- Kinds whose costs are single numbers: facts about the numbers give the laws. Assumes nothing.
use Rattle.std.specs.Prelude.{◌≡◌, ℕ, ◌^◌, ◌<◌, ◌≤◌, Bool, true, nat_le}
use Rattle.std.proofs.Common.{sym, ap, ◌∙◌, arith}
use Rattle.std.proofs.lemmas.Bool.Decides.{nat_tests}
use Rattle.costs.specs.Bytes.{big_endian}
use Rattle.costs.specs.Kinds.{Operations, Laws}
use Rattle.costs.specs.Written.{WrittenLaws}
use Rattle.costs.specs.BigEndian.{big_endian_body, big_endian_same, big_endian_every}
use Rattle.costs.specs.WrittenLaws.{written_laws}

-- what the numbers of a kind keep, where "at most" compares them
pub record NumberFacts {C : Type 0} (o : Operations C) (number : C → ℕ) : Type 0 where
  pub compares : (a b : C) → o.at_most a b ≡ nat_le (number a) (number b)
  pub empty_is : number o.empty ≡ 0
  pub commutes : (a b : C) → number (o.compose a b) ≡ number (o.compose b a)
  pub associates : (a b c : C) → number (o.compose (o.compose a b) c) ≡ number (o.compose a (o.compose b c))
  pub neutral : (a : C) → number (o.compose o.empty a) ≡ number a
  pub keeps : (a b c : C) → number a ≤ number b → number (o.compose a c) ≤ number (o.compose b c)
  pub completes : (a b : C) → number a ≤ number b → number (o.compose a (o.rest a b)) ≡ number b
  pub otherwise : (a b : C) → number b < number a → number (o.rest a b) ≡ 0

module _ {C : Type 0} (number : C → ℕ) (same : (a b : C) → number a ≡ number b → a ≡ b) where
  pub number_laws : (o : Operations C) → NumberFacts o number → Laws o
  number_laws o facts =
      let yes_then : (a b : C) → o.at_most a b ≡ true → number a ≤ number b = λ a b h. grind (arith, nat_tests, facts.compares a b) in
      let then_yes : (a b : C) → number a ≤ number b → o.at_most a b ≡ true = λ a b h. grind (arith, nat_tests, facts.compares a b) in
      record {
        compose_commutes = λ a b. same _ _ (facts.commutes a b);
        compose_associates = λ a b c. same _ _ (facts.associates a b c);
        empty_neutral = λ a. same _ _ (facts.neutral a);
        at_most_reflexive = λ a. then_yes a a (omega arith);
        at_most_transitive = λ a b c ab bc. then_yes a c (omega (arith, yes_then a b ab, yes_then b c bc));
        at_most_total = λ a b. grind (arith, nat_tests, facts.compares a b, facts.compares b a);
        at_most_antisymmetric = λ a b ab ba. same a b (omega (arith, yes_then a b ab, yes_then b a ba));
        empty_least = λ a. then_yes o.empty a (omega (arith, facts.empty_is));
        compose_keeps_at_most = λ a b c ab. then_yes _ _ (facts.keeps a b c (yes_then a b ab));
        rest_completes = λ a b ab. same _ _ (facts.completes a b (yes_then a b ab));
        rest_otherwise_empty = λ a b no. same _ _ (facts.otherwise a b (grind (arith, nat_tests, facts.compares a b)) ∙ sym facts.empty_is);
      }

  -- a number of k bytes is its own body
  pub number_written : (k code : ℕ) (may_stand : C → Bool) (shortage : ℕ → C) → code < 256 → k ≤ 16 → ((c : C) → number c < 256 ^ k) → (of : (n : ℕ) → n < 256 ^ k → C) → ((n : ℕ) (h : n < 256 ^ k) → number (of n h) ≡ n) → ((m : ℕ) → m ≤ 120 → may_stand (shortage m) ≡ true) → WrittenLaws (record { code = code; body_size = k; body = λ c. big_endian k (number c); may_stand = may_stand; shortage = shortage })
  number_written k code may_stand shortage byte short fits of of_is stand =
      written_laws _ byte short (λ c. big_endian_body k (number c) (fits c))
      (λ c d e. same c d (big_endian_same k (number c) (number d) (fits c) (fits d) e))
      (λ bs h. let found = big_endian_every k bs h in (of found.0 found.1, ap (big_endian k) (of_is found.0 found.1) ∙ found.2))
      stand
