use Rattle.std.specs.Prelude.{ℕ, zero, suc, ◌<◌, ◌≡◌, [], ◌∷◌, length}
use Rattle.std.proofs.Common.{rules, arith, refl, subst, sym}
use Rattle.std.proofs.lemmas.List.Elements.{All-nil, All-cons}
use Rattle.pk_octagons.specs.Packs.{chosen_at, IsPack, ArePacks}
use Rattle.pk_domain_tests.proofs.states.pair.Goals as goal

-- both of two
pack : (n : ℕ) → n ≡ 2 → IsPack n (0 ∷ (1 ∷ []))
pack n e = record { few = omega arith; there = λ k h. there k h; once = λ j k p q f. once j k p q f }
  where
    there : (k : ℕ) → k < 2 → chosen_at (0 ∷ (1 ∷ [])) k < n
    there zero h = omega (arith, e)
    there (suc zero) h = omega (arith, e)
    there (suc (suc k)) h = absurd (omega (arith, h))

    once : (j k : ℕ) → j < 2 → k < 2 → chosen_at (0 ∷ (1 ∷ [])) j ≡ chosen_at (0 ∷ (1 ∷ [])) k → j ≡ k
    once zero zero p q f = refl
    once zero (suc zero) p q f = absurd (omega (arith, f))
    once (suc zero) zero p q f = absurd (omega (arith, f))
    once (suc zero) (suc zero) p q f = refl
    once (suc (suc j)) k p q f = absurd (omega (arith, p))
    once zero (suc (suc k)) p q f = absurd (omega (arith, q))
    once (suc zero) (suc (suc k)) p q f = absurd (omega (arith, q))

pub new-requires : goal.new-requires
new-requires c =
    let two : length c.in_ok-types.types.items ≡ 2 = search rules in
    subst (ArePacks (length c.in_ok-types.types.items)) (sym c.in_ok-packs.ensures)
    (All-cons (IsPack (length c.in_ok-types.types.items)) (0 ∷ (1 ∷ [])) [] (pack (length c.in_ok-types.types.items) two) (All-nil (IsPack (length c.in_ok-types.types.items))))
