-- What has been reached once both places of a variable are gone through.
use Rattle.std.specs.Prelude.{◌≡◌, ℕ, ◌<◌, ◌+◌, ◌^◌, ℤ, pos, Option, Some, ◌⊎◌, ◌∷◌, ◌++◌, true}
use Rattle.std.proofs.Common.{◌∙◌, ap, refl, sym, subst, arith, inl, inr}
use Rattle.pk_octmat.specs.Bounds.{AtMost, IsNear, is_negative, plus}
use Rattle.pk_octmat.proofs.Tropical.{at_most_trans, lesser_left, lesser_one}
use Rattle.pk_octpoints.proofs.Near.{near_more, plus_near}
use Rattle.pk_octclose.specs.Pairs.{IsShort}
use Rattle.pk_octclose.specs.Walks.{HasNegativeCycle, relaxed, walk_sum}
use Rattle.pk_octclose.proofs.Walks.{IsWith, Reached, Through, reached_relaxed, through_more, walk_append}

pub through_same : (d : ℕ) (e0 e f : ℕ → ℕ → Option ℤ) (P : ℕ → Type 0) → Through d e0 e P → ((i j : ℕ) → i < d → j < d → f i j ≡ e i j) → Through d e0 f P
through_same d e0 e f P t is = record {
  zero = λ i id. is i i id id ∙ t.zero i id;
  below = λ i j id jd. rw (is i j id jd) (t.below i j id jd);
  reached = λ i j id jd. let r = t.reached i j id jd in record { by = r.by; each = r.each; is = r.is ∙ sym (is i j id jd) };
  closed = λ i j p id jd pd b. rw (is i j id jd) (rw (is i p id pd) (rw (is p j pd jd) (t.closed i j p id jd pd b)));
}

-- where no number of the diagonal has become negative
pub through_pair : (d : ℕ) (e0 e f : ℕ → ℕ → Option ℤ) (p : ℕ) (P Q R : ℕ → Type 0) → Through d e0 e P → IsWith P p Q → IsWith Q (p + 1) R → p + 1 < d → ((i j : ℕ) → i < d → j < d → f i j ≡ relaxed (relaxed e p) (p + 1) i j)
    → ((i : ℕ) → i < d → AtMost (Some (pos 0)) (f i i)) → Through d e0 f R
through_pair d e0 e f p P Q R t v w pd is nonneg =
    through_more d e0 (relaxed e p) f Q (p + 1) R (through_more d e0 e (relaxed e p) P p Q t v (omega arith) (λ i j id jd. refl) between) w pd is nonneg
  where
    between : (i : ℕ) → i < d → AtMost (Some (pos 0)) (relaxed e p i i)
    between i id =
        at_most_trans (Some (pos 0)) (relaxed (relaxed e p) (p + 1) i i) (relaxed e p i i) (subst (λ o. AtMost (Some (pos 0)) o) (is i i id id) (nonneg i id))
        (lesser_left (relaxed e p i i) (plus (relaxed e p i (p + 1)) (relaxed e p (p + 1) i)))

-- there and back
round_cycle : (e0 : ℕ → ℕ → Option ℤ) (P : ℕ → Type 0) (i k : ℕ) (a b : Option ℤ) → Reached e0 P i k a → Reached e0 P k i b → is_negative (plus a b) ≡ true → HasNegativeCycle e0
round_cycle e0 P i k a b r s n = record {
  at = i;
  by = r.by ++ k ∷ s.by;
  negative = ap is_negative (walk_append e0 r.by s.by i k i ∙ ap (λ o. plus o (walk_sum e0 k s.by i)) r.is ∙ ap (λ o. plus a o) s.is) ∙ n;
}

pub short_cycle : (d : ℕ) (e0 e : ℕ → ℕ → Option ℤ) (p : ℕ) (P Q : ℕ → Type 0) → Through d e0 e P → IsWith P p Q → p + 1 < d → IsShort d e p → HasNegativeCycle e0
short_cycle d e0 e p P Q t w pd (inl n) = round_cycle e0 P p (p + 1) (e p (p + 1)) (e (p + 1) p) (t.reached p (p + 1) (omega arith) pd) (t.reached (p + 1) p pd (omega arith)) n
short_cycle d e0 e p P Q t w pd (inr n) = by (lesser_one (relaxed e p i i) (plus (relaxed e p i (p + 1)) (relaxed e p (p + 1) i)))
  where
    i : ℕ
    i = n.at

    reach : (a b : ℕ) → a < d → b < d → Reached e0 Q a b (relaxed e p a b)
    reach a b ad bd = reached_relaxed d e0 e P p Q t w (omega arith) a b ad bd

    by : (relaxed (relaxed e p) (p + 1) i i ≡ relaxed e p i i) ⊎ (relaxed (relaxed e p) (p + 1) i i ≡ plus (relaxed e p i (p + 1)) (relaxed e p (p + 1) i)) → HasNegativeCycle e0
    by (inl s) = let r = reach i i n.place n.place in record { at = i; by = r.by; negative = ap is_negative (r.is ∙ sym s) ∙ n.negative }
    by (inr s) = round_cycle e0 Q i (p + 1) (relaxed e p i (p + 1)) (relaxed e p (p + 1) i) (reach i (p + 1) n.place pd) (reach (p + 1) i pd n.place) (ap is_negative (sym s) ∙ n.negative)

-- ---- how far from 0 the bounds are
pub near_from : (b v : Option ℤ) → b ≡ v → IsNear (2 ^ 99) v → IsNear (2 ^ 100) b
near_from b v e h = subst (λ o. IsNear (2 ^ 100) o) (sym e) (near_more (2 ^ 99) (2 ^ 100) v (omega arith) h)

pub relaxed_near : (e : ℕ → ℕ → Option ℤ) (k i j : ℕ) (b : Option ℤ) → b ≡ relaxed e k i j → IsNear (2 ^ 99) (e i j) → IsNear (2 ^ 99) (e i k) → IsNear (2 ^ 99) (e k j) → IsNear (2 ^ 100) b
relaxed_near e k i j b is h p q = subst (λ o. IsNear (2 ^ 100) o) (sym is) (by (lesser_one (e i j) (plus (e i k) (e k j))))
  where
    by : (relaxed e k i j ≡ e i j) ⊎ (relaxed e k i j ≡ plus (e i k) (e k j)) → IsNear (2 ^ 100) (relaxed e k i j)
    by (inl s) = rw s (near_more (2 ^ 99) (2 ^ 100) (e i j) (omega arith) h)
    by (inr s) = rw s (near_more (2 ^ 99 + 2 ^ 99) (2 ^ 100) (plus (e i k) (e k j)) (omega arith) (plus_near (2 ^ 99) (2 ^ 99) (e i k) (e k j) p q))
