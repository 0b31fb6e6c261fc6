-- Walks, and matrices that are closed under a set of places.
use Rattle.std.specs.Prelude.{◌≡◌, ℕ, ◌<◌, ◌≤◌, ◌+◌, ℤ, pos, Option, Some, None, List, [], ◌∷◌, ◌++◌, ◌⊎◌}
use Rattle.std.proofs.Common.{◌∙◌, ap, refl, sym, subst, arith, inl, inr}
use Rattle.std.proofs.lemmas.Bool.{cases_lt}
use Rattle.pk_octmat.proofs.Tropical.{at_most_both, at_most_same, at_most_trans, lesser_above, lesser_left, lesser_one, lesser_right, plus_assoc, plus_comm, plus_le, plus_more, plus_zero}
use Rattle.pk_octmat.specs.Bounds.{AtMost, lesser, plus}
use Rattle.pk_octclose.specs.Walks.{relaxed, walk_sum}

pub walk_append : (e : ℕ → ℕ → Option ℤ) (vs ws : List ℕ) (i v j : ℕ) → walk_sum e i (vs ++ v ∷ ws) j ≡ plus (walk_sum e i vs v) (walk_sum e v ws j)
walk_append e [] ws i v j = refl
walk_append e (u ∷ vs) ws i v j =
    ap (λ s. plus (e i u) s) (walk_append e vs ws u v j) ∙ sym (plus_assoc (e i u) (walk_sum e u vs v) (walk_sum e v ws j))

-- each place of a list is one of a set
abbrev pub EachIn : (ℕ → Type 0) → List ℕ → Type 0
EachIn P [] = Unit {0}
EachIn P (v ∷ vs) = P v × EachIn P vs

-- the places below k
abbrev pub Below : ℕ → ℕ → Type 0
Below k p = p < k

-- Q is the set P with one place more
pub record IsWith (P : ℕ → Type 0) (k : ℕ) (Q : ℕ → Type 0) : Type 0 where
  pub old : (p : ℕ) → P p → Q p
  pub new : Q k
  pub only : (p : ℕ) → Q p → P p ⊎ (p ≡ k)

pub each_in_more : (P Q : ℕ → Type 0) → ((p : ℕ) → P p → Q p) → (vs : List ℕ) → EachIn P vs → EachIn Q vs
each_in_more P Q f [] b = tt
each_in_more P Q f (v ∷ vs) b = (f v b.0, each_in_more P Q f vs b.1)

pub each_in_append : (P : ℕ → Type 0) (vs ws : List ℕ) (v : ℕ) → EachIn P vs → P v → EachIn P ws → EachIn P (vs ++ v ∷ ws)
each_in_append P [] ws v b h c = (h, c)
each_in_append P (u ∷ vs) ws v b h c = (b.0, each_in_append P vs ws v b.1 h c)

-- a walk through places of P has this sum
pub record Reached (e0 : ℕ → ℕ → Option ℤ) (P : ℕ → Type 0) (i j : ℕ) (b : Option ℤ) : Type 0 where
  pub by : List ℕ
  pub each : EachIn P by
  pub is : walk_sum e0 i by j ≡ b

-- the matrix e after the places of P have been gone through, of the d places of e0
pub record Through (d : ℕ) (e0 e : ℕ → ℕ → Option ℤ) (P : ℕ → Type 0) : Type 0 where
  pub zero : (i : ℕ) → i < d → e i i ≡ Some (pos 0)
  pub below : (i j : ℕ) → i < d → j < d → AtMost (e i j) (e0 i j)
  pub reached : (i j : ℕ) → i < d → j < d → Reached e0 P i j (e i j)
  pub closed : (i j p : ℕ) → i < d → j < d → p < d → P p → AtMost (e i j) (plus (e i p) (e p j))

-- ---- one step
relaxed_left : (e : ℕ → ℕ → Option ℤ) (k i j : ℕ) → AtMost (relaxed e k i j) (e i j)
relaxed_left e k i j = lesser_left (e i j) (plus (e i k) (e k j))

relaxed_right : (e : ℕ → ℕ → Option ℤ) (k i j : ℕ) → AtMost (relaxed e k i j) (plus (e i k) (e k j))
relaxed_right e k i j = lesser_right (e i j) (plus (e i k) (e k j))

-- the column and the row of the place stay
pub relaxed_column : (e : ℕ → ℕ → Option ℤ) (k i : ℕ) → e k k ≡ Some (pos 0) → relaxed e k i k ≡ e i k
relaxed_column e k i z =
    at_most_both (relaxed e k i k) (e i k) (relaxed_left e k i k)
    (lesser_above (e i k) (plus (e i k) (e k k)) (e i k) (at_most_same (e i k)) (rw z (rw (plus_zero (e i k)) (at_most_same (e i k)))))

pub relaxed_row : (e : ℕ → ℕ → Option ℤ) (k j : ℕ) → e k k ≡ Some (pos 0) → relaxed e k k j ≡ e k j
relaxed_row e k j z =
    at_most_both (relaxed e k k j) (e k j) (relaxed_left e k k j)
    (lesser_above (e k j) (plus (e k k) (e k j)) (e k j) (at_most_same (e k j)) (rw z (rw (plus_comm (Some (pos 0)) (e k j)) (rw (plus_zero (e k j)) (at_most_same (e k j))))))

-- a row from which the place is not reached stays
pub relaxed_none : (e : ℕ → ℕ → Option ℤ) (k i j : ℕ) → e i k ≡ None → relaxed e k i j ≡ e i j
relaxed_none e k i j n = rw n (by (e i j))
  where
    by : (b : Option ℤ) → lesser b None ≡ b
    by None = refl
    by (Some z) = refl

-- a place through which e is closed stays one, and k is one more
relaxed_at : (e : ℕ → ℕ → Option ℤ) (k i j : ℕ) → e k k ≡ Some (pos 0) → AtMost (relaxed e k i j) (plus (relaxed e k i k) (relaxed e k k j))
relaxed_at e k i j z = rw (relaxed_column e k i z) (rw (relaxed_row e k j z) (relaxed_right e k i j))

relaxed_through : (e : ℕ → ℕ → Option ℤ) (k i j p : ℕ) → e k k ≡ Some (pos 0)
    → AtMost (e i j) (plus (e i p) (e p j)) → AtMost (e k j) (plus (e k p) (e p j)) → AtMost (e i k) (plus (e i p) (e p k)) → AtMost (e k k) (plus (e k p) (e p k))
    → AtMost (relaxed e k i j) (plus (relaxed e k i p) (relaxed e k p j))
relaxed_through e k i j p z ij kj ik kk = by (lesser_one (e i p) (plus (e i k) (e k p))) (lesser_one (e p j) (plus (e p k) (e k j)))
  where
    by : (relaxed e k i p ≡ e i p) ⊎ (relaxed e k i p ≡ plus (e i k) (e k p)) → (relaxed e k p j ≡ e p j) ⊎ (relaxed e k p j ≡ plus (e p k) (e k j)) → AtMost (relaxed e k i j) (plus (relaxed e k i p) (relaxed e k p j))
    by (inl a) (inl b) = rw a (rw b (at_most_trans _ (e i j) _ (relaxed_left e k i j) ij))
    by (inl a) (inr b) = rw a (rw b (rw (← plus_assoc (e i p) (e p k) (e k j)) (at_most_trans _ (plus (e i k) (e k j)) _ (relaxed_right e k i j) (plus_le _ _ _ _ ik (at_most_same (e k j))))))
    by (inr a) (inl b) = rw a (rw b (rw (plus_assoc (e i k) (e k p) (e p j)) (at_most_trans _ (plus (e i k) (e k j)) _ (relaxed_right e k i j) (plus_le _ _ _ _ (at_most_same (e i k)) kj))))
    by (inr a) (inr b) =
        let zero : AtMost (Some (pos 0)) (plus (e k p) (e p k)) = subst (λ v. AtMost v (plus (e k p) (e p k))) z kk in
        let more : AtMost (e k j) (plus (e k j) (plus (e k p) (e p k))) = plus_more (e k j) (plus (e k p) (e p k)) zero in
        let turned : plus (e k j) (plus (e k p) (e p k)) ≡ plus (e k p) (plus (e p k) (e k j)) = plus_comm (e k j) (plus (e k p) (e p k)) ∙ plus_assoc (e k p) (e p k) (e k j) in
        let all : AtMost (e k j) (plus (e k p) (plus (e p k) (e k j))) = subst (λ v. AtMost (e k j) v) turned more in
        rw a (rw b (rw (plus_assoc (e i k) (e k p) (plus (e p k) (e k j))) (at_most_trans _ (plus (e i k) (e k j)) _ (relaxed_right e k i j) (plus_le _ _ _ _ (at_most_same (e i k)) all))))

pub reached_relaxed : (d : ℕ) (e0 e : ℕ → ℕ → Option ℤ) (P : ℕ → Type 0) (k : ℕ) (Q : ℕ → Type 0) → Through d e0 e P → IsWith P k Q → k < d → (i j : ℕ) → i < d → j < d → Reached e0 Q i j (relaxed e k i j)
reached_relaxed d e0 e P k Q t w kd i j id jd = by (lesser_one (e i j) (plus (e i k) (e k j)))
  where
    by : (relaxed e k i j ≡ e i j) ⊎ (relaxed e k i j ≡ plus (e i k) (e k j)) → Reached e0 Q i j (relaxed e k i j)
    by (inl a) = let r = t.reached i j id jd in record { by = r.by; each = each_in_more P Q w.old r.by r.each; is = r.is ∙ sym a }
    by (inr a) =
        let r = t.reached i k id kd in
        let s = t.reached k j kd jd in
        record {
          by = r.by ++ k ∷ s.by;
          each = each_in_append Q r.by s.by k (each_in_more P Q w.old r.by r.each) w.new (each_in_more P Q w.old s.by s.each);
          is = walk_append e0 r.by s.by i k j ∙ rw r.is (rw s.is (sym a));
        }

-- where no number of the diagonal has become negative, one more place has been gone through
pub through_more : (d : ℕ) (e0 e f : ℕ → ℕ → Option ℤ) (P : ℕ → Type 0) (k : ℕ) (Q : ℕ → Type 0) → Through d e0 e P → IsWith P k Q → k < d
    → ((i j : ℕ) → i < d → j < d → f i j ≡ relaxed e k i j)
    → ((i : ℕ) → i < d → AtMost (Some (pos 0)) (f i i))
    → Through d e0 f Q
through_more d e0 e f P k Q t w kd is nonneg = record {
  zero = λ i id. sym (at_most_both (Some (pos 0)) (f i i) (nonneg i id) (rw (is i i id id) (subst (λ v. AtMost (relaxed e k i i) v) (t.zero i id) (relaxed_left e k i i))));
  below = λ i j id jd. rw (is i j id jd) (at_most_trans (relaxed e k i j) (e i j) (e0 i j) (relaxed_left e k i j) (t.below i j id jd));
  reached = λ i j id jd. subst (λ v. Reached e0 Q i j v) (sym (is i j id jd)) (reached_relaxed d e0 e P k Q t w kd i j id jd);
  closed = λ i j p id jd pd pq. rw (is i j id jd) (rw (is i p id pd) (rw (is p j pd jd) (at i j p id jd pd (w.only p pq))));
}
  where
    at : (i j p : ℕ) → i < d → j < d → p < d → P p ⊎ (p ≡ k) → AtMost (relaxed e k i j) (plus (relaxed e k i p) (relaxed e k p j))
    at i j p id jd pd (inl l) = relaxed_through e k i j p (t.zero k kd) (t.closed i j p id jd pd l) (t.closed k j p kd jd pd l) (t.closed i k p id kd pd l) (t.closed k k p kd kd pd l)
    at i j p id jd pd (inr same) = subst (λ q. AtMost (relaxed e k i j) (plus (relaxed e k i q) (relaxed e k q j))) (sym same) (relaxed_at e k i j (t.zero k kd))

-- before the first place
pub through_none : (d : ℕ) (e0 : ℕ → ℕ → Option ℤ) (P : ℕ → Type 0) → ((p : ℕ) → P p → ⊥) → ((i : ℕ) → i < d → e0 i i ≡ Some (pos 0)) → Through d e0 e0 P
through_none d e0 P n z = record {
  zero = z;
  below = λ i j id jd. at_most_same (e0 i j);
  reached = λ i j id jd. record { by = []; each = tt; is = refl };
  closed = λ i j p id jd pd q. absurd (n p q);
}

pub below_with : (k : ℕ) → IsWith (Below k) k (Below (k + 1))
below_with k = record { old = λ p h. omega arith; new = omega arith; only = λ p h. by p h (cases_lt p k) }
  where
    by : (p : ℕ) → p < k + 1 → (p < k) ⊎ (k ≤ p) → (p < k) ⊎ (p ≡ k)
    by p h (inl l) = inl l
    by p h (inr g) = inr (omega arith)

-- no walk through places of P is shorter
pub through_least : (d : ℕ) (e0 e : ℕ → ℕ → Option ℤ) (P : ℕ → Type 0) → Through d e0 e P → ((p : ℕ) → P p → p < d) → (i j : ℕ) (vs : List ℕ) → i < d → j < d → EachIn P vs → AtMost (e i j) (walk_sum e0 i vs j)
through_least d e0 e P t inside i j [] id jd b = t.below i j id jd
through_least d e0 e P t inside i j (v ∷ vs) id jd b =
    at_most_trans (e i j) (plus (e i v) (e v j)) _ (t.closed i j v id jd (inside v b.0) b.0)
    (plus_le _ _ _ _ (t.below i v id (inside v b.0)) (through_least d e0 e P t inside v j vs (inside v b.0) jd b.1))
