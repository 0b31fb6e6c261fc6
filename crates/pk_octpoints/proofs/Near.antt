-- How large the numbers of a point are, and lists of them.
use Rattle.std.specs.Prelude.{◌≡◌, ◌≢◌, ◌≤◌, ℕ, zero, suc, ◌<◌, ◌+◌, ◌*◌, ◌/◌, ◌%◌, ◌^◌, ◌==◌, if◌then◌else◌, ℤ, neg_ℤ, int_lt, Option, Some, None, Bool, true, false, ◌⊎◌, List, length}
use Rattle.std.proofs.Common.{◌∙◌, ap, sym, subst, arith, inl, inr, set, length-set}
use Rattle.std.proofs.lemmas.Bool.{cases_eq}
use Rattle.std.proofs.lemmas.Bool.Decides.{nat_tests}
use Rattle.std.proofs.lemmas.Int.{ints}
use Rattle.std.proofs.lemmas.List.{get_or-set_other, get_or-set_same}
use Rattle.pk_octmat.specs.Bounds.{IsNear, halved, lesser, plus}
use Rattle.pk_octmat.specs.Octagon.{Octagon, IsOctagon, bar, entry}
use Rattle.pk_octmat.proofs.Tropical.{half_high, half_low, lesser_one}
use Rattle.pk_octpoints.specs.Tight.{IsTight}
use Rattle.pk_octpoints.specs.Parts.{MeetsThere, bound_by, lowered, opposite, part_side, raised, signed, with_nearest, with_part}
use Rattle.pk_octpoints.specs.Points.{AreNear, IsPart, nearest_in, number_at}
use Rattle.pk_octpoints.proofs.Parts.{part_here, part_same}
use Rattle.pk_octpoints.proofs.Placed.{placed_nearest}

pub near_more : (m n : ℕ) (a : Option ℤ) → m ≤ n → IsNear m a → IsNear n a
near_more m n None l p = tt
near_more m n (Some a) l p = (omega (arith, ints, p.0), omega (arith, ints, p.1))

pub opposite_near : (m : ℕ) (b : Option ℤ) → IsNear m b → IsNear m (opposite b)
opposite_near m None h = tt
opposite_near m (Some z) h = (omega (arith, ints, h.1), omega (arith, ints, h.0))

pub side_near : (m : ℕ) (x : ℕ → Option ℤ) → ((k : ℕ) → IsNear m (x k)) → (i : ℕ) → IsNear m (part_side x i)
side_near m x h i = by ((i % 2) == 0)
  where
    by : (t : Bool) → IsNear m (if t then x (i / 2) else opposite (x (i / 2)))
    by true = h (i / 2)
    by false = opposite_near m (x (i / 2)) (h (i / 2))

pub half_near : (m : ℕ) (b : Option ℤ) → IsNear m b → IsNear m (halved b)
half_near m None h = tt
half_near m (Some z) h = (omega (arith, ints, h.0, half_high z), omega (arith, ints, h.1, half_low z))

pub plus_near : (m n : ℕ) (a b : Option ℤ) → IsNear m a → IsNear n b → IsNear (m + n) (plus a b)
plus_near m n None b p q = tt
plus_near m n (Some a) None p q = tt
plus_near m n (Some a) (Some b) p q = (omega (arith, ints, p.0, q.0), omega (arith, ints, p.1, q.1))

lesser_near : (m : ℕ) (a b : Option ℤ) → IsNear m a → IsNear m b → IsNear m (lesser a b)
lesser_near m a b p q = by (lesser_one a b)
  where
    by : (lesser a b ≡ a) ⊎ (lesser a b ≡ b) → IsNear m (lesser a b)
    by (inl e) = rw e p
    by (inr e) = rw e q

pub bound_near : (m : ℕ) (e : ℕ → ℕ → Option ℤ) (x : ℕ → Option ℤ) (p : ℕ) → ((k : ℕ) → IsNear m (x k)) → ((i j : ℕ) → IsNear (2 ^ 66) (e i j)) → (k : ℕ) → IsNear (m + 2 ^ 66) (bound_by e x p k)
bound_near m e x p h g zero = near_more (2 ^ 66) (m + 2 ^ 66) (halved (e (bar p) p)) (omega arith) (half_near (2 ^ 66) (e (bar p) p) (g (bar p) p))
bound_near m e x p h g (suc k) = lesser_near (m + 2 ^ 66) (bound_by e x p k) (plus (part_side x k) (e k p)) (bound_near m e x p h g k) (plus_near m (2 ^ 66) (part_side x k) (e k p) (side_near m x h k) (g k p))

raised_near : (m : ℕ) (w : ℤ) (low : Option ℤ) → IsNear m (Some w) → IsNear m low → IsNear m (Some (raised w low))
raised_near m w None h k = h
raised_near m w (Some l) h k = by (int_lt w (neg_ℤ l))
  where
    by : (t : Bool) → IsNear m (Some (if t then neg_ℤ l else w))
    by true = (omega (arith, ints, k.1), omega (arith, ints, k.0))
    by false = h

pub lowered_near : (m : ℕ) (w : ℤ) (high : Option ℤ) → IsNear m (Some w) → IsNear m high → IsNear m (Some (lowered w high))
lowered_near m w None h k = h
lowered_near m w (Some a) h k = by (int_lt a w)
  where
    by : (t : Bool) → IsNear m (Some (if t then a else w))
    by true = k
    by false = h

signed_near : (m p : ℕ) (v : ℤ) → IsNear m (Some v) → IsNear m (Some (signed p v))
signed_near m p v h = by ((p % 2) == 0)
  where
    by : (t : Bool) → IsNear m (Some (if t then v else neg_ℤ v))
    by true = h
    by false = (omega (arith, ints, h.1), omega (arith, ints, h.0))

scaled : (k : ℕ) → k * 2 ^ 66 + 2 ^ 66 ≡ (k + 1) * 2 ^ 66
scaled k = omega arith

pub nearest_near : (m : Octagon) (k : ℕ) (xs : List (Option ℤ)) (p : ℕ) (w : ℤ) → IsOctagon m → IsPart m k xs → IsNear ((k + 1) * 2 ^ 66) (Some w) → IsNear ((k + 1) * 2 ^ 66) (Some (nearest_in m xs p w))
nearest_near m k xs p w o h n =
    let at : (q : ℕ) → IsNear ((k + 1) * 2 ^ 66) (bound_by (entry m) (number_at xs) q (2 * m.vars)) = λ q. subst (λ b. IsNear b (bound_by (entry m) (number_at xs) q (2 * m.vars))) (scaled k) (bound_near (k * 2 ^ 66) (entry m) (number_at xs) q h.near o.whole.near (2 * m.vars)) in
    lowered_near ((k + 1) * 2 ^ 66) _ _ (raised_near ((k + 1) * 2 ^ 66) w _ n (at (bar p))) (at p)

-- the bound below 2^100 of any part of fewer than 2^32 numbers
pub room_near : (k : ℕ) (b : Option ℤ) → k < 2 ^ 32 → IsNear ((k + 1) * 2 ^ 66) b → IsNear (2 ^ 100) b
room_near k b l h = near_more ((k + 1) * 2 ^ 66) (2 ^ 100) b (omega (arith, l)) h

pub part_near : (m : Octagon) (k : ℕ) (xs : List (Option ℤ)) → k < 2 ^ 32 → IsPart m k xs → AreNear (2 ^ 99) xs
part_near m k xs l h i = near_more (k * 2 ^ 66) (2 ^ 99) (number_at xs i) (omega (arith, l)) (h.near i)

-- ---- a list in which a number is written
pub written_here : (xs : List (Option ℤ)) (k : ℕ) (v : ℤ) → k < length xs → number_at (set xs k (Some v)) k ≡ Some v
written_here xs k v h = get_or-set_same xs k (Some v) None h

pub written_other : (xs : List (Option ℤ)) (k i : ℕ) (v : ℤ) → i ≢ k → number_at (set xs k (Some v)) i ≡ number_at xs i
written_other xs k i v n = get_or-set_other xs k i (Some v) None n

written_with : (xs : List (Option ℤ)) (k i : ℕ) (v : ℤ) → k < length xs → number_at (set xs k (Some v)) i ≡ with_part (number_at xs) k v i
written_with xs k i v h = by (cases_eq i k)
  where
    by : (i ≡ k) ⊎ (i ≢ k) → number_at (set xs k (Some v)) i ≡ with_part (number_at xs) k v i
    by (inl s) = let same : (i == k) ≡ true = grind (arith, nat_tests) in rw same (subst (λ q. number_at (set xs k (Some v)) q ≡ Some v) (sym s) (written_here xs k v h))
    by (inr n) = let no : (i == k) ≡ false = grind (arith, nat_tests) in rw no (written_other xs k i v n)

meets_same : (d : ℕ) (e : ℕ → ℕ → Option ℤ) (x y : ℕ → Option ℤ) → ((k : ℕ) → y k ≡ x k) → MeetsThere d e x → MeetsThere d e y
meets_same d e x y h m = record { each = λ i j id jd u v f g. m.each i j id jd u v (sym (part_same x y i (h (i / 2))) ∙ f) (sym (part_same x y j (h (j / 2))) ∙ g) }

pub part_written : (m : Octagon) (k : ℕ) (xs : List (Option ℤ)) (p : ℕ) (w : ℤ) → IsOctagon m → IsTight m.vars (entry m) → p < 2 * m.vars → IsPart m k xs → IsNear ((k + 1) * 2 ^ 66) (Some w)
    → IsPart m (k + 1) (set xs (p / 2) (Some (signed p (nearest_in m xs p w))))
part_written m k xs p w o t pd h n = record {
  size = length-set xs (p / 2) (Some s) ∙ h.size;
  meets = meets_same (2 * m.vars) (entry m) (with_nearest (2 * m.vars) (entry m) (number_at xs) p w) (number_at (set xs (p / 2) (Some s))) (λ i. written_with xs (p / 2) i s inside) (placed_nearest m.vars (entry m) (number_at xs) t h.meets p w pd);
  near = λ i. near i (cases_eq i (p / 2));
}
  where
    s : ℤ
    s = signed p (nearest_in m xs p w)

    inside : p / 2 < length xs
    inside = let size = h.size in omega (arith, size)

    near : (i : ℕ) → (i ≡ p / 2) ⊎ (i ≢ p / 2) → IsNear ((k + 1) * 2 ^ 66) (number_at (set xs (p / 2) (Some s)) i)
    near i (inl e) = subst (λ q. IsNear ((k + 1) * 2 ^ 66) (number_at (set xs (p / 2) (Some s)) q)) (sym e) (rw (written_here xs (p / 2) s inside) (signed_near ((k + 1) * 2 ^ 66) p (nearest_in m xs p w) (nearest_near m k xs p w o h n)))
    near i (inr e) = rw (written_other xs (p / 2) i s e) (near_more (k * 2 ^ 66) ((k + 1) * 2 ^ 66) (number_at xs i) (omega arith) (h.near i))

pub side_written : (xs : List (Option ℤ)) (p : ℕ) (v : ℤ) → p / 2 < length xs → part_side (number_at (set xs (p / 2) (Some (signed p v)))) p ≡ Some v
side_written xs p v h = part_same (with_part (number_at xs) (p / 2) (signed p v)) (number_at (set xs (p / 2) (Some (signed p v)))) p (written_with xs (p / 2) (p / 2) (signed p v) h) ∙ part_here (number_at xs) p v

pub upper_near : (m : Octagon) (k : ℕ) (xs : List (Option ℤ)) (q : ℕ) (b : Option ℤ) → IsOctagon m → k < 2 ^ 32 → IsPart m k xs → b ≡ bound_by (entry m) (number_at xs) q (2 * m.vars) → IsNear (2 ^ 100) b
upper_near m k xs q b o l h e =
    let near : IsNear ((k + 1) * 2 ^ 66) (bound_by (entry m) (number_at xs) q (2 * m.vars)) = subst (λ n. IsNear n (bound_by (entry m) (number_at xs) q (2 * m.vars))) (scaled k) (bound_near (k * 2 ^ 66) (entry m) (number_at xs) q h.near o.whole.near (2 * m.vars)) in
    subst (λ o. IsNear (2 ^ 100) o) (sym e) (room_near k (bound_by (entry m) (number_at xs) q (2 * m.vars)) l near)

-- what is written is the nearest number
pub nearest_is : (m : Octagon) (xs : List (Option ℤ)) (p q : ℕ) (w r v : ℤ) (high low : Option ℤ) → q ≡ bar p → high ≡ bound_by (entry m) (number_at xs) p (2 * m.vars) → low ≡ bound_by (entry m) (number_at xs) q (2 * m.vars)
    → r ≡ raised w low → v ≡ lowered r high → v ≡ nearest_in m xs p w
nearest_is m xs p q w r v high low b h l s e = e ∙ ap (λ z. lowered z high) s ∙ ap (λ o. lowered (raised w low) o) h ∙ ap (λ o. lowered (raised w o) (bound_by (entry m) (number_at xs) p (2 * m.vars))) (l ∙ ap (λ k. bound_by (entry m) (number_at xs) k (2 * m.vars)) b)

pub nearest_room : (m : Octagon) (k : ℕ) (xs : List (Option ℤ)) (p : ℕ) (w v : ℤ) → IsOctagon m → k < 2 ^ 32 → IsPart m k xs → IsNear ((k + 1) * 2 ^ 66) (Some w) → v ≡ nearest_in m xs p w → IsNear (2 ^ 100) (Some v)
nearest_room m k xs p w v o l h n e = subst (λ z. IsNear (2 ^ 100) (Some z)) (sym e) (room_near k (Some (nearest_in m xs p w)) l (nearest_near m k xs p w o h n))
