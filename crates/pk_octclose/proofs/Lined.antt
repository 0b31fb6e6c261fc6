-- The bounds on one variable, lowered to what leads over places of other variables, where the bounds between those obey the triangle inequality.
use Rattle.std.specs.Prelude.{◌≡◌, ◌≢◌, ℕ, zero, suc, ◌<◌, ◌≤◌, ◌+◌, ◌-◌, ◌*◌, ◌/◌, ◌%◌, ◌^◌, ◌==◌, ◌||◌, if◌then◌else◌, ℤ, pos, negsuc, ◌+ℤ◌, ◌≤ℤ◌, int_lt, Option, Some, None, Bool, true, false, ◌⊎◌, List, [], ◌∷◌, ◌++◌}
use Rattle.std.proofs.Common.{◌∙◌, ap, refl, sym, subst, arith, inl, inr}
use Rattle.std.proofs.lemmas.Bool.Decides.{nat_tests}
use Rattle.std.proofs.lemmas.Bool.{cases_eq, cases_lt}
use Rattle.std.proofs.lemmas.Int.{ints}
use Rattle.pk_octmat.specs.Bounds.{AtMost, IsNear, capped, halved, is_negative, lesser, plus}
use Rattle.pk_octmat.specs.Octagon.{bar, cell_at, forgotten, top_bound, IsMatrix}
use Rattle.pk_octmat.proofs.Bars.{bar_bar}
use Rattle.pk_octmat.proofs.Tropical.{at_most_both, at_most_none, at_most_same, at_most_trans, lesser_left, lesser_one, lesser_right, plus_assoc, plus_comm, plus_le}
use Rattle.pk_octpoints.proofs.Near.{near_more, plus_near}
use Rattle.pk_octclose.specs.After.{line_through, lined, own_through}
use Rattle.pk_octclose.specs.Closing.{IsClosed, IsClosing, evened, tight}
use Rattle.pk_octclose.specs.Walks.{HasNegativeCycle, relaxed, walk_sum}
use Rattle.pk_octclose.proofs.Twice.{through_pair, through_same}
use Rattle.pk_octclose.proofs.Members.{evened_most}
use Rattle.pk_octclose.proofs.Triangle.{sums_triangle}
use Rattle.pk_octclose.proofs.Turned.{reached_turned}
use Rattle.pk_octclose.proofs.Walks.{Below, EachIn, IsWith, Reached, Through, each_in_append, each_in_more, walk_append}
use Rattle.pk_octmat.proofs.Pair.{half_bar}

-- ---- a small closed matrix obeys the triangle inequality: its sums of two bounds are far from the cap
uncapped : (t r : Option ℤ) (z : ℤ) → r ≡ capped t → IsNear (2 ^ 58) r → AtMost t (Some z) → z ≤ℤ pos (2 ^ 60) → AtMost r (Some z)
uncapped None r z e n h l = absurd h
uncapped (Some t) r z e n h l = subst (λ o. AtMost o (Some z)) (sym e) (by (int_lt (pos (2 ^ 66)) t) refl (int_lt t (negsuc (2 ^ 66 - 1))) refl (subst (λ o. IsNear (2 ^ 58) o) e n))
  where
    by : (p : Bool) → int_lt (pos (2 ^ 66)) t ≡ p → (q : Bool) → int_lt t (negsuc (2 ^ 66 - 1)) ≡ q → IsNear (2 ^ 58) (if p then None else (if q then Some (negsuc (2 ^ 66 - 1)) else Some t)) → AtMost (if p then None else (if q then Some (negsuc (2 ^ 66 - 1)) else Some t)) (Some z)
    by true e q f m = absurd (omega (arith, ints, h, l, e))
    by false e true f m = absurd (omega (arith, ints, m.0))
    by false e false f m = h

closed_triangle : (d : ℕ) (f : ℕ → ℕ → Option ℤ) → IsClosing d f f → ((i j : ℕ) → IsNear (2 ^ 58) (f i j)) → (i a j : ℕ) → i < d → a < d → j < d → AtMost (f i j) (plus (f i a) (f a j))
closed_triangle d f c near i a j id ad jd = by (f i a) refl (f a j) refl
  where
    p : ℕ → ℕ → Option ℤ
    p = c.sums

    t : Option ℤ
    t = tight (evened p) i j

    below : (u v : ℕ) → u < d → v < d → AtMost (p u v) (f u v)
    below u v ud vd = (c.least.each u v ud vd).least []

    low : AtMost t (plus (f i a) (f a j))
    low =
        at_most_trans t (evened p i j) _ (lesser_left (evened p i j) (halved (plus (evened p i (bar i)) (evened p (bar j) j))))
        (at_most_trans (evened p i j) (p i j) _ (evened_most p i j)
        (at_most_trans (p i j) (plus (p i a) (p a j)) _ (sums_triangle d f p c.least i a j id ad jd) (plus_le (p i a) (p a j) (f i a) (f a j) (below i a id ad) (below a j ad jd))))

    both : (u v : ℤ) → IsNear (2 ^ 58) (Some u) → IsNear (2 ^ 58) (Some v) → (u +ℤ v) ≤ℤ pos (2 ^ 60)
    both u v g h = omega (arith, ints, g.1, h.1)

    by : (u : Option ℤ) → f i a ≡ u → (v : Option ℤ) → f a j ≡ v → AtMost (f i j) (plus u v)
    by None g v h = at_most_none (f i j)
    by (Some u) g None h = at_most_none (f i j)
    by (Some u) g (Some v) h =
        uncapped t (f i j) (u +ℤ v) (c.is i j id jd) (near i j) (subst (λ o. AtMost t o) (ap (λ o. plus o (f a j)) g ∙ ap (λ o. plus (Some u) o) h) low)
        (both u v (subst (λ o. IsNear (2 ^ 58) o) g (near i a)) (subst (λ o. IsNear (2 ^ 58) o) h (near a j)))

-- ---- bounds between other variables
top_small : (i j : ℕ) → IsNear (2 ^ 58) (top_bound i j)
top_small i j = by (i == j)
  where
    by : (t : Bool) → IsNear (2 ^ 58) (if t then Some (pos 0) else None)
    by true = (omega (arith, ints), omega (arith, ints))
    by false = tt

forgotten_small : (e : ℕ → ℕ → Option ℤ) (k : ℕ) → ((i j : ℕ) → IsNear (2 ^ 58) (e i j)) → (i j : ℕ) → IsNear (2 ^ 58) (forgotten e k i j)
forgotten_small e k h i j = by (((i / 2) == k) || ((j / 2) == k))
  where
    by : (t : Bool) → IsNear (2 ^ 58) (if t then top_bound i j else e i j)
    by true = top_small i j
    by false = h i j

forgotten_other : (e : ℕ → ℕ → Option ℤ) (k i j : ℕ) → i / 2 ≢ k → j / 2 ≢ k → forgotten e k i j ≡ e i j
forgotten_other e k i j n m =
    let a : (i / 2 == k) ≡ false = grind (arith, nat_tests) in
    let b : (j / 2 == k) ≡ false = grind (arith, nat_tests) in
    rw a (rw b refl)

other_triangle : (d : ℕ) (e : ℕ → ℕ → Option ℤ) (k : ℕ) → IsClosed d (forgotten e k) → ((i j : ℕ) → IsNear (2 ^ 58) (e i j)) → (i a j : ℕ) → i < d → a < d → j < d → i / 2 ≢ k → a / 2 ≢ k → j / 2 ≢ k → AtMost (e i j) (plus (e i a) (e a j))
other_triangle d e k c small i a j id ad jd p q r =
    subst (λ o. AtMost o (plus (e i a) (e a j))) (forgotten_other e k i j p r)
    (subst (λ o. AtMost (forgotten e k i j) (plus o (e a j))) (forgotten_other e k i a p q)
    (subst (λ o. AtMost (forgotten e k i j) (plus (forgotten e k i a) o)) (forgotten_other e k a j q r) (closed_triangle d (forgotten e k) c (forgotten_small e k small) i a j id ad jd)))

-- ---- the bounds to begin with
pub record IsBase (d : ℕ) (e : ℕ → ℕ → Option ℤ) (k : ℕ) : Type 0 where
  pub inside : (i : ℕ) → i < d → bar i < d
  pub zero : (i : ℕ) → i < d → e i i ≡ Some (pos 0)
  pub turned : (i j : ℕ) → e i j ≡ e (bar j) (bar i)
  pub triangle : (i a j : ℕ) → i < d → a < d → j < d → i / 2 ≢ k → a / 2 ≢ k → j / 2 ≢ k → AtMost (e i j) (plus (e i a) (e a j))

pub base_from : (d : ℕ) (e : ℕ → ℕ → Option ℤ) (k : ℕ) → ((i : ℕ) → i < d → bar i < d) → ((i : ℕ) → i < d → e i i ≡ Some (pos 0)) → ((i j : ℕ) → e i j ≡ e (bar j) (bar i)) → IsClosed d (forgotten e k) → ((i j : ℕ) → IsNear (2 ^ 58) (e i j)) → IsBase d e k
base_from d e k inside diagonal turned c small = record { inside = inside; zero = diagonal; turned = turned; triangle = λ i a j id ad jd p q r. other_triangle d e k c small i a j id ad jd p q r }

-- the places of other variables
abbrev pub Beside : ℕ → ℕ → ℕ → Type 0
Beside d k p = (p < d) × (p / 2 ≢ k)

beside_bar : (d k : ℕ) → ((i : ℕ) → i < d → bar i < d) → (p : ℕ) → Beside d k p → Beside d k (bar p)
beside_bar d k f p b = let h = half_bar p in (f p b.0, λ s. b.1 (sym h ∙ s))

-- ---- a row
line_step : (e : ℕ → ℕ → Option ℤ) (r a b : ℕ) → AtMost (line_through e r (suc a) b) (line_through e r a b)
unfolding line_through
line_step e r a b = by ((a / 2) == (r / 2))
  where
    by : (t : Bool) → AtMost (if t then line_through e r a b else lesser (line_through e r a b) (plus (line_through e r a a) (e a b))) (line_through e r a b)
    by true = at_most_same (line_through e r a b)
    by false = lesser_left (line_through e r a b) (plus (line_through e r a a) (e a b))

pub line_none : (e : ℕ → ℕ → Option ℤ) (r b : ℕ) → line_through e r 0 b ≡ e r b
unfolding line_through
line_none e r b = refl

line_least : (e : ℕ → ℕ → Option ℤ) (r n b : ℕ) → AtMost (line_through e r n b) (e r b)
unfolding line_through
line_least e r zero b = at_most_same (e r b)
line_least e r (suc a) b = at_most_trans (line_through e r (suc a) b) (line_through e r a b) (e r b) (line_step e r a b) (line_least e r a b)

line_here : (e : ℕ → ℕ → Option ℤ) (r a b : ℕ) → a / 2 ≢ r / 2 → line_through e r (suc a) b ≡ lesser (line_through e r a b) (plus (line_through e r a a) (e a b))
unfolding line_through
line_here e r a b n = let no : ((a / 2) == (r / 2)) ≡ false = grind (arith, nat_tests) in rw no refl

-- one place more
pub line_more : (e : ℕ → ℕ → Option ℤ) (r a b : ℕ) (x : Option ℤ) → (a / 2 ≡ r / 2 → x ≡ line_through e r a b) → (a / 2 ≢ r / 2 → x ≡ lesser (line_through e r a b) (plus (line_through e r a a) (e a b))) → x ≡ line_through e r (a + 1) b
unfolding line_through
line_more e r a b x same below = subst (λ n. x ≡ line_through e r n b) next (by (cases_eq (a / 2) (r / 2)))
  where
    next : suc a ≡ a + 1
    next = omega arith

    by : (a / 2 ≡ r / 2) ⊎ (a / 2 ≢ r / 2) → x ≡ line_through e r (suc a) b
    by (inl s) = let yes : ((a / 2) == (r / 2)) ≡ true = grind (arith, nat_tests) in rw yes (same s)
    by (inr n) = below n ∙ sym (line_here e r a b n)

line_over : (e : ℕ → ℕ → Option ℤ) (r n a b : ℕ) → a < n → a / 2 ≢ r / 2 → AtMost (line_through e r n b) (plus (e r a) (e a b))
line_over e r zero a b h n = absurd (omega arith)
line_over e r (suc m) a b h n = by (cases_lt a m) (λ l. line_over e r m a b l n)
  where
    by : (a < m) ⊎ (m ≤ a) → (a < m → AtMost (line_through e r m b) (plus (e r a) (e a b))) → AtMost (line_through e r (suc m) b) (plus (e r a) (e a b))
    by (inl l) ih = at_most_trans (line_through e r (suc m) b) (line_through e r m b) (plus (e r a) (e a b)) (line_step e r m b) (ih l)
    by (inr g) ih =
        let same : a ≡ m = omega arith in
        let here : AtMost (line_through e r (suc a) b) (plus (e r a) (e a b)) =
        subst (λ o. AtMost o (plus (e r a) (e a b))) (sym (line_here e r a b n))
        (at_most_trans (lesser (line_through e r a b) (plus (line_through e r a a) (e a b))) (plus (line_through e r a a) (e a b)) (plus (e r a) (e a b)) (lesser_right (line_through e r a b) (plus (line_through e r a a) (e a b)))
        (plus_le (line_through e r a a) (e a b) (e r a) (e a b) (line_least e r a a) (at_most_same (e a b)))) in
        subst (λ q. AtMost (line_through e r (suc q) b) (plus (e r a) (e a b))) same here

line_reached : (d : ℕ) (e : ℕ → ℕ → Option ℤ) (r n b : ℕ) → n ≤ d → Reached e (Beside d (r / 2)) r b (line_through e r n b)
unfolding line_through
line_reached d e r zero b h = record { by = []; each = tt; is = refl }
line_reached d e r (suc a) b h = by (cases_eq (a / 2) (r / 2)) (line_reached d e r a b (omega arith)) (line_reached d e r a a (omega arith))
  where
    by : (a / 2 ≡ r / 2) ⊎ (a / 2 ≢ r / 2) → Reached e (Beside d (r / 2)) r b (line_through e r a b) → Reached e (Beside d (r / 2)) r a (line_through e r a a) → Reached e (Beside d (r / 2)) r b (line_through e r (suc a) b)
    by (inl s) v w = let yes : ((a / 2) == (r / 2)) ≡ true = grind (arith, nat_tests) in rw yes v
    by (inr n) v w = subst (λ o. Reached e (Beside d (r / 2)) r b o) (sym (line_here e r a b n)) (one (lesser_one (line_through e r a b) (plus (line_through e r a a) (e a b))))
      where
        one : (lesser (line_through e r a b) (plus (line_through e r a a) (e a b)) ≡ line_through e r a b) ⊎ (lesser (line_through e r a b) (plus (line_through e r a a) (e a b)) ≡ plus (line_through e r a a) (e a b))
            → Reached e (Beside d (r / 2)) r b (lesser (line_through e r a b) (plus (line_through e r a a) (e a b)))
        one (inl s) = record { by = v.by; each = v.each; is = v.is ∙ sym s }
        one (inr s) = record {
          by = w.by ++ a ∷ [];
          each = each_in_append (Beside d (r / 2)) w.by [] a w.each (omega arith, n) tt;
          is = walk_append e w.by [] r a b ∙ ap (λ o. plus o (e a b)) w.is ∙ sym s;
        }

pub line_near : (e : ℕ → ℕ → Option ℤ) (r n b : ℕ) → ((i j : ℕ) → (i ≡ r) ⊎ (i / 2 ≢ r / 2) → IsNear (2 ^ 58) (e i j)) → IsNear (n * 2 ^ 58 + 2 ^ 58) (line_through e r n b)
unfolding line_through
line_near e r zero b h = near_more (2 ^ 58) (0 * 2 ^ 58 + 2 ^ 58) (e r b) (omega arith) (h r b (inl refl))
line_near e r (suc a) b h = by (cases_eq (a / 2) (r / 2)) (line_near e r a b h) (line_near e r a a h)
  where
    by : (a / 2 ≡ r / 2) ⊎ (a / 2 ≢ r / 2) → IsNear (a * 2 ^ 58 + 2 ^ 58) (line_through e r a b) → IsNear (a * 2 ^ 58 + 2 ^ 58) (line_through e r a a) → IsNear (suc a * 2 ^ 58 + 2 ^ 58) (line_through e r (suc a) b)
    by (inl s) v w = let yes : ((a / 2) == (r / 2)) ≡ true = grind (arith, nat_tests) in rw yes (near_more (a * 2 ^ 58 + 2 ^ 58) (suc a * 2 ^ 58 + 2 ^ 58) (line_through e r a b) (omega arith) v)
    by (inr n) v w = subst (λ o. IsNear (suc a * 2 ^ 58 + 2 ^ 58) o) (sym (line_here e r a b n)) (one (lesser_one (line_through e r a b) (plus (line_through e r a a) (e a b))))
      where
        one : (lesser (line_through e r a b) (plus (line_through e r a a) (e a b)) ≡ line_through e r a b) ⊎ (lesser (line_through e r a b) (plus (line_through e r a a) (e a b)) ≡ plus (line_through e r a a) (e a b))
            → IsNear (suc a * 2 ^ 58 + 2 ^ 58) (lesser (line_through e r a b) (plus (line_through e r a a) (e a b)))
        one (inl s) = rw s (near_more (a * 2 ^ 58 + 2 ^ 58) (suc a * 2 ^ 58 + 2 ^ 58) (line_through e r a b) (omega arith) v)
        one (inr s) = rw s (near_more (a * 2 ^ 58 + 2 ^ 58 + 2 ^ 58) (suc a * 2 ^ 58 + 2 ^ 58) (plus (line_through e r a a) (e a b)) (omega arith) (plus_near (a * 2 ^ 58 + 2 ^ 58) (2 ^ 58) (line_through e r a a) (e a b) w (h a b (inr n))))

pub lines_near : (d : ℕ) (e : ℕ → ℕ → Option ℤ) (r b : ℕ) (x : Option ℤ) → d ≤ 2 ^ 32 → ((i j : ℕ) → (i ≡ r) ⊎ (i / 2 ≢ r / 2) → IsNear (2 ^ 58) (e i j)) → x ≡ line_through e r d b → IsNear (2 ^ 100) x
lines_near d e r b x room h is = subst (λ o. IsNear (2 ^ 100) o) (sym is) (near_more (d * 2 ^ 58 + 2 ^ 58) (2 ^ 100) (line_through e r d b) (omega (arith, room)) (line_near e r d b h))

-- rows of other variables that are the same give the same
pub line_same : (e f : ℕ → ℕ → Option ℤ) (r n : ℕ) → ((b : ℕ) → f r b ≡ e r b) → ((a b : ℕ) → a / 2 ≢ r / 2 → f a b ≡ e a b) → (b : ℕ) → line_through f r n b ≡ line_through e r n b
unfolding line_through
line_same e f r zero own others b = own b
line_same e f r (suc a) own others b = by (cases_eq (a / 2) (r / 2)) (line_same e f r a own others b) (line_same e f r a own others a)
  where
    by : (a / 2 ≡ r / 2) ⊎ (a / 2 ≢ r / 2) → line_through f r a b ≡ line_through e r a b → line_through f r a a ≡ line_through e r a a → line_through f r (suc a) b ≡ line_through e r (suc a) b
    by (inl s) v w = let yes : ((a / 2) == (r / 2)) ≡ true = grind (arith, nat_tests) in rw yes v
    by (inr n) v w =
        line_here f r a b n ∙ ap (λ o. lesser o (plus (line_through f r a a) (f a b))) v ∙ ap (λ o. lesser (line_through e r a b) (plus o (f a b))) w ∙ ap (λ o. lesser (line_through e r a b) (plus (line_through e r a a) o)) (others a b n)
        ∙ sym (line_here e r a b n)

-- ---- its bounds on its own variable
own_step : (e : ℕ → ℕ → Option ℤ) (l : ℕ → Option ℤ) (k a s : ℕ) → AtMost (own_through e l k (suc a) s) (own_through e l k a s)
unfolding own_through
own_step e l k a s = by ((a / 2) == k)
  where
    by : (t : Bool) → AtMost (if t then own_through e l k a s else lesser (own_through e l k a s) (plus (l a) (e a s))) (own_through e l k a s)
    by true = at_most_same (own_through e l k a s)
    by false = lesser_left (own_through e l k a s) (plus (l a) (e a s))

pub own_none : (e : ℕ → ℕ → Option ℤ) (l : ℕ → Option ℤ) (k s : ℕ) → own_through e l k 0 s ≡ l s
unfolding own_through
own_none e l k s = refl

own_least : (e : ℕ → ℕ → Option ℤ) (l : ℕ → Option ℤ) (k n s : ℕ) → AtMost (own_through e l k n s) (l s)
unfolding own_through
own_least e l k zero s = at_most_same (l s)
own_least e l k (suc a) s = at_most_trans (own_through e l k (suc a) s) (own_through e l k a s) (l s) (own_step e l k a s) (own_least e l k a s)

own_here : (e : ℕ → ℕ → Option ℤ) (l : ℕ → Option ℤ) (k a s : ℕ) → a / 2 ≢ k → own_through e l k (suc a) s ≡ lesser (own_through e l k a s) (plus (l a) (e a s))
unfolding own_through
own_here e l k a s n = let no : ((a / 2) == k) ≡ false = grind (arith, nat_tests) in rw no refl

pub own_more : (e : ℕ → ℕ → Option ℤ) (l : ℕ → Option ℤ) (k a s : ℕ) (x : Option ℤ) → (a / 2 ≡ k → x ≡ own_through e l k a s) → (a / 2 ≢ k → x ≡ lesser (own_through e l k a s) (plus (l a) (e a s))) → x ≡ own_through e l k (a + 1) s
unfolding own_through
own_more e l k a s x same below = subst (λ n. x ≡ own_through e l k n s) next (by (cases_eq (a / 2) k))
  where
    next : suc a ≡ a + 1
    next = omega arith

    by : (a / 2 ≡ k) ⊎ (a / 2 ≢ k) → x ≡ own_through e l k (suc a) s
    by (inl q) = let yes : ((a / 2) == k) ≡ true = grind (arith, nat_tests) in rw yes (same q)
    by (inr n) = below n ∙ sym (own_here e l k a s n)

own_over : (e : ℕ → ℕ → Option ℤ) (l : ℕ → Option ℤ) (k n a s : ℕ) → a < n → a / 2 ≢ k → AtMost (own_through e l k n s) (plus (l a) (e a s))
own_over e l k zero a s h n = absurd (omega arith)
own_over e l k (suc m) a s h n = by (cases_lt a m) (λ q. own_over e l k m a s q n)
  where
    by : (a < m) ⊎ (m ≤ a) → (a < m → AtMost (own_through e l k m s) (plus (l a) (e a s))) → AtMost (own_through e l k (suc m) s) (plus (l a) (e a s))
    by (inl q) ih = at_most_trans (own_through e l k (suc m) s) (own_through e l k m s) (plus (l a) (e a s)) (own_step e l k m s) (ih q)
    by (inr g) ih =
        let same : a ≡ m = omega arith in
        let here : AtMost (own_through e l k (suc a) s) (plus (l a) (e a s)) = subst (λ o. AtMost o (plus (l a) (e a s))) (sym (own_here e l k a s n)) (lesser_right (own_through e l k a s) (plus (l a) (e a s))) in
        subst (λ q. AtMost (own_through e l k (suc q) s) (plus (l a) (e a s))) same here

own_reached : (d : ℕ) (e : ℕ → ℕ → Option ℤ) (l : ℕ → Option ℤ) (k r n s : ℕ) → ((b : ℕ) → Reached e (Beside d k) r b (l b)) → n ≤ d → Reached e (Beside d k) r s (own_through e l k n s)
unfolding own_through
own_reached d e l k r zero s f h = f s
own_reached d e l k r (suc a) s f h = by (cases_eq (a / 2) k) (own_reached d e l k r a s f (omega arith)) (f a)
  where
    by : (a / 2 ≡ k) ⊎ (a / 2 ≢ k) → Reached e (Beside d k) r s (own_through e l k a s) → Reached e (Beside d k) r a (l a) → Reached e (Beside d k) r s (own_through e l k (suc a) s)
    by (inl q) v w = let yes : ((a / 2) == k) ≡ true = grind (arith, nat_tests) in rw yes v
    by (inr n) v w = subst (λ o. Reached e (Beside d k) r s o) (sym (own_here e l k a s n)) (one (lesser_one (own_through e l k a s) (plus (l a) (e a s))))
      where
        one : (lesser (own_through e l k a s) (plus (l a) (e a s)) ≡ own_through e l k a s) ⊎ (lesser (own_through e l k a s) (plus (l a) (e a s)) ≡ plus (l a) (e a s)) → Reached e (Beside d k) r s (lesser (own_through e l k a s) (plus (l a) (e a s)))
        one (inl q) = record { by = v.by; each = v.each; is = v.is ∙ sym q }
        one (inr q) = record { by = w.by ++ a ∷ []; each = each_in_append (Beside d k) w.by [] a w.each (omega arith, n) tt; is = walk_append e w.by [] r a s ∙ ap (λ o. plus o (e a s)) w.is ∙ sym q }

pub own_same : (e f : ℕ → ℕ → Option ℤ) (l m : ℕ → Option ℤ) (k n d s : ℕ) → n ≤ d → s < d → ((b : ℕ) → b < d → m b ≡ l b) → ((a b : ℕ) → a / 2 ≢ k → f a b ≡ e a b) → own_through f m k n s ≡ own_through e l k n s
unfolding own_through
own_same e f l m k zero d s h sd own others = own s sd
own_same e f l m k (suc a) d s h sd own others = by (cases_eq (a / 2) k) (own_same e f l m k a d s (omega arith) sd own others)
  where
    by : (a / 2 ≡ k) ⊎ (a / 2 ≢ k) → own_through f m k a s ≡ own_through e l k a s → own_through f m k (suc a) s ≡ own_through e l k (suc a) s
    by (inl q) v = let yes : ((a / 2) == k) ≡ true = grind (arith, nat_tests) in rw yes v
    by (inr n) v =
        own_here f m k a s n ∙ ap (λ o. lesser o (plus (m a) (f a s))) v ∙ ap (λ o. lesser (own_through e l k a s) (plus o (f a s))) (own a (omega arith)) ∙ ap (λ o. lesser (own_through e l k a s) (plus (l a) o)) (others a s n)
        ∙ sym (own_here e l k a s n)

-- ---- all bounds
pub lined_rest : (d : ℕ) (e : ℕ → ℕ → Option ℤ) (k i j : ℕ) → i / 2 ≢ k → j / 2 ≢ k → lined d e k i j ≡ e i j
lined_rest d e k i j n m =
    let a : ((i / 2) == k) ≡ false = grind (arith, nat_tests) in
    let b : ((j / 2) == k) ≡ false = grind (arith, nat_tests) in
    rw a (rw b refl)

pub lined_row : (d : ℕ) (e : ℕ → ℕ → Option ℤ) (k i j : ℕ) → i / 2 ≡ k → j / 2 ≢ k → lined d e k i j ≡ line_through e i d j
lined_row d e k i j s m =
    let a : ((i / 2) == k) ≡ true = grind (arith, nat_tests) in
    let b : ((j / 2) == k) ≡ false = grind (arith, nat_tests) in
    rw a (rw b refl)

pub lined_column : (d : ℕ) (e : ℕ → ℕ → Option ℤ) (k i j : ℕ) → i / 2 ≢ k → j / 2 ≡ k → lined d e k i j ≡ line_through e (bar j) d (bar i)
lined_column d e k i j n s =
    let a : ((i / 2) == k) ≡ false = grind (arith, nat_tests) in
    let b : ((j / 2) == k) ≡ true = grind (arith, nat_tests) in
    rw a (rw b refl)

pub lined_own : (d : ℕ) (e : ℕ → ℕ → Option ℤ) (k i j : ℕ) → i / 2 ≡ k → j / 2 ≡ k → lined d e k i j ≡ own_through e (line_through e i d) k d j
lined_own d e k i j s t =
    let a : ((i / 2) == k) ≡ true = grind (arith, nat_tests) in
    let b : ((j / 2) == k) ≡ true = grind (arith, nat_tests) in
    rw a (rw b refl)

-- a walk over other variables is no shorter than a bound between them
walk_least : (d : ℕ) (e : ℕ → ℕ → Option ℤ) (k : ℕ) → IsBase d e k → (v t : ℕ) (vs : List ℕ) → Beside d k v → Beside d k t → EachIn (Beside d k) vs → AtMost (e v t) (walk_sum e v vs t)
walk_least d e k z v t [] a b h = at_most_same (e v t)
walk_least d e k z v t (u ∷ us) a b h = at_most_trans (e v t) (plus (e v u) (e u t)) _ (z.triangle v u t a.0 h.0.0 b.0 a.1 h.0.1 b.1) (plus_le (e v u) (e u t) (e v u) (walk_sum e u us t) (at_most_same (e v u)) (walk_least d e k z u t us h.0 b h.1))

line_walk : (d : ℕ) (e : ℕ → ℕ → Option ℤ) (k r a j : ℕ) (w : List ℕ) → IsBase d e k → r / 2 ≡ k → Beside d k a → Beside d k j → EachIn (Beside d k) w → AtMost (line_through e r d j) (plus (walk_sum e r w a) (e a j))
line_walk d e k r a j [] z s p q h = line_over e r d a j p.0 (λ t. p.1 (t ∙ s))
line_walk d e k r a j (v ∷ vs) z s p q h =
    let rest : AtMost (e v j) (plus (walk_sum e v vs a) (e a j)) =
    at_most_trans (e v j) (plus (e v a) (e a j)) _ (z.triangle v a j h.0.0 p.0 q.0 h.0.1 p.1 q.1) (plus_le (e v a) (e a j) (walk_sum e v vs a) (e a j) (walk_least d e k z v a vs h.0 p h.1) (at_most_same (e a j))) in
    let way : AtMost (line_through e r d j) (plus (e r v) (e v j)) = line_over e r d v j h.0.0 (λ t. h.0.1 (t ∙ s)) in
    subst (λ o. AtMost (line_through e r d j) o) (sym (plus_assoc (e r v) (walk_sum e v vs a) (e a j))) (at_most_trans (line_through e r d j) (plus (e r v) (e v j)) _ way (plus_le (e r v) (e v j) (e r v) _ (at_most_same (e r v)) rest))

reached_at : (d : ℕ) (e : ℕ → ℕ → Option ℤ) (k r b : ℕ) → r / 2 ≡ k → Reached e (Beside d k) r b (line_through e r d b)
reached_at d e k r b s = subst (λ q. Reached e (Beside d q) r b (line_through e r d b)) s (line_reached d e r d b (omega arith))

line_closed : (d : ℕ) (e : ℕ → ℕ → Option ℤ) (k r a j : ℕ) → IsBase d e k → r / 2 ≡ k → Beside d k a → Beside d k j → AtMost (line_through e r d j) (plus (line_through e r d a) (e a j))
line_closed d e k r a j z s p q = let w = reached_at d e k r a s in subst (λ o. AtMost (line_through e r d j) (plus o (e a j))) w.is (line_walk d e k r a j w.by z s p q w.each)

own_walk : (d : ℕ) (e : ℕ → ℕ → Option ℤ) (k i j a : ℕ) (w : List ℕ) → IsBase d e k → i / 2 ≡ k → Beside d k a → EachIn (Beside d k) w
    → AtMost (own_through e (line_through e i d) k d j) (plus (line_through e i d a) (walk_sum e (bar j) w (bar a)))
own_walk d e k i j a [] z s p h = subst (λ o. AtMost (own_through e (line_through e i d) k d j) (plus (line_through e i d a) o)) (z.turned a j) (own_over e (line_through e i d) k d a j p.0 p.1)
own_walk d e k i j a (v ∷ vs) z s p h =
    let l : ℕ → Option ℤ = line_through e i d in
    let ba = beside_bar d k z.inside a p in
    let bv = beside_bar d k z.inside v h.0 in
    let rest : AtMost (e a (bar v)) (walk_sum e v vs (bar a)) = subst (λ o. AtMost o (walk_sum e v vs (bar a))) (z.turned v (bar a) ∙ ap (λ q. e q (bar v)) (bar_bar a)) (walk_least d e k z v (bar a) vs h.0 ba h.1) in
    let far : AtMost (l (bar v)) (plus (l a) (walk_sum e v vs (bar a))) = at_most_trans (l (bar v)) (plus (l a) (e a (bar v))) _ (line_closed d e k i a (bar v) z s p bv) (plus_le (l a) (e a (bar v)) (l a) _ (at_most_same (l a)) rest) in
    let back : e (bar v) j ≡ e (bar j) v = z.turned (bar v) j ∙ ap (λ q. e (bar j) q) (bar_bar v) in
    let way : AtMost (own_through e l k d j) (plus (l (bar v)) (e (bar j) v)) = subst (λ o. AtMost (own_through e l k d j) (plus (l (bar v)) o)) back (own_over e l k d (bar v) j bv.0 bv.1) in
    let all : AtMost (own_through e l k d j) (plus (plus (l a) (walk_sum e v vs (bar a))) (e (bar j) v)) = at_most_trans (own_through e l k d j) (plus (l (bar v)) (e (bar j) v)) _ way (plus_le (l (bar v)) (e (bar j) v) _ (e (bar j) v) far (at_most_same (e (bar j) v))) in
    subst (λ o. AtMost (own_through e l k d j) o) (plus_assoc (l a) (walk_sum e v vs (bar a)) (e (bar j) v) ∙ ap (λ o. plus (l a) o) (plus_comm (walk_sum e v vs (bar a)) (e (bar j) v))) all

own_closed : (d : ℕ) (e : ℕ → ℕ → Option ℤ) (k i j a : ℕ) → IsBase d e k → i / 2 ≡ k → j / 2 ≡ k → Beside d k a → AtMost (own_through e (line_through e i d) k d j) (plus (line_through e i d a) (line_through e (bar j) d (bar a)))
own_closed d e k i j a z s t p =
    let h = half_bar j in
    let w = reached_at d e k (bar j) (bar a) (h ∙ t) in
    subst (λ o. AtMost (own_through e (line_through e i d) k d j) (plus (line_through e i d a) o)) w.is (own_walk d e k i j a w.by z s p w.each)

-- the bounds have been gone through over the places of other variables
pub lined_through : (d : ℕ) (e : ℕ → ℕ → Option ℤ) (k : ℕ) → IsBase d e k → ((i : ℕ) → i < d → i / 2 ≡ k → AtMost (Some (pos 0)) (lined d e k i i)) → Through d e (lined d e k) (Beside d k)
lined_through d e k z nonneg = record {
  zero = λ i id. zero i id (cases_eq (i / 2) k);
  below = λ i j id jd. below i j (cases_eq (i / 2) k) (cases_eq (j / 2) k);
  reached = λ i j id jd. reached i j (cases_eq (i / 2) k) (cases_eq (j / 2) k);
  closed = λ i j a id jd ad p. closed i j a id jd p (cases_eq (i / 2) k) (cases_eq (j / 2) k);
}
  where
    least : (i j : ℕ) → i / 2 ≡ k → j / 2 ≡ k → AtMost (lined d e k i j) (e i j)
    least i j s t = rw (lined_own d e k i j s t) (at_most_trans (own_through e (line_through e i d) k d j) (line_through e i d j) (e i j) (own_least e (line_through e i d) k d j) (line_least e i d j))

    zero : (i : ℕ) → i < d → (i / 2 ≡ k) ⊎ (i / 2 ≢ k) → lined d e k i i ≡ Some (pos 0)
    zero i id (inr n) = lined_rest d e k i i n n ∙ z.zero i id
    zero i id (inl s) = sym (at_most_both (Some (pos 0)) (lined d e k i i) (nonneg i id s) (subst (λ o. AtMost (lined d e k i i) o) (z.zero i id) (least i i s s)))

    below : (i j : ℕ) → (i / 2 ≡ k) ⊎ (i / 2 ≢ k) → (j / 2 ≡ k) ⊎ (j / 2 ≢ k) → AtMost (lined d e k i j) (e i j)
    below i j (inl s) (inl t) = least i j s t
    below i j (inl s) (inr m) = rw (lined_row d e k i j s m) (line_least e i d j)
    below i j (inr n) (inl t) = rw (lined_column d e k i j n t) (subst (λ o. AtMost (line_through e (bar j) d (bar i)) o) (sym (z.turned i j)) (line_least e (bar j) d (bar i)))
    below i j (inr n) (inr m) = rw (lined_rest d e k i j n m) (at_most_same (e i j))

    reached : (i j : ℕ) → (i / 2 ≡ k) ⊎ (i / 2 ≢ k) → (j / 2 ≡ k) ⊎ (j / 2 ≢ k) → Reached e (Beside d k) i j (lined d e k i j)
    reached i j (inl s) (inl t) = subst (λ o. Reached e (Beside d k) i j o) (sym (lined_own d e k i j s t)) (own_reached d e (line_through e i d) k i d j (λ b. reached_at d e k i b s) (omega arith))
    reached i j (inl s) (inr m) = subst (λ o. Reached e (Beside d k) i j o) (sym (lined_row d e k i j s m)) (reached_at d e k i j s)
    reached i j (inr n) (inl t) =
        let h = half_bar j in
        subst (λ o. Reached e (Beside d k) i j o) (sym (lined_column d e k i j n t)) (reached_turned e (Beside d k) i j (line_through e (bar j) d (bar i)) z.turned (beside_bar d k z.inside) (reached_at d e k (bar j) (bar i) (h ∙ t)))
    reached i j (inr n) (inr m) = subst (λ o. Reached e (Beside d k) i j o) (sym (lined_rest d e k i j n m)) (record { by = []; each = tt; is = refl })

    closed : (i j a : ℕ) → i < d → j < d → Beside d k a → (i / 2 ≡ k) ⊎ (i / 2 ≢ k) → (j / 2 ≡ k) ⊎ (j / 2 ≢ k) → AtMost (lined d e k i j) (plus (lined d e k i a) (lined d e k a j))
    closed i j a id jd p (inr n) (inr m) = rw (lined_rest d e k i j n m) (rw (lined_rest d e k i a n p.1) (rw (lined_rest d e k a j p.1 m) (z.triangle i a j id p.0 jd n p.1 m)))
    closed i j a id jd p (inl s) (inr m) = rw (lined_row d e k i j s m) (rw (lined_row d e k i a s p.1) (rw (lined_rest d e k a j p.1 m) (line_closed d e k i a j z s p (jd, m))))
    closed i j a id jd p (inr n) (inl t) =
        let h = half_bar j in
        let way : AtMost (line_through e (bar j) d (bar i)) (plus (line_through e (bar j) d (bar a)) (e (bar a) (bar i))) = line_closed d e k (bar j) (bar a) (bar i) z (h ∙ t) (beside_bar d k z.inside a p) (beside_bar d k z.inside i (id, n)) in
        let turn : plus (line_through e (bar j) d (bar a)) (e (bar a) (bar i)) ≡ plus (e i a) (line_through e (bar j) d (bar a)) = plus_comm (line_through e (bar j) d (bar a)) (e (bar a) (bar i)) ∙ ap (λ o. plus o (line_through e (bar j) d (bar a))) (sym (z.turned i a)) in
        rw (lined_column d e k i j n t) (rw (lined_rest d e k i a n p.1) (rw (lined_column d e k a j p.1 t) (subst (λ o. AtMost (line_through e (bar j) d (bar i)) o) turn way)))
    closed i j a id jd p (inl s) (inl t) = rw (lined_own d e k i j s t) (rw (lined_row d e k i a s p.1) (rw (lined_column d e k a j p.1 t) (own_closed d e k i j a z s t p)))

-- read backwards they are the same
pub lined_turned : (d : ℕ) (e : ℕ → ℕ → Option ℤ) (k i j : ℕ) → ((a b : ℕ) → e a b ≡ e (bar b) (bar a)) → i / 2 ≢ j / 2 → lined d e k (bar j) (bar i) ≡ lined d e k i j
lined_turned d e k i j t apart = by (cases_eq (i / 2) k) (cases_eq (j / 2) k)
  where
    hi : bar i / 2 ≡ i / 2
    hi = half_bar i

    hj : bar j / 2 ≡ j / 2
    hj = half_bar j

    by : (i / 2 ≡ k) ⊎ (i / 2 ≢ k) → (j / 2 ≡ k) ⊎ (j / 2 ≢ k) → lined d e k (bar j) (bar i) ≡ lined d e k i j
    by (inl s) (inl u) = absurd (apart (s ∙ sym u))
    by (inl s) (inr m) =
        lined_column d e k (bar j) (bar i) (λ q. m (sym hj ∙ q)) (hi ∙ s) ∙ ap (λ q. line_through e q d (bar (bar j))) (bar_bar i) ∙ ap (λ q. line_through e i d q) (bar_bar j) ∙ sym (lined_row d e k i j s m)
    by (inr n) (inl u) = lined_row d e k (bar j) (bar i) (hj ∙ u) (λ q. n (sym hi ∙ q)) ∙ sym (lined_column d e k i j n u)
    by (inr n) (inr m) = lined_rest d e k (bar j) (bar i) (λ q. m (sym hj ∙ q)) (λ q. n (sym hi ∙ q)) ∙ sym (t i j) ∙ sym (lined_rest d e k i j n m)

-- ---- a walk that leads back
pub lined_cycle : (d : ℕ) (e : ℕ → ℕ → Option ℤ) (k i : ℕ) → i / 2 ≡ k → is_negative (lined d e k i i) ≡ true → HasNegativeCycle e
lined_cycle d e k i s n =
    let r = own_reached d e (line_through e i d) k i d i (λ b. reached_at d e k i b s) (omega arith) in
    record { at = i; by = r.by; negative = ap is_negative (r.is ∙ sym (lined_own d e k i i s s)) ∙ n }

pub pair_each : (p : ℕ) (f : ℕ → Option ℤ) → p % 2 ≡ 0 → AtMost (Some (pos 0)) (f p) → AtMost (Some (pos 0)) (f (p + 1)) → (i : ℕ) → i / 2 ≡ p / 2 → AtMost (Some (pos 0)) (f i)
pair_each p f even first second i h = by (cases_eq i p)
  where
    by : (i ≡ p) ⊎ (i ≢ p) → AtMost (Some (pos 0)) (f i)
    by (inl s) = subst (λ q. AtMost (Some (pos 0)) (f q)) (sym s) first
    by (inr n) = let is : i ≡ p + 1 = omega (arith, even, h, n) in subst (λ q. AtMost (Some (pos 0)) (f q)) (sym is) second

-- ---- all places
pub lined_from : (d k : ℕ) (xs zs : List (Option ℤ)) → IsMatrix d xs → d % 2 ≡ 0 → IsClosed d (forgotten (cell_at d xs) k) → ((i j : ℕ) → IsNear (2 ^ 58) (cell_at d xs i j))
    → ((i : ℕ) → i < d → i / 2 ≡ k → AtMost (Some (pos 0)) (lined d (cell_at d xs) k i i)) → ((i j : ℕ) → i < d → j < d → cell_at d zs i j ≡ lined d (cell_at d xs) k i j) → Through d (cell_at d xs) (cell_at d zs) (Beside d k)
lined_from d k xs zs m pairs c small own lowered =
    through_same d (cell_at d xs) (lined d (cell_at d xs) k) (cell_at d zs) (Beside d k)
    (lined_through d (cell_at d xs) k (base_from d (cell_at d xs) k (λ i id. omega (arith, pairs)) m.coherent.zero m.coherent.turned c small) own) lowered

abbrev pub With : (ℕ → Type 0) → ℕ → ℕ → Type 0
With P k p = P p ⊎ (p ≡ k)

pub with_place : (P : ℕ → Type 0) (k : ℕ) → IsWith P k (With P k)
with_place P k = record { old = λ p h. inl h; new = inr refl; only = λ p h. h }

through_set : (d : ℕ) (e f : ℕ → ℕ → Option ℤ) (P Q : ℕ → Type 0) → ((p : ℕ) → P p → Q p) → ((p : ℕ) → p < d → Q p → P p) → Through d e f P → Through d e f Q
through_set d e f P Q to from t = record {
  zero = t.zero;
  below = t.below;
  reached = λ i j id jd. let r = t.reached i j id jd in record { by = r.by; each = each_in_more P Q to r.by r.each; is = r.is };
  closed = λ i j p id jd pd q. t.closed i j p id jd pd (from p pd q);
}

each_below : (d p q : ℕ) → p + 1 < d → With (With (Beside d (p / 2)) p) (p + 1) q → q < d
each_below d p q h (inl (inl b)) = b.0
each_below d p q h (inl (inr s)) = omega (arith, s)
each_below d p q h (inr s) = omega (arith, s)

all_places : (d p q : ℕ) → p % 2 ≡ 0 → q < d → With (With (Beside d (p / 2)) p) (p + 1) q
all_places d p q even qd = by (cases_eq (q / 2) (p / 2)) (cases_eq q p)
  where
    by : (q / 2 ≡ p / 2) ⊎ (q / 2 ≢ p / 2) → (q ≡ p) ⊎ (q ≢ p) → With (With (Beside d (p / 2)) p) (p + 1) q
    by (inr n) w = inl (inl (qd, n))
    by (inl s) (inl u) = inl (inr u)
    by (inl s) (inr n) = inr (omega (arith, even, s, n))

pub all_through : (d p : ℕ) (e0 f g : ℕ → ℕ → Option ℤ) → p % 2 ≡ 0 → p + 1 < d → Through d e0 f (Beside d (p / 2)) → ((i j : ℕ) → i < d → j < d → g i j ≡ relaxed (relaxed f p) (p + 1) i j) → ((i : ℕ) → i < d → AtMost (Some (pos 0)) (g i i))
    → Through d e0 g (Below d)
all_through d p e0 f g even pd t is nonneg =
    through_set d e0 g (With (With (Beside d (p / 2)) p) (p + 1)) (Below d) (λ q b. each_below d p q pd b) (λ q qd b. all_places d p q even qd)
    (through_pair d e0 f g p (Beside d (p / 2)) (With (Beside d (p / 2)) p) (With (With (Beside d (p / 2)) p) (p + 1)) t (with_place (Beside d (p / 2)) p) (with_place (With (Beside d (p / 2)) p) (p + 1)) pd is nonneg)
