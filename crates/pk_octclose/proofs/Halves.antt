-- Halves of bounds, and sweeps that change no bound between a place and its negative.
use Rattle.std.specs.Prelude.{◌≡◌, ◌≢◌, ℕ, ◌<◌, ◌≤◌, ◌+◌, ◌/◌, ◌%◌, ◌⊎◌, length, ◌==◌, if◌then◌else◌, ℤ, pos, ◌+ℤ◌, Option, Some, None, true, false, List}
use Rattle.std.specs.Int.{int_div_euclid}
use Rattle.std.proofs.Common.{◌∙◌, ap, refl, subst, sym, arith, inl, inr, get_or, set, length-set}
use Rattle.std.proofs.lemmas.Bool.{cases_eq, cases_lt}
use Rattle.std.proofs.lemmas.Bool.Decides.{nat_tests}
use Rattle.std.proofs.lemmas.Int.{ints}
use Rattle.pk_octclose.specs.Closing.{evened, tight}
use Rattle.pk_octmat.proofs.Bars.{bar_bar}
use Rattle.pk_octmat.proofs.Half.{kept_read, kept_set_other, kept_set_same, kept_turned, row_spot}
use Rattle.pk_octclose.proofs.Swept.{Swept, swept_next, swept_read}
use Rattle.pk_octmat.proofs.Pair.{half_bar}
use Rattle.pk_octmat.proofs.Tropical.{at_most_both, at_most_same, lesser_above, lesser_left, plus_comm, half_low, half_high}
use Rattle.pk_octmat.specs.Bounds.{even_down, halved, lesser, plus}
use Rattle.pk_octmat.specs.Octagon.{bar}
use Rattle.pk_octmat.specs.Half.{block, kept_at, row_place, spot}

pub half_double : (z : ℤ) → int_div_euclid (z +ℤ z) (pos 2) ≡ z
half_double z = omega (arith, ints, half_low (z +ℤ z), half_high (z +ℤ z))

lesser_half : (a : Option ℤ) → lesser a (halved (plus a a)) ≡ a
lesser_half None = refl
lesser_half (Some z) =
    rw (half_double z) (at_most_both (lesser (Some z) (Some z)) (Some z) (lesser_left (Some z) (Some z)) (lesser_above (Some z) (Some z) (Some z) (at_most_same (Some z)) (at_most_same (Some z))))

pub evened_here : (e : ℕ → ℕ → Option ℤ) (i : ℕ) → evened e i (bar i) ≡ even_down (e i (bar i))
evened_here e i = let same : (bar i == bar i) ≡ true = grind (arith, nat_tests) in rw same refl

pub evened_other : (e : ℕ → ℕ → Option ℤ) (i b : ℕ) → b ≢ bar i → evened e i b ≡ e i b
evened_other e i b n = by (bar i) n
  where
    by : (k : ℕ) → b ≢ k → (if b == k then even_down (e i b) else e i b) ≡ e i b
    by k n = let no : (b == k) ≡ false = grind (arith, nat_tests) in rw no refl

pub tight_row : (e : ℕ → ℕ → Option ℤ) (i : ℕ) → tight e i (bar i) ≡ e i (bar i)
tight_row e i = ap (λ k. lesser (e i (bar i)) (halved (plus (e i (bar i)) (e k (bar i))))) (bar_bar i) ∙ lesser_half (e i (bar i))

pub tight_column : (e : ℕ → ℕ → Option ℤ) (j : ℕ) → tight e (bar j) j ≡ e (bar j) j
tight_column e j = ap (λ k. lesser (e (bar j) j) (halved (plus (e (bar j) k) (e (bar j) j)))) (bar_bar j) ∙ lesser_half (e (bar j) j)

-- what a step of the sweep writes
pub tight_read : (d i j : ℕ) (e : ℕ → ℕ → Option ℤ) (cells : List (Option ℤ)) (x h s here row column : Option ℤ) → Swept d i j e (tight e) cells → i < d → j / 2 ≤ i / 2
    → here ≡ kept_at d cells i j → row ≡ e i (bar i) → column ≡ e (bar j) j → s ≡ plus row column → h ≡ halved s → x ≡ lesser here h → x ≡ tight e i j
tight_read d i j e cells x h s here row column w id low is_here r c sums half is =
    let o : here ≡ e i j = is_here ∙ swept_next d i j e (tight e) cells w id low in
    let sum : s ≡ plus (e i (bar i)) (e (bar j) j) = sums ∙ rw r (rw c refl) in
    is ∙ rw o (ap (λ t. lesser (e i j) t) (half ∙ ap halved sum))

-- the bound from a place to its negative, and the one back, while others are tightened
pub tight_own : (d i j q : ℕ) (e : ℕ → ℕ → Option ℤ) (cells : List (Option ℤ)) (x : Option ℤ) → Swept d i j e (tight e) cells → i < d → x ≡ kept_at d cells i q → q ≡ bar i → x ≡ e i (bar i)
tight_own d i j q e cells x w id read is = read ∙ ap (λ k. kept_at d cells i k) is ∙ swept_read d i j i (bar i) e (tight e) cells w id (omega arith) (tight_row e i)

pub tight_back : (d i j k q : ℕ) (e : ℕ → ℕ → Option ℤ) (cells : List (Option ℤ)) (x : Option ℤ) → Swept d i k e (tight e) cells → bar j < d → x ≡ kept_at d cells q j → q ≡ bar j → x ≡ e (bar j) j
tight_back d i j k q e cells x w within read is = read ∙ ap (λ n. kept_at d cells n j) is ∙ swept_read d i k (bar j) j e (tight e) cells w within (omega arith) (tight_column e j)

-- tightening turns with the bounds
pub tight_turn : (e : ℕ → ℕ → Option ℤ) (i j : ℕ) → e i j ≡ e (bar j) (bar i) → tight e i j ≡ tight e (bar j) (bar i)
tight_turn e i j h =
    let sums : plus (e i (bar i)) (e (bar j) j) ≡ plus (e (bar j) (bar (bar j))) (e (bar (bar i)) (bar i)) =
    plus_comm (e i (bar i)) (e (bar j) j) ∙ ap (λ k. plus (e (bar j) k) (e i (bar i))) (sym (bar_bar j)) ∙ ap (λ k. plus (e (bar j) (bar (bar j))) (e k (bar i))) (sym (bar_bar i)) in
    ap (λ q. lesser q (halved (plus (e i (bar i)) (e (bar j) j)))) h ∙ ap (λ s. lesser (e (bar j) (bar i)) (halved s)) sums

-- all bounds are tightened where those that are kept are
pub tight_kept : (d : ℕ) (xs news : List (Option ℤ)) → d % 2 ≡ 0 → ((a b : ℕ) → a < d → b / 2 ≤ a / 2 → kept_at d news a b ≡ tight (kept_at d xs) a b) → (a b : ℕ) → a < d → b < d → kept_at d news a b ≡ tight (kept_at d xs) a b
tight_kept d xs news pairs low a b ad bd = by (cases_lt (a / 2) (b / 2))
  where
    by : (a / 2 < b / 2) ⊎ (b / 2 ≤ a / 2) → kept_at d news a b ≡ tight (kept_at d xs) a b
    by (inr g) = low a b ad g
    by (inl l) =
        let apart : a ≢ b = λ s. absurd (omega (arith, s, l)) in
        let ha = half_bar a in
        let hb = half_bar b in
        kept_turned d news a b pairs ad bd apart ∙ low (bar b) (bar a) (omega (arith, pairs)) (omega (arith, l, ha, hb)) ∙ sym (tight_turn (kept_at d xs) a b (kept_turned d xs a b pairs ad bd apart))

-- ---- the bounds from the first i places to their negatives are even
pub record InEven (d i : ℕ) (e : ℕ → ℕ → Option ℤ) (cells : List (Option ℤ)) : Type 0 where
  pub size : length cells ≡ block (d / 2)
  pub done : (a b : ℕ) → a < i → kept_at d cells a b ≡ evened e a b
  pub rest : (a b : ℕ) → i ≤ a → kept_at d cells a b ≡ e a b

pub even_none : (d : ℕ) (cells : List (Option ℤ)) → length cells ≡ block (d / 2) → InEven d 0 (kept_at d cells) cells
even_none d cells size = record { size = size; done = λ a b h. absurd (omega arith); rest = λ a b g. refl }

pub even_more : (d i k : ℕ) (e : ℕ → ℕ → Option ℤ) (cells : List (Option ℤ)) (x here : Option ℤ) → InEven d i e cells → d % 2 ≡ 0 → i < d → k ≡ spot i (bar i) → here ≡ get_or cells k here → x ≡ even_down here → InEven d (i + 1) e (set cells k x)
even_more d i k e cells x here w pairs id at read is = subst (λ n. InEven d (i + 1) e (set cells n x)) (sym at) (record {
  size = length-set cells (spot i (bar i)) x ∙ w.size;
  done = λ a b h. done a b (cases_eq a i) (cases_eq b (bar i)) h;
  rest = λ a b g. other a b (λ u v. absurd (omega (arith, g, u))) ∙ w.rest a b (omega (arith, g));
})
  where
    column : bar i < d
    column = omega (arith, pairs)

    other : (a b : ℕ) → ((a ≡ i) → (b ≡ bar i) → ⊥) → kept_at d (set cells (spot i (bar i)) x) a b ≡ kept_at d cells a b
    other a b n = kept_set_other d cells i (bar i) a b x n (λ u v o. n (u ∙ bar_bar i) v)

    was : here ≡ e i (bar i)
    was = kept_read d cells i (bar i) k here pairs w.size id column at read ∙ w.rest i (bar i) (omega arith)

    done : (a b : ℕ) → (a ≡ i) ⊎ (a ≢ i) → (b ≡ bar i) ⊎ (b ≢ bar i) → a < i + 1 → kept_at d (set cells (spot i (bar i)) x) a b ≡ evened e a b
    done a b (inl s) (inl t) h = rw s (rw t (kept_set_same d cells i (bar i) x pairs w.size id column ∙ is ∙ ap even_down was ∙ sym (evened_here e i)))
    done a b (inl s) (inr n) h = rw s (other i b (λ u v. n v) ∙ w.rest i b (omega arith) ∙ sym (evened_other e i b n))
    done a b (inr m) t h = other a b (λ u v. m u) ∙ w.done a b (omega (arith, m, h))

-- the place of the bound from a place to its negative
pub bar_spot : (i k j : ℕ) → j ≡ bar i → k ≡ row_place i j → k ≡ spot i (bar i)
bar_spot i k j is at = at ∙ ap (λ n. row_place i n) is ∙ sym (row_spot i (bar i) (omega arith))
