-- Numbers for some of the variables, and one more, as near to a wish as the bounds allow.
use Rattle.std.specs.Prelude.{◌≡◌, ◌≢◌, ◌⊎◌, ◌+ℤ◌, ◌≤ℤ◌, ℕ, zero, suc, ◌<◌, ◌/◌, ◌%◌, ◌==◌, if◌then◌else◌, ℤ, pos, neg_ℤ, ◌-ℤ◌, int_lt, Option, Some, None}
use Rattle.pk_octmat.specs.Bounds.{AtMost, plus, halved, lesser}
use Rattle.pk_octmat.specs.Octagon.{bar}

abbrev pub opposite : Option ℤ → Option ℤ
opposite None = None
opposite (Some z) = Some (neg_ℤ z)

-- V(i), if its number is there
abbrev pub part_side : (ℕ → Option ℤ) → ℕ → Option ℤ
part_side x i = if (i % 2) == 0 then x (i / 2) else opposite (x (i / 2))

-- the numbers that are there meet the bounds between them
pub record MeetsThere (d : ℕ) (e : ℕ → ℕ → Option ℤ) (x : ℕ → Option ℤ) : Type 0 where
  pub each : (i j : ℕ) → i < d → j < d → (u v : ℤ) → part_side x i ≡ Some u → part_side x j ≡ Some v →
      AtMost (Some (v -ℤ u)) (e i j)

-- the least bound on V(p): half of its own, and what the first k places give
abbrev pub bound_by : (ℕ → ℕ → Option ℤ) → (ℕ → Option ℤ) → ℕ → ℕ → Option ℤ
bound_by e x p zero = halved (e (bar p) p)
bound_by e x p (suc k) = lesser (bound_by e x p k) (plus (part_side x k) (e k p))

-- w, but at least where the negative is at most a bound
abbrev pub raised : ℤ → Option ℤ → ℤ
raised w None = w
raised w (Some l) = if int_lt w (neg_ℤ l) then neg_ℤ l else w

-- w, but at most a bound
abbrev pub lowered : ℤ → Option ℤ → ℤ
lowered w None = w
lowered w (Some h) = if int_lt h w then h else w

-- the number nearest to w among those at most high whose negative is at most low
abbrev pub nearest : ℤ → Option ℤ → Option ℤ → ℤ
nearest w high low = lowered (raised w low) high

-- V(p) as a number of its variable
abbrev pub signed : ℕ → ℤ → ℤ
signed p v = if (p % 2) == 0 then v else neg_ℤ v

-- the numbers x, and v as number k
abbrev pub with_part : (ℕ → Option ℤ) → ℕ → ℤ → ℕ → Option ℤ
with_part x k v i = if i == k then Some v else x i

-- V(p) as near to w as the bounds to the numbers that are there allow
abbrev pub with_nearest : ℕ → (ℕ → ℕ → Option ℤ) → (ℕ → Option ℤ) → ℕ → ℤ → ℕ → Option ℤ
with_nearest d e x p w = with_part x (p / 2) (signed p (nearest w (bound_by e x p d) (bound_by e x (bar p) d)))

-- how far V(i) may be for V(j) to be c above it: high is the bound on V(j), over that on V(j) + V(i)
abbrev pub wish : ℤ → Option ℤ → Option ℤ → ℤ
wish c high over = lowered (lowered (pos 0) (plus high (Some (neg_ℤ c)))) (halved (plus over (Some (neg_ℤ c))))

-- V(i) is low enough for V(j) to be c above it: at most the wish, or the least that its own bound allows
abbrev pub IsLow : (ℕ → ℕ → Option ℤ) → ℕ → ℕ → ℤ → ℤ → Type 0
IsLow e i j c v = (v ≤ℤ wish c (halved (e (bar j) j)) (e (bar i) j)) ⊎ (halved (e i (bar i)) ≡ Some (neg_ℤ v))

-- V(i) is there, low enough for V(j) to be c above it, and the number of no other variable
pub record IsFirst (e : ℕ → ℕ → Option ℤ) (i j : ℕ) (c : ℤ) (x : ℕ → Option ℤ) : Type 0 where
  pub from : ℤ
  pub here : part_side x i ≡ Some from
  pub low : IsLow e i j c from
  pub others : (q : ℕ) → (q / 2) ≢ (i / 2) → part_side x q ≡ None

-- V(i) and V(j) are there, and V(j) is at least c above V(i)
pub record AreApart (i j : ℕ) (c : ℤ) (x : ℕ → Option ℤ) : Type 0 where
  pub from : ℤ
  pub to : ℤ
  pub first : part_side x i ≡ Some from
  pub second : part_side x j ≡ Some to
  pub far : (from +ℤ c) ≤ℤ to
