-- The points that a form may take: the current one, new ones, and its marks.
use Rattle.std.proofs.Common.{◌≡◌, ℕ, ◌+◌, ◌<◌, ◌≤◌, ◌⊎◌, sym, ◌∙◌, subst, inl, inr, arith}

-- from the current point p, where points from n to m are made
abbrev pub Span : (Mark : ℕ → Type 0) → (p n m x : ℕ) → Type 0
Span M p n m x = (x ≡ p) ⊎ ((n ≤ x) × (x < m)) ⊎ M x

-- marks were made before, and the current point is none
abbrev pub AreFree : (Mark : ℕ → Type 0) → (p n : ℕ) → Type 0
AreFree M p n = (x : ℕ) → M x → (x < n) × (x ≡ p → ⊥)

pub below : {M : ℕ → Type 0} {p n m q : ℕ} → p < n → n ≤ m → AreFree M p n → Span M p n m q → q < m
below h le f (inl e) = omega (arith, h, le, e)
below h le f (inr (inl s)) = s.1
below {q = q} h le f (inr (inr mark)) = let z = (f q mark).0 in omega (arith, z, le)

-- the marks of the next form are still free
pub still_free : {M N : ℕ → Type 0} {p n m q : ℕ} → n ≤ m → AreFree N p n → ((x : ℕ) → M x → N x → ⊥) → Span M p n m q → AreFree N q m
still_free {M} {N} {p} {n} {m} {q} le f apart s x mark = let z = (f x mark).0 in (omega (arith, z, le), λ e. by e s) where
  by : x ≡ q → Span M p n m q → ⊥
  by e (inl a) = (f x mark).1 (e ∙ a)
  by e (inr (inl a)) = let z = (f x mark).0 in let y = a.0 in absurd (omega (arith, z, y, e))
  by e (inr (inr k)) = apart x (subst M (sym e) k) mark

-- what a form takes, but for where it goes on, the next one doesn't take
pub apart_spans : {M N : ℕ → Type 0} {p n m q l : ℕ} (x : ℕ) → p < n → n ≤ m → AreFree M p n → AreFree N p n → ((y : ℕ) → M y → N y → ⊥) → Span M p n m x → (x ≡ q → ⊥) → Span N q m l x → ⊥
apart_spans x h le f g apart s other (inl e) = other e
apart_spans x h le f g apart (inl e) other (inr (inl t)) = let z = t.0 in absurd (omega (arith, h, le, e, z))
apart_spans x h le f g apart (inr (inl s)) other (inr (inl t)) = let z = t.0 in let y = s.1 in absurd (omega (arith, z, y))
apart_spans x h le f g apart (inr (inr mark)) other (inr (inl t)) = let z = t.0 in let y = (f x mark).0 in absurd (omega (arith, z, y, le))
apart_spans x h le f g apart (inl e) other (inr (inr k)) = (g x k).1 e
apart_spans x h le f g apart (inr (inl s)) other (inr (inr k)) = let z = s.0 in let y = (g x k).0 in absurd (omega (arith, z, y))
apart_spans x h le f g apart (inr (inr mark)) other (inr (inr k)) = apart x mark k

pub first_span : {M L : ℕ → Type 0} {p n m l : ℕ} (x : ℕ) → m ≤ l → ((y : ℕ) → M y → L y) → Span M p n m x → Span L p n l x
first_span x le more (inl e) = inl e
first_span x le more (inr (inl s)) = let y = s.1 in inr (inl (s.0, omega (arith, le, y)))
first_span x le more (inr (inr k)) = inr (inr (more x k))

pub second_span : {M N L : ℕ → Type 0} {p n m q l : ℕ} (x : ℕ) → n ≤ m → m ≤ l → ((y : ℕ) → M y → L y) → ((y : ℕ) → N y → L y) → Span M p n m q → Span N q m l x → Span L p n l x
second_span {L = L} {p = p} {n = n} {l = l} x le lt more also s (inl e) = subst (Span L p n l) (sym e) (first_span _ lt more s)
second_span x le lt more also s (inr (inl t)) = let y = t.0 in inr (inl (omega (arith, le, y), t.1))
second_span x le lt more also s (inr (inr k)) = inr (inr (also x k))

-- a form that begins at a point which was kept
pub other_span : {N L : ℕ → Type 0} {p n m s l : ℕ} (x : ℕ) → n ≤ m → L s → ((y : ℕ) → N y → L y) → Span N s m l x → Span L p n l x
other_span {L = L} x le mark also (inl e) = inr (inr (subst L (sym e) mark))
other_span x le mark also (inr (inl t)) = let y = t.0 in inr (inl (omega (arith, le, y), t.1))
other_span x le mark also (inr (inr k)) = inr (inr (also x k))

-- its span is apart from that of a form before
pub apart_other : {M N : ℕ → Type 0} {p n m s l : ℕ} (x : ℕ) → p < n → n ≤ m → AreFree M p n → AreFree N p n → s < n → (s ≡ p → ⊥) → (M s → ⊥) → ((y : ℕ) → M y → N y → ⊥) → Span M p n m x → Span N s m l x → ⊥
apart_other x h le f g before other unmarked apart (inl e) (inl t) = other (sym t ∙ e)
apart_other x h le f g before other unmarked apart (inr (inl a)) (inl t) = let z = a.0 in absurd (omega (arith, z, before, t))
apart_other {M = M} x h le f g before other unmarked apart (inr (inr k)) (inl t) = unmarked (subst M t k)
apart_other x h le f g before other unmarked apart (inl e) (inr (inl t)) = let z = t.0 in absurd (omega (arith, h, le, e, z))
apart_other x h le f g before other unmarked apart (inr (inl s)) (inr (inl t)) = let z = t.0 in let y = s.1 in absurd (omega (arith, z, y))
apart_other x h le f g before other unmarked apart (inr (inr mark)) (inr (inl t)) = let z = t.0 in let y = (f x mark).0 in absurd (omega (arith, z, y, le))
apart_other x h le f g before other unmarked apart (inl e) (inr (inr k)) = (g x k).1 e
apart_other x h le f g before other unmarked apart (inr (inl s)) (inr (inr k)) = let z = s.0 in let y = (g x k).0 in absurd (omega (arith, z, y))
apart_other x h le f g before other unmarked apart (inr (inr mark)) (inr (inr k)) = apart x mark k

-- points that are new before are marks behind
pub kept_free : {M L : ℕ → Type 0} {p n : ℕ} (c : ℕ) → p < n → AreFree M p n → ((x : ℕ) → L x → M x ⊎ ((n ≤ x) × (x < n + c))) → AreFree L p (n + c)
kept_free {M = M} {p = p} {n = n} c h f kept x mark = by (kept x mark) where
  by : M x ⊎ ((n ≤ x) × (x < n + c)) → (x < n + c) × (x ≡ p → ⊥)
  by (inl k) = let z = (f x k).0 in (omega (arith, z), (f x k).1)
  by (inr s) = let z = s.0 in (s.1, λ e. absurd (omega (arith, h, z, e)))

pub kept_span : {M L : ℕ → Type 0} {p n m : ℕ} (c x : ℕ) → n + c ≤ m → ((y : ℕ) → L y → M y ⊎ ((n ≤ y) × (y < n + c))) → Span L p (n + c) m x → Span M p n m x
kept_span c x le kept (inl e) = inl e
kept_span c x le kept (inr (inl s)) = let z = s.0 in inr (inl (omega (arith, z), s.1))
kept_span {M = M} {p = p} {n = n} {m = m} c x le kept (inr (inr k)) = by (kept x k) where
  by : M x ⊎ ((n ≤ x) × (x < n + c)) → Span M p n m x
  by (inl k) = inr (inr k)
  by (inr s) = let z = s.1 in inr (inl (s.0, omega (arith, z, le)))

-- none of them is a point that is kept for later
pub not_kept : (L : ℕ → Type 0) {p n m r : ℕ} (c x : ℕ) → p < n → n ≤ r → r < n + c → (L r → ⊥) → Span L p (n + c) m x → x ≡ r → ⊥
not_kept L c x h from to unmarked (inl e) same = absurd (omega (arith, h, from, e, same))
not_kept L c x h from to unmarked (inr (inl s)) same = let z = s.0 in absurd (omega (arith, to, z, same))
not_kept L c x h from to unmarked (inr (inr k)) same = unmarked (subst L same k)
