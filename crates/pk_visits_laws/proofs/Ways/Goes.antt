-- Forms that go on at a point, and forms that lead to given points: one after the other.
use Rattle.std.proofs.Common.{◌≡◌, ℕ, ◌+◌, ◌<◌, ◌≤◌, ◌⊎◌, List, [], ◌∷◌, ◌++◌, sym, subst, inl, inr, arith}
use Rattle.pk_graph.specs.Trees.{InstrOf}
use Rattle.pk_draft.specs.declared.drafts.Region.{Region}
use Rattle.pk_draft.specs.Drafts.{EdgeFrom}
use Rattle.pk_visits.proofs.Slots.{region_at}
use Rattle.pk_visits_laws.proofs.Ways.Ways.{made}
use Rattle.pk_visits_laws.proofs.Ways.Adding.{Adds, adds_then, adds_more, one_edge}
use Rattle.pk_visits_laws.proofs.Ways.Spans.{Span, AreFree, below, still_free, apart_spans, first_span, second_span, other_span, apart_other, kept_free, kept_span, not_kept}

-- a part begins at a point that was made before its own
abbrev pub AreRooted : List Region → Type 0
AreRooted rs = (k : ℕ) → 0 < (region_at rs k).points → (region_at rs k).at < (region_at rs k).points

-- From the current point p, where n is the next: it goes on at q, which has no edges yet.
pub record GoesBy {V : Type 0} (z : ℕ → ℕ) (Mark : ℕ → Type 0) (p n : ℕ) (es : List (EdgeFrom V)) (rs : List Region) (q m : ℕ) (fs : List (EdgeFrom V)) (ts : List Region) : Type 0 where
  pub points : n ≤ m
  pub point : Span Mark p n m q
  pub adds : p < n → AreFree Mark p n → Adds z (λ x. Span Mark p n m x × (x ≡ q → ⊥)) es rs fs ts
  pub rooted : p < n → AreFree Mark p n → AreRooted rs → AreRooted ts

-- it goes on nowhere
pub record SplitsBy {V : Type 0} (z : ℕ → ℕ) (Mark : ℕ → Type 0) (p n : ℕ) (es : List (EdgeFrom V)) (rs : List Region) (m : ℕ) (fs : List (EdgeFrom V)) (ts : List Region) : Type 0 where
  pub points : n ≤ m
  pub adds : p < n → AreFree Mark p n → Adds z (Span Mark p n m) es rs fs ts
  pub rooted : p < n → AreFree Mark p n → AreRooted rs → AreRooted ts

both_before : (n m l : ℕ) → n ≤ m → m ≤ l → n ≤ l
both_before n m l a b = omega (arith, a, b)

pub goes_then : {V : Type 0} {z : ℕ → ℕ} {M N L : ℕ → Type 0} {p n q m r l : ℕ} {es fs gs : List (EdgeFrom V)} {rs ts us : List Region} → ((x : ℕ) → M x → L x) → ((x : ℕ) → N x → L x) → ((x : ℕ) → M x → N x → ⊥)
    → GoesBy z M p n es rs q m fs ts → GoesBy z N q m fs ts r l gs us → GoesBy z L p n es rs r l gs us
goes_then {z = z} {M = M} {N = N} {L = L} {p = p} {n = n} {q = q} {m = m} {r = r} {l = l} first second apart a b = record {
  points = both_before n m l a.points b.points;
  point = second_span r a.points b.points first second a.point b.point;
  adds = λ h f. adds_then {A = λ x. Span M p n m x × (x ≡ q → ⊥)} {B = λ x. Span N q m l x × (x ≡ r → ⊥)} {C = λ x. Span L p n l x × (x ≡ r → ⊥)}
      (λ x s t. apart_spans x h a.points (λ y k. f y (first y k)) (λ y k. f y (second y k)) apart s.0 s.1 t.0)
      (λ x s. (first_span x b.points first s.0, λ e. apart_spans x h a.points (λ y k. f y (first y k)) (λ y k. f y (second y k)) apart s.0 s.1 (subst (Span N q m l) (sym e) b.point)))
      (λ x t. (second_span x a.points b.points first second a.point t.0, t.1))
      (a.adds h (λ y k. f y (first y k)))
      (b.adds (below h a.points (λ y k. f y (first y k)) a.point) (still_free a.points (λ y k. f y (second y k)) apart a.point));
  rooted = λ h f k. b.rooted (below h a.points (λ y k. f y (first y k)) a.point) (still_free a.points (λ y k. f y (second y k)) apart a.point) (a.rooted h (λ y k. f y (first y k)) k);
}

pub splits_then : {V : Type 0} {z : ℕ → ℕ} {M N L : ℕ → Type 0} {p n q m l : ℕ} {es fs gs : List (EdgeFrom V)} {rs ts us : List Region} → ((x : ℕ) → M x → L x) → ((x : ℕ) → N x → L x) → ((x : ℕ) → M x → N x → ⊥)
    → GoesBy z M p n es rs q m fs ts → SplitsBy z N q m fs ts l gs us → SplitsBy z L p n es rs l gs us
splits_then {z = z} {M = M} {N = N} {L = L} {p = p} {n = n} {q = q} {m = m} {l = l} first second apart a b = record {
  points = both_before n m l a.points b.points;
  adds = λ h f. adds_then {A = λ x. Span M p n m x × (x ≡ q → ⊥)} {B = Span N q m l} {C = Span L p n l}
      (λ x s t. apart_spans x h a.points (λ y k. f y (first y k)) (λ y k. f y (second y k)) apart s.0 s.1 t)
      (λ x s. first_span x b.points first s.0)
      (λ x t. second_span x a.points b.points first second a.point t)
      (a.adds h (λ y k. f y (first y k)))
      (b.adds (below h a.points (λ y k. f y (first y k)) a.point) (still_free a.points (λ y k. f y (second y k)) apart a.point));
  rooted = λ h f k. b.rooted (below h a.points (λ y k. f y (first y k)) a.point) (still_free a.points (λ y k. f y (second y k)) apart a.point) (a.rooted h (λ y k. f y (first y k)) k);
}

-- the next form begins at a mark s that neither has
pub from_mark : {V : Type 0} {z : ℕ → ℕ} {M N L : ℕ → Type 0} {p n s m l : ℕ} {es fs gs : List (EdgeFrom V)} {rs ts us : List Region} → ((x : ℕ) → M x → L x) → ((x : ℕ) → N x → L x) → ((x : ℕ) → M x → N x → ⊥) → L s → (M s → ⊥) → (N s → ⊥)
    → SplitsBy z M p n es rs m fs ts → SplitsBy z N s m fs ts l gs us → SplitsBy z L p n es rs l gs us
from_mark {z = z} {M = M} {N = N} {L = L} {p = p} {n = n} {s = s} {m = m} {l = l} first second apart mark unmarked nor a b = record {
  points = both_before n m l a.points b.points;
  adds = λ h f. adds_then {A = Span M p n m} {B = Span N s m l} {C = Span L p n l}
      (λ x i j. apart_other x h a.points (λ y k. f y (first y k)) (λ y k. f y (second y k)) (f s mark).0 (f s mark).1 unmarked apart i j)
      (λ x i. first_span x b.points first i)
      (λ x j. other_span x a.points mark second j)
      (a.adds h (λ y k. f y (first y k)))
      (b.adds (let i = (f s mark).0 in let j = a.points in omega (arith, i, j)) (free f));
  rooted = λ h f k. b.rooted (let i = (f s mark).0 in let j = a.points in omega (arith, i, j)) (free f) (a.rooted h (λ y k. f y (first y k)) k);
} where
  free : AreFree L p n → AreFree N s m
  free f x k = let i = (f x (second x k)).0 in let j = a.points in (omega (arith, i, j), λ e. nor (subst N e k))

-- new points that are marks of a form
pub reserving : {V : Type 0} {z : ℕ → ℕ} {M L : ℕ → Type 0} {p n m : ℕ} {es fs : List (EdgeFrom V)} {rs ts : List Region} (c : ℕ) → ((x : ℕ) → L x → M x ⊎ ((n ≤ x) × (x < n + c))) → SplitsBy z L p (n + c) es rs m fs ts → SplitsBy z M p n es rs m fs ts
reserving {n = n} {m = m} c kept a = record {
  points = both_before n (n + c) m (omega arith) a.points;
  adds = λ h f. adds_more (λ x s. kept_span c x a.points kept s) (a.adds (omega (arith, h)) (kept_free c h f kept));
  rooted = λ h f k. a.rooted (omega (arith, h)) (kept_free c h f kept) k;
}

-- on at one of them that is no mark
pub going_on : {V : Type 0} {z : ℕ → ℕ} {M L : ℕ → Type 0} {p n m : ℕ} {es fs : List (EdgeFrom V)} {rs ts : List Region} (c r : ℕ) → n ≤ r → r < n + c → (L r → ⊥) → ((x : ℕ) → L x → M x ⊎ ((n ≤ x) × (x < n + c))) → SplitsBy z L p (n + c) es rs m fs ts
    → GoesBy z M p n es rs r m fs ts
going_on {L = L} {n = n} {m = m} c r from to unmarked kept a = record {
  points = both_before n (n + c) m (omega arith) a.points;
  point = inr (inl (from, let i = a.points in omega (arith, to, i)));
  adds = λ h f. adds_more (λ x s. (kept_span c x a.points kept s, not_kept L c x h from to unmarked s)) (a.adds (omega (arith, h)) (kept_free c h f kept));
  rooted = λ h f k. a.rooted (omega (arith, h)) (kept_free c h f kept) k;
}

-- on at a new point
pub at_new : {V : Type 0} {z : ℕ → ℕ} {M : ℕ → Type 0} {p n m : ℕ} {es fs : List (EdgeFrom V)} {rs ts : List Region} → SplitsBy z M p n es rs m fs ts → GoesBy z M p n es rs m (m + 1) fs ts
at_new {M = M} {p = p} {n = n} {m = m} a = record {
  points = both_before n m (m + 1) a.points (omega arith);
  point = inr (inl (a.points, omega arith));
  adds = λ h f. adds_more (λ x s. (first_span {M = M} x (omega arith) (λ y k. k) s, λ e. new h f x s e)) (a.adds h f);
  rooted = a.rooted;
} where
  new : p < n → AreFree M p n → (x : ℕ) → Span M p n m x → x ≡ m → ⊥
  new h f x (inl e) same = let i = a.points in absurd (omega (arith, h, i, e, same))
  new h f x (inr (inl s)) same = let i = s.1 in absurd (omega (arith, i, same))
  new h f x (inr (inr k)) same = let i = (f x k).0 in let j = a.points in absurd (omega (arith, i, j, same))

-- two forms, the second from a mark: edges from where each goes on
pub both_ends : {V : Type 0} {z : ℕ → ℕ} {M N L : ℕ → Type 0} {p n q m s r l : ℕ} {es fs gs : List (EdgeFrom V)} {rs ts us : List Region} → ((x : ℕ) → M x → L x) → ((x : ℕ) → N x → L x) → ((x : ℕ) → M x → N x → ⊥) → L s → (M s → ⊥) → (N s → ⊥)
    → GoesBy z M p n es rs q m fs ts → GoesBy z N s m fs ts r l gs us → (i : InstrOf V) (j : ℕ) → SplitsBy z L p n es rs l ((gs ++ made q i j ∷ []) ++ made r i j ∷ []) us
both_ends {z = z} {M = M} {N = N} {L = L} {p = p} {n = n} {q = q} {m = m} {s = s} {r = r} {l = l} {gs = gs} {us = us} first second apart mark unmarked nor a b i j = record {
  points = both_before n m l a.points b.points;
  adds = λ h f. let o = away h f in
      adds_then {A = λ x. Span L p n l x × (x ≡ r → ⊥)} {B = λ x. x ≡ r} {C = Span L p n l} (λ x t e. t.1 e) (λ x t. t.0) (λ x e. subst (Span L p n l) (sym e) (other_span r a.points mark second b.point))
      (adds_then {A = λ x. Span L p n l x × (x ≡ q → ⊥) × (x ≡ r → ⊥)} {B = λ x. x ≡ q} {C = λ x. Span L p n l x × (x ≡ r → ⊥)} (λ x t e. t.1 e) (λ x t. (t.0, t.2))
      (λ x e. (subst (Span L p n l) (sym e) (first_span q b.points first a.point), λ c. o x (subst (Span M p n m) (sym e) a.point) (subst (Span N s m l) (sym c) b.point)))
      (adds_then {A = λ x. Span M p n m x × (x ≡ q → ⊥)} {B = λ x. Span N s m l x × (x ≡ r → ⊥)} {C = λ x. Span L p n l x × (x ≡ q → ⊥) × (x ≡ r → ⊥)}
      (λ x t u. o x t.0 u.0)
      (λ x t. (first_span x b.points first t.0, t.1, λ c. o x t.0 (subst (Span N s m l) (sym c) b.point)))
      (λ x u. (other_span x a.points mark second u.0, (λ c. o x (subst (Span M p n m) (sym c) a.point) u.0), u.1))
      (a.adds h (λ y k. f y (first y k)))
      (b.adds (let i = (f s mark).0 in let j = a.points in omega (arith, i, j)) (free f)))
      (one_edge z q i j gs us))
      (one_edge z r i j (gs ++ made q i j ∷ []) us);
  rooted = λ h f k. b.rooted (let i = (f s mark).0 in let j = a.points in omega (arith, i, j)) (free f) (a.rooted h (λ y k. f y (first y k)) k);
} where
  free : AreFree L p n → AreFree N s m
  free f x k = let i = (f x (second x k)).0 in let j = a.points in (omega (arith, i, j), λ e. nor (subst N e k))

  away : p < n → AreFree L p n → (x : ℕ) → Span M p n m x → Span N s m l x → ⊥
  away h f x t u = apart_other x h a.points (λ y k. f y (first y k)) (λ y k. f y (second y k)) (f s mark).0 (f s mark).1 unmarked apart t u
