-- Forms one after the other, the edges that they make and the regions that they leave to paths.
use Rattle.std.proofs.Common.{◌≡◌, ℕ, ◌+◌, ◌<◌, ◌≤◌, ◌⊎◌, List, [], ◌∷◌, ◌++◌, refl, sym, subst, ◌∙◌, inl, inr, arith}
use Rattle.std.specs.List.{Contains}
use Rattle.std.proofs.lemmas.List.Elements.{Contains-push_cases}
use Rattle.pk_graph.specs.Trees.{InstrOf}
use Rattle.pk_draft.specs.declared.drafts.Region.{Region}
use Rattle.pk_draft.specs.Drafts.{EdgeFrom}
use Rattle.pk_edge_laws.specs.Edges.{IsNew, region_at, IsSame, IsBehindExit, IsLeftOut, IsTaken, IsMade, SplitsBy, GoesBy}

abbrev pub Into : (M L : ℕ → Type 0) → (n m : ℕ) → Type 0
Into M L n m = (x : ℕ) → M x → L x ⊎ IsNew n m x

-- the same where the points are left to no path
abbrev Onto : (ℕ → ℕ) → (N L : ℕ → Type 0) → (n m : ℕ) → (rs ts : List Region) → Type 0
Onto z N L n m rs ts = (x : ℕ) → N x → L x ⊎ (IsNew n m x × IsLeftOut z rs ts x)

-- ---- more points, more of which are new

begun_more : {M K : ℕ → Type 0} {p q n m k l : ℕ} (x : ℕ) → (q ≡ p) ⊎ (K q ⊎ IsNew k l q) → k ≤ n → m ≤ l → Into M K k l → (x ≡ q) ⊎ (M x ⊎ IsNew n m x) → (x ≡ p) ⊎ (K x ⊎ IsNew k l x)
begun_more {K = K} {p = p} {k = k} {l = l} x at a b into (inl s) = subst (λ x. (x ≡ p) ⊎ (K x ⊎ IsNew k l x)) (sym s) at
begun_more x at a b into (inr (inl s)) = inr (into x s)
begun_more x at a b into (inr (inr h)) = let u = h.0 in let v = h.1 in inr (inr (omega (arith, a, u), omega (arith, b, v)))

made_more : {V : Type 0} {z : ℕ → ℕ} {M N K L : ℕ → Type 0} {p q n m k l : ℕ} {rs ts qs us : List Region} (e : EdgeFrom V) → (q ≡ p) ⊎ (K q ⊎ IsNew k l q) → k ≤ n → m ≤ l → Into M K k l → Onto z N L k l qs us → ((x : ℕ) → IsNew n m x → IsLeftOut z rs ts x → IsLeftOut z qs us x)
    → IsMade z M N q n rs m ts e → IsMade z K L p k qs l us e
made_more {z = z} {N = N} {L = L} {n = n} {m = m} {k = k} {l = l} {rs = rs} {ts = ts} {qs = qs} {us = us} e at a b into on out i = record { begins = begun_more e.from at a b into i.begins; leads = to i.leads } where
  to : (e.to ≡ 0) ⊎ (N e.to ⊎ (IsNew n m e.to × IsLeftOut z rs ts e.to)) → (e.to ≡ 0) ⊎ (L e.to ⊎ (IsNew k l e.to × IsLeftOut z qs us e.to))
  to (inl s) = inl s
  to (inr (inl s)) = inr (on e.to s)
  to (inr (inr s)) = let u = s.0.0 in let v = s.0.1 in inr (inr ((omega (arith, a, u), omega (arith, b, v)), out e.to s.0 s.1))

taken_more : {M K : ℕ → Type 0} {p q n m k l size : ℕ} (r : Region) → (q ≡ p) ⊎ (K q ⊎ IsNew k l q) → k ≤ n → m ≤ l → Into M K k l → IsTaken M q n m size r → IsTaken K p k l size r
taken_more r at a b into t = let u = t.from in let v = t.to in record { begins = begun_more r.at at a b into t.begins; from = omega (arith, a, u); to = omega (arith, b, v) }

-- ---- two forms

both_before : (n m l : ℕ) → n ≤ m → m ≤ l → n ≤ l
both_before n m l a b = omega (arith, a, b)

later : (n m l : ℕ) → m ≤ l → (x : ℕ) → IsNew n m x → IsNew n l x
later n m l b x h = let v = h.1 in (h.0, omega (arith, b, v))

-- what the first makes isn't left to paths by the second
out_then : (z : ℕ → ℕ) {M : ℕ → Type 0} {s n m l : ℕ} (rs ts us : List Region) → ((j : ℕ) → IsSame ts us j ⊎ IsTaken M s m l (z j) (region_at us j)) → (x : ℕ) → IsNew n m x → IsLeftOut z rs ts x → IsLeftOut z rs us x
out_then z {M} {s} {n} {m} {l} rs ts us b x new out j = by (b j) (out j) where
  by : IsSame ts us j ⊎ IsTaken M s m l (z j) (region_at us j) → IsSame rs ts j ⊎ (IsBehindExit (z j) (region_at ts j) x → ⊥) → IsSame rs us j ⊎ (IsBehindExit (z j) (region_at us j) x → ⊥)
  by (inl e) (inl f) = inl (e ∙ f)
  by (inl e) (inr f) = inr (λ i. f (subst (λ (r : Region). IsBehindExit (z j) r x) e i))
  by (inr t) f = inr (λ i. let u = t.from in let v = new.1 in let w = i.0 in absurd (omega (arith, u, v, w)))

-- nor what the second makes by the first
out_before : (z : ℕ → ℕ) {M : ℕ → Type 0} {p n m l : ℕ} (rs ts us : List Region) → ((j : ℕ) → IsSame rs ts j ⊎ IsTaken M p n m (z j) (region_at ts j)) → (x : ℕ) → IsNew m l x → IsLeftOut z ts us x → IsLeftOut z rs us x
out_before z {M} {p} {n} {m} {l} rs ts us a x new out j = by (a j) (out j) where
  by : IsSame rs ts j ⊎ IsTaken M p n m (z j) (region_at ts j) → IsSame ts us j ⊎ (IsBehindExit (z j) (region_at us j) x → ⊥) → IsSame rs us j ⊎ (IsBehindExit (z j) (region_at us j) x → ⊥)
  by f (inr g) = inr g
  by (inl f) (inl e) = inl (e ∙ f)
  by (inr t) (inl e) = inr (λ i. let k = subst (λ (r : Region). IsBehindExit (z j) r x) e i in let u = t.to in let v = new.0 in let w = k.1 in absurd (omega (arith, u, v, w)))

-- the second from a point s
pub splits_from : {V : Type 0} {z : ℕ → ℕ} {K L M N : ℕ → Type 0} {p s n m l : ℕ} {es fs gs : List (EdgeFrom V)} {rs ts us : List Region} → (s ≡ p) ⊎ (K s ⊎ IsNew n l s) → ((x : ℕ) → M x → K x) → ((x : ℕ) → N x → L x) → SplitsBy z M N p n es rs m fs ts → SplitsBy z M N s m fs ts l gs us → SplitsBy z K L p n es rs l gs us
splits_from {V = V} {z = z} {K = K} {L = L} {M = M} {N = N} {p = p} {s = s} {n = n} {m = m} {l = l} {es = es} {fs = fs} {gs = gs} {rs = rs} {ts = ts} {us = us} at into on a b = record {
  points = both_before n m l a.points b.points;
  edges = λ e h. by e (b.edges e h);
  regions = λ j. taken j (a.regions j) (b.regions j);
} where
  same : (n : ℕ) → n ≤ n
  same n = omega arith

  first : (e : EdgeFrom V) → Contains es e ⊎ IsMade z M N p n rs m ts e → Contains es e ⊎ IsMade z K L p n rs l us e
  first e (inl h) = inl h
  first e (inr h) = inr (made_more e (inl refl) (same n) b.points (λ x k. inl (into x k)) (λ x k. inl (on x k)) (out_then z {n = n} rs ts us b.regions) h)

  by : (e : EdgeFrom V) → Contains fs e ⊎ IsMade z M N s m ts l us e → Contains es e ⊎ IsMade z K L p n rs l us e
  by e (inl h) = first e (a.edges e h)
  by e (inr h) = inr (made_more e at a.points (same l) (λ x k. inl (into x k)) (λ x k. inl (on x k)) (out_before z {l = l} rs ts us a.regions) h)

  taken : (j : ℕ) → IsSame rs ts j ⊎ IsTaken M p n m (z j) (region_at ts j) → IsSame ts us j ⊎ IsTaken M s m l (z j) (region_at us j) → IsSame rs us j ⊎ IsTaken K p n l (z j) (region_at us j)
  taken j (inl e) (inl f) = inl (f ∙ e)
  taken j (inr t) (inl f) = inr (subst (IsTaken K p n l (z j)) (sym f) (taken_more (region_at ts j) (inl refl) (same n) b.points (λ x k. inl (into x k)) t))
  taken j e (inr t) = inr (taken_more (region_at us j) at a.points (same l) (λ x k. inl (into x k)) t)

pub splits_then : {V : Type 0} {z : ℕ → ℕ} {M N : ℕ → Type 0} {p n q m l : ℕ} {es fs gs : List (EdgeFrom V)} {rs ts us : List Region} → GoesBy z M N p n es rs q m fs ts → SplitsBy z M N q m fs ts l gs us → SplitsBy z M N p n es rs l gs us
splits_then {M = M} {N = N} {p = p} {n = n} {q = q} {m = m} {l = l} a b = splits_from (by a.point) (λ x k. k) (λ x k. k) a.splits b where
  by : (q ≡ p) ⊎ (M q ⊎ IsNew n m q) → (q ≡ p) ⊎ (M q ⊎ IsNew n l q)
  by (inl e) = inl e
  by (inr (inl h)) = inr (inl h)
  by (inr (inr h)) = inr (inr (later n m l b.points q h))

pub goes_then : {V : Type 0} {z : ℕ → ℕ} {M N : ℕ → Type 0} {p n q m r l : ℕ} {es fs gs : List (EdgeFrom V)} {rs ts us : List Region} → GoesBy z M N p n es rs q m fs ts → GoesBy z M N q m fs ts r l gs us → GoesBy z M N p n es rs r l gs us
goes_then {M = M} {p = p} {n = n} {q = q} {m = m} {r = r} {l = l} a b = record { point = by b.point; splits = splits_then a b.splits } where
  before : (q ≡ p) ⊎ (M q ⊎ IsNew n m q) → r ≡ q → (r ≡ p) ⊎ (M r ⊎ IsNew n l r)
  before (inl e) s = inl (s ∙ e)
  before (inr (inl h)) s = inr (inl (subst M (sym s) h))
  before (inr (inr h)) s = inr (inr (subst (IsNew n l) (sym s) (later n m l b.splits.points q h)))

  by : (r ≡ q) ⊎ (M r ⊎ IsNew m l r) → (r ≡ p) ⊎ (M r ⊎ IsNew n l r)
  by (inl s) = before a.point s
  by (inr (inl h)) = inr (inl h)
  by (inr (inr h)) = let u = a.splits.points in let v = h.0 in inr (inr (omega (arith, u, v), h.1))

-- c new points, of which marks and ends may be
pub reserving : {V : Type 0} {z : ℕ → ℕ} {K L M N : ℕ → Type 0} {p n m : ℕ} {es fs : List (EdgeFrom V)} {rs ts : List Region} (c : ℕ) → Into M K n (n + c) → Into N L n (n + c) → SplitsBy z M N p (n + c) es rs m fs ts → SplitsBy z K L p n es rs m fs ts
reserving {V = V} {z = z} {K = K} {L = L} {M = M} {N = N} {p = p} {n = n} {m = m} {es = es} {rs = rs} {ts = ts} c into on a = record { points = omega (arith, more); edges = λ e h. by e (a.edges e h); regions = λ j. taken j (a.regions j) } where
  more : n + c ≤ m
  more = a.points

  wide : (A B : ℕ → Type 0) → Into A B n (n + c) → Into A B n m
  wide A B f x h = elim (f x h) [ inl k ↦ inl k | inr k ↦ inr (later n (n + c) m more x k) ]

  -- paths take later points
  out : (x : ℕ) → x < n + c → IsLeftOut z rs ts x
  out x less j = elim (a.regions j) [ inl e ↦ inl e | inr t ↦ inr (λ i. let u = t.from in let v = i.0 in absurd (omega (arith, u, v, less))) ]

  onto : Onto z N L n m rs ts
  onto x h = elim (on x h) [ inl k ↦ inl k | inr k ↦ inr (later n (n + c) m more x k, out x k.1) ]

  less : n ≤ n + c
  less = omega arith

  same : m ≤ m
  same = omega arith

  by : (e : EdgeFrom V) → Contains es e ⊎ IsMade z M N p (n + c) rs m ts e → Contains es e ⊎ IsMade z K L p n rs m ts e
  by e (inl h) = inl h
  by e (inr h) = inr (made_more e (inl refl) less same (wide M K into) onto (λ x new out. out) h)

  taken : (j : ℕ) → IsSame rs ts j ⊎ IsTaken M p (n + c) m (z j) (region_at ts j) → IsSame rs ts j ⊎ IsTaken K p n m (z j) (region_at ts j)
  taken j (inl e) = inl e
  taken j (inr t) = inr (taken_more (region_at ts j) (inl refl) less same (wide M K into) t)

-- and on at one of them
pub going_on : {V : Type 0} {z : ℕ → ℕ} {K L M N : ℕ → Type 0} {p n m : ℕ} {es fs : List (EdgeFrom V)} {rs ts : List Region} (c q : ℕ) → IsNew n (n + c) q → Into M K n (n + c) → Into N L n (n + c) → SplitsBy z M N p (n + c) es rs m fs ts → GoesBy z K L p n es rs q m fs ts
going_on {n = n} {m = m} c q at into on a = record { point = inr (inr (later n (n + c) m a.points q at)); splits = reserving c into on a }

-- ---- one edge

-- an edge to a named point, or to a new one
pub one_edge : {V : Type 0} (z : ℕ → ℕ) (M N : ℕ → Type 0) (p n m : ℕ) (i : InstrOf V) (q : ℕ) (es : List (EdgeFrom V)) (rs : List Region) → n ≤ m → N q ⊎ IsNew n m q → SplitsBy z M N p n es rs m (es ++ record { from = p; instr = i; to = q } ∷ []) rs
one_edge {V} z M N p n m i q es rs less at = record { points = less; edges = λ e h. by e (Contains-push_cases es (record { from = p; instr = i; to = q }) e h); regions = λ j. inl refl } where
  leads : N q ⊎ IsNew n m q → N q ⊎ (IsNew n m q × IsLeftOut z rs rs q)
  leads (inl h) = inl h
  leads (inr h) = inr (h, λ j. inl refl)

  by : (e : EdgeFrom V) → Contains es e ⊎ ((let f : EdgeFrom V = record { from = p; instr = i; to = q } in f) ≡ e) → Contains es e ⊎ IsMade z M N p n rs m rs e
  by e (inl h) = inl h
  by e (inr s) = inr (subst (IsMade z M N p n rs m rs) s (record { begins = inl refl; leads = inr (leads at) }))

pub same_edges : {V : Type 0} (z : ℕ → ℕ) (M N : ℕ → Type 0) (p n m : ℕ) (es : List (EdgeFrom V)) (rs : List Region) → n ≤ m → SplitsBy z M N p n es rs m es rs
same_edges z M N p n m es rs less = record { points = less; edges = λ e h. inl h; regions = λ j. inl refl }

-- more points are named, of which none is no point
pub named_more : {V : Type 0} {z : ℕ → ℕ} {K L M N : ℕ → Type 0} {p n m : ℕ} {es fs : List (EdgeFrom V)} {rs ts : List Region} → ((x : ℕ) → M x → K x) → ((x : ℕ) → N x → (x ≡ 0) ⊎ L x) → SplitsBy z M N p n es rs m fs ts → SplitsBy z K L p n es rs m fs ts
named_more {V = V} {z = z} {K = K} {L = L} {M = M} {N = N} {p = p} {n = n} {m = m} {es = es} {rs = rs} {ts = ts} into on a = record { points = a.points; edges = λ e h. by e (a.edges e h); regions = λ j. taken j (a.regions j) } where
  to : (e : EdgeFrom V) → (e.to ≡ 0) ⊎ (N e.to ⊎ (IsNew n m e.to × IsLeftOut z rs ts e.to)) → (e.to ≡ 0) ⊎ (L e.to ⊎ (IsNew n m e.to × IsLeftOut z rs ts e.to))
  to e (inl s) = inl s
  to e (inr (inl s)) = elim (on e.to s) [ inl none ↦ inl none | inr k ↦ inr (inl k) ]
  to e (inr (inr s)) = inr (inr s)

  from : (x : ℕ) → (x ≡ p) ⊎ (M x ⊎ IsNew n m x) → (x ≡ p) ⊎ (K x ⊎ IsNew n m x)
  from x (inl s) = inl s
  from x (inr (inl s)) = inr (inl (into x s))
  from x (inr (inr s)) = inr (inr s)

  by : (e : EdgeFrom V) → Contains es e ⊎ IsMade z M N p n rs m ts e → Contains es e ⊎ IsMade z K L p n rs m ts e
  by e (inl h) = inl h
  by e (inr h) = inr (record { begins = from e.from h.begins; leads = to e h.leads })

  taken : (j : ℕ) → IsSame rs ts j ⊎ IsTaken M p n m (z j) (region_at ts j) → IsSame rs ts j ⊎ IsTaken K p n m (z j) (region_at ts j)
  taken j (inl e) = inl e
  taken j (inr t) = inr (record { begins = from (region_at ts j).at t.begins; from = t.from; to = t.to })

pub loosened : {V : Type 0} {z : ℕ → ℕ} {K L M N : ℕ → Type 0} {p n m : ℕ} {es fs : List (EdgeFrom V)} {rs ts : List Region} → ((x : ℕ) → M x → K x) → ((x : ℕ) → N x → L x) → SplitsBy z M N p n es rs m fs ts → SplitsBy z K L p n es rs m fs ts
loosened into on a = named_more into (λ x h. inr (on x h)) a

-- no path takes the next point
pub next_out : {V : Type 0} {z : ℕ → ℕ} {M N : ℕ → Type 0} {p n m : ℕ} {es fs : List (EdgeFrom V)} {rs ts : List Region} → SplitsBy z M N p n es rs m fs ts → IsLeftOut z rs ts m
next_out a j = elim (a.regions j) [ inl e ↦ inl e | inr t ↦ inr (λ i. let u = t.to in let v = i.1 in absurd (omega (arith, u, v))) ]

-- one edge behind them
pub one_more : {V : Type 0} {z : ℕ → ℕ} {M N : ℕ → Type 0} {p n m : ℕ} {es fs : List (EdgeFrom V)} {rs ts : List Region} (l f : ℕ) (i : InstrOf V) (q : ℕ) → SplitsBy z M N p n es rs m fs ts → (f ≡ p) ⊎ (M f ⊎ IsNew n l f) → m ≤ l → N q ⊎ (IsNew n l q × IsLeftOut z rs ts q)
    → SplitsBy z M N p n es rs l (fs ++ record { from = f; instr = i; to = q } ∷ []) ts
one_more {V = V} {z = z} {M = M} {N = N} {p = p} {n = n} {m = m} {es = es} {fs = fs} {rs = rs} {ts = ts} l f i q a at less to = record {
  points = both_before n m l a.points less;
  edges = λ e h. by e (Contains-push_cases fs (record { from = f; instr = i; to = q }) e h);
  regions = λ j. taken j (a.regions j);
} where
  same : n ≤ n
  same = omega arith

  old : (e : EdgeFrom V) → Contains es e ⊎ IsMade z M N p n rs m ts e → Contains es e ⊎ IsMade z M N p n rs l ts e
  old e (inl h) = inl h
  old e (inr h) = inr (made_more e (inl refl) same less (λ x k. inl k) (λ x k. inl k) (λ x new out. out) h)

  by : (e : EdgeFrom V) → Contains fs e ⊎ ((let g : EdgeFrom V = record { from = f; instr = i; to = q } in g) ≡ e) → Contains es e ⊎ IsMade z M N p n rs l ts e
  by e (inl h) = old e (a.edges e h)
  by e (inr s) = inr (subst (IsMade z M N p n rs l ts) s (record { begins = at; leads = inr to }))

  taken : (j : ℕ) → IsSame rs ts j ⊎ IsTaken M p n m (z j) (region_at ts j) → IsSame rs ts j ⊎ IsTaken M p n l (z j) (region_at ts j)
  taken j (inl e) = inl e
  taken j (inr t) = inr (taken_more (region_at ts j) (inl refl) same less (λ x k. inl k) t)
