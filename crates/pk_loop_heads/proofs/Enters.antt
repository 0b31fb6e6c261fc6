-- What is added to a draft leaves the points of a loop entered where it begins again.
use Rattle.std.proofs.Common.{◌≡◌, ℕ, ◌+◌, ◌<◌, ◌≤◌, ◌⊎◌, List, [], ◌∷◌, ◌++◌, refl, sym, subst, ◌∙◌, inl, inr, arith}
use Rattle.std.specs.List.{Contains}
use Rattle.pk_ctypes.specs.declared.places.Pos.{Pos}
use Rattle.pk_graph.specs.Trees.{InstrOf}
use Rattle.pk_draft.specs.declared.drafts.Region.{Region}
use Rattle.pk_draft.specs.Drafts.{EdgeFrom}
use Rattle.pk_visits.specs.Turns.{TurnPoint, turning}
use Rattle.pk_edge_laws.specs.Edges.{IsNew, region_at, IsSame, IsTaken, IsLeftOut, IsMade, SplitsBy, NoPoint, IsInLoop}
use Rattle.pk_edge_laws.proofs.Goes.{one_edge}

-- of the points S an edge from outside leads to none, but from q to h
abbrev pub IsEntry : {V : Type 0} → (S : ℕ → Type 0) → (q h : ℕ) → EdgeFrom V → Type 0
IsEntry S q h f = (f.to ≡ 0) ⊎ (S f.from ⊎ (S f.to → (f.from ≡ q) × (f.to ≡ h)))

-- the points of a region of so many
abbrev pub IsOf : (size : ℕ) → Region → ℕ → Type 0
IsOf n r x = IsNew r.points (r.points + n) x

-- a region of so many points lies beside S, or in it, with the point at which its part begins
abbrev pub IsBeside : (S : ℕ → Type 0) → (size : ℕ) → Region → Type 0
IsBeside S n r = ((x : ℕ) → IsOf n r x → S x → ⊥) ⊎ (S r.at × ((x : ℕ) → IsOf n r x → S x))

-- the edges and regions that are added are such
pub record Enters {V : Type 0} (z : ℕ → ℕ) (S : ℕ → Type 0) (q h : ℕ) (es : List (EdgeFrom V)) (rs : List Region) (fs : List (EdgeFrom V)) (ts : List Region) : Type 0 where
  pub edges : (f : EdgeFrom V) → Contains fs f → Contains es f ⊎ IsEntry S q h f
  pub regions : (j : ℕ) → IsSame rs ts j ⊎ IsBeside S (z j) (region_at ts j)

-- A loop at this place, whose labels have the points K, begins again at a point that is told, one of those from n to m, and is entered there.
pub record Turns {V : Type 0} (z : ℕ → ℕ) (K : ℕ → Type 0) (at : Pos) (n : ℕ) (es : List (EdgeFrom V)) (rs : List Region) (m : ℕ) (fs : List (EdgeFrom V)) (ts : List Region) (us : List TurnPoint) : Type 0 where
  pub head : ℕ
  pub last : ℕ
  pub from : ℕ
  pub told : Contains us (turning at head)
  pub low : n ≤ head
  pub some : head < last
  pub high : last ≤ m
  pub enters : Enters z (IsInLoop K head last) from head es rs fs ts

-- named points and new ones are outside of S
abbrev AreOutside : (S N : ℕ → Type 0) → (n m : ℕ) → Type 0
AreOutside S N n m = (x : ℕ) → N x ⊎ IsNew n m x → S x → ⊥

led_outside : {V : Type 0} (z : ℕ → ℕ) (S N : ℕ → Type 0) (n m q h : ℕ) (rs ts : List Region) → AreOutside S N n m → (f : EdgeFrom V) → (f.to ≡ 0) ⊎ (N f.to ⊎ (IsNew n m f.to × IsLeftOut z rs ts f.to)) → IsEntry S q h f
led_outside z S N n m q h rs ts out f (inl none) = inl none
led_outside z S N n m q h rs ts out f (inr (inl k)) = inr (inr (λ i. absurd (out f.to (inl k) i)))
led_outside z S N n m q h rs ts out f (inr (inr k)) = inr (inr (λ i. absurd (out f.to (inr k.0) i)))

taken_outside : {M N S : ℕ → Type 0} {p n m size : ℕ} {r : Region} → AreOutside S N n m → IsTaken M p n m size r → IsBeside S size r
taken_outside {n = n} {m = m} {size = size} {r = r} out t = inl (λ x i. let a = i.0 in let b = i.1 in let u = t.from in let v = t.to in out x (inr (omega (arith, a, u), omega (arith, b, v))))

-- behind what is made before
enters_behind : {V : Type 0} {z : ℕ → ℕ} {S M N : ℕ → Type 0} {p n m q h : ℕ} {es fs gs : List (EdgeFrom V)} {rs ts us : List Region} → AreOutside S N n m → SplitsBy z M N p n es rs m fs ts → Enters z S q h fs ts gs us → Enters z S q h es rs gs us
enters_behind {V} {z} {S} {M} {N} {p} {n} {m} {q} {h} {es} {fs} {gs} {rs} {ts} {us} out a b = record { edges = λ f c. by f (b.edges f c); regions = λ j. beside j (a.regions j) (b.regions j) } where
  made : (f : EdgeFrom V) → Contains es f ⊎ IsMade z M N p n rs m ts f → Contains es f ⊎ IsEntry S q h f
  made f (inl c) = inl c
  made f (inr k) = inr (led_outside z S N n m q h rs ts out f k.leads)

  by : (f : EdgeFrom V) → Contains fs f ⊎ IsEntry S q h f → Contains es f ⊎ IsEntry S q h f
  by f (inl c) = made f (a.edges f c)
  by f (inr e) = inr e

  beside : (j : ℕ) → IsSame rs ts j ⊎ IsTaken M p n m (z j) (region_at ts j) → IsSame ts us j ⊎ IsBeside S (z j) (region_at us j) → IsSame rs us j ⊎ IsBeside S (z j) (region_at us j)
  beside j (inl e) (inl f) = inl (f ∙ e)
  beside j (inr t) (inl f) = inr (subst (IsBeside S (z j)) (sym f) (taken_outside {M = M} {N = N} out t))
  beside j e (inr f) = inr f

-- and before what is made behind
enters_before : {V : Type 0} {z : ℕ → ℕ} {S M N : ℕ → Type 0} {p n m q h : ℕ} {es fs gs : List (EdgeFrom V)} {rs ts us : List Region} → AreOutside S N n m → SplitsBy z M N p n fs ts m gs us → Enters z S q h es rs fs ts → Enters z S q h es rs gs us
enters_before {V} {z} {S} {M} {N} {p} {n} {m} {q} {h} {es} {fs} {gs} {rs} {ts} {us} out a b = record { edges = λ f c. by f (a.edges f c); regions = λ j. beside j (b.regions j) (a.regions j) } where
  by : (f : EdgeFrom V) → Contains fs f ⊎ IsMade z M N p n ts m us f → Contains es f ⊎ IsEntry S q h f
  by f (inl c) = b.edges f c
  by f (inr k) = inr (led_outside z S N n m q h ts us out f k.leads)

  beside : (j : ℕ) → IsSame rs ts j ⊎ IsBeside S (z j) (region_at ts j) → IsSame ts us j ⊎ IsTaken M p n m (z j) (region_at us j) → IsSame rs us j ⊎ IsBeside S (z j) (region_at us j)
  beside j (inl e) (inl f) = inl (f ∙ e)
  beside j (inr e) (inl f) = inr (subst (IsBeside S (z j)) (sym f) e)
  beside j e (inr t) = inr (taken_outside {M = M} {N = N} out t)

-- ---- turns

-- labels are made before
abbrev pub AreBelow : (K : ℕ → Type 0) → ℕ → Type 0
AreBelow K n = (x : ℕ) → K x → x < n

-- a point before n that is no label of the loop
abbrev pub IsFree : (K : ℕ → Type 0) → (n x : ℕ) → Type 0
IsFree K n x = (x < n) × (K x → ⊥)

pub turns_behind : {V : Type 0} {z : ℕ → ℕ} {K M N : ℕ → Type 0} {p n k m l : ℕ} {at : Pos} {es fs gs : List (EdgeFrom V)} {rs ts us : List Region} {xs ys : List TurnPoint} → AreBelow K n → n ≤ k → n ≤ m → ((x : ℕ) → N x → IsFree K m x) → ((t : TurnPoint) → Contains xs t → Contains ys t)
    → SplitsBy z M N p k es rs m fs ts → Turns z K at m fs ts l gs us xs → Turns z K at n es rs l gs us ys
turns_behind {K = K} {N = N} {k = k} {m = m} {at = at} below behind less named more a b = record {
  head = b.head;
  last = b.last;
  from = b.from;
  told = more (turning at b.head) b.told;
  low = let u = b.low in omega (arith, u, less);
  some = b.some;
  high = b.high;
  enters = enters_behind {N = N} outside a b.enters;
} where
  outside : (x : ℕ) → N x ⊎ IsNew k m x → IsInLoop K b.head b.last x → ⊥
  outside x (inl i) (inl o) = (named x i).1 o
  outside x (inl i) (inr o) = let u = (named x i).0 in let v = o.0 in let w = b.low in absurd (omega (arith, u, v, w))
  outside x (inr i) (inl o) = let u = below x o in let v = i.0 in absurd (omega (arith, u, v, behind))
  outside x (inr i) (inr o) = let u = i.1 in let v = o.0 in let w = b.low in absurd (omega (arith, u, v, w))

-- such a point, or one from m on
abbrev pub IsAside : (K : ℕ → Type 0) → (n m x : ℕ) → Type 0
IsAside K n m x = IsFree K n x ⊎ (m ≤ x)

pub turns_before : {V : Type 0} {z : ℕ → ℕ} {K M N : ℕ → Type 0} {p n k m l : ℕ} {at : Pos} {es fs gs : List (EdgeFrom V)} {rs ts us : List Region} {xs : List TurnPoint} → AreBelow K n → ((x : ℕ) → N x → IsAside K n m x) → m ≤ k → SplitsBy z M N p k fs ts l gs us
    → Turns z K at n es rs m fs ts xs → Turns z K at n es rs l gs us xs
turns_before {K = K} {N = N} {n = n} {k = k} {m = m} {l = l} below named less a b = record {
  head = b.head;
  last = b.last;
  from = b.from;
  told = b.told;
  low = b.low;
  some = b.some;
  high = let u = b.high in let v = a.points in omega (arith, u, v, less);
  enters = enters_before {N = N} outside a b.enters;
} where
  behind : (x : ℕ) → m ≤ x → IsInLoop K b.head b.last x → ⊥
  behind x i (inl o) = let u = below x o in let v = b.low in let w = b.some in let y = b.high in absurd (omega (arith, u, i, v, w, y))
  behind x i (inr o) = let u = o.1 in let v = b.high in absurd (omega (arith, u, i, v))

  free : (x : ℕ) → IsFree K n x → IsInLoop K b.head b.last x → ⊥
  free x i (inl o) = i.1 o
  free x i (inr o) = let u = i.0 in let v = b.low in let w = o.0 in absurd (omega (arith, u, v, w))

  away : (x : ℕ) → IsAside K n m x → IsInLoop K b.head b.last x → ⊥
  away x (inl i) o = free x i o
  away x (inr i) o = behind x i o

  outside : (x : ℕ) → N x ⊎ IsNew k l x → IsInLoop K b.head b.last x → ⊥
  outside x (inl i) o = away x (named x i) o
  outside x (inr i) o = let u = i.0 in behind x (omega (arith, u, less)) o

-- one edge behind, with no new point or with some
pub edge_behind : {V : Type 0} {z : ℕ → ℕ} {K : ℕ → Type 0} {n m : ℕ} {at : Pos} {es fs : List (EdgeFrom V)} {rs ts : List Region} {xs : List TurnPoint} (l p : ℕ) (i : InstrOf V) (q : ℕ) → AreBelow K n → IsAside K n m q → m ≤ l
    → Turns z K at n es rs m fs ts xs → Turns z K at n es rs l (fs ++ record { from = p; instr = i; to = q } ∷ []) ts xs
edge_behind {z = z} {K = K} {n = n} {m = m} {fs = fs} {ts = ts} l p i q below away less b =
    turns_before {N = λ x. x ≡ q} below (λ x e. subst (IsAside K n m) (sym e) away) (omega arith) (one_edge z NoPoint (λ x. x ≡ q) p m l i q fs ts less (inl refl)) b

-- more turns are told
pub more_told : {V : Type 0} {z : ℕ → ℕ} {K : ℕ → Type 0} {n m : ℕ} {at : Pos} {es fs : List (EdgeFrom V)} {rs ts : List Region} {xs ys : List TurnPoint} → ((t : TurnPoint) → Contains xs t → Contains ys t) → Turns z K at n es rs m fs ts xs → Turns z K at n es rs m fs ts ys
more_told {at = at} more b = record { head = b.head; last = b.last; from = b.from; told = more (turning at b.head) b.told; low = b.low; some = b.some; high = b.high; enters = b.enters }
