-- Between the parts of a program: no edge leads into a part that isn't made yet, and a loop into which nothing jumps stays entered where it begins again.
use Rattle.std.proofs.Common.{◌≡◌, ℕ, ◌+◌, ◌<◌, ◌≤◌, ◌⊎◌, List, sym, subst, inl, inr, arith}
use Rattle.std.specs.List.{Contains}
use Rattle.pk_draft.specs.declared.drafts.Region.{Region}
use Rattle.pk_draft.specs.Drafts.{EdgeFrom}
use Rattle.pk_edge_laws.specs.Edges.{IsNew, region_at, IsSame, IsBehindExit, IsLeftOut, IsTaken, IsMade, SplitsBy, NoPoint}
use Rattle.pk_loop_heads.proofs.Enters.{IsEntry, IsOf, IsBeside, Enters}

-- the region is left to a path
abbrev pub IsKept : List Region → ℕ → Type 0
IsKept rs j = 0 < (region_at rs j).points

-- before the part of path k no edge leads behind the exit of a path from k on
abbrev pub IsClear : {V : Type 0} → (ℕ → ℕ) → ℕ → List (EdgeFrom V) → List Region → Type 0
IsClear {V} z k es rs = (j : ℕ) (f : EdgeFrom V) → k ≤ j → IsKept rs j → Contains es f → IsBehindExit (z j) (region_at rs j) f.to → ⊥

-- the region of path k lies apart from those of later paths
abbrev pub IsApart : (ℕ → ℕ) → ℕ → List Region → Type 0
IsApart z k rs = (j x : ℕ) → k + 1 ≤ j → IsKept rs j → IsNew (region_at rs j).points ((region_at rs j).points + z j) x → IsNew (region_at rs k).points ((region_at rs k).points + z k) x → ⊥

-- The part of path k, from its region.
abbrev pub IsPart : {V : Type 0} → (ℕ → ℕ) → ℕ → List (EdgeFrom V) → List Region → (m : ℕ) → List (EdgeFrom V) → List Region → Type 0
IsPart z k es rs m fs ts = SplitsBy z NoPoint NoPoint (region_at rs k).at (region_at rs k).points es rs m fs ts

pub clear_next : {V : Type 0} {z : ℕ → ℕ} {k m : ℕ} {es fs : List (EdgeFrom V)} {rs ts : List Region} → IsKept rs k → m ≡ (region_at rs k).points + z k → IsApart z k rs → IsPart z k es rs m fs ts → IsClear z k es rs → IsClear z (k + 1) fs ts
clear_next {V} {z} {k} {m} {es} {fs} {rs} {ts} kept ends apart a clear j f le has c = by (a.regions j) (a.edges f c) where
  r : Region
  r = region_at rs k

  low : k ≤ j
  low = omega (arith, le)

  leads : IsSame rs ts j ⊎ IsTaken NoPoint r.at r.points m (z j) (region_at ts j) → (f.to ≡ 0) ⊎ (NoPoint f.to ⊎ (IsNew r.points m f.to × IsLeftOut z rs ts f.to)) → IsBehindExit (z j) (region_at ts j) f.to → ⊥
  leads x (inl none) i = let u = i.0 in absurd (omega (arith, u, none))
  leads x (inr (inl never)) i = never
  leads (inl e) (inr (inr n)) i =
      let u = n.0.1 in
      let v = i.0 in
      apart j f.to le (subst (λ (o : Region). 0 < o.points) e has) (subst (λ (o : Region). IsNew o.points (o.points + z j) f.to) e (omega (arith, v), i.1)) (n.0.0, omega (arith, u, ends))
  leads (inr t) (inr (inr n)) i = out (n.1 j) where
    out : IsSame rs ts j ⊎ (IsBehindExit (z j) (region_at ts j) f.to → ⊥) → ⊥
    out (inr o) = o i
    -- it was its region before, which lies in that of path k
    out (inl e) =
        let u = n.0.1 in
        let v = i.0 in
        apart j f.to le (subst (λ (o : Region). 0 < o.points) e has) (subst (λ (o : Region). IsNew o.points (o.points + z j) f.to) e (omega (arith, v), i.1)) (n.0.0, omega (arith, u, ends))

  old : IsSame rs ts j ⊎ IsTaken NoPoint r.at r.points m (z j) (region_at ts j) → Contains es f → IsBehindExit (z j) (region_at ts j) f.to → ⊥
  old (inl e) h i = clear j f low (subst (λ (o : Region). 0 < o.points) e has) h (subst (λ (o : Region). IsBehindExit (z j) o f.to) e i)
  old (inr t) h i =
      let u = t.from in
      let v = t.to in
      let x = i.0 in
      let y = i.1 in
      clear k f (omega arith) kept h (omega (arith, u, x), omega (arith, v, y, ends))

  by : IsSame rs ts j ⊎ IsTaken NoPoint r.at r.points m (z j) (region_at ts j) → Contains es f ⊎ IsMade z NoPoint NoPoint r.at r.points rs m ts f → IsBehindExit (z j) (region_at ts j) f.to → ⊥
  by x (inl h) = old x h
  by x (inr i) = leads x i.leads

-- ---- a loop of an earlier path, whose points are S

pub record IsHeld {V : Type 0} (z : ℕ → ℕ) (k : ℕ) (S : ℕ → Type 0) (q h : ℕ) (es : List (EdgeFrom V)) (rs : List Region) : Type 0 where
  pub edges : (f : EdgeFrom V) → Contains es f → IsEntry S q h f
  pub regions : (j : ℕ) → k ≤ j → IsKept rs j → IsBeside S (z j) (region_at rs j)

-- behind the part of its path
pub held_first : {V : Type 0} {z : ℕ → ℕ} {k q h : ℕ} {S : ℕ → Type 0} {es fs : List (EdgeFrom V)} {rs ts : List Region} → IsKept rs k → IsApart z k rs → IsClear z k es rs → ((x : ℕ) → S x → IsBehindExit (z k) (region_at rs k) x) → Enters z S q h es rs fs ts → IsHeld z (k + 1) S q h fs ts
held_first {V} {z} {k} {q} {h} {S} {es} {fs} {rs} {ts} kept apart clear within a = record { edges = λ f c. by f (a.edges f c); regions = λ j le has. beside j le has (a.regions j) } where
  by : (f : EdgeFrom V) → Contains es f ⊎ IsEntry S q h f → IsEntry S q h f
  by f (inr e) = e
  by f (inl c) = inr (inr (λ i. absurd (clear k f (omega arith) kept c (within f.to i))))

  -- the part of path j is beside, since it shares no point with that of path k
  old : (j : ℕ) → k + 1 ≤ j → IsKept rs j → IsBeside S (z j) (region_at rs j)
  old j le has = inl (λ x new i. let u = within x i in let v = u.0 in apart j x le has new (omega (arith, v), u.1))

  beside : (j : ℕ) → k + 1 ≤ j → IsKept ts j → IsSame rs ts j ⊎ IsBeside S (z j) (region_at ts j) → IsBeside S (z j) (region_at ts j)
  beside j le has (inr b) = b
  beside j le has (inl e) = subst (IsBeside S (z j)) (sym e) (old j le (subst (λ (o : Region). 0 < o.points) e has))

-- and behind each later one
pub held_next : {V : Type 0} {z : ℕ → ℕ} {k m q h : ℕ} {S : ℕ → Type 0} {es fs : List (EdgeFrom V)} {rs ts : List Region} → IsKept rs k → m ≡ (region_at rs k).points + z k → IsPart z k es rs m fs ts → IsHeld z k S q h es rs → IsHeld z (k + 1) S q h fs ts
held_next {V} {z} {k} {m} {q} {h} {S} {es} {fs} {rs} {ts} kept ends a b = record { edges = λ f c. by f (a.edges f c); regions = λ j le has. beside j le has (a.regions j) } where
  r : Region
  r = region_at rs k

  here : IsBeside S (z k) r
  here = b.regions k (omega arith) kept

  of_part : (x : ℕ) → IsNew r.points m x → IsOf (z k) r x
  of_part x n = let v = n.1 in (n.0, omega (arith, v, ends))

  -- it begins in the loop's points, or where the part does
  begun : S r.at → ((x : ℕ) → IsOf (z k) r x → S x) → (x : ℕ) → (x ≡ r.at) ⊎ (NoPoint x ⊎ IsNew r.points m x) → S x
  begun i all x (inl e) = subst S (sym e) i
  begun i all x (inr (inl never)) = absurd never
  begun i all x (inr (inr n)) = all x (of_part x n)

  new : (f : EdgeFrom V) → (f.from ≡ r.at) ⊎ (NoPoint f.from ⊎ IsNew r.points m f.from) → IsNew r.points m f.to → IsBeside S (z k) r → IsEntry S q h f
  new f at n (inl out) = inr (inr (λ i. absurd (out f.to (of_part f.to n) i)))
  new f at n (inr i) = inr (inl (begun i.0 i.1 f.from at))

  made : (f : EdgeFrom V) → (f.from ≡ r.at) ⊎ (NoPoint f.from ⊎ IsNew r.points m f.from) → (f.to ≡ 0) ⊎ (NoPoint f.to ⊎ (IsNew r.points m f.to × IsLeftOut z rs ts f.to)) → IsEntry S q h f
  made f at (inl none) = inl none
  made f at (inr (inl never)) = absurd never
  made f at (inr (inr n)) = new f at n.0 here

  by : (f : EdgeFrom V) → Contains es f ⊎ IsMade z NoPoint NoPoint r.at r.points rs m ts f → IsEntry S q h f
  by f (inl c) = b.edges f c
  by f (inr i) = made f i.begins i.leads

  -- a region of the part
  inner : (j : ℕ) → IsTaken NoPoint r.at r.points m (z j) (region_at ts j) → (x : ℕ) → IsOf (z j) (region_at ts j) x → IsOf (z k) r x
  inner j t x n = let u = t.from in let v = t.to in let a = n.0 in let b = n.1 in (omega (arith, u, a), omega (arith, v, b, ends))

  taken : (j : ℕ) → IsTaken NoPoint r.at r.points m (z j) (region_at ts j) → IsBeside S (z k) r → IsBeside S (z j) (region_at ts j)
  taken j t (inl out) = inl (λ x n. out x (inner j t x n))
  taken j t (inr i) = inr (begun i.0 i.1 (region_at ts j).at t.begins, λ x n. i.1 x (inner j t x n))

  beside : (j : ℕ) → k + 1 ≤ j → IsKept ts j → IsSame rs ts j ⊎ IsTaken NoPoint r.at r.points m (z j) (region_at ts j) → IsBeside S (z j) (region_at ts j)
  beside j le has (inl e) = subst (IsBeside S (z j)) (sym e) (b.regions j (omega (arith, le)) (subst (λ (o : Region). 0 < o.points) e has))
  beside j le has (inr t) = taken j t here
