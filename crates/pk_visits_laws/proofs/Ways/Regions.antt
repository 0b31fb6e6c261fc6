-- Between the parts of a program: points of parts that aren't made yet have no edges.
use Rattle.std.proofs.Common.{◌≡◌, ℕ, zero, suc, ◌+◌, ◌<◌, ◌≤◌, ◌⊎◌, List, [], refl, sym, ap, ◌∙◌, subst, inl, inr, arith}
use Rattle.std.specs.Prelude.{replicate}
use Rattle.pk_draft.specs.declared.drafts.Region.{Region}
use Rattle.pk_draft.specs.Drafts.{EdgeFrom, no_region, first_regions, entry_point}
use Rattle.pk_visits.proofs.Slots.{region_at, Never}
use Rattle.pk_visits_laws.proofs.Ways.Ways.{from, IsWay}
use Rattle.pk_visits_laws.proofs.Ways.Adding.{Kept, Left, Spent, HoldsIn, Holds}
use Rattle.pk_visits_laws.proofs.Ways.Spans.{Span}
use Rattle.pk_visits_laws.proofs.Ways.Goes.{AreRooted, GoesBy}
use Rattle.pk_visits_laws.proofs.Ways.Rows.{region_set}

-- where the entry's part ends
abbrev pub exit_point : ℕ
exit_point = entry_point + 1

-- before the part of path k
pub record IsTidy {V : Type 0} (z : ℕ → ℕ) (k : ℕ) (es : List (EdgeFrom V)) (rs : List Region) : Type 0 where
  pub ways : (x : ℕ) → IsWay (from x es)
  pub free : (j x : ℕ) → k ≤ j → Holds z rs j x → from x es ≡ []
  pub one : (i j x : ℕ) → k ≤ i → k ≤ j → Holds z rs i x → Holds z rs j x → i ≡ j
  pub rooted : AreRooted rs
  -- the exit of the entry's part has no edges, and no path holds it
  pub exit : from exit_point es ≡ []
  pub unheld : (j : ℕ) → k ≤ j → Holds z rs j exit_point → ⊥

pub tidy_part : {V : Type 0} {z : ℕ → ℕ} {k m : ℕ} {es fs : List (EdgeFrom V)} {rs ts : List Region} → 0 < (region_at rs k).points → m ≡ (region_at rs k).points + z k → IsTidy z k es rs
    → GoesBy z Never (region_at rs k).at (region_at rs k).points es rs (region_at rs k).points m fs ts → IsTidy z (k + 1) fs ts
tidy_part {V} {z} {k} {m} {es} {fs} {rs} {ts} kept ends h a = record {
  ways = λ x. ways x (adds x);
  free = λ j x le holds. free j x le holds (adds x);
  one = λ i j x le lt holds also. one i j x le lt holds also (adds x);
  rooted = a.rooted low (λ x i. absurd i) h.rooted;
  exit = (kept_exit (adds exit_point)).edges ∙ h.exit;
  unheld = λ j le holds. h.unheld j (omega (arith, le)) ((kept_exit (adds exit_point)).held j holds);
} where
  r : Region
  r = region_at rs k

  low : r.at < r.points
  low = h.rooted k kept

  Taken : ℕ → Type 0
  Taken x = Span Never r.at r.points m x × (x ≡ r.points → ⊥)

  adds : (x : ℕ) → Kept z x es rs fs ts ⊎ (Taken x × Spent z x es rs fs ts)
  adds = a.adds low (λ x i. absurd i)

  -- it is held for this path
  mine : (x : ℕ) → Taken x → Holds z rs k x
  mine x (inl e, other) = (kept, inl e)
  mine x (inr (inl s), other) = let i = s.0 in let j = s.1 in (kept, inr (omega (arith, i, other), omega (arith, j, ends)))
  mine x (inr (inr n), other) = absurd n

  kept_exit : Kept z exit_point es rs fs ts ⊎ (Taken exit_point × Spent z exit_point es rs fs ts) → Kept z exit_point es rs fs ts
  kept_exit (inl b) = b
  kept_exit (inr (t, b)) = absurd (h.unheld k (omega arith) (mine exit_point t))

  none : (x : ℕ) → Taken x → from x es ≡ []
  none x t = h.free k x (omega arith) (mine x t)

  not_mine : (j x : ℕ) → k + 1 ≤ j → Taken x → Holds z rs j x → ⊥
  not_mine j x le t holds = let e = h.one k j x (omega arith) (omega (arith, le)) (mine x t) holds in absurd (omega (arith, le, e))

  ways : (x : ℕ) → Kept z x es rs fs ts ⊎ (Taken x × Spent z x es rs fs ts) → IsWay (from x fs)
  ways x (inl b) = subst IsWay (sym b.edges) (h.ways x)
  ways x (inr (t, inl b)) = b.way (none x t)
  ways x (inr (t, inr b)) = subst IsWay (sym b.edges) (h.ways x)

  free : (j x : ℕ) → k + 1 ≤ j → Holds z ts j x → Kept z x es rs fs ts ⊎ (Taken x × Spent z x es rs fs ts) → from x fs ≡ []
  free j x le holds (inl b) = b.edges ∙ h.free j x (omega (arith, le)) (b.held j holds)
  free j x le holds (inr (t, inl b)) = absurd (not_mine j x le t (b.held j holds))
  free j x le holds (inr (t, inr b)) = b.edges ∙ none x t

  to_path : (j x : ℕ) → k + 1 ≤ j → Taken x → (b : Left z x es rs fs ts) → Holds z rs j x ⊎ (j ≡ b.path) → j ≡ b.path
  to_path j x le t b (inl holds) = absurd (not_mine j x le t holds)
  to_path j x le t b (inr e) = e

  one : (i j x : ℕ) → k + 1 ≤ i → k + 1 ≤ j → Holds z ts i x → Holds z ts j x → Kept z x es rs fs ts ⊎ (Taken x × Spent z x es rs fs ts) → i ≡ j
  one i j x le lt holds also (inl b) = h.one i j x (omega (arith, le)) (omega (arith, lt)) (b.held i holds) (b.held j also)
  one i j x le lt holds also (inr (t, inl b)) = absurd (not_mine i x le t (b.held i holds))
  one i j x le lt holds also (inr (t, inr b)) = to_path i x le t b (b.held i holds) ∙ sym (to_path j x lt t b (b.held j also))

-- ---- before the first part

no_regions : (n k : ℕ) → region_at (replicate n no_region) k ≡ no_region
no_regions zero k = refl
no_regions (suc n) zero = refl
no_regions (suc n) (suc k) = no_regions n k

pub tidy_first : {V : Type 0} (z : ℕ → ℕ) (objects paths : ℕ) → IsTidy {V = V} z 0 [] (first_regions objects paths)
tidy_first {V} z objects paths = record {
  ways = λ x. tt;
  free = λ j x le holds. refl;
  one = λ i j x le lt holds also. first i holds.0 ∙ sym (first j also.0);
  rooted = λ k some. root k some (region_set none 0 k r);
  exit = refl;
  unheld = λ j le holds. not_held j holds (region_set none 0 j r);
} where
  r : Region
  r = record { at = entry_point; points = entry_point + 1; variables = objects }

  none : List Region
  none = replicate paths no_region

  first : (k : ℕ) → 0 < (region_at (first_regions objects paths) k).points → k ≡ 0
  first k some = by (region_set none 0 k r) where
    by : (region_at (first_regions objects paths) k ≡ region_at none k) ⊎ ((k ≡ 0) × (region_at (first_regions objects paths) k ≡ r)) → k ≡ 0
    by (inl e) = let i = ap (λ (r : Region). r.points) (e ∙ no_regions paths k) in absurd (omega (arith, i, some))
    by (inr e) = e.0

  not_in : (n : ℕ) → HoldsIn n r exit_point → ⊥
  not_in n (some, inl e) = absurd (omega (arith, e))
  not_in n (some, inr i) = absurd (omega (arith, i.0))

  not_held : (j : ℕ) → Holds z (first_regions objects paths) j exit_point → (region_at (first_regions objects paths) j ≡ region_at none j) ⊎ ((j ≡ 0) × (region_at (first_regions objects paths) j ≡ r)) → ⊥
  not_held j holds (inl e) = let i = ap (λ (r : Region). r.points) (e ∙ no_regions paths j) in absurd (omega (arith, i, holds.0))
  not_held j holds (inr e) = not_in (z j) (subst (λ (o : Region). HoldsIn (z j) o exit_point) e.1 holds)

  root : (k : ℕ) → 0 < (region_at (first_regions objects paths) k).points → (region_at (first_regions objects paths) k ≡ region_at none k) ⊎ ((k ≡ 0) × (region_at (first_regions objects paths) k ≡ r)) → (region_at (first_regions objects paths) k).at < (region_at (first_regions objects paths) k).points
  root k some (inl e) = let i = ap (λ (r : Region). r.points) (e ∙ no_regions paths k) in absurd (omega (arith, i, some))
  root k some (inr e) = subst (λ (o : Region). o.at < o.points) (sym e.1) (omega arith)
