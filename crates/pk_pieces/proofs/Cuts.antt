-- Where the accesses of a point begin among those of its graph.
use Rattle.std.specs.Prelude.{◌≡◌, ℕ, suc, ◌+◌, ◌-◌, ◌<◌, ◌≤◌, Bool, true, false, List, [], ◌∷◌, ◌++◌, length, take, drop, slice_index_or}
use Rattle.std.specs.List.Sorted.{IsPartitionedBy, IsPartitionPoint}
use Rattle.std.proofs.Common.{arith, inl, inr, refl, sym, ap, ◌∙◌, length-append, append_assoc, add-one}
use Rattle.std.proofs.lemmas.Bool.{false≢true, cases_lt}
use Rattle.std.proofs.lemmas.List.{length-map, length-take, take-map, drop-map, get_or-map, get_or_append_left, get_or-append_right}
use Rattle.std.proofs.lemmas.List.Elements.{All-get_or}
use Rattle.std.proofs.Math.Seq.{take-append_seam, drop-append_seam}
use Rattle.pk_graph.specs.declared.operations.Access.{Access}
use Rattle.pk_graph.specs.Accesses.{AccessOf, accesses_of, of_points}
use Rattle.pk_graph.specs.AccessViews.{access_view, access_views}
use Rattle.pk_graph.specs.Graphs.{GraphOf}
use Rattle.pk_pieces.specs.Accesses.{accesses_at, count_before}
use Rattle.pk_pieces.proofs.Ranges.{IsWithin, parts, next, within}

-- ---- a test that holds of the elements before place m, and of no other

pub record IsCut {X : Type 0} (p : X → Bool) (xs : List X) (m : ℕ) : Type 0 where
  pub few : m ≤ length xs
  pub low : (k : ℕ) (d : X) → k < m → p (slice_index_or xs k d) ≡ true
  pub high : (k : ℕ) (d : X) → m ≤ k → k < length xs → p (slice_index_or xs k d) ≡ false

pub parted : {X : Type 0} (p : X → Bool) (xs : List X) (m : ℕ) → IsCut p xs m → IsPartitionedBy p xs
parted {X} p xs m cut i j d le l is =
    elim (cases_lt j m) [
      | inl h ↦ cut.low i d (omega arith)
      | inr h ↦ absurd (false≢true (sym (cut.high j d h l) ∙ is))
    ]

pub cut_is : {X : Type 0} (p : X → Bool) (xs : List X) (m i : ℕ) → IsCut p xs m → i ≤ length xs → IsPartitionPoint (λ y. p y ≡ true) (λ y. p y ≡ false) xs i → i ≡ m
cut_is {X} p [] m i cut few at = omega (arith, few, cut.few)
cut_is {X} p (x ∷ xs) m i cut few at =
    elim (cases_lt i m) [
      | inl h ↦ absurd (false≢true (sym (at.1 i x (omega arith) (omega (arith, h, cut.few))) ∙ cut.low i x h))
      | inr h ↦ elim (cases_lt m i) [
        | inl g ↦ absurd (false≢true (sym (cut.high m x (omega arith) (omega (arith, g, few))) ∙ at.0 m x (omega arith) g))
        | inr g ↦ omega (arith, h, g)
      ]
    ]

-- ---- accesses before those of a point, and the others

module _ (g : GraphOf) (xs : List Access) (are : access_views xs ≡ accesses_of g) (t : ℕ) where
  abbrev before : List AccessOf
  before = of_points 0 (take t g.points)

  abbrev others : List AccessOf
  others = of_points t (drop t g.points)

  both : access_views xs ≡ before ++ others
  both = are ∙ parts 0 t t g.points (omega arith)

  many : length xs ≡ length before + length others
  many = sym (length-map xs access_view) ∙ ap length both ∙ length-append before others

  point_of : (k : ℕ) (d : Access) → k < length xs → (slice_index_or xs k d).point ≡ (slice_index_or (before ++ others) k (access_view d)).point
  unfolding access_view
  point_of k d l =
      ap (λ (a : AccessOf). a.point) (sym (get_or-map access_view xs k d (access_view d) l) ∙ ap (λ (ys : List AccessOf). slice_index_or ys k (access_view d)) both)

  pub cut_of : (p : Access → Bool) → ((a : Access) → a.point < t → p a ≡ true) → ((a : Access) → t ≤ a.point → p a ≡ false) → IsCut p xs (count_before g t)
  cut_of p holds fails = record {
    few = omega (arith, many);
    low = λ k d h.
        let inside : (slice_index_or before k (access_view d)).point < t = (All-get_or (IsWithin 0 t) before k (access_view d) h (within 0 t (take t g.points) (omega (arith, length-take t g.points)))).1 in
        let is = point_of k d (omega (arith, many, h)) ∙ ap (λ (a : AccessOf). a.point) (get_or_append_left before others (access_view d) k h) in
        holds (slice_index_or xs k d) (omega (arith, inside, is));
    high = λ k d h l.
        let outside : t ≤ (slice_index_or others (k - length before) (access_view d)).point =
        (All-get_or (IsWithin t (t + length (drop t g.points))) others (k - length before) (access_view d) (omega (arith, many, h, l)) (within t (t + length (drop t g.points)) (drop t g.points) (omega arith))).0 in
        let is = point_of k d l ∙ ap (λ (a : AccessOf). a.point) (get_or-append_right before others (length before) k (access_view d) refl h) in
        fails (slice_index_or xs k d) (omega (arith, outside, is));
  }

-- ---- the accesses of a point stand from there up to those of the next

pub count_next : (g : GraphOf) (v : ℕ) → count_before g (v + 1) ≡ count_before g v + length (accesses_at g v)
count_next g v =
    ap (λ (n : ℕ). length (of_points 0 (take n g.points))) (add-one v)
    ∙ ap length (next 0 v v g.points (omega arith))
    ∙ length-append (of_points 0 (take v g.points)) (accesses_at g v)

pub split : (g : GraphOf) (v : ℕ) → accesses_of g ≡ of_points 0 (take v g.points) ++ (accesses_at g v ++ of_points (suc v) (drop (suc v) g.points))
split g v =
    parts 0 (suc v) (suc v) g.points (omega arith)
    ∙ ap (λ (ys : List AccessOf). ys ++ of_points (suc v) (drop (suc v) g.points)) (next 0 v v g.points (omega arith))
    ∙ append_assoc (of_points 0 (take v g.points)) (accesses_at g v) (of_points (suc v) (drop (suc v) g.points))

pub taken : (g : GraphOf) (xs : List Access) (v from to : ℕ) → access_views xs ≡ accesses_of g → from ≡ count_before g v → to ≡ count_before g (v + 1)
    → access_views (take (to - from) (drop from xs)) ≡ accesses_at g v
taken g xs v from to are f t =
    let few : to - from ≡ length (accesses_at g v) = omega (arith, f, t, count_next g v) in
    sym (take-map access_view (to - from) (drop from xs))
    ∙ ap (λ (ys : List AccessOf). take (to - from) ys) (sym (drop-map access_view from xs) ∙ ap (drop from) (are ∙ split g v))
    ∙ ap (λ (n : ℕ). take (to - from) (drop n (of_points 0 (take v g.points) ++ (accesses_at g v ++ of_points (suc v) (drop (suc v) g.points))))) f
    ∙ ap (λ (ys : List AccessOf). take (to - from) ys) (drop-append_seam (of_points 0 (take v g.points)) (accesses_at g v ++ of_points (suc v) (drop (suc v) g.points)))
    ∙ ap (λ (n : ℕ). take n (accesses_at g v ++ of_points (suc v) (drop (suc v) g.points))) few
    ∙ take-append_seam (accesses_at g v) (of_points (suc v) (drop (suc v) g.points))
