-- Points are kept over stretches of items.
use Rattle.std.proofs.Common.{◌≡◌, ℕ, ◌+◌, ◌<◌, ◌≤◌, ◌==◌, ◌&&◌, ◌||◌, List, [], ◌∷◌, ◌++◌, length, get_or, map, fold, max, count_by, Bool, true, false, ap, sym, ◌∙◌, arith, All}
use Rattle.std.proofs.Math.Dec.{leb, ltb}
use Rattle.std.specs.List.{range_with_len}
use Rattle.std.proofs.lemmas.Bool.Decides.{nat_tests}
use Rattle.std.proofs.lemmas.List.Elements.{All-same, All-map, All-from_get_or}
use Rattle.std.proofs.lemmas.List.FromFn.{length-range_with_len, get_or-range_with_len, map-range_with_len_more}
use Rattle.pk_plan.specs.Axioms.{Axioms}
use Rattle.pk_plan.specs.Linear.{IsLinear, items_of}
use Rattle.pk_plan.specs.Order.{Level}
use Rattle.pk_plan.specs.Plans.{PlanView, predecessors_of, end_of}
use Rattle.pk_plan.proofs.PlanLemmas.{predecessor_within}
use Rattle.pk_peak.specs.declared.stretches.Stretch.{Stretch}
use Rattle.pk_peak.specs.Peak.{item_of, leads_from, is_read_from, is_kept, kept_at, peak_of}
use Rattle.pk_peak.specs.Items.{AreNumbered}
use Rattle.pk_peak.specs.Readers.{AreLast}
use Rattle.pk_peak.specs.Stretches.{covers, covering, most_covering_of}
use Rattle.pk_peak.proofs.Listing.{any_same, count_same, count_map}

in_stretch : (own j : ℕ) (late read : Bool) → late ≡ (leb j own || read) → (leb own j && late) ≡ ((own == j) || (ltb own j && read))
in_stretch own j late true is = grind (arith, nat_tests)
in_stretch own j late false is = grind (arith, nat_tests)

-- two ways to tell the items of the elements
same_reads : (p : PlanView) (f g : ℕ → ℕ) → Axioms p → ((e : ℕ) → e < p.elements → f e ≡ g e) → (i j : ℕ) → is_read_from p f i j ≡ is_read_from p g i j
same_reads p f g axioms same i j = any_same (λ b. leb j (f b) && leads_from p f i b) (λ b. leb j (g b) && leads_from p g i b) (range_with_len 0 (end_of p)) at
  where
    leads : (b : ℕ) → leads_from p f i b ≡ leads_from p g i b
    leads b = any_same (λ a. f a == i) (λ a. g a == i) (predecessors_of p b) (λ k h. ap (λ (n : ℕ). n == i) (same (get_or (predecessors_of p b) k 0) (predecessor_within p b k axioms h)))

    at : (k : ℕ) → k < length (range_with_len 0 (end_of p)) → (leb j (f (get_or (range_with_len 0 (end_of p)) k 0)) && leads_from p f i (get_or (range_with_len 0 (end_of p)) k 0)) ≡ (leb j (g (get_or (range_with_len 0 (end_of p)) k 0)) && leads_from p g i (get_or (range_with_len 0 (end_of p)) k 0))
    at k h =
        let long = length-range_with_len 0 (end_of p) in
        let e = get_or (range_with_len 0 (end_of p)) k 0 in
        let is : e ≡ 0 + k = get_or-range_with_len 0 (end_of p) k 0 (omega (arith, h, long)) in
        let below : e < p.elements = (let n = axioms.counted in omega (arith, is, h, long, n)) in
        λ t. leb j (same e below t) && leads e t

-- the stretches over which the points are kept
abbrev pub kept_over : (of last : List ℕ) → ℕ → Stretch
kept_over of last e = record { from = get_or of e 0; to = get_or last (get_or of e 0) 0 }

pub kept_stretches : (n points : ℕ) (of' of last' last : List ℕ) (stretches : List Stretch) → n ≡ points → of' ≡ of → last' ≡ last → stretches ≡ map (kept_over of' last') (range_with_len 0 n) → stretches ≡ map (kept_over of last) (range_with_len 0 points)
kept_stretches n points of' of last' last stretches points_is of_is last_is is = is ∙ (λ k. map (kept_over (of_is k) (last_is k)) (range_with_len 0 (points_is k)))

pub kept_more : (of last : List ℕ) (n : ℕ) (old new : List Stretch) → new ≡ old ++ kept_over of last n ∷ [] → old ≡ map (kept_over of last) (range_with_len 0 n) → new ≡ map (kept_over of last) (range_with_len 0 (n + 1))
kept_more of last n old new is so_far = is ∙ ap (λ (xs : List Stretch). xs ++ kept_over of last n ∷ []) so_far ∙ sym (map-range_with_len_more (kept_over of last) 0 n n (omega arith))

points_within : (p : PlanView) → Axioms p → (e : ℕ) → e < p.points → e < p.elements
points_within p axioms e h = let n = axioms.counted in omega (arith, h, n)

all_kept : (P : Stretch → Type 0) (p : PlanView) (of last : List ℕ) (stretches : List Stretch) → stretches ≡ map (kept_over of last) (range_with_len 0 p.points) → ((e : ℕ) → e < p.points → P (kept_over of last e)) → All P stretches
all_kept P p of last stretches is each =
    All-same P stretches (map (kept_over of last) (range_with_len 0 p.points)) is (All-map P (kept_over of last) (range_with_len 0 p.points)
    (All-from_get_or (λ e. P (kept_over of last e)) (range_with_len 0 p.points) 0 (λ k h.
    let long = length-range_with_len 0 p.points in
    let at : get_or (range_with_len 0 p.points) k 0 ≡ 0 + k = get_or-range_with_len 0 p.points k 0 (omega (arith, h, long)) in
    each (get_or (range_with_len 0 p.points) k 0) (omega (arith, at, h, long)))))

later_tells : (i n : ℕ) (read : Bool) → leb i n ≡ (leb i i || read) → i ≤ n
later_tells i n read is = grind (arith, nat_tests)

pub stretches_rise : (p : PlanView) (of last : List ℕ) (count : ℕ) (stretches : List Stretch) → Axioms p → AreLast p (λ e. get_or of e 0) count last → stretches ≡ map (kept_over of last) (range_with_len 0 p.points) → ((e : ℕ) → e < p.elements → get_or of e 0 < count) → All (λ s. s.from ≤ s.to) stretches
stretches_rise p of last count stretches axioms lasts is low = all_kept (λ s. s.from ≤ s.to) p of last stretches is (λ e h.
    later_tells (get_or of e 0) (get_or last (get_or of e 0) 0) (is_read_from p (λ u. get_or of u 0) (get_or of e 0) (get_or of e 0)) (lasts.each (get_or of e 0) (get_or of e 0) (low e (points_within p axioms e h))))

pub stretches_end : (p : PlanView) (of last : List ℕ) (count : ℕ) (stretches : List Stretch) → Axioms p → AreLast p (λ e. get_or of e 0) count last → stretches ≡ map (kept_over of last) (range_with_len 0 p.points) → ((e : ℕ) → e < p.elements → get_or of e 0 < count) → All (λ s. s.to < count) stretches
stretches_end p of last count stretches axioms lasts is low = all_kept (λ s. s.to < count) p of last stretches is (λ e h. lasts.within (get_or of e 0) (low e (points_within p axioms e h)))

pub peak_is : (p : PlanView) (order : Level) (of last : List ℕ) (count : ℕ) (stretches : List Stretch) → Axioms p → IsLinear p order → AreNumbered order p.elements of count → AreLast p (λ e. get_or of e 0) count last
    → stretches ≡ map (kept_over of last) (range_with_len 0 p.points) → ((e : ℕ) → e < p.elements → get_or of e 0 < count) → most_covering_of stretches count ≡ peak_of p order
peak_is p order of last count stretches axioms linear numbered lasts is low =
    (λ t. fold max 0 (map (λ j. at j t) (range_with_len 0 count)))
    ∙ ap (λ (n : ℕ). fold max 0 (map (kept_at p (item_of (items_of order))) (range_with_len 0 n))) numbered.many
  where
    same : (e : ℕ) → e < p.elements → get_or of e 0 ≡ item_of (items_of order) e
    same e h = numbered.each e (linear.every e h)

    kept : (j e : ℕ) → e < p.elements → (leb (get_or of e 0) j && leb j (get_or last (get_or of e 0) 0)) ≡ is_kept p (item_of (items_of order)) j e
    kept j e h =
        in_stretch (get_or of e 0) j (leb j (get_or last (get_or of e 0) 0)) (is_read_from p (λ u. get_or of u 0) (get_or of e 0) j) (lasts.each (get_or of e 0) j (low e h))
        ∙ ap (λ (t : Bool). (get_or of e 0 == j) || (ltb (get_or of e 0) j && t)) (same_reads p (λ u. get_or of u 0) (item_of (items_of order)) axioms same (get_or of e 0) j)
        ∙ ap (λ (n : ℕ). (n == j) || (ltb n j && is_read_from p (item_of (items_of order)) n j)) (same e h)

    at : (j : ℕ) → covering stretches j ≡ kept_at p (item_of (items_of order)) j
    at j =
        ap (count_by (covers j)) is ∙ count_map (covers j) (kept_over of last) (range_with_len 0 p.points)
        ∙ count_same (λ e. covers j (kept_over of last e)) (is_kept p (item_of (items_of order)) j) (range_with_len 0 p.points) (λ k h.
        let long = length-range_with_len 0 p.points in
        let e = get_or (range_with_len 0 p.points) k 0 in
        let e_is : e ≡ 0 + k = get_or-range_with_len 0 p.points k 0 (omega (arith, h, long)) in
        kept j e (points_within p axioms e (omega (arith, e_is, h, long))))
