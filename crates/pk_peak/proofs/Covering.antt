-- How many stretches cover a place, from one place to the next.
use Rattle.std.proofs.Common.{◌≡◌, ℕ, ◌+◌, ◌≤◌, ◌==◌, ◌&&◌, List, [], ◌∷◌, count_by, cond, Bool, false, refl, ap, ◌∙◌, arith, All, fold, max, map}
use Rattle.std.proofs.Math.Dec.{leb, ltb}
use Rattle.std.specs.List.{range_with_len}
use Rattle.std.proofs.lemmas.Bool.Decides.{nat_tests}
use Rattle.std.proofs.lemmas.List.Elements.{All-head, All-tail}
use Rattle.std.proofs.lemmas.List.FromFn.{map-range_with_len_more}
use Rattle.std.proofs.lemmas.List.Sums.{sum_by-cons, fold_push}
use Rattle.pk_peak.specs.declared.stretches.Stretch.{Stretch}
use Rattle.pk_peak.specs.Stretches.{covers, covering}

-- whether a stretch that began before a place covers it
abbrev pub goes_on : ℕ → Stretch → Bool
goes_on place stretch = ltb stretch.from place && leb place stretch.to

begins_here : (from to place : ℕ) → from ≤ to → cond (ltb from place && leb place to) 1 0 + cond (from == place) 1 0 ≡ cond (leb from place && leb place to) 1 0
begins_here from to place rise = grind (arith, nat_tests)

ends_here : (from to place : ℕ) → from ≤ to → cond (leb from place && leb place to) 1 0 ≡ cond (to == place) 1 0 + cond (ltb from (place + 1) && leb (place + 1) to) 1 0
ends_here from to place rise = grind (arith, nat_tests)

-- those that cover a place began before it, or begin there
pub begun : (stretches : List Stretch) (place : ℕ) → All (λ s. s.from ≤ s.to) stretches → count_by (goes_on place) stretches + count_by (λ s. s.from == place) stretches ≡ covering stretches place
begun [] place rise = refl
begun (s ∷ stretches) place rise =
    let here = begins_here s.from s.to place (All-head (λ (t : Stretch). t.from ≤ t.to) s stretches rise) in
    let later = begun stretches place (All-tail (λ (t : Stretch). t.from ≤ t.to) s stretches rise) in
    omega (arith, sum_by-cons (λ (t : Stretch). cond (goes_on place t) 1 0) s stretches, sum_by-cons (λ (t : Stretch). cond (t.from == place) 1 0) s stretches, sum_by-cons (λ (t : Stretch). cond (covers place t) 1 0) s stretches, here, later)

-- and end there, or cover the next place too
pub ended : (stretches : List Stretch) (place : ℕ) → All (λ s. s.from ≤ s.to) stretches → covering stretches place ≡ count_by (λ s. s.to == place) stretches + count_by (goes_on (place + 1)) stretches
ended [] place rise = refl
ended (s ∷ stretches) place rise =
    let here = ends_here s.from s.to place (All-head (λ (t : Stretch). t.from ≤ t.to) s stretches rise) in
    let later = ended stretches place (All-tail (λ (t : Stretch). t.from ≤ t.to) s stretches rise) in
    omega (arith, sum_by-cons (λ (t : Stretch). cond (goes_on (place + 1) t) 1 0) s stretches, sum_by-cons (λ (t : Stretch). cond (t.to == place) 1 0) s stretches, sum_by-cons (λ (t : Stretch). cond (covers place t) 1 0) s stretches, here, later)

none_before : (s : Stretch) → goes_on 0 s ≡ false
none_before s = ap (λ (t : Bool). t && leb 0 s.to) (no_less s.from)
  where
    no_less : (n : ℕ) → ltb n 0 ≡ false
    no_less n = grind (arith, nat_tests)

pub none_begun : (stretches : List Stretch) → count_by (goes_on 0) stretches ≡ 0
none_begun [] = refl
none_begun (s ∷ stretches) = omega (arith, sum_by-cons (λ (t : Stretch). cond (goes_on 0 t) 1 0) s stretches, ap {B = ℕ} (λ (c : Bool). cond c 1 0) (none_before s), none_begun stretches)

-- the greatest number so far
pub greatest_more : (f : ℕ → ℕ) (n : ℕ) → fold max 0 (map f (range_with_len 0 (n + 1))) ≡ max (fold max 0 (map f (range_with_len 0 n))) (f n)
greatest_more f n = ap (fold max 0) (map-range_with_len_more f 0 n n (omega arith)) ∙ fold_push max 0 (map f (range_with_len 0 n)) (f n)
