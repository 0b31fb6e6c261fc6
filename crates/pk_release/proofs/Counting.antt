-- Where an element was run only once all earlier items were over, no more points are kept than the peak.
use Rattle.std.proofs.Common.{◌≡◌, ℕ, zero, suc, ◌+◌, ◌<◌, ◌≤◌, ◌==◌, ◌⊎◌, inl, inr, List, [], ◌∷◌, length, get_or, map, fold, max, count_by, cond, Bool, true, false, ◌&&◌, ◌||◌, not, refl, ap, sym, ◌∙◌, arith}
use Rattle.std.proofs.Math.Dec.{leb, ltb}
use Rattle.std.specs.List.{range_with_len, list_any}
use Rattle.std.proofs.lemmas.Bool.{cases_lt, eq-eqb}
use Rattle.std.proofs.lemmas.List.FromFn.{length-map-range_with_len, get_or-map-range_with_len}
use Rattle.pk_plan.specs.Order.{Level}
use Rattle.pk_plan.specs.Plans.{PlanView, end_of, predecessors_of}
use Rattle.pk_plan.specs.Axioms.{Axioms}
use Rattle.pk_plan.specs.Linear.{items_of, IsLinear}
use Rattle.pk_plan.specs.Shape.{has}
use Rattle.pk_plan.proofs.PlanLemmas.{constrains_from}
use Rattle.pk_iterate.specs.Behaviour.{Behaviour}
use Rattle.pk_core.specs.States.{State}
use Rattle.pk_core.proofs.Basics.{cases, not_true, same, or_right, count_cons}
use Rattle.pk_core.proofs.Keeps.{count_none, apart_of}
use Rattle.pk_core.proofs.Plan_shapes.{of_has}
use Rattle.pk_peak.specs.Peak.{leads_from, is_read_from, is_kept as is_kept_while, kept_at, peak_of}
use Rattle.pk_items.specs.Items.{top_of}
use Rattle.pk_items.proofs.Numbers.{and_parts, is_below, is_most, max_above}
use Rattle.pk_items.proofs.Rising.{has_cases, has_later, range_has, has_range}
use Rattle.pk_release.specs.Kept.{is_done, was_run, is_over, is_read, is_kept, kept_points, is_awaited, has_cell}
use Rattle.pk_release.specs.In_order.{item_in, IsInOrder}
use Rattle.pk_release.specs.Laws.{KeepsWithinPeak, CellsAreKept}
use Rattle.pk_release.proofs.Naming.{has_here}
use Rattle.pk_release.proofs.Tops_of.{items, stands, same_item}

-- ---- counting

count_head : (a c : Bool) (m n : ℕ) → (a ≡ true → c ≡ true) → m ≤ n → cond a 1 0 + m ≤ cond c 1 0 + n
count_head true true m n h le = omega (arith, le)
count_head true false m n h le = absurd (let t = h refl in cc)
count_head false true m n h le = omega (arith, le)
count_head false false m n h le = omega (arith, le)

-- what passes f passes g
counted_most : (f g : ℕ → Bool) (xs : List ℕ) → ((u : ℕ) → has u xs ≡ true → f u ≡ true → g u ≡ true) → count_by f xs ≤ count_by g xs
counted_most f g [] h = omega arith
counted_most f g (x ∷ xs) h =
    let here = count_head (f x) (g x) (count_by f xs) (count_by g xs) (h x (has_here x xs)) (counted_most f g xs (λ u i. h u (has_later u x xs i))) in
    omega (arith, count_cons f x xs, count_cons g x xs, here)

fold_most : (xs : List ℕ) (a : ℕ) → a ≤ fold max a xs
fold_most [] a = omega arith
fold_most (x ∷ xs) a = let r = fold_most xs (max a x) in let m = max_above a x in omega (arith, r, m.0)

fold_each : (xs : List ℕ) (a k : ℕ) → k < length xs → get_or xs k 0 ≤ fold max a xs
fold_each [] a k l = absurd (omega (arith, l))
fold_each (x ∷ xs) a zero l = let r = fold_most xs (max a x) in let m = max_above a x in omega (arith, r, m.1)
fold_each (x ∷ xs) a (suc k) l = fold_each xs (max a x) k (omega (arith, l))

-- of the numbers that pass, one at which g is greatest, or none passes
pub record Greatest (f : ℕ → Bool) (g : ℕ → ℕ) (xs : List ℕ) : Type 0 where
  pub at : ℕ
  pub stands : has at xs ≡ true
  pub passes : f at ≡ true
  pub most : (u : ℕ) → has u xs ≡ true → f u ≡ true → g u ≤ g at

greatest : (f : ℕ → Bool) (g : ℕ → ℕ) (xs : List ℕ) → Greatest f g xs ⊎ ((u : ℕ) → has u xs ≡ true → f u ≡ true → ⊥)
greatest f g [] = inr (λ u h p. absurd (cc))
greatest f g (x ∷ xs) = elim (cases (f x)) [
  | inl q ↦ elim (greatest f g xs) [
    | inl t ↦ elim (cases_lt (g t.at) (g x)) [
      | inr le ↦ inl (record {
        at = t.at;
        stands = has_later t.at x xs t.stands;
        passes = t.passes;
        most = λ u h p. elim (has_cases u x xs h) [
          | inl is ↦ (let e = ap g is in omega (arith, e, le))
          | inr later ↦ t.most u later p
        ];
      })
      | inl gt ↦ inl (record {
        at = x;
        stands = has_here x xs;
        passes = q;
        most = λ u h p. elim (has_cases u x xs h) [
          | inl is ↦ (let e = ap g is in omega (arith, e))
          | inr later ↦ (let m = t.most u later p in omega (arith, m, gt))
        ];
      })
    ]
    | inr none ↦ inl (record {
      at = x;
      stands = has_here x xs;
      passes = q;
      most = λ u h p. elim (has_cases u x xs h) [
        | inl is ↦ (let e = ap g is in omega (arith, e))
        | inr later ↦ absurd (none u later p)
      ];
    })
  ]
  | inr q ↦ elim (greatest f g xs) [
    | inl t ↦ inl (record {
      at = t.at;
      stands = has_later t.at x xs t.stands;
      passes = t.passes;
      most = λ u h p. elim (has_cases u x xs h) [
        | inl is ↦ absurd (let e : f u ≡ false = ap f is ∙ q in cc)
        | inr later ↦ t.most u later p
      ];
    })
    | inr none ↦ inr (λ u h p. elim (has_cases u x xs h) [
      | inl is ↦ absurd (let e : f u ≡ false = ap f is ∙ q in cc)
      | inr later ↦ none u later p
    ])
  ]
]

-- ---- tests over lists

any_has : (f : ℕ → Bool) (xs : List ℕ) → list_any f xs ≡ true → (u : ℕ) × (has u xs ≡ true) × (f u ≡ true)
any_has f [] h = absurd (cc)
any_has f (x ∷ xs) h = elim (cases (f x)) [
  | inl q ↦ (x, has_here x xs, q)
  | inr q ↦ (let r = any_has f xs (rw q at h) in (r.0, has_later r.0 x xs r.1, r.2))
]

pub has_any : (f : ℕ → Bool) (xs : List ℕ) (u : ℕ) → has u xs ≡ true → f u ≡ true → list_any f xs ≡ true
has_any f [] u h p = absurd (cc)
has_any f (x ∷ xs) u h p = elim (has_cases u x xs h) [
  | inl is ↦ (let q : f x ≡ true = ap f (sym is) ∙ p in rw q refl)
  | inr later ↦ or_right (f x) (list_any f xs) (has_any f xs u later p)
]

both : (s t : Bool) → s ≡ true → t ≡ true → (s && t) ≡ true
both s t f g = rw (f, g) refl

or_parts : (s t : Bool) → (not s || t) ≡ true → s ≡ true → t ≡ true
or_parts true t h q = h
or_parts false t h q = absurd (cc)

not_true_is : (s : Bool) → not s ≡ true → s ≡ true → ⊥
not_true_is true h q = cc
not_true_is false h q = cc

-- ---- the peak

module _ {C : Type 0} (p : PlanView) (order : Level) (s : State C) (axioms : Axioms p) (linear : IsLinear p order) (in_order : IsInOrder p order s) where
  low : (e : ℕ) → e < p.points → e < p.elements
  low e h = omega (arith, h, axioms.counted)

  before_end : (b : ℕ) → b < end_of p → b < p.elements
  before_end b h = omega (arith, h, axioms.counted)

  pred_low : (a b : ℕ) → has a (predecessors_of p b) ≡ true → a < p.elements
  pred_low a b h = constrains_from p a b axioms (axioms.to_successor a b (of_has a (predecessors_of p b) h))

  -- at the last item of which a point was run
  kept_while : (e : ℕ) → e < p.elements → was_run s e ≡ true → (u : ℕ) → u < p.elements → item_in order u ≤ item_in order e → is_kept p s u ≡ true → is_kept_while p (item_in order) (item_in order e) u ≡ true
  kept_while e e_low e_run u u_low le kept = elim (cases (item_in order u == item_in order e)) [
    | inl q ↦ rw q refl
    | inr q ↦
        let less : item_in order u < item_in order e = (let ne = apart_of (item_in order u) (item_in order e) q in omega (arith, ne, le)) in
        let two = and_parts (was_run s u) (not (is_over p s u) || is_read p s u) kept in
        let read : is_read p s u ≡ true = or_parts (is_over p s u) (is_read p s u) two.1 (in_order e u e_low u_low e_run less) in
        let found = any_has (λ b. not (is_over p s b) && leads_from p (top_of p) (top_of p u) b) (range_with_len 0 (end_of p)) read in
        let b = found.0 in
        let parts = and_parts (not (is_over p s b)) (leads_from p (top_of p) (top_of p u) b) found.2 in
        let b_low = before_end b (has_range (end_of p) b found.1) in
        let late : item_in order e ≤ item_in order b = elim (cases_lt (item_in order b) (item_in order e)) [
          | inl earlier ↦ absurd (not_true_is (is_over p s b) parts.0 (in_order e b e_low b_low e_run earlier))
          | inr most ↦ most
        ] in
        let pred = any_has (λ a. top_of p a == top_of p u) (predecessors_of p b) parts.1 in
        let a = pred.0 in
        let a_item : item_in order a ≡ item_in order u = same_item p order axioms linear a u (pred_low a b pred.1) u_low (same (top_of p a) (top_of p u) pred.2) in
        let leads : leads_from p (item_in order) (item_in order u) b ≡ true = has_any (λ a. item_in order a == item_in order u) (predecessors_of p b) a pred.1 (eq-eqb (item_in order a) (item_in order u) a_item) in
        let reads : is_read_from p (item_in order) (item_in order u) (item_in order e) ≡ true =
        has_any (λ v. leb (item_in order e) (item_in order v) && leads_from p (item_in order) (item_in order u) v) (range_with_len 0 (end_of p)) b found.1 (both (leb (item_in order e) (item_in order b)) (leads_from p (item_in order) (item_in order u) b) (is_most (item_in order e) (item_in order b) late) leads) in
        or_right (item_in order u == item_in order e) (ltb (item_in order u) (item_in order e) && is_read_from p (item_in order) (item_in order u) (item_in order e))
        (both (ltb (item_in order u) (item_in order e)) (is_read_from p (item_in order) (item_in order u) (item_in order e)) (is_below (item_in order u) (item_in order e) less) reads)
  ]

  at_item : (j : ℕ) → j < length (items_of order) → kept_at p (item_in order) j ≤ peak_of p order
  at_item j l =
      let xs = map (kept_at p (item_in order)) (range_with_len 0 (length (items_of order))) in
      let long = length-map-range_with_len (kept_at p (item_in order)) 0 (length (items_of order)) in
      let at = get_or-map-range_with_len (kept_at p (item_in order)) 0 (length (items_of order)) j j 0 l (omega arith) in
      let r = fold_each xs 0 j (omega (arith, l, long)) in
      omega (arith, at, r)

  pub within_peak : kept_points p s ≤ peak_of p order
  within_peak = elim (greatest (was_run s) (item_in order) (range_with_len 0 p.points)) [
    | inl t ↦
        let e_low = low t.at (has_range p.points t.at t.stands) in
        let here = counted_most (is_kept p s) (is_kept_while p (item_in order) (item_in order t.at)) (range_with_len 0 p.points) (λ u u_in kept.
        let run = (and_parts (was_run s u) (not (is_over p s u) || is_read p s u) kept).0 in
        kept_while t.at e_low t.passes u (low u (has_range p.points u u_in)) (t.most u u_in run) kept) in
        let most = at_item (item_in order t.at) ((items p order axioms linear).low t.at (stands p order axioms linear t.at e_low)) in
        omega (arith, here, most)
    | inr none ↦
        let here = counted_most (is_kept p s) (λ u. false) (range_with_len 0 p.points) (λ u u_in kept. absurd (none u u_in (and_parts (was_run s u) (not (is_over p s u) || is_read p s u) kept).0)) in
        let zeros = count_none (range_with_len 0 p.points) in
        omega (arith, here, zeros)
  ]

pub keeps_within_peak : (C : Type 0) → KeepsWithinPeak C
keeps_within_peak C p order s axioms linear in_order = within_peak p order s axioms linear in_order

-- ---- cells

either : (s t : Bool) → (not s || t) ≡ true → (s ≡ false) ⊎ (t ≡ true)
either true t h = inr h
either false t h = inl refl

-- it is kept where its own item, or one that reads its item, isn't over
left_kept : {C : Type 0} (p : PlanView) (s : State C) (u : ℕ) → was_run s u ≡ true → (is_over p s u ≡ false) ⊎ (is_read p s u ≡ true) → is_kept p s u ≡ true
left_kept p s u run (inl over) = rw (run, over) refl
left_kept p s u run (inr read) = both (was_run s u) (not (is_over p s u) || is_read p s u) run (or_right (not (is_over p s u)) (is_read p s u) read)

not_over : {C : Type 0} (p : PlanView) (s : State C) (e : ℕ) → not (is_over p s e) ≡ true → is_over p s e ≡ false
not_over p s e h = not_true (is_over p s e) (not_true_is (is_over p s e) h)

pub cells_are_kept : {C : Type 0} (b : Behaviour C) → CellsAreKept b
cells_are_kept {C} b p s reads = counted_most (has_cell b p s) (is_kept p s) (range_with_len 0 p.points) (λ u u_in there. kept u there)
  where
    same_over : (v e : ℕ) → top_of p v ≡ top_of p e → is_over p s v ≡ is_over p s e
    same_over v e is = ap (λ (x : ℕ). is_done (s x).status) is

    kept : (u : ℕ) → has_cell b p s u ≡ true → is_kept p s u ≡ true
    kept u there =
        let two = and_parts (was_run s u) (not (is_over p s u) || is_awaited b p s u) there in
        left_kept p s u two.0 (elim (either (is_over p s u) (is_awaited b p s u) two.1) [
          | inl over ↦ inl over
          | inr waits ↦
              let found = any_has (λ e. not (is_over p s e) && has u (b.reads e)) (range_with_len 0 p.elements) waits in
              let e = found.0 in
              let parts = and_parts (not (is_over p s e)) (has u (b.reads e)) found.2 in
              let open_e = not_over p s e parts.0 in
              elim (reads e u (has_range p.elements e found.1) (of_has u (b.reads e) parts.1)) [
                | inl is ↦ inl (same_over u e is ∙ open_e)
                | inr one ↦ inr (
                    let v = one.0 in
                    let open_v : not (is_over p s v) ≡ true = ap not (same_over v e one.2 ∙ open_e) in
                    has_any (λ w. not (is_over p s w) && leads_from p (top_of p) (top_of p u) w) (range_with_len 0 (end_of p)) v (range_has (end_of p) v one.1) (both (not (is_over p s v)) (leads_from p (top_of p) (top_of p u) v) open_v one.3))
              ]
        ])
