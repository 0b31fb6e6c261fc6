-- What the code's elements tell of a state that they show.
use Rattle.std.proofs.Common.{◌≡◌, ◌↔◌, ℕ, zero, suc, ◌<◌, List, [], ◌∷◌, map, length, get_or, slice_get, Some, Bool, true, false, not, refl, sym, ap, subst, ◌∙◌, arith, All, IsTrue, Contains}
use Rattle.std.specs.List.{filter_map, range_with_len}
use Rattle.std.proofs.Math.Bool.{beq}
use Rattle.std.proofs.lemmas.List.{length-map}
use Rattle.std.proofs.lemmas.List.Elements.{All-head, All-tail}
use Rattle.std.proofs.lemmas.List.FromFn.{get_or-map-range_with_len, length-map-range_with_len}
use Rattle.std.proofs.lemmas.Option.{slice_get-map, slice_get-get_or, slice_get_read}
use Rattle.pk_plan.specs.Plans.{PlanView}
use Rattle.pk_plan.specs.Shape.{has, shape_of}
use Rattle.pk_iterate.specs.Behaviour.{Behaviour, HoldEach, ReadsWithin}
use Rattle.pk_core.specs.declared.entries.Entry.{Entry}
use Rattle.pk_core.specs.declared.events.Status.{Status}
use Rattle.pk_core.specs.States.{State, cell_in}
use Rattle.pk_core.specs.Events.{start}
use Rattle.pk_core.specs.Shown.{Standing, CoreView, StandsAs, StandAs, Shows}
use Rattle.pk_core.specs.Entries.{standing_of, cells_of, first_standing, AreKept}
use Rattle.pk_core.proofs.Changed_at.{found_below}
use Rattle.pk_core.proofs.Plan_shapes.{has_of, of_has}

-- an entry that is read, among the elements that a core shows
pub read_at : {C : Type 0} (xs : List (Entry C)) (ys : List (Standing C)) (e : ℕ) (x : Entry C) → map standing_of xs ≡ ys → e < length xs → x ≡ get_or xs e x → slice_get ys e ≡ Some (standing_of x)
read_at xs ys e x is below read =
    let found = slice_get_read xs (length xs) e x refl below read in
    ap (λ zs. slice_get zs e) (sym is) ∙ rw (slice_get-map standing_of xs e, found) refl

pub as_long : {C : Type 0} (xs : List (Entry C)) (ys : List (Standing C)) → map standing_of xs ≡ ys → length xs ≡ length ys
as_long xs ys is = sym (length-map xs standing_of) ∙ ap length is

-- ---- tests

-- a test of the status of an element that is read
pub status_tells : {Y C : Type 0} (b : Behaviour C) (v : CoreView Y C) (e : ℕ) (x : Standing C) (r : Bool) (status : Status) (s : State C) → slice_get v.elements e ≡ Some x → IsTrue r ↔ (x.status ≡ status) → Shows b v s → IsTrue r ↔ (((s e).status ≡ status) × (e < v.plan.elements))
status_tells b v e x r status s found tells shown = (
  (λ t. (sym (shown.each e x found).status ∙ tells.0 t, omega (arith, found_below v.elements e x found, shown.long))),
  (λ q. tells.1 ((shown.each e x found).status ∙ q.0)),
)

-- past the elements nothing is so
pub past_tells : {Y C : Type 0} (v : CoreView Y C) (e : ℕ) (P : Type 0) → (e < v.plan.elements → ⊥) → IsTrue false ↔ (P × (e < v.plan.elements))
past_tells v e P past = ((λ t. absurd (cc)), (λ q. absurd (past q.1)))

pub sends_tell : {Y C : Type 0} (b : Behaviour C) (v : CoreView Y C) (u w : ℕ) (x : Standing C) (r : Bool) (s : State C) → slice_get v.elements u ≡ Some x → w < v.plan.elements → IsTrue r ↔ Contains x.sends w → Shows b v s → IsTrue r ↔ ((u < v.plan.elements) × (w < v.plan.elements) × (has w (s u).sends ≡ true))
sends_tell b v u w x r s found below tells shown =
    let same = (shown.each u x found).sends in (
      (λ t. (omega (arith, found_below v.elements u x found, shown.long), below, ap (has w) (sym same) ∙ has_of w x.sends (tells.0 t))),
      (λ q. tells.1 (of_has w x.sends (ap (has w) same ∙ q.2))),
    )

pub beq_tells : (c d : Bool) → IsTrue (beq c d) ↔ (c ≡ d)
beq_tells true true = ((λ t. refl), (λ q. refl))
beq_tells true false = ((λ t. absurd (cc)), (λ q. absurd (cc)))
beq_tells false true = ((λ t. absurd (cc)), (λ q. absurd (cc)))
beq_tells false false = ((λ t. refl), (λ q. refl))

-- ---- what an element reads

pub held_inputs : {C : Type 0} (may_hold : ℕ → C → Type 0) (n : ℕ) (xs : List (Standing C)) (us : List ℕ) → length xs ≡ n → ((e : ℕ) (x : Standing C) → slice_get xs e ≡ Some x → may_hold e x.cell) → All (λ u. u < n) us → HoldEach may_hold us (filter_map (slice_get (cells_of xs)) us)
held_inputs may_hold n xs [] long held within = tt
held_inputs {C} may_hold n xs (u ∷ us) long held within =
    let below : u < length xs = omega (arith, long, All-head (λ (w : ℕ). w < n) u us within) in
    let rest = held_inputs may_hold n xs us long held (All-tail (λ (w : ℕ). w < n) u us within) in
    by (get_at xs u below) rest
  where
    get_at : (ys : List (Standing C)) (k : ℕ) → k < length ys → (x : Standing C) × (slice_get ys k ≡ Some x)
    get_at [] k below = absurd (omega (arith, below))
    get_at (y ∷ ys) zero below = (y, refl)
    get_at (y ∷ ys) (suc k) below = get_at ys k (omega (arith, below))

    by : (x : Standing C) × (slice_get xs u ≡ Some x) → HoldEach may_hold us (filter_map (slice_get (cells_of xs)) us) → HoldEach may_hold (u ∷ us) (filter_map (slice_get (cells_of xs)) (u ∷ us))
    by x rest =
        let found = x.1 in
        rw (slice_get-map (λ (y : Standing C). y.cell) xs u, found) (held u x.0 found, rest)

pub shown_inputs : {C : Type 0} (b : Behaviour C) (n : ℕ) (xs : List (Standing C)) (s : State C) (us : List ℕ) → StandAs b n xs s → All (λ u. u < n) us → filter_map (slice_get (cells_of xs)) us ≡ map (cell_in b s) us
shown_inputs b n xs s [] shown within = refl
shown_inputs {C} b n xs s (u ∷ us) shown within =
    let below : u < length xs = omega (arith, shown.long, All-head (λ (w : ℕ). w < n) u us within) in
    by (get_at xs u below) (shown_inputs b n xs s us shown (All-tail (λ (w : ℕ). w < n) u us within))
  where
    get_at : (ys : List (Standing C)) (k : ℕ) → k < length ys → (x : Standing C) × (slice_get ys k ≡ Some x)
    get_at [] k below = absurd (omega (arith, below))
    get_at (y ∷ ys) zero below = (y, refl)
    get_at (y ∷ ys) (suc k) below = get_at ys k (omega (arith, below))

    by : (x : Standing C) × (slice_get xs u ≡ Some x) → filter_map (slice_get (cells_of xs)) us ≡ map (cell_in b s) us → filter_map (slice_get (cells_of xs)) (u ∷ us) ≡ map (cell_in b s) (u ∷ us)
    by x rest =
        let found = x.1 in
        let cell = (shown.each u x.0 found).cell in
        rw (slice_get-map (λ (y : Standing C). y.cell) xs u, found, cell, rest) refl

-- ---- the start

first_at : {C : Type 0} (b : Behaviour C) (p : PlanView) (n e : ℕ) (x : Standing C) → slice_get (map (first_standing b p) (range_with_len 0 n)) e ≡ Some x → (e < n) × (first_standing b p e ≡ x)
first_at b p n e x h =
    let below : e < n = omega (arith, found_below (map (first_standing b p) (range_with_len 0 n)) e x h, length-map-range_with_len (first_standing b p) 0 n) in
    let found : slice_get (map (first_standing b p) (range_with_len 0 n)) e ≡ Some (first_standing b p e) =
    slice_get-get_or (map (first_standing b p) (range_with_len 0 n)) e (first_standing b p e) (omega (arith, below, length-map-range_with_len (first_standing b p) 0 n))
    ∙ ap Some (get_or-map-range_with_len (first_standing b p) 0 n e e (first_standing b p e) below (omega arith)) in
    let both : Some (first_standing b p e) ≡ Some x = sym found ∙ h in
    (below, cc)

pub start_shown : {C : Type 0} (b : Behaviour C) (p : PlanView) (xs : List (Standing C)) → xs ≡ map (first_standing b p) (range_with_len 0 p.elements) → StandAs b p.elements xs (start (shape_of p))
start_shown {C} b p xs is = subst (λ ys. StandAs b p.elements ys (start (shape_of p))) (sym is) (record {
  long = length-map-range_with_len (first_standing b p) 0 p.elements;
  each = λ e x h. subst (λ (z : Standing C). StandsAs b e z (start (shape_of p) e)) (first_at b p p.elements e x h).1 (record { status = refl; run = refl; cell = refl; sends = refl });
})

pub start_kept : {C : Type 0} (b : Behaviour C) (may_hold : ℕ → C → Type 0) (p : PlanView) (xs : List (Standing C)) → xs ≡ map (first_standing b p) (range_with_len 0 p.elements) → ((e : ℕ) → may_hold e (b.first e)) → ReadsWithin b p.elements → AreKept b may_hold p.elements xs
start_kept {C} b may_hold p xs is first within = subst (λ ys. AreKept b may_hold p.elements ys) (sym is) (record {
  long = length-map-range_with_len (first_standing b p) 0 p.elements;
  held = λ e x h. subst (λ (z : Standing C). may_hold e z.cell) (first_at b p p.elements e x h).1 (first e);
  within = within;
})

-- ---- an exit's decision

pub no_exit : {P Q R : Type 0} → (P → ⊥) → IsTrue false ↔ (P × Q × R)
no_exit f = ((λ t. absurd (cc)), (λ q. absurd (f q.0)))

pub decision_tells : {P Q : Type 0} (r c d : Bool) → P → Q → r ≡ beq c d → {now : Bool} → c ≡ now → IsTrue r ↔ (P × Q × (now ≡ d))
decision_tells r c d p q is same = (
  (λ t. (p, q, sym same ∙ (beq_tells c d).0 (sym is ∙ t))),
  (λ w. is ∙ (beq_tells c d).1 (same ∙ w.2)),
)

pub finish_tells : {P : Type 0} (r : Bool) → P → {exit : Bool} → r ≡ exit → IsTrue (not r) ↔ (P × (exit ≡ false))
finish_tells true p is = ((λ t. absurd (cc)), (λ q. absurd (let none = q.1 in cc)))
finish_tells false p is = ((λ t. (p, sym is)), (λ q. refl))

pub not_held : {P Q : Type 0} (r : Bool) → r ≡ false → IsTrue r ↔ P → IsTrue r ↔ (P × Q)
not_held r none tells = ((λ t. absurd (cc)), (λ q. tells.1 q.0))
