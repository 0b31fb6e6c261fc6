-- A turn of the loop, from the place that it is at.
use Rattle.std.proofs.Common.{◌≡◌, ℕ, ◌+◌, ◌-◌, ◌*◌, ◌<◌, List, [], ◌∷◌, drop, set, length, get_or, slice_get, IfSome, ap, sym, ◌∙◌, subst, arith, zero-add, sum, All}
use Rattle.std.proofs.lemmas.List.Sums.{sum_by-set}
use Rattle.std.proofs.lemmas.List.Elements.{All-get_or}
use Rattle.std.proofs.lemmas.List.FromFn.{length-map-range_with_len, get_or-map-range_with_len}
use Rattle.std.proofs.lemmas.Option.{slice_get-get_or}
use Rattle.pk_plan.specs.declared.places.Place.{Place}
use Rattle.pk_plan.specs.Order.{Level, places_of}
use Rattle.pk_iterate.specs.Behaviour.{Behaviour, HoldEach, inputs_in, cell_made, goes_back, place_after, LeadsBackWithin, ReadsWithin}
use Rattle.pk_iterate.specs.Iteration.{Task, Run, Exit, to_do, progress, cell_after, count_of}
use Rattle.pk_iterate.specs.Answer.{IsFirstOver}
use Rattle.pk_iterate.proofs.Lists.{reads_map}
use Rattle.pk_iterate.proofs.Held.{MayHold, holds_map, held}
use Rattle.pk_iterate.proofs.Plain.{plain, cell_made-plain, goes_back_in_role-plain, place_after-plain, LeadsBackWithin-from_plain}
use Rattle.pk_iterate.proofs.Jumps.{place_of, jump}
use Rattle.pk_iterate.proofs.Next.{task_there}
use Rattle.pk_iterate.proofs.Stands.{Stands, keeps, is_first_over, sum-le}

-- the run that is left to do at a place
pub record Turn (order : Level) (elements at : ℕ) (p : Place) : Type 0 where
  pub task : Task
  pub is : drop at (to_do order []) ≡ task ∷ drop (at + 1) (to_do order [])
  pub place : plain p ≡ place_of task
  pub below : p.element < elements
  pub in_range : at < length (places_of order)

pub turn : (order : Level) (elements at : ℕ) (places : List Place) (d : Place) → places ≡ places_of order → All (λ p. p.element < elements) places → at < length places → Turn order elements at (get_or places at d)
turn order elements at places d same within in_range =
    let there : at < length (places_of order) = rw same at in_range in
    let r = task_there order at d there in
    record {
      task = r.0;
      is = r.1;
      place = ap (λ (ps : List Place). plain (get_or ps at d)) same ∙ r.2;
      below = All-get_or (λ (p : Place). p.element < elements) places at d in_range within;
      in_range = there;
    }

-- how far back an exit leads
back_within : (order : Level) (at : ℕ) (t : Task) → drop at (to_do order []) ≡ t ∷ drop (at + 1) (to_do order []) → at < length (places_of order) → LeadsBackWithin at (place_of t).role
back_within order at (Run e) is in_range = tt
back_within order at (Exit head exit rest) is in_range =
    let j = jump order [] at head exit rest (drop (at + 1) (to_do order [])) in_range is in
    omega (arith, j.1)

pub turn_back : {order : Level} {elements at : ℕ} {p : Place} → Turn order elements at p → LeadsBackWithin at p.role
turn_back {order} {elements} {at} {p} w =
    LeadsBackWithin-from_plain at p.role (subst (λ (q : Place). LeadsBackWithin at q.role) (sym w.place) (back_within order at w.task w.is w.in_range))

over_at : {C : Type 0} {b : Behaviour C} {order : Level} {elements most : ℕ} {cells : List C} {runs : List ℕ} {at : ℕ} (t : Task) → Stands b order elements most cells runs at → (place_of t).element < elements → drop at (to_do order []) ≡ t ∷ drop (at + 1) (to_do order []) → get_or runs (place_of t).element 0 ≡ most → IsFirstOver b order elements most (place_of t).element
over_at (Run e) s below is full = is_first_over (Run e) s below is full
over_at (Exit head exit rest) s below is full = is_first_over (Exit head exit rest) s below is full

-- at the limit
pub turn_over : {C : Type 0} {b : Behaviour C} {order : Level} {elements most : ℕ} {cells : List C} {runs : List ℕ} {at : ℕ} {p : Place} → Turn order elements at p → Stands b order elements most cells runs at → get_or runs p.element 0 ≡ most → IsFirstOver b order elements most p.element
turn_over {b = b} {order = order} {elements = elements} {most = most} {runs = runs} {p = p} w s full =
    let here : get_or runs (place_of w.task).element 0 ≡ most = ap (λ (q : Place). get_or runs q.element 0) (sym w.place) ∙ full in
    let below : (place_of w.task).element < elements = subst (λ (q : Place). q.element < elements) w.place w.below in
    subst (λ (q : Place). IsFirstOver b order elements most q.element) (sym w.place) (over_at w.task s below w.is here)

keeps_at : {C : Type 0} (b : Behaviour C) (order : Level) (elements most at : ℕ) (cells : List C) (runs : List ℕ) (t : Task) → ReadsWithin b elements → (place_of t).element < elements → Stands b order elements most cells runs at → at < length (places_of order) → drop at (to_do order []) ≡ t ∷ drop (at + 1) (to_do order []) → get_or runs (place_of t).element 0 < most → Stands b order elements most (set cells (place_of t).element (cell_made b (place_of t) (inputs_in b cells (place_of t).element))) (set runs (place_of t).element (get_or runs (place_of t).element 0 + 1)) (place_after at (place_of t).role (goes_back b (place_of t) (inputs_in b cells (place_of t).element)))
keeps_at b order elements most at cells runs (Run e) reads below s in_range is room = keeps b order elements most at cells runs (Run e) reads below s in_range is room
keeps_at b order elements most at cells runs (Exit head exit rest) reads below s in_range is room = keeps b order elements most at cells runs (Exit head exit rest) reads below s in_range is room

-- a run keeps what holds
pub turn_keeps : {C : Type 0} {b : Behaviour C} {order : Level} {elements most at : ℕ} {cells : List C} {runs : List ℕ} {p : Place} (cells' : List C) (runs' : List ℕ) (at' : ℕ) → Turn order elements at p → ReadsWithin b elements → Stands b order elements most cells runs at → get_or runs p.element 0 < most → cells' ≡ set cells p.element (cell_made b p (inputs_in b cells p.element)) → runs' ≡ set runs p.element (get_or runs p.element 0 + 1) → at' ≡ place_after at p.role (goes_back b p (inputs_in b cells p.element)) → Stands b order elements most cells' runs' at'
turn_keeps {C} {b = b} {order = order} {elements = elements} {most = most} {at = at} {cells = cells} {runs = runs} {p = p} cells' runs' at' w reads s room c r a =
    let below : (place_of w.task).element < elements = subst (λ (q : Place). q.element < elements) w.place w.below in
    let room' : get_or runs (place_of w.task).element 0 < most = subst (λ (q : Place). get_or runs q.element 0 < most) w.place room in
    let core = keeps_at b order elements most at cells runs w.task reads below s w.in_range w.is room' in
    let inputs : List C = inputs_in b cells p.element in
    let here : Stands b order elements most (set cells p.element (cell_made b (plain p) inputs)) (set runs p.element (get_or runs p.element 0 + 1)) (place_after at (plain p).role (goes_back b (plain p) inputs)) =
    subst (λ (q : Place). Stands b order elements most (set cells q.element (cell_made b q (inputs_in b cells q.element))) (set runs q.element (get_or runs q.element 0 + 1)) (place_after at q.role (goes_back b q (inputs_in b cells q.element)))) (sym w.place) core in
    let cells_are : cells' ≡ set cells p.element (cell_made b (plain p) inputs) = c ∙ sym (ap (set cells p.element) (cell_made-plain b p inputs)) in
    let at_is : at' ≡ place_after at (plain p).role (goes_back b (plain p) inputs) = a ∙ sym (ap (place_after at p.role) (goes_back_in_role-plain b p.element p.role inputs)) ∙ sym (place_after-plain at p.role (goes_back b (plain p) inputs)) in
    rw (cells_are, r, at_is) here

-- the cells and the counts are one for each element
pub cells_long : {C : Type 0} {b : Behaviour C} {order : Level} {elements most at : ℕ} {cells : List C} {runs : List ℕ} → Stands b order elements most cells runs at → length cells ≡ elements
cells_long {b = b} {order = order} {elements = elements} {runs = runs} s = ap length s.cells_after ∙ length-map-range_with_len (cell_after b (progress b order (sum runs)).runs) 0 elements

pub runs_long : {C : Type 0} {b : Behaviour C} {order : Level} {elements most at : ℕ} {cells : List C} {runs : List ℕ} → Stands b order elements most cells runs at → length runs ≡ elements
runs_long {b = b} {order = order} {elements = elements} {runs = runs} s = ap length s.counts ∙ length-map-range_with_len (count_of (progress b order (sum runs)).runs) 0 elements

-- what a run reads may be held
pub inputs_held : {C : Type 0} (b : Behaviour C) (may_hold : ℕ → C → Type 0) {order : Level} {elements most at : ℕ} {cells : List C} {runs : List ℕ} → MayHold b may_hold → ReadsWithin b elements → Stands b order elements most cells runs at → (e : ℕ) → e < elements → HoldEach may_hold (b.reads e) (inputs_in b cells e)
inputs_held b may_hold {order} {elements} {runs = runs} laws reads s e below =
    let f = cell_after b (progress b order (sum runs)).runs in
    rw (s.cells_after, reads_map f elements (b.reads e) (reads e below)) (holds_map may_hold f (b.reads e) (held b may_hold laws order (sum runs)))

-- and so may the element's own cell
pub own_held : {C : Type 0} (b : Behaviour C) (may_hold : ℕ → C → Type 0) {order : Level} {elements most at : ℕ} {cells : List C} {runs : List ℕ} → MayHold b may_hold → Stands b order elements most cells runs at → (e : ℕ) → e < elements → IfSome (slice_get cells e) (may_hold e)
own_held b may_hold {order} {elements} {cells = cells} {runs = runs} laws s e below =
    let f = cell_after b (progress b order (sum runs)).runs in
    let here = slice_get-get_or cells e (f e) (rw (cells_long s) below) in
    let is : get_or cells e (f e) ≡ f e = rw s.cells_after (get_or-map-range_with_len f 0 elements e e (f e) below (zero-add e)) in
    rw (here, is) (held b may_hold laws order (sum runs) e)

-- each run is one of the few that there may be
pub smaller : {C : Type 0} {b : Behaviour C} {order : Level} {elements most at at' : ℕ} {cells cells' : List C} {runs runs' : List ℕ} (e : ℕ) → Stands b order elements most cells runs at → Stands b order elements most cells' runs' at' → e < elements → runs' ≡ set runs e (get_or runs e 0 + 1) → elements * most - sum runs' < elements * most - sum runs
smaller {elements = elements} {most = most} {runs = runs} {runs' = runs'} e s s' below is =
    let more = sum_by-set (λ (r : ℕ). r) runs e (get_or runs e 0 + 1) 0 (rw (runs_long s) below) in
    let one : sum runs' ≡ sum runs + 1 = rw is (omega (arith, more)) in
    omega (arith, one, sum-le s')
