-- The cells of a core and of an iteration are over the same layout.
use Rattle.std.proofs.Common.{◌≡◌, ℕ, ◌+◌, ◌*◌, List, length, map, Some, slice_get, sym, ap, subst, ◌∙◌, ◌<◌, arith}
use Rattle.std.specs.List.{range_with_len}
use Rattle.std.proofs.lemmas.List.FromFn.{get_or-map-range_with_len, length-map-range_with_len}
use Rattle.std.proofs.lemmas.Option.{slice_get-get_or}
use Rattle.pk_state.specs.Facts.{Stated}
use Rattle.pk_plan.specs.Order.{Level}
use Rattle.pk_iterate.specs.Behaviour.{Behaviour}
use Rattle.pk_iterate.specs.Iteration.{cell_after, progress}
use Rattle.pk_iterate.specs.Laws.{CellsAreHeld}
use Rattle.pk_iterate.specs.Outcome.{Outcome}
use Rattle.pk_iterate.specs.Answer.{IsResult}
use Rattle.pk_phases.specs.declared.equations.Cell.{Cell}
use Rattle.pk_phases.specs.declared.equations.Cell.TheVariants.{Value}
use Rattle.pk_phases.specs.declared.equations.Part.{Part}
use Rattle.pk_phases.specs.declared.equations.Part.TheVariants.{Point, HeadOf, ExitOf}
use Rattle.pk_phases.specs.Equations.{held_in}
use Rattle.pk_analysis.specs.Flows.{Flow, IsOverFlow}
use Rattle.pk_core.proofs.Changed_at.{found_below}

mapped_at : {C : Type 0} (f : ℕ → C) (n e : ℕ) (c : C) → slice_get (map f (range_with_len 0 n)) e ≡ Some c → f e ≡ c
mapped_at f n e c h =
    let below : e < n = omega (arith, found_below (map f (range_with_len 0 n)) e c h, length-map-range_with_len f 0 n) in
    let found : slice_get (map f (range_with_len 0 n)) e ≡ Some (f e) =
    slice_get-get_or (map f (range_with_len 0 n)) e (f e) (omega (arith, below, length-map-range_with_len f 0 n))
    ∙ ap Some (get_or-map-range_with_len f 0 n e e (f e) below (omega arith)) in
    let both : Some (f e) ≡ Some c = sym found ∙ h in
    cc

-- each cell that an iteration leaves may be held
pub cells_held : {C : Type 0} (b : Behaviour C) (may_hold : ℕ → C → Type 0) (order : Level) (elements most : ℕ) (it : Outcome C) → CellsAreHeld b may_hold → IsResult b order elements most it → (e : ℕ) (c : C) → slice_get it.cells e ≡ Some c → may_hold e c
cells_held b may_hold order elements most it held is e c found =
    subst (may_hold e) (mapped_at (cell_after b (progress b order (elements * most + 1)).runs) elements e c (ap (λ (cs : List _). slice_get cs e) (sym is.cells_after) ∙ found)) (held.cells order (elements * most + 1) e)

over_one : (a : Flow) (e : ℕ) (part : Part) (s t : Stated) → held_in (IsOverFlow a) e part (Value s) → held_in (IsOverFlow a) e part (Value t) → t.layout ≡ s.layout
over_one a e Point s t h k = k ∙ sym h
over_one a e (HeadOf exit) s t h k = k ∙ sym h
over_one a e (ExitOf head) s t h k = absurd h

pub same_layout : (a : Flow) (e : ℕ) (part : Part) (c d : Cell Stated) → held_in (IsOverFlow a) e part c → held_in (IsOverFlow a) e part d → (s t : Stated) → c ≡ Value s → d ≡ Value t → t.layout ≡ s.layout
same_layout a e part c d hc hd s t is also = over_one a e part s t (subst (held_in (IsOverFlow a) e part) is hc) (subst (held_in (IsOverFlow a) e part) also hd)
