-- Before the last run of an item's last element, the item's other elements have their last cells.
use Rattle.std.proofs.Common.{◌≡◌, ◌≢◌, ℕ, ◌+◌, ◌<◌, List, [], ◌∷◌, ◌++◌, Bool, true, false, refl, sym, ap, subst, ◌∙◌}
use mathlib.Core.Option.{some}
use lib.ListN.{get_elem?}
use Rattle.atomic_table.specs.Table.{State as TableState}
use Rattle.pk_plan.specs.Order.{Level}
use Rattle.pk_plan.specs.Shape.{exits, shape_of}
use Rattle.pk_iterate.specs.Behaviour.{Behaviour}
use Rattle.pk_iterate.specs.Runs.{values_read}
use Rattle.pk_iterate.specs.Ending.{Ends, trace, result_cell}
use Rattle.pk_core.specs.declared.events.Event.{Event}
use Rattle.pk_core.specs.declared.events.Event.TheVariants.{Finish, Stable}
use Rattle.pk_core.specs.declared.events.Status.TheVariants.{Held, Done}
use Rattle.pk_core.specs.States.{Made, Element, State, cell_in, newest, inputs_of}
use Rattle.pk_core.specs.Events.{start, Enabled, after, applied, decided, played}
use Rattle.pk_core.specs.Orders.{IsOrderOf}
use Rattle.pk_core.proofs.Basics.{neq}
use Rattle.pk_core.proofs.Keeps.{after_run, run_else}
use Rattle.pk_core.proofs.Listed.{played_more, all_more}
use Rattle.pk_layout.specs.Wirings.{Wiring}
use Rattle.pk_items.specs.Items.{top_of}
use Rattle.pk_items.specs.Over.{IsUnder, IsLast}
use Rattle.pk_items.proofs.Outermost.{tops_are_outermost}
use Rattle.pk_items.proofs.Over.{done_is_over}
use Rattle.pk_words.specs.declared.view.View.{View}
use Rattle.pk_words.specs.Views.{HasHold, IsGiven}
use Rattle.pk_words.specs.Board.{IsBoard}
use Rattle.pk_words.proofs.Facts.{held}
use Rattle.pk_words.proofs.Runs.{run_own}
use Rattle.pk_words.proofs.Steps.{reads_at}

module _ {C S : Type 0} (b : Behaviour C) (w : Wiring) (value : S → C → Type 0) (s : TableState S View) (board : IsBoard b w value s) where
  abbrev core : State C
  core = played b (shape_of w.plan) (start (shape_of w.plan)) board.events

  -- an event that ends a run of x
  record EndsRun (x : ℕ) (c : C) : Type 0 where
    event : Event
    enabled : Enabled b (shape_of w.plan) core event
    run : Made C
    gave : run.gave ≡ c
    leads : after b (shape_of w.plan) core event ≡ after_run (shape_of w.plan) core x false run

  ends_run : (x : ℕ) (c : C) → (core x).status ≡ Held → x < w.plan.elements → (exit : Bool) → exits w.plan x ≡ exit → IsGiven b exit false x (inputs_of b core x) c → EndsRun x c
  ends_run x c is_held below true exit g = record { event = Stable x; enabled = ((is_held, below), exit, g.1); run = decided b core x; gave = g.0; leads = refl }
  ends_run x c is_held below false exit g = record { event = Finish x; enabled = ((is_held, below), exit); run = applied b core x; gave = g.0; leads = refl }

  -- after it the item is over
  over_after : (x : ℕ) (c : C) → EndsRun x c → (order : Level) (ends : Ends b order) → IsOrderOf (shape_of w.plan) order → (u : ℕ) → u < w.plan.elements → top_of w.plan u ≡ x → (t : State C) × IsLast b ends t u × ((run : Made C) × (run.gave ≡ c) × (t ≡ after_run (shape_of w.plan) core x false run))
  over_after x c e order ends ordered u low top =
      let events = board.events ++ e.event ∷ [] in
      let t : State C = played b (shape_of w.plan) (start (shape_of w.plan)) events in
      let leads : t ≡ after_run (shape_of w.plan) core x false e.run = played_more b (shape_of w.plan) (start (shape_of w.plan)) board.events e.event ∙ e.leads in
      let under : IsUnder (shape_of w.plan) x u = subst (λ (j : ℕ). IsUnder (shape_of w.plan) j u) top ((tops_are_outermost w.plan board.wired.axioms).under u low) in
      let done : (t x).status ≡ Done = ap (λ (z : State C). (z x).status) leads ∙ ap (λ (y : Element C). y.status) (run_own (shape_of w.plan) core x e.run) in
      let all = all_more b (shape_of w.plan) (start (shape_of w.plan)) board.events e.event board.enabled e.enabled in
      (t, done_is_over b w.plan order ends events board.wired.axioms ordered board.wired.fits all x u low under done, (e.run, e.gave, leads))

  ends_here : (id x run : ℕ) (v : View) → get_elem? s.views id ≡ some v → x < w.plan.elements → HasHold v x run → (c : C) (order : Level) (ends : Ends b order) → IsOrderOf (shape_of w.plan) order → IsGiven b (exits w.plan x) false x (values_read b (trace ends) x (run + 1)) c → EndsRun x c
  ends_here id x run v at below hold c order ends ordered given =
      ends_run x c (held board.shows id x v at below hold.0) below (exits w.plan x) refl
      (subst (λ (xs : List C). IsGiven b (exits w.plan x) false x xs c) (sym (reads_at b w value s board id x run v at below hold order ends ordered)) given)

  -- a member of the item has its last cell
  pub last_cell : (id x run : ℕ) (v : View) → get_elem? s.views id ≡ some v → x < w.plan.elements → HasHold v x run → (c : C) (order : Level) (ends : Ends b order) → IsOrderOf (shape_of w.plan) order → IsGiven b (exits w.plan x) false x (values_read b (trace ends) x (run + 1)) c
      → (u : ℕ) → u < w.plan.elements → top_of w.plan u ≡ x → u ≢ x → cell_in b core u ≡ result_cell ends u
  last_cell id x run v at below hold c order ends ordered given u low top apart =
      let o = over_after x c (ends_here id x run v at below hold c order ends ordered given) order ends ordered u low top in
      sym (ap (λ (y : Element C). newest (b.first u) y.made) (ap (λ (z : State C). z u) o.2.2 ∙ run_else (shape_of w.plan) core x u o.2.0 (neq u x apart))) ∙ o.1.cell

  -- and the run gives that of x
  pub last_own : (id x run : ℕ) (v : View) → get_elem? s.views id ≡ some v → x < w.plan.elements → HasHold v x run → (c : C) (order : Level) (ends : Ends b order) → IsOrderOf (shape_of w.plan) order → IsGiven b (exits w.plan x) false x (values_read b (trace ends) x (run + 1)) c
      → top_of w.plan x ≡ x → c ≡ result_cell ends x
  last_own id x run v at below hold c order ends ordered given top =
      let o = over_after x c (ends_here id x run v at below hold c order ends ordered given) order ends ordered x below top in
      sym o.2.1 ∙ sym (ap (λ (y : Element C). newest (b.first x) y.made) (ap (λ (z : State C). z x) o.2.2 ∙ run_own (shape_of w.plan) core x o.2.0)) ∙ o.1.cell
