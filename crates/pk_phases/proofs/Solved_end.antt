-- Once no run is left the equations are solved.
use Rattle.std.proofs.Common.{◌≡◌, ℕ, suc, ◌+◌, ◌<◌, inl, inr, List, [], ◌∷◌, ◌++◌, map, length, ap, sym, subst, ◌∙◌, refl, arith, Contains, true}
use Rattle.std.specs.List.{slice_index_or}
use Rattle.std.proofs.lemmas.List.Elements.{Contains-append_cases}
use Rattle.pk_plan.specs.declared.places.Role.{Role}
use Rattle.pk_plan.specs.declared.places.Role.TheVariants.{Vertex, Head, Exit as AtExit}
use Rattle.pk_plan.specs.declared.places.Place.{Place}
use Rattle.pk_plan.specs.Order.{Level, Empty, Vertex_then, Component_then, places_of}
use Rattle.pk_iterate.specs.declared.systems.Decision.{Decision}
use Rattle.pk_iterate.specs.declared.systems.Decision.TheVariants.{Stable, Again}
use Rattle.pk_iterate.specs.Behaviour.{Behaviour, cell_in_role}
use Rattle.pk_iterate.specs.Iteration.{count_of, cell_after, inputs_after}
use Rattle.pk_iterate.specs.Laws.{IsMade}
use Rattle.pk_iterate.specs.Runs.{values_read}
use Rattle.pk_iterate.specs.Settled.{In, Once, Ahead, IsExit as IsExitIn, before_newest, IsSettled}
use Rattle.pk_iterate.specs.Ending.{Ends, trace, result_cell}
use Rattle.pk_iterate.specs.BoundedTurns.{HasComponent}
use Rattle.pk_iterate.proofs.Settles.{whole_settled}
use Rattle.pk_iterate.proofs.Run_values.{run_value_newest, values_read_is, run_made}
use Rattle.pk_phases.specs.declared.phases.Phase.{Phase}
use Rattle.pk_phases.specs.declared.equations.Cell.{Cell}
use Rattle.pk_phases.specs.declared.equations.Cell.TheVariants.{Value}
use Rattle.pk_phases.specs.declared.equations.Part.TheVariants.{Point, ExitOf}
use Rattle.pk_phases.specs.Values.{decided_phase}
use Rattle.pk_phases.specs.Equations.{Equations, value_of, phase_of, new_value, exit_cell, behaviour_of, PartsAreOf}
use Rattle.pk_phases.specs.Solved.{SourcesAhead, EndIsSolved}
use Rattle.pk_phases.proofs.Stable_phases.{stable_is_below}

-- the head stands to the left of the exit
exit_in : (order : Level) (head exit : ℕ) → HasComponent order head exit → IsExitIn order exit
exit_in Empty head exit i = absurd i
exit_in (Vertex_then v more) head exit i = exit_in more head exit i
exit_in (Component_then h x rest more) head exit (inl same) = inl same.1
exit_in (Component_then h x rest more) head exit (inr (inl i)) = inr (inl (exit_in rest head exit i))
exit_in (Component_then h x rest more) head exit (inr (inr i)) = inr (inr (exit_in more head exit i))

head_ahead : (order : Level) (head exit : ℕ) → HasComponent order head exit → Ahead order head exit
head_ahead Empty head exit i = absurd i
head_ahead (Vertex_then v more) head exit i = inr (head_ahead more head exit i)
head_ahead (Component_then h x rest more) head exit (inl same) = inl (same.0, inr (inl same.1))
head_ahead (Component_then h x rest more) head exit (inr (inl i)) = inr (inr (inr (inl (head_ahead rest head exit i))))
head_ahead (Component_then h x rest more) head exit (inr (inr i)) = inr (inr (inr (inr (head_ahead more head exit i))))

only : (x y : Place) → Contains (x ∷ []) y → y ≡ x
only x y (k, within, is) =
    let first : k ≡ 0 = omega (arith, within) in
    sym (subst (λ (i : ℕ). slice_index_or (x ∷ []) i y ≡ y) first is)

no_vertex : {X : Type 0} (back : ℕ) → Vertex ≡ AtExit back → X
no_vertex back is = absurd (cc)

no_head : {X : Type 0} (back : ℕ) → Head ≡ AtExit back → X
no_head back is = absurd (cc)

-- a place that is an exit's ends a component
ends_component : (order : Level) (place : Place) (back : ℕ) → Contains (places_of order) place → place.role ≡ AtExit back → (head : ℕ) × HasComponent order head place.element
ends_component Empty place back has is = absurd (omega (arith, has.1))
ends_component (Vertex_then v more) place back has is =
    let first : Place = record { element = v; role = Vertex } in
    elim (Contains-append_cases (first ∷ []) (places_of more) place has) [
      | inl here ↦ no_vertex back (sym (ap (λ (p : Place). p.role) (only first place here)) ∙ is)
      | inr there ↦ ends_component more place back there is
    ]
ends_component (Component_then h x rest more) place back has is =
    let first : Place = record { element = h; role = Head } in
    let last : Place = record { element = x; role = AtExit (length (places_of rest) + 1) } in
    elim (Contains-append_cases (first ∷ []) (places_of rest ++ last ∷ places_of more) place has) [
      | inl here ↦ no_head back (sym (ap (λ (p : Place). p.role) (only first place here)) ∙ is)
      | inr there ↦ elim (Contains-append_cases (places_of rest) (last ∷ places_of more) place there) [
        | inl inside ↦ (let r = ends_component rest place back inside is in (r.0, inr (inl r.1)))
        | inr after ↦ elim (Contains-append_cases (last ∷ []) (places_of more) place after) [
          | inl here ↦ (h, inl (refl, ap (λ (p : Place). p.element) (only last place here)))
          | inr later ↦ (let r = ends_component more place back later is in (r.0, inr (inr r.1)))
        ]
      ]
    ]

-- values that are the same at each of some elements
same_each : {A : Type 0} (f g : ℕ → A) (us : List ℕ) → ((u : ℕ) → Contains us u → f u ≡ g u) → map f us ≡ map g us
same_each f g [] same = refl
same_each f g (u ∷ us) same =
    let first = same u (0, omega arith, refl) in
    let others = same_each f g us (λ v has. same v (suc has.0, omega (arith, has.1), has.2)) in
    rw (first, others) refl

stable_phase : {V : Type 0} (d : Decision Phase) (c : Cell V) → exit_cell d ≡ Stable c → (p : Phase) × (d ≡ Stable p)
stable_phase (Stable p) c is = (p, refl)
stable_phase (Again p) c is = absurd (cc)

module _ {V : Type 0} (q : Equations V) (order : Level) (once : Once order) (parts : PartsAreOf q order) (ahead : SourcesAhead q order) (ends : Ends (behaviour_of q) order) where
  abbrev b : Behaviour (Cell V)
  b = behaviour_of q

  settled : IsSettled b order (trace ends)
  settled = whole_settled b order ends.made once ends.whole

  -- what was ahead of an element's newest run is what is left
  read_at : (e : ℕ) (us : List ℕ) → ((u : ℕ) → Contains us u → Ahead order u e) → map (cell_after b (before_newest (trace ends) e)) us ≡ map (result_cell ends) us
  read_at e us each = same_each (cell_after b (before_newest (trace ends) e)) (result_cell ends) us (λ u has. settled.read u e (each u has))

  heads : (head exit : ℕ) → HasComponent order head exit → q.ops.leq (new_value q head (map (result_cell ends) (q.sources head))) (value_of q.bottom (result_cell ends head)) ≡ true
  heads head exit i =
      let f = cell_after b (before_newest (trace ends) exit) in
      let stable = settled.ends exit (exit_in order head exit i) in
      let exit_is = (parts head exit i).1 in
      let d = decided_phase q.ops q.delay q.narrow (phase_of (f exit)) (value_of q.bottom (f head)) (new_value q head (map f (q.sources head))) in
      let here : b.decide exit (map f (b.reads exit)) ≡ exit_cell d = rw exit_is refl in
      let phase = stable_phase d stable.0 (sym here ∙ stable.1) in
      let below = stable_is_below q.delay q.narrow (phase_of (f exit)) phase.0 _ _ phase.1 in
      let sources = read_at exit (q.sources head) (λ u has. ahead.heads head exit u i has) in
      let own = settled.read head exit (head_ahead order head exit i) in
      subst (λ (c : Cell V). q.ops.leq (new_value q head (map (result_cell ends) (q.sources head))) (value_of q.bottom c) ≡ true) own
      (subst (λ (cs : List (Cell V)). q.ops.leq (new_value q head cs) (value_of q.bottom (f head)) ≡ true) sources below.0)

  -- a point's run
  point_run : (e : ℕ) (role : Role) (inputs : List (Cell V)) → q.part e ≡ Point → ((back : ℕ) → role ≡ AtExit back → ⊥) → cell_in_role b e role inputs ≡ Value (new_value q e inputs)
  point_run e Vertex inputs is not_exit = rw is refl
  point_run e Head inputs is not_exit = rw is refl
  point_run e (AtExit back) inputs is not_exit = absurd (not_exit back refl)

  points : (v : ℕ) → In order v → q.part v ≡ Point → result_cell ends v ≡ Value (new_value q v (map (result_cell ends) (q.sources v)))
  points v i is =
      let runs = trace ends in
      let k : ℕ = count_of runs v in
      let some : 0 < k = settled.each v i in
      let made : IsMade b order runs v k = run_made b order ends.made v k some (omega arith) in
      let inputs = values_read b runs v k in
      let not_exit = (λ (back : ℕ) (role : made.place.role ≡ AtExit back).
      let c = ends_component order made.place back made.stands role in
      clash made.place.element c.0 (parts c.0 made.place.element c.1).1 (ap q.part made.element ∙ is)) in
      let here : cell_in_role b made.place.element made.place.role inputs ≡ Value (new_value q made.place.element inputs) = point_run made.place.element made.place.role inputs (ap q.part made.element ∙ is) not_exit in
      let there : inputs ≡ map (cell_after b (before_newest runs v)) (q.sources v) = values_read_is b runs v k ∙ ap (λ (rs : List (ℕ × Cell V)). inputs_after b rs v) (settled.named v i) ∙ rw is refl in
      let sources = read_at v (q.sources v) (λ u has. ahead.points v u i is has) in
      sym (run_value_newest b runs v) ∙ made.made ∙ here
      ∙ ap (λ (e : ℕ). Value (new_value q e inputs)) made.element
      ∙ ap (λ (cs : List (Cell V)). Value (new_value q v cs)) (there ∙ sources)
    where
      clash : (e head : ℕ) → q.part e ≡ ExitOf head → q.part e ≡ Point → ⊥
      clash e head x y = let no_part : Point ≡ ExitOf head = sym y ∙ x in absurd (cc)

pub end_is_solved : {V : Type 0} (q : Equations V) → EndIsSolved q
end_is_solved q order once parts ahead ends = record { points = points q order once parts ahead ends; heads = heads q order once parts ahead ends }
