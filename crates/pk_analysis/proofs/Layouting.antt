-- The layouts of an analysis are over the graph's variables.
use Rattle.std.proofs.Common.{◌≡◌, ◌<◌, ◌^◌, inl, inr, ℕ, refl, ap, ◌∙◌, Bool, true, false, not, if◌then◌else◌, List, [], ◌∷◌, length, map, slice_index_or, is_some, Option, Some, None, arith, All}
use Rattle.std.proofs.lemmas.Bool.{and_parts}
use Rattle.std.proofs.lemmas.List.{get_or_default, get_or-map, length-map}
use Rattle.std.proofs.lemmas.List.Elements.{All-cons, All-map}
use Rattle.pk_graph.specs.Kinds.{Kind, no_kind, IsScalar}
use Rattle.pk_graph.specs.Graphs.{EdgeOf, VariableOf, GraphOf, no_variable, variable_at, kinds_of}
use Rattle.pk_graph.specs.OctagonVariables.{octagon_variables_of}
use Rattle.pk_octagons.specs.Packs.{chosen_at}
use Rattle.pk_octagons.specs.Members.{IsChosen}
use Rattle.pk_state.specs.Layouts.{IsLayout}
use Rattle.pk_transfer.specs.Graphs.{layout_over, IsPackOfGraph}
use Rattle.pk_transfer.specs.Trees.{IsOver}
use Rattle.pk_transfer.proofs.Layouting.{graphs_over}
use Rattle.pk_plan.specs.declared.components.Component.{Component}
use Rattle.pk_plan.specs.Plans.{PlanView}
use Rattle.pk_packs.specs.Belongs.{lies_in, lies_in_none}
use Rattle.pk_packs.specs.Packs.{with_edges, variables_over, packs_of}
use Rattle.pk_packs.specs.Laws.{IsAskedOver}
use Rattle.pk_packs.proofs.PackLemmas.{variables_are_first}
use Rattle.pk_analysis.specs.declared.analysis.Options.{Options}
use Rattle.pk_analysis.specs.Layouts.{layout_for, LayoutsAreOver}

no_length : (o : Option ℕ) → not (is_some o) ≡ true → o ≡ None
no_length None e = refl
no_length (Some n) e = absurd (cc)

asked_scalar : (g : GraphOf) (f : ℕ → EdgeOf → Bool) (x : ℕ) → IsAskedOver g f x → IsScalar (kinds_of g) x
asked_scalar g f x h =
    let v = variable_at g x in
    record {
      there = omega (arith, h.there, length-map g.variables (λ (v : VariableOf). v.kind));
      scalar =
          ap (λ (k : Kind). k.length) (get_or-map (λ (v : VariableOf). v.kind) g.variables x no_variable no_kind h.there)
          ∙ no_length v.kind.length (and_parts (not (is_some v.kind.length)) (is_some v.name) h.scalar).0;
    }

-- a variable of the octagon that some edges ask for
abbrev IsOneOf : List ℕ → ℕ → Type 0
IsOneOf xs x = (k : ℕ) × (k < length xs) × (chosen_at xs k ≡ x)

one_scalar : (g : GraphOf) (f : ℕ → EdgeOf → Bool) (n x : ℕ) → IsOneOf (variables_over g f n) x → IsScalar (kinds_of g) x
one_scalar g f n x i =
    let xs = variables_over g f n in
    asked_scalar g f x ((variables_are_first g f n).each x (i.0, i.1, get_or_default xs i.0 x 0 i.1 ∙ i.2))

inner_scalar : (g : GraphOf) (p : PlanView) (n : ℕ) (cs : List Component) (x : ℕ) → IsChosen (map (λ (c : Component). variables_over g (lies_in p c) n) cs) x → IsScalar (kinds_of g) x
inner_scalar g p n [] x i = absurd i
inner_scalar g p n (c ∷ cs) x (inl i) = one_scalar g (lies_in p c) n x i
inner_scalar g p n (c ∷ cs) x (inr i) = inner_scalar g p n cs x i

pack_scalar : (g : GraphOf) (p : PlanView) (n x : ℕ) → IsChosen (packs_of g p n) x → IsScalar (kinds_of g) x
pack_scalar g p n x (inl i) = one_scalar g (lies_in_none p) n x i
pack_scalar g p n x (inr i) = inner_scalar g p n p.components x i

over_for : (g : GraphOf) (p : PlanView) (o : Options) → IsOver (kinds_of g) (layout_for g p o)
over_for g p o = by o.packs
  where
    by : (b : Bool) → IsOver (kinds_of g) (layout_over g (if b then packs_of g p o.oct else octagon_variables_of g o.oct ∷ []))
    by true = record { types = refl; further = refl; scalars = pack_scalar g p o.oct }
    by false = graphs_over.over g o.oct

-- and each is a pack of the graph
pub are_packs : (g : GraphOf) (p : PlanView) (n : ℕ) → n < 2 ^ 31 → All (IsPackOfGraph g) (packs_of g p n)
are_packs g p n few =
    All-cons (IsPackOfGraph g) (variables_over g (lies_in_none p) n) (map (λ (c : Component). variables_over g (lies_in p c) n) p.components)
    (graphs_over.packs g (with_edges (lies_in_none p) 0 g.points) n few)
    (All-map (IsPackOfGraph g) (λ (c : Component). variables_over g (lies_in p c) n) p.components
    (λ k d h. graphs_over.packs g (with_edges (lies_in p (slice_index_or p.components k d)) 0 g.points) n few))

layout_is : (g : GraphOf) (p : PlanView) (o : Options) → o.oct < 2 ^ 31 → IsLayout (layout_for g p o)
layout_is g p o few = by o.packs
  where
    by : (b : Bool) → IsLayout (layout_over g (if b then packs_of g p o.oct else octagon_variables_of g o.oct ∷ []))
    by true = graphs_over.layouts_of_packs g (packs_of g p o.oct) (are_packs g p o.oct few)
    by false = graphs_over.layouts g o.oct few

pub layouts_over : LayoutsAreOver
layouts_over = record { layouts = layout_is; over = over_for }
