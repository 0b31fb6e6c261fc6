-- The layouts of an analysis.
use Rattle.std.specs.Prelude.{◌≡◌, ℕ, ◌<◌, ◌≤◌, ◌^◌, true, if◌then◌else◌, List, [], ◌∷◌}
use Rattle.pk_graph.specs.Graphs.{GraphOf, kinds_of}
use Rattle.pk_graph.specs.OctagonVariables.{octagon_variables_of}
use Rattle.pk_state.specs.Layouts.{Layout, IsLayout}
use Rattle.pk_transfer.specs.Graphs.{layout_over}
use Rattle.pk_transfer.specs.Trees.{IsOver}
use Rattle.pk_plan.specs.Plans.{PlanView}
use Rattle.pk_packs.specs.Packs.{packs_of, pack_count, pack_limit}
use Rattle.pk_analysis.specs.declared.analysis.Options.{Options}

-- the packs of a graph by a plan of it, if they are asked for, else the variables of one octagon
abbrev pub packs_for : GraphOf → PlanView → Options → List (List ℕ)
packs_for g p o = if o.packs then packs_of g p o.oct else octagon_variables_of g o.oct ∷ []

-- the slots of the graph's variables, and an octagon over each of these
abbrev pub layout_for : GraphOf → PlanView → Options → Layout
layout_for g p o = layout_over g (packs_for g p o)

-- where packs are asked for, there are at most as many as there may be
abbrev pub HasFewPacks : PlanView → Options → Type 0
HasFewPacks p o = o.packs ≡ true → pack_count p ≤ pack_limit

-- It is a layout, over the table of the graph's variables.
pub record LayoutsAreOver : Type 0 where
  pub layouts : (g : GraphOf) (p : PlanView) (o : Options) → o.oct < 2 ^ 31 → IsLayout (layout_for g p o)
  pub over : (g : GraphOf) (p : PlanView) (o : Options) → IsOver (kinds_of g) (layout_for g p o)
