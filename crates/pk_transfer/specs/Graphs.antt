-- Layouts of graphs.
use Rattle.std.specs.Prelude.{ℕ, ◌<◌, ◌^◌, List, [], ◌∷◌, length, map, All}
use Rattle.pk_ctypes.specs.declared.types.IntType.{IntType}
use Rattle.pk_graph.specs.declared.graphs.Variable.{Variable}
use Rattle.pk_graph.specs.Kinds.{Kind, Kinds, count_at, IsScalar}
use Rattle.pk_graph.specs.Graphs.{variable_view, EdgeOf, PointOf, GraphOf, kinds_of, point_at}
use Rattle.pk_graph.specs.WellMade.{IsGraph}
use Rattle.pk_graph.specs.OctagonVariables.{first_asked, octagon_variables_of}
use Rattle.pk_octagons.specs.Packs.{chosen_at}
use Rattle.pk_state.specs.Layouts.{Layout, IsLayout}
use Rattle.pk_transfer.specs.Slots.{slot_types, further_of, HasSlots}
use Rattle.pk_transfer.specs.Trees.{IsOver}
use Rattle.pk_transfer.specs.Transfers.{IsInstrOver}

-- what the code keeps of variables
abbrev pub kinds_shown : List Variable → Kinds
kinds_shown vs = map (λ (v : Variable). (variable_view v).kind) vs

abbrev pub own_types : List Variable → List IntType
own_types vs = map (λ (k : Kind). k.int_type) (kinds_shown vs)

-- the slots of a graph's variables, and an octagon over each of these packs
abbrev pub layout_over : GraphOf → List (List ℕ) → Layout
layout_over g packs =
    record { types = slot_types (kinds_of g); packs = packs; further = further_of (kinds_of g) }

-- with one octagon, over at most n of them
abbrev pub layout_of : GraphOf → ℕ → Layout
layout_of g n = layout_over g (octagon_variables_of g n ∷ [])

-- variables that an octagon may be over: scalars of the graph, by rising number, of which there are fewer than 2^31
pub record IsPackOfGraph (g : GraphOf) (chosen : List ℕ) : Type 0 where
  pub few : length chosen < 2 ^ 31
  pub scalars : (k : ℕ) → k < length chosen → IsScalar (kinds_of g) (chosen_at chosen k)
  pub rising : (j k : ℕ) → j < k → k < length chosen → chosen_at chosen j < chosen_at chosen k

-- The first named scalars that some points ask for are a pack of the graph; with such packs there is a layout, over the table of the graph's variables, and so with one octagon;
-- over such a layout each number has a slot, and each instruction of the graph may be transferred.
pub record GraphsAreOver : Type 0 where
  pub packs : (g : GraphOf) (ps : List PointOf) (n : ℕ) → n < 2 ^ 31 →
      IsPackOfGraph g (first_asked ps n 0 g.variables)
  pub layouts_of_packs : (g : GraphOf) (packs : List (List ℕ)) → All (IsPackOfGraph g) packs →
      IsLayout (layout_over g packs)
  pub over_packs : (g : GraphOf) (packs : List (List ℕ)) → All (IsPackOfGraph g) packs →
      IsOver (kinds_of g) (layout_over g packs)
  pub layouts : (g : GraphOf) (n : ℕ) → n < 2 ^ 31 → IsLayout (layout_of g n)
  pub over : (g : GraphOf) (n : ℕ) → IsOver (kinds_of g) (layout_of g n)
  pub slots : (ks : Kinds) (y : Layout) (x : ℕ) → IsOver ks y → x < length ks → HasSlots y x (count_at ks x)
  pub instructions : (g : GraphOf) (y : Layout) (p : ℕ) → IsGraph g → IsOver (kinds_of g) y → p < length g.points →
      All (λ (e : EdgeOf). IsInstrOver y e.instr) (point_at g p).edges
