-- What runs of the program that a text is compute.
use Rattle.std.specs.Prelude.{ℕ, List}
use Rattle.pk_graph.specs.Graphs.{GraphOf}
use Rattle.pk_text_graph.specs.Graphs.{HasGraph}
use Rattle.pk_computed_laws.specs.Evaluated.{OperationsAreEvaluated}

-- Every text that has a graph: the program that it is has its unit and call paths.
abbrev pub TextsComputedIsEvaluated : Type 0
TextsComputedIsEvaluated =
    (text entry : List ℕ) (g : GraphOf) (h : HasGraph text entry g) →
    OperationsAreEvaluated (record { unit = h.unit; paths = h.paths }) g
