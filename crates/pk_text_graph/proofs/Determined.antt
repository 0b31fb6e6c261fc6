-- A text and a function have one graph at most, or one cause why there is none.
use Rattle.std.specs.Prelude.{◌≡◌, ◌≢◌, ℕ, List}
use Rattle.std.proofs.Common.{ap, sym, ◌∙◌, inl, inr, arith}
use Rattle.pk_typed.specs.Trees.{UnitTree}
use Rattle.pk_front.specs.declared.failures.TextError.{TextError}
use Rattle.pk_front.specs.declared.failures.TextError.TheVariants.{Memory}
use Rattle.pk_front.specs.Laws.{WayIsDetermined}
use Rattle.pk_graph.specs.Graphs.{GraphOf}
use Rattle.pk_lower.specs.Graphs.{graph_of}
use Rattle.pk_lower.specs.Parts.{point_count}
use Rattle.pk_text_graph.specs.Graphs.{GraphIsDetermined, HasGraph, HasManyPoints, HasNoGraph}

module _ (law : WayIsDetermined) where
  one_graph : (text entry : List ℕ) (g h : GraphOf) → HasGraph text entry g → HasGraph text entry h → g ≡ h
  one_graph text entry g h x y =
      let unit : x.unit ≡ y.unit = law.unit text entry x.unit y.unit x.paths y.paths x.called y.called in
      let paths : x.paths ≡ y.paths = law.paths text entry x.unit y.unit x.paths y.paths x.called y.called in
      x.graph ∙ ap (λ (u : UnitTree). graph_of u x.paths) unit ∙ ap (graph_of y.unit) paths ∙ sym y.graph

  -- a text with a graph has no more points than it may
  few_points : (text entry : List ℕ) (g : GraphOf) → HasGraph text entry g → HasManyPoints text entry → ⊥
  few_points text entry g x y =
      let unit : x.unit ≡ y.unit = law.unit text entry x.unit y.unit x.paths y.paths x.called y.called in
      let paths : x.paths ≡ y.paths = law.paths text entry x.unit y.unit x.paths y.paths x.called y.called in
      let counts : point_count x.unit x.paths ≡ point_count y.unit y.paths =
      ap (λ (u : UnitTree). point_count u x.paths) unit ∙ ap (point_count y.unit) paths in
      absurd (omega (arith, counts, x.few, y.many))

  one_cause : (text entry : List ℕ) (w v : TextError) → w ≢ Memory → v ≢ Memory → HasNoGraph text entry w → HasNoGraph text entry v → w ≡ v
  one_cause text entry w v known also (inl x) (inl y) = law.left text entry w v known also x y
  one_cause text entry w v known also (inl x) (inr (many, is)) = absurd (law.apart text entry many.unit many.paths w known many.called x)
  one_cause text entry w v known also (inr (many, is)) (inl y) = absurd (law.apart text entry many.unit many.paths v also many.called y)
  one_cause text entry w v known also (inr (many, is)) (inr (more, are)) = is ∙ sym are

  graph_or_cause : (text entry : List ℕ) (g : GraphOf) (w : TextError) → w ≢ Memory → HasGraph text entry g → HasNoGraph text entry w → ⊥
  graph_or_cause text entry g w known x (inl left) = law.apart text entry x.unit x.paths w known x.called left
  graph_or_cause text entry g w known x (inr (many, is)) = few_points text entry g x many

  pub graph_determined : GraphIsDetermined
  graph_determined = record { graph = one_graph; none = one_cause; apart = graph_or_cause }
