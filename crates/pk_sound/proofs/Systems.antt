-- The equations of a graph by what they are made of.
use Rattle.std.specs.Prelude.{ℕ, ℤ, List, map, None}
use Rattle.pk_graph.specs.Graphs.{GraphOf}
use Rattle.pk_state.specs.Layouts.{Layout}
use Rattle.pk_state.specs.Facts.{Stated}
use Rattle.pk_phases.specs.declared.equations.Part.{Part}
use Rattle.pk_phases.specs.Equations.{Equations}
use Rattle.pk_analysis.specs.Arrows.{arrows_at, origins}
use Rattle.pk_analysis.specs.Parts.{part_at}
use Rattle.pk_analysis.specs.Flows.{stated, state_operations, equation}

abbrev pub system_of : GraphOf → Layout → List ℤ → List Part → (delay narrow : ℕ) → Equations Stated
system_of g l thresholds parts delay narrow = record {
  ops = state_operations l thresholds;
  bottom = stated l None;
  part = part_at parts;
  sources = λ v. origins (arrows_at g v);
  value = λ v before. stated l (equation g l v (map (λ (s : Stated). s.facts) before));
  delay = delay;
  narrow = narrow;
}
