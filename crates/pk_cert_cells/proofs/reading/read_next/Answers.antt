use Rattle.std.proofs.Common.{ℕ, Option, map, length, refl, sym, ap, subst, ◌∙◌}
use Rattle.std.specs.Arc.{arc_value}
use Rattle.std.specs.Prelude.{IfSome, ◌++◌, ◌∷◌, []}
use Rattle.pk_graph.specs.Graphs.{kinds_of}
use Rattle.pk_graph.specs.Shown.{graph_view}
use Rattle.pk_state.specs.Layouts.{Layout}
use Rattle.pk_state.specs.Facts.{AreFactsIf}
use Rattle.pk_cert.specs.declared.rows.Shape.{Shape}
use Rattle.pk_cert.specs.Rows.{IsLine, line_text}
use Rattle.pk_cert.specs.Pieces.{AreFirst}
use Rattle.pk_cert_states.specs.Lines.{HasOne, line_of}
use Rattle.pk_cert_states.proofs.Telling.{has_line, as_many}
use Rattle.pk_cert_cells.specs.Reading.{AreCellsOf}
use Rattle.pk_cert_cells.proofs.reading.read_next.Goals as goal

pub returns-in_ok-add_told-in-Some-clause-line : goal.returns-in_ok-add_told-in-Some-clause-line
returns-in_ok-add_told-in-Some-clause-line c =
    let g = graph_view c.args.graph.now in
    let l = c.args.frame.now in
    let t = c.read_alike.new.told in
    let layout = c.in_ok-read_alike.ensures.told.layout in
    let facts = subst (λ (y : Layout). AreFactsIf y c.read_alike.new.told.state.facts) layout c.is_stated.ensures.facts in
    let many = ap (λ (y : Layout). length y.types) c.requires.frame.1 ∙ as_many g c.requires.frame.0 in
    record {
      line = line_of (kinds_of g) t.state.facts;
      is = subst (λ (s : Shape). IsLine s (line_of (kinds_of (graph_view c.args.graph.now)) c.read_alike.new.told.state.facts)) (sym c.requires.shape) (has_line l (kinds_of g) t.state.facts (subst HasOne (sym c.requires.frame.1) refl) many facts);
      first = subst (λ (o : Option ℕ). IfSome o (λ (n : ℕ). AreFirst (line_text (line_of (kinds_of (graph_view c.args.graph.now)) c.read_alike.new.told.state.facts)) c.args.bytes.now n)) c.in-Some.is c.in_ok-read_alike.ensures.line;
      cells_of = λ lines size h.
          subst (λ (y : Layout). AreCellsOf (kinds_of (graph_view c.args.graph.now)) y (lines ++ line_of (kinds_of (graph_view c.args.graph.now)) c.read_alike.new.told.state.facts ∷ []) (map arc_value c.add_told.new.cells.items)) layout
          (c.in_ok-add_told-in-Some.ensures (kinds_of g) lines size
          (subst (λ (y : Layout). AreCellsOf (kinds_of (graph_view c.args.graph.now)) y lines (map arc_value c.args.cells.now.items)) (sym layout) h));
    }
