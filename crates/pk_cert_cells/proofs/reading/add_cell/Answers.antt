use Rattle.std.proofs.Common.{◌≡◌, ◌++◌, ◌∷◌, [], map, length, Option, refl, sym, ap, subst, ◌∙◌, arith}
use Rattle.std.specs.Arc.{arc_value}
use Rattle.std.proofs.lemmas.List.{length-map, map-append}
use Rattle.pk_graph.specs.Graphs.{kinds_of}
use Rattle.pk_graph.specs.Shown.{graph_view}
use Rattle.pk_state.specs.Layouts.{Layout}
use Rattle.pk_state.specs.Facts.{Facts, Stated, AreFactsIf}
use Rattle.pk_phases.specs.declared.equations.Cell.{Cell}
use Rattle.pk_cert.specs.Rows.{kept_line, row_view}
use Rattle.pk_cert_states.specs.Lines.{HasOne, line_of}
use Rattle.pk_cert_states.proofs.Reading.{none_of, some_of}
use Rattle.pk_cert_states.proofs.Telling.{as_many}
use Rattle.pk_cert_cells.specs.Reading.{cell_of, AreCellsOf}
use Rattle.pk_cert_cells.proofs.Celling.{add_past, add_stateless, add_state, row_stateless, row_state}
use Rattle.pk_cert_cells.proofs.reading.add_cell.Goals as goal

pub returns-in-None-clause-cells : goal.returns-in-None-clause-cells
returns-in-None-clause-cells c = λ lines line size seen h.
    let ks = kinds_of (graph_view c.args.graph.now) in
    let l = c.args.frame.now in
    let cells = map arc_value c.args.cells.now.items in
    let same : length cells ≡ length lines = omega (arith, length-map c.args.cells.now.items arc_value, c.len.ensures, c.if-len-k.false, size) in
    let none = none_of c.in_ok-state_of.field-0 ((f : Option Facts) → AreFactsIf c.args.frame.now f → row_view c.args.row.now ≡ kept_line (line_of (kinds_of (graph_view c.args.graph.now)) f) → ⊥)
    (λ (s : Stated). (s.layout ≡ c.args.frame.now) × (row_view c.args.row.now ≡ kept_line (line_of (kinds_of (graph_view c.args.graph.now)) s.facts))) c.in_ok-state_of.ensures c.in-None.is in
    let many = ap (λ (y : Layout). length y.types) c.requires.frame.1 ∙ as_many (graph_view c.args.graph.now) c.requires.frame.0 in
    add_stateless ks l lines line cells h same (row_stateless ks l c.args.row.now line (subst HasOne (sym c.requires.frame.1) refl) many seen none)

pub returns-in_ok-push-in-Some-clause-cells : goal.returns-in_ok-push-in-Some-clause-cells
returns-in_ok-push-in-Some-clause-cells c = λ lines line size seen h.
    let ks = kinds_of (graph_view c.args.graph.now) in
    let l = c.args.frame.now in
    let cells = map arc_value c.args.cells.now.items in
    let same : length cells ≡ length lines = omega (arith, length-map c.args.cells.now.items arc_value, c.len.ensures, c.if-len-k.false, size) in
    let f = c.in-Some.state.facts in
    let some = some_of c.in_ok-state_of.field-0 ((f : Option Facts) → AreFactsIf c.args.frame.now f → row_view c.args.row.now ≡ kept_line (line_of (kinds_of (graph_view c.args.graph.now)) f) → ⊥)
    (λ (s : Stated). (s.layout ≡ c.args.frame.now) × (row_view c.args.row.now ≡ kept_line (line_of (kinds_of (graph_view c.args.graph.now)) s.facts))) c.in-Some.state c.in_ok-state_of.ensures c.in-Some.is in
    let facts = subst (λ (y : Layout). AreFactsIf y c.in-Some.state.facts) some.0 c.is_stated.ensures.facts in
    let pushed : map arc_value c.push.new.self.items ≡ map arc_value c.args.cells.now.items ++ cell_of c.args.frame.now c.in-Some.state.facts ∷ [] =
    ap (λ xs. map arc_value xs) c.in_ok-push-in-Some.ensures.items
    ∙ map-append arc_value c.args.cells.now.items (c.in_ok-new-in-Some.field-0 ∷ [])
    ∙ ap (λ (x : Cell Stated). map arc_value c.args.cells.now.items ++ x ∷ []) (c.in_ok-new-in-Some.ensures.ok ∙ ap (λ (y : Layout). cell_of y c.in-Some.state.facts) some.0) in
    subst (AreCellsOf ks l (lines ++ line ∷ [])) (sym pushed) (add_state ks l lines line cells f h same facts (row_state ks l c.args.row.now line f seen some.1))

pub returns-then-len-k-clause-cells : goal.returns-then-len-k-clause-cells
returns-then-len-k-clause-cells c = λ lines line size seen h.
    let ks = kinds_of (graph_view c.args.graph.now) in
    let l = c.args.frame.now in
    let cells = map arc_value c.args.cells.now.items in
    let many = length-map c.args.cells.now.items arc_value in
    add_past ks l lines line cells h (λ e. c.if-len-k.true (omega (arith, many, c.len.ensures, size, e)))
