use Rattle.std.proofs.Common.{◌≡◌, ◌++◌, ◌∷◌, [], map, length, refl, sym, ap, subst, ◌∙◌, arith}
use Rattle.std.specs.Arc.{arc_value}
use Rattle.std.proofs.lemmas.List.{length-map, map-append}
use Rattle.pk_state.specs.Facts.{Stated}
use Rattle.pk_phases.specs.declared.equations.Cell.{Cell}
use Rattle.pk_cert_states.specs.Lines.{line_of}
use Rattle.pk_cert_cells.specs.Reading.{cell_of, AreCellsOf}
use Rattle.pk_cert_cells.proofs.Celling.{add_past, add_state}
use Rattle.pk_cert_cells.proofs.reading.add_told.Goals as goal

pub returns-then-k-len : goal.returns-then-k-len
returns-then-k-len c = λ ks lines size h.
    let many = length-map c.args.cells.now.items arc_value in
    add_past ks c.args.state.now.layout lines (line_of ks c.args.state.now.facts) (map arc_value c.args.cells.now.items) h (λ e. c.if-k-len.true (omega (arith, many, c.len.ensures, size, e)))

pub returns : goal.returns
returns c = λ ks lines size h.
    let s = c.args.state.now in
    let cells = map arc_value c.args.cells.now.items in
    let same : length cells ≡ length lines = omega (arith, length-map c.args.cells.now.items arc_value, c.len.ensures, c.if-k-len.false, size) in
    let pushed : map arc_value c.push.new.self.items ≡ map arc_value c.args.cells.now.items ++ cell_of c.args.state.now.layout c.args.state.now.facts ∷ [] =
    ap (λ xs. map arc_value xs) c.in_ok-push.ensures.items
    ∙ map-append arc_value c.args.cells.now.items (c.in_ok-new.field-0 ∷ [])
    ∙ ap (λ (x : Cell Stated). map arc_value c.args.cells.now.items ++ x ∷ []) (c.in_ok-new.ensures.ok ∙ ap (λ (y : Stated). cell_of y.layout y.facts) c.in_ok-copy.ensures) in
    subst (AreCellsOf ks s.layout (lines ++ line_of ks s.facts ∷ [])) (sym pushed) (add_state ks s.layout lines (line_of ks s.facts) cells s.facts h same c.is_stated.ensures.facts refl)
