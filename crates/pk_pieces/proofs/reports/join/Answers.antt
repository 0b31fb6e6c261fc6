use Rattle.std.proofs.Common.{ap, subst, sym, ◌∙◌, ◌++◌, length, List, take}
use Rattle.std.specs.Prelude.{ℕ}
use Rattle.std.specs.Option.{option_to_list}
use Rattle.pk_graph.specs.Shown.{graph_view}
use Rattle.pk_report.specs.Reports.{first_line, unknown_in}
use Rattle.pk_pieces.specs.Joined.{joined}
use Rattle.pk_pieces.specs.Pieces.{PieceOf, found_in, verdicts_in}
use Rattle.pk_pieces.specs.Reports.{IsSoFar}
use Rattle.pk_pieces.proofs.Writing.{begun, added, ended, found_next, found_all}
use Rattle.pk_pieces.proofs.reports.join.Goals as goal

pub loop-k-init : goal.loop-k-init
loop-k-init c =
    begun (first_line (graph_view c.args.graph.now) c.args.elements) c.new-report.result
    (c.new-report.ensures.bytes ∙ c.in_ok-write_first.ensures ∙ ap (λ (bs : List ℕ). bs ++ first_line (graph_view c.args.graph.now) c.args.elements) c.new-first.ensures.items)
    c.new-report.ensures.verdicts

pub loop-k-preserved : goal.loop-k-preserved
loop-k-preserved c =
    let first = first_line (graph_view c.args.graph.now) c.args.elements in
    let places = c.places-places.result.now in
    subst (λ (ps : List PieceOf). IsSoFar first ps c.add_if.new.report) (sym (found_next places c.loop-k.k c.index-places-k.result c.loop-k-test.true c.index-places-k.is))
    (added first (found_in (take c.loop-k.k places)) (option_to_list c.index-places-k.result) c.loop-k.report c.add_if.new.report c.loop-k.invariant c.in_ok-add_if.ensures.bytes c.in_ok-add_if.ensures.verdicts)

pub end-requires-clause-verdicts : goal.end-requires-clause-verdicts
end-requires-clause-verdicts c =
    ap length (c.loop-k.invariant.verdicts ∙ ap verdicts_in (found_all c.places-places.result.now c.loop-k.k c.loop-k-test.false ∙ ap found_in c.places-places.ensures)) ∙ c.requires.verdicts

pub returns-clause-bytes : goal.returns-clause-bytes
returns-clause-bytes c =
    let g = graph_view c.args.graph.now in
    ended g (first_line g c.args.elements) (found_in (take c.loop-k.k c.places-places.result.now)) c.loop-k.report c.in_ok-told.told.0.items c.loop-k.invariant c.in_ok-told.ensures.bytes
    ∙ ap (joined g c.args.elements) (found_all c.places-places.result.now c.loop-k.k c.loop-k-test.false ∙ ap found_in c.places-places.ensures)

pub returns-clause-unknown : goal.returns-clause-unknown
returns-clause-unknown c =
    c.in_ok-told.ensures.unknown
    ∙ ap unknown_in (c.loop-k.invariant.verdicts ∙ ap verdicts_in (found_all c.places-places.result.now c.loop-k.k c.loop-k-test.false ∙ ap found_in c.places-places.ensures))
