use Rattle.std.proofs.Common.{ap, ◌∙◌, List, ℕ, ◌++◌}
use Rattle.std.specs.Prelude.{codes}
use Rattle.std.specs.Fmt.{decimal}
use Rattle.pk_ctypes.specs.declared.places.Pos.{Pos}
use Rattle.pk_graph.specs.Graphs.{PathOf, point_at}
use Rattle.pk_graph.specs.Shown.{graph_view}
use Rattle.pk_report.specs.Paths.{path_text}
use Rattle.pk_report.specs.Reports.{point_word, place_end}
use Rattle.pk_report.proofs.WriteLemmas.{three}
use Rattle.pk_report.proofs.points.write_heading.Goals as goal

pub returns : goal.returns
returns c =
    let g = graph_view c.args.graph.now in
    three c.args.bytes.now.items (point_word c.args.is_head ++ decimal c.args.point ++ codes " ") (path_text g.paths (point_at g c.args.point).path) (place_end (point_at g c.args.point).at)
    c.write_number_of_point.new.bytes.items c.write_path.new.bytes.items c.write_end.new.bytes.items
    c.in_ok-write_number_of_point.ensures
    (c.in_ok-write_path.ensures
    ∙ ap (λ (ps : List PathOf). c.write_number_of_point.new.bytes.items ++ path_text ps c.path.result) c.paths.ensures
    ∙ ap (λ (k : ℕ). c.write_number_of_point.new.bytes.items ++ path_text g.paths k) c.path.ensures)
    (c.in_ok-write_end.ensures ∙ ap (λ (at : Pos). c.write_path.new.bytes.items ++ place_end at) c.position.ensures)
