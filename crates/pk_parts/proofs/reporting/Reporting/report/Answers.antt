use Rattle.std.proofs.Common.{ℕ, ◌≡◌, ◌∙◌, List, Option, None, ap, sym, length, replicate}
use Rattle.pk_graph.specs.Accesses.{accesses_of}
use Rattle.pk_graph.specs.Graphs.{GraphOf}
use Rattle.pk_graph.specs.Shown.{graph_view}
use Rattle.pk_report.specs.Reports.{unknown_in}
use Rattle.pk_pieces.specs.Joined.{joined}
use Rattle.pk_pieces.specs.Pieces.{PieceOf, found_in, put_each}
use Rattle.pk_parts.specs.Kept.{graph_in, pieces_in}
use Rattle.pk_parts.proofs.Items.{many_are, placed, text_is, verdicts_are}
use Rattle.pk_parts.proofs.reporting.Reporting.report.Goals as goal

pub put_kept-requires : goal.put_kept-requires
put_kept-requires c =
    let r = c.args.self.now in
    let same : graph_view c.self.inside.graph.now ≡ graph_in r = c.self.invariant.graph ∙ ap graph_in c.self.view_is in
    let none = c.in_ok-pieces.ensures ∙ ap (λ (n : ℕ). replicate n None) (c.points.ensures ∙ ap (λ (g : GraphOf). length g.points) same) in
    placed r c.requires.kept.0 c.requires.kept.1 c.args.kept.items c.in_ok-pieces.pieces c.requires.kept.2 none

pub join-requires-clause-verdicts : goal.join-requires-clause-verdicts
join-requires-clause-verdicts c =
    let r = c.args.self.now in
    let same : graph_view c.self.inside.graph.now ≡ graph_in r = c.self.invariant.graph ∙ ap graph_in c.self.view_is in
    let none = c.in_ok-pieces.ensures ∙ ap (λ (n : ℕ). replicate n None) (c.points.ensures ∙ ap (λ (g : GraphOf). length g.points) same) in
    let put = c.put_kept.ensures ∙ ap (λ (at : List (Option PieceOf)). put_each at (pieces_in c.args.kept.items)) none in
    many_are r c.requires.kept.0 c.any_order_is_put.ensures c.reports_are_joined.ensures c.requires.kept.1 c.args.kept.items c.requires.kept.2 c.put_kept.new.pieces put
    ∙ ap (λ (g : GraphOf). length (accesses_of g)) (sym same)

pub returns-clause-bytes : goal.returns-clause-bytes
returns-clause-bytes c cell items are =
    let r = c.args.self.now in
    let same : graph_view c.self.inside.graph.now ≡ graph_in r = c.self.invariant.graph ∙ ap graph_in c.self.view_is in
    let none = c.in_ok-pieces.ensures ∙ ap (λ (n : ℕ). replicate n None) (c.points.ensures ∙ ap (λ (g : GraphOf). length g.points) same) in
    let put = c.put_kept.ensures ∙ ap (λ (at : List (Option PieceOf)). put_each at (pieces_in c.args.kept.items)) none in
    c.in_ok-told.ensures.bytes
    ∙ ap (λ (g : GraphOf). joined g c.args.elements (found_in c.put_kept.new.pieces)) same
    ∙ text_is r cell c.any_order_is_put.ensures c.reports_are_joined.ensures items c.args.kept.items are c.put_kept.new.pieces put c.args.elements

pub returns-clause-unknown : goal.returns-clause-unknown
returns-clause-unknown c cell items are =
    let r = c.args.self.now in
    let same : graph_view c.self.inside.graph.now ≡ graph_in r = c.self.invariant.graph ∙ ap graph_in c.self.view_is in
    let none = c.in_ok-pieces.ensures ∙ ap (λ (n : ℕ). replicate n None) (c.points.ensures ∙ ap (λ (g : GraphOf). length g.points) same) in
    let put = c.put_kept.ensures ∙ ap (λ (at : List (Option PieceOf)). put_each at (pieces_in c.args.kept.items)) none in
    c.in_ok-told.ensures.unknown
    ∙ ap unknown_in (verdicts_are r cell c.any_order_is_put.ensures c.reports_are_joined.ensures items c.args.kept.items are c.put_kept.new.pieces put)
