use Rattle.std.proofs.Common.{sym, subst}
use Rattle.std.specs.Prelude.{ℕ}
use Rattle.pk_graph.specs.Graphs.{GraphOf, point_at}
use Rattle.pk_visits_laws.specs.Ways.OneWay.{SharesAccesses}
use Rattle.pk_welltyped.specs.Marks.{AreMarked}
use Rattle.pk_visits.specs.SameVisits.{HaveSameVisits}
use Rattle.pk_visits.specs.Turning.{TurnsAreAt, graph_turns}
use Rattle.pk_report_laws.specs.Programs.TrueOfPrograms.{program_of}
use Rattle.pk_report_laws.proofs.Programs.Telling.{true_of}
use Rattle.pk_report_laws.proofs.laws.true_states_are_true_of_programs.Goals as goal

pub returns : goal.returns
returns c = λ text entry g h heads states true_are.
    let typed = h.called.typed in
    let unit = c.texts_are_well_typed.ensures text h.unit typed in
    let marked = subst AreMarked (sym typed.unit) (c.units_are_marked.ensures text typed.all typed.accepted) in
    let both = c.graphs_have_program_visits.ensures h.unit entry h.paths unit marked h.called.called.0 h.few in
    let made = c.graphs_are_well_made.ensures text entry g h in
    true_of g heads states (program_of h) made true_are
    (subst (λ (x : GraphOf). (v : ℕ) → SharesAccesses v (point_at x v).edges) (sym h.graph) (c.points_share_accesses.ensures h.unit entry h.paths unit marked h.called.called.0 h.few))
    (subst (λ (x : GraphOf). HaveSameVisits (program_of h) x) (sym h.graph) both)
    (c.programs_are_never_stuck.ensures h.unit entry h.paths unit marked h.called.called.0 h.few)
    (c.accesses_are_apart.ensures text entry g h) (c.texts_computed_is_evaluated.ensures text entry g h) (c.texts_computed_accesses_are_evaluated.ensures text entry g h)
    (subst (λ (x : GraphOf). TurnsAreAt (program_of h) x (graph_turns h.unit h.paths)) (sym h.graph) (c.turns_are_followed.ensures h.unit entry h.paths unit marked h.called.called.0 h.few))
    (c.turns_of_texts_are_apart.ensures text entry g h) (c.turns_of_texts_are_heads.ensures text entry g h)
