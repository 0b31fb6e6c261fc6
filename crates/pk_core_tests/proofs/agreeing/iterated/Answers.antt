use Rattle.std.proofs.Common.{ap, length, sym, subst, ◌∙◌}
use Rattle.std.proofs.lemmas.Result.{IfOk-weaker}
use Rattle.std.proofs.lemmas.List.FromFn.{length-map-range_with_len}
use Rattle.pk_iterate.specs.Behaviour.{ReadsWithin}
use Rattle.pk_phases.specs.Equations.{behaviour_of}
use Rattle.pk_analysis.specs.Flows.{equations_of}
use Rattle.pk_core_tests.proofs.Same_layouts.{cells_held}
use Rattle.pk_core_tests.proofs.agreeing.iterated.Goals as goal

pub iterate-requires-clause-reads : goal.iterate-requires-clause-reads
iterate-requires-clause-reads c κs outlives = subst (ReadsWithin (behaviour_of (equations_of c.args.analysis.now))) (sym c.requires.elements) c.requires.reads

pub returns-clause-cells : goal.returns-clause-cells
returns-clause-cells c = IfOk-weaker c.iterate.result _ _ (λ it r. ap length r.cells_after ∙ length-map-range_with_len _ 0 _ ∙ c.requires.elements) c.iterate.ensures.ok

pub returns-clause-runs : goal.returns-clause-runs
returns-clause-runs c = IfOk-weaker c.iterate.result _ _ (λ it r. ap length r.counts ∙ length-map-range_with_len _ 0 _ ∙ c.requires.elements) c.iterate.ensures.ok

pub returns-clause-held : goal.returns-clause-held
returns-clause-held c = IfOk-weaker c.iterate.result _ _ (λ it r. cells_held _ _ _ _ _ it c.cells_are_held.ensures r) c.iterate.ensures.ok
