use Rattle.std.proofs.Common.{◌≡◌, ◌<◌, ℕ, None, map, ap, subst, ◌∙◌}
use Rattle.std.specs.Prelude.{All}
use Rattle.std.proofs.lemmas.List.{length-map}
use Rattle.std.specs.Arc.{arc_value}
use Rattle.std.specs.Result.{IfOk}
use Rattle.pk_state.specs.Facts.{Stated}
use Rattle.pk_phases.specs.declared.equations.Cell.{Cell}
use Rattle.pk_phases.specs.declared.equations.Cell.TheVariants.{Value}
use Rattle.pk_analysis.specs.Flows.{stated}
use Rattle.pk_cert_check.proofs.Running.{reads_within, inputs_held, run_gives}
use Rattle.pk_cert_check.proofs.runs.run.Goals as goal

pub share-requires : goal.share-requires
share-requires c =
    let cells = c.args.cells.now in
    subst (λ (n : ℕ). All (λ u. u < n) c.reads.result.now) (length-map cells arc_value)
    (reads_within c.args.analysis.now (map arc_value cells) c.requires.points c.requires.cells c.args.v c.reads.result.now c.reads.ensures)

pub apply-requires : goal.apply-requires
apply-requires c =
    let a = c.args.analysis.now in
    inputs_held a (map arc_value c.args.cells.now) c.requires.points c.requires.cells c.args.v c.reads.result.now (map arc_value c.deref.result.now) c.reads.ensures
    (ap (map arc_value) c.deref.ensures.value ∙ c.in_ok-share.ensures (Value (stated c.args.analysis.now.layout None)))

pub returns : goal.returns
returns c =
    let a = c.args.analysis.now in
    subst (λ (x : Cell Stated). IfOk c.apply.result (λ (y : Cell Stated). y ≡ x))
    (run_gives a (map arc_value c.args.cells.now) c.requires.points c.requires.cells c.args.v c.reads.result.now (map arc_value c.deref.result.now) c.reads.ensures
    (ap (map arc_value) c.deref.ensures.value ∙ c.in_ok-share.ensures (Value (stated c.args.analysis.now.layout None)))) c.apply.ensures
