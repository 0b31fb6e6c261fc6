use Rattle.std.proofs.Common.{◌∙◌, ap, List}
use Rattle.pk_graph.specs.Steps.{Numbers}
use Rattle.pk_meaning.specs.Objects.{Objects}
use Rattle.pk_meaning.specs.Programs.{first_objects}
use Rattle.pk_runner_state.specs.Shown.{objects_in, program_in}
use Rattle.pk_runner_state.proofs.ObjectLemmas.{rows_of, locals_in}
use Rattle.pk_runner_state.proofs.objects.first_objects.Goals as goal

abbrev three : List Numbers → List (List Numbers) → List Numbers → Objects
three fs ls rs = record { files = fs; locals = ls; results = rs }

pub returns : goal.returns
unfolding objects_in
returns c =
    ap (λ (fs : List Numbers). three fs (locals_in c.in_ok-first_locals.field-0.items) (rows_of c.in_ok-first_results.field-0.items)) c.in_ok-first_files.ensures
    ∙ (ap (λ (ls : List (List Numbers)). three (first_objects (program_in c.args.program.now)).files ls (rows_of c.in_ok-first_results.field-0.items)) c.in_ok-first_locals.ensures
    ∙ ap (λ (rs : List Numbers). three (first_objects (program_in c.args.program.now)).files (first_objects (program_in c.args.program.now)).locals rs) c.in_ok-first_results.ensures)
