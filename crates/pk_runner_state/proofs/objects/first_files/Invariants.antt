use Rattle.std.proofs.Common.{◌≡◌, map, take}
use Rattle.pk_typed.specs.declared.units.FileObject.{FileObject}
use Rattle.pk_typed.specs.Views.{start_tree}
use Rattle.pk_meaning.specs.Programs.{start_of}
use Rattle.pk_runner_state.proofs.ObjectLemmas.{rows_of}
use Rattle.pk_runner_state.proofs.objects.first_files.Given as goal

abbrev pub invariant-loop-object : goal.invariant-loop-object
invariant-loop-object l = rows_of l.rows.items ≡ map (λ (x : FileObject). start_of (start_tree x.start)) (take l.object-index l.program.unit.now.objects.items)
