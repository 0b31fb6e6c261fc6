use Rattle.std.proofs.Common.{◌≡◌, map, take}
use Rattle.pk_typed.specs.declared.units.Local.{Local}
use Rattle.pk_typed.specs.Views.{local_tree}
use Rattle.pk_meaning.specs.Programs.{zeros_of}
use Rattle.pk_runner_state.proofs.ObjectLemmas.{rows_of}
use Rattle.pk_runner_state.proofs.objects.zeros_of_body.Given as goal

abbrev pub invariant-loop-local : goal.invariant-loop-local
invariant-loop-local l = rows_of l.rows.items ≡ map (λ (x : Local). zeros_of (local_tree x)) (take l.local-index l.body.locals.items)
