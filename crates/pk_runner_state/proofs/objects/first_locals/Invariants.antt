use Rattle.std.proofs.Common.{◌≡◌, map, take}
use Rattle.std.specs.Prelude.{unwrap_or}
use Rattle.pk_typed.specs.Views.{unit_tree}
use Rattle.pk_calls.specs.declared.listings.CallPath.{CallPath}
use Rattle.pk_calls.specs.Calls.{body_of}
use Rattle.pk_meaning.specs.Programs.{zeros_of}
use Rattle.pk_runner_state.proofs.ObjectLemmas.{locals_in}
use Rattle.pk_runner_state.proofs.objects.first_locals.Given as goal
use Rattle.pk_typed.specs.Defaults.{no_body}

abbrev pub invariant-loop-path : goal.invariant-loop-path
invariant-loop-path l = locals_in l.rows.items ≡ map (λ (q : CallPath). map zeros_of (unwrap_or (body_of (unit_tree l.program.unit.now) q.function) no_body).locals) (take l.path l.program.paths.now)
