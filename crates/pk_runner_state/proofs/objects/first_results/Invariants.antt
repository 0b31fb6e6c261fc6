use Rattle.std.proofs.Common.{◌≡◌, map, take}
use Rattle.std.specs.Prelude.{pos, [], ◌∷◌}
use Rattle.pk_calls.specs.declared.listings.CallPath.{CallPath}
use Rattle.pk_runner_state.proofs.ObjectLemmas.{rows_of}
use Rattle.pk_runner_state.proofs.objects.first_results.Given as goal

abbrev pub invariant-loop : goal.invariant-loop
invariant-loop l = rows_of l.rows.items ≡ map (λ (q : CallPath). pos 0 ∷ []) (take l.counter l.program.paths.now)
