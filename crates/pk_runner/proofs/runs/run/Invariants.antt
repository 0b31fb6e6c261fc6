-- The steps that are left, with the choices that are left, lead to where the run leads.
use Rattle.std.proofs.Common.{◌≡◌, ◌-◌, drop, map}
use Rattle.pk_runner_frame.specs.Frames.{Reading}
use Rattle.pk_runner_state.specs.Shown.{program_in, Agrees}
use Rattle.pk_runner.specs.Ran.{rows_of, config_in, ran}
use Rattle.pk_runner.proofs.runs.run.Given as goal

abbrev pub invariant-loop : goal.invariant-loop
invariant-loop l = record {
  told : (s : Reading) → Agrees s (rows_of l.config) → ran (program_in l.program) (l.steps - l.counter) (drop l.taken (map (λ zs. zs.now) l.choices)) (config_in s l.config)
      ≡ ran (program_in l.program) l.steps (map (λ zs. zs.now) l.choices) (config_in s l.fn.config);
  before : (s : Reading) → Agrees s (rows_of l.config) → Agrees s (rows_of l.fn.config);
}
