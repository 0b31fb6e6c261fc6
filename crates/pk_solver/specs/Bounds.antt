-- How much an iteration can be asked for.
use Rattle.std.specs.Prelude.{ℕ, ◌+◌, ◌*◌, ◌<◌, ◌≤◌, ◌^◌}
use Rattle.pk_solver.specs.declared.solving.IterationOptions.{IterationOptions}

-- points of a graph, and elements of its plan: the points, an exit for each head and the end
abbrev pub most_points : ℕ
most_points = 65536

abbrev pub most_elements : ℕ
most_elements = 2 * most_points + 1

abbrev pub most_workers : ℕ
most_workers = 64

-- runs of an element
abbrev pub most_runs : ℕ
most_runs = 549755813888

pub record AreInRange (o : IterationOptions) : Type 0 where
  pub oct : o.analysis.oct < 2 ^ 31
  pub some_worker : 1 ≤ o.workers
  pub few_workers : o.workers ≤ most_workers
  pub runs : o.max_runs ≤ most_runs
