-- Every report that `run` writes of a text is read back whole.
use Rattle.std.specs.Prelude.{ℕ, ◌<◌, ◌≤◌, ◌^◌, List, length}
use Rattle.pk_typed.specs.Trees.{UnitTree}
use Rattle.pk_calls.specs.declared.listings.CallPath.{CallPath}
use Rattle.pk_front.specs.Texts.{HasPaths}
use Rattle.pk_lower.specs.Answers.{point_limit}
use Rattle.pk_lower.specs.Parts.{point_count}
use Rattle.pk_command.specs.declared.asked.RunOptions.{RunOptions}
use Rattle.pk_text_report.specs.Answers.{text_limit, options_of, IsRun}
use Rattle.pk_read_back_laws.specs.Laws.{IsReadBack, IsTellableUnit}

-- the unit of a text of at most 4 MiB and its call paths, where the graph has no more points than the limit
abbrev pub TextsAreTellable : Type 0
TextsAreTellable =
    (text entry : List ℕ) (u : UnitTree) (paths : List CallPath) (has : HasPaths text entry u paths) →
    length text ≤ text_limit → point_count u paths ≤ point_limit → IsTellableUnit u has.called.0.entry paths

-- the report on such a text, where it is shorter than 2^64 bytes
abbrev pub RunsAreReadBack : Type 0
RunsAreReadBack =
    (text : List ℕ) (o : RunOptions) (unknown : ℕ) (bytes : List ℕ) (run : IsRun text o unknown bytes) →
    length text ≤ text_limit → o.oct < 2 ^ 31 → length bytes < 2 ^ 64 →
    IsReadBack run.graph (options_of o) o.max_runs o.points bytes
