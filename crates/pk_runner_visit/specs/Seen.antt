-- What is seen of a run.
use Rattle.std.specs.Prelude.{if◌then◌else◌, map, Option, Some, None}
use Rattle.pk_meaning.specs.Programs.{Program}
use Rattle.pk_meaning.specs.Steps.{Config}
use Rattle.pk_meaning.specs.Runs as definition
use Rattle.pk_meaning.specs.Runs.{visit_of}
use Rattle.pk_runner_visit.specs.declared.visits.Known.{Known}
use Rattle.pk_runner_visit.specs.declared.visits.Visit.{Visit}

abbrev pub known_in : Known → definition.Known
known_in k = record { name = k.name.now; numbers = k.numbers.items }

abbrev pub visit_in : Visit → definition.Visit
visit_in v = record { path = v.path; at = v.at; known = map known_in v.known.items }

-- the visit of a configuration, where it is one
abbrev pub visit_if : Program → Config → Option definition.Visit
visit_if p c = if c.is_visit then Some (visit_of p c) else None
