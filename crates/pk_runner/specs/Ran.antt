-- What is kept of a run, and runs of so many steps.
use Rattle.std.specs.Prelude.{ℕ, zero, suc, Bool, true, false, if◌then◌else◌, List, [], ◌∷◌, Some}
use Rattle.pk_graph.specs.Steps.{Numbers}
use Rattle.pk_meaning.specs.Programs.{Program}
use Rattle.pk_meaning.specs.Steps.{Config, Next, To, Faulted, Assumed, Returned, Wants, Stuck, step}
use Rattle.pk_runner_frame.specs.Frames.{Reading}
use Rattle.pk_runner_state.specs.declared.states.Answer.TheVariants as answers
use Rattle.pk_runner_state.specs.declared.tables.Row.{Row}
use Rattle.pk_runner_state.specs.Shown.{shown, Outcome, outcome}
use Rattle.pk_runner.specs.declared.runs.Config as code_config

-- the rows of scopes, and the configuration that is kept, by a reading of the rows
abbrev pub rows_of : code_config.Config → List Row
rows_of c = c.table.rows.items

abbrev pub config_in : Reading → code_config.Config → Config
config_in s c = shown s c.state

abbrev pub is_wanting : Next → Bool
is_wanting (To d) = false
is_wanting (Faulted f at) = false
is_wanting Assumed = false
is_wanting (Returned z) = false
is_wanting (Wants t n) = true
is_wanting Stuck = false

-- on from the configuration that a step leads to; else the run stays where it was
abbrev pub on_from : Next → Config → (Config → Outcome) → Outcome
on_from (To d) c f = f d
on_from (Faulted e at) c f = outcome (Faulted e at) c
on_from Assumed c f = outcome Assumed c
on_from (Returned z) c f = outcome (Returned z) c
on_from (Wants t n) c f = outcome (Wants t n) c
on_from Stuck c f = outcome Stuck c

-- a step, with the next of the choices where it wants numbers, and the choices that are left
abbrev pub picked : Program → List Numbers → Config → Next × List Numbers
picked p [] c = (step p [] c, [])
picked p (ch ∷ chs) c = if is_wanting (step p [] c) then (step p ch c, chs) else (step p [] c, ch ∷ chs)

-- at most so many steps
abbrev pub ran : Program → ℕ → List Numbers → Config → Outcome
ran p zero chs c = record { answer = answers.Next; after = Some c }
ran p (suc n) chs c = on_from (picked p chs c).0 c (λ d. ran p n (picked p chs c).1 d)
