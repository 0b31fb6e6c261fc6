-- What is seen of a run of a program from its beginning to its end.
use Rattle.std.specs.Prelude.{◌≡◌, List, ◌∷◌, Option, Some, None}
use Rattle.pk_graph.specs.Steps.{Numbers, Failure}
use Rattle.pk_meaning.specs.Programs.{Program}
use Rattle.pk_meaning.specs.Steps.{Config, Faulted, Stuck, step}
use Rattle.pk_meaning.specs.Runs.{Visit, visit_of, start, Runs}

-- the run goes on or not, or its next step fails
abbrev pub Ends : Program → Config → Option Failure → Type 0
Ends p c None = Unit {0}
Ends p c (Some f) = (chosen : Numbers) × (step p chosen c ≡ Faulted f.fault f.site)

-- the visits of a run of a program, and the failure at its end if there is one
pub record ProgramVisits (p : Program) (visits : List Visit) (end : Option Failure) : Type 0 where
  pub choice : Numbers
  pub first : Config
  pub last : Config
  pub others : List Visit
  pub starts : start p choice ≡ Some first
  pub runs : Runs p first others last
  pub visits_are : visits ≡ visit_of p first ∷ others
  pub ends : Ends p last end

-- Wherever a run comes to, its next step goes on, fails, ends at a false assumption or with the result, or wants other numbers.
abbrev pub IsNeverStuck : Program → Type 0
IsNeverStuck p =
    (choice : Numbers) (first last : Config) (visits : List Visit) (chosen : Numbers) →
    start p choice ≡ Some first → Runs p first visits last → step p chosen last ≡ Stuck → ⊥
