-- What the elements of a plan are: points, heads and exits of its components.
use Rattle.std.specs.Prelude.{◌≡◌, ℕ, ◌<◌, ◌==◌, if◌then◌else◌, List, [], ◌∷◌, length, slice_index_or}
use Rattle.pk_plan.specs.declared.components.Component.{Component}
use Rattle.pk_plan.specs.Plans.{PlanView}
use Rattle.pk_phases.specs.declared.equations.Part.{Part}
use Rattle.pk_phases.specs.declared.equations.Part.TheVariants.{Point, HeadOf, ExitOf}

abbrev pub part_in : List Component → ℕ → Part
part_in [] e = Point
part_in (c ∷ cs) e = if c.head == e then HeadOf c.exit else (if c.exit == e then ExitOf c.head else part_in cs e)

abbrev pub part_at : List Part → ℕ → Part
part_at parts e = slice_index_or parts e Point

-- each element's part; END is a point
pub record AreParts (p : PlanView) (parts : List Part) : Type 0 where
  pub size : length parts ≡ p.elements
  pub each : (e : ℕ) → e < p.elements → part_at parts e ≡ part_in p.components e
