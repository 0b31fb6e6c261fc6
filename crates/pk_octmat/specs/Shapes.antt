-- What is left of a matrix.
use Rattle.std.specs.Prelude.{Option, Some, None}
use Rattle.pk_octmat.specs.declared.shape.Shape.{Shape}
use Rattle.pk_octmat.specs.declared.shape.Shape.TheVariants.{Kept, Empty}
use Rattle.pk_octmat.specs.Octagon.{Octagon}

-- the matrix, if its bounds are kept
abbrev pub left_of : Shape → Octagon → Option Octagon
left_of Kept m = Some m
left_of Empty m = None
