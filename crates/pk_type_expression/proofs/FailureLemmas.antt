-- A test before a test.
use Rattle.std.proofs.Common.{◌≡◌, Bool, true, false, ◌&&◌, refl}
use Rattle.pk_ctypes.specs.declared.places.Pos.{Pos}
use Rattle.pk_ctypes.specs.declared.words.Rule.{Rule}
use Rattle.pk_type_scope.specs.Failures.{fails_if}
use Rattle.pk_type_expression.specs.Rules.{when}

pub when_fails_if : (a b : Bool) (r : Rule) (at : Pos) → when a (fails_if b r at) ≡ fails_if (a && b) r at
when_fails_if true b r at = refl
when_fails_if false b r at = refl
