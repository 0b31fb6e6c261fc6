-- The type of a typed expression (C99 6.5).
use Rattle.pk_ctypes.specs.declared.types.IntType.{IntType}
use Rattle.pk_ctypes.specs.declared.types.IntType.TheVariants.{Int}
use Rattle.pk_ctypes.specs.Operators.{result_type}
use Rattle.pk_typed.specs.Trees.{PlaceTree, ValueTree, scalar, element}
use Rattle.pk_typed.specs.Trees as tree

abbrev pub type_of_place : PlaceTree → IntType
type_of_place (scalar t x) = t
type_of_place (element t x at i) = t

unfoldable pub type_of : ValueTree → IntType
type_of (tree.constant t n) = t
type_of (tree.read p) = type_of_place p
type_of (tree.assign at p v) = type_of_place p
type_of (tree.update op at t p v) = type_of_place p
type_of (tree.step op at t p prefix) = type_of_place p
type_of (tree.call t f n at vs) = t
type_of (tree.any t at) = t
type_of (tree.unary op at t v) = result_type op t
type_of (tree.convert t v) = t
type_of (tree.binary op at t v w) = result_type op t
type_of (tree.and v w) = Int
type_of (tree.or v w) = Int
type_of (tree.conditional t u v w) = t
type_of (tree.then_value e v) = type_of v
