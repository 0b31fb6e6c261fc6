-- What is left decides.
use Rattle.std.proofs.Common.{◌≡◌, drop}
use Rattle.pk_type_scope.specs.Specifiers.{has_const}
use Rattle.pk_type_scope.proofs.specifiers.has_const.Given as goal

abbrev pub invariant-loop-specifier : goal.invariant-loop-specifier
invariant-loop-specifier l = has_const (drop l.specifier-index l.words) ≡ has_const l.words
