-- What is left decides.
use Rattle.std.proofs.Common.{◌≡◌, drop}
use Rattle.pk_type_scope.specs.Specifiers.{first_name, words_meant}
use Rattle.pk_type_scope.proofs.specifiers.first_name.Given as goal

abbrev pub invariant-loop-specifier : goal.invariant-loop-specifier
invariant-loop-specifier l = first_name (words_meant (drop l.specifier-index l.words)) ≡ first_name (words_meant l.words)
