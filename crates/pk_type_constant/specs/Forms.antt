-- The forms of constant expressions (C99 6.6): constants, enumerators among them, parentheses, casts, operators that change nothing, `&&`, `||`, `?:`, and the comma, which C99 forbids where it is evaluated.
use Rattle.std.specs.Prelude.{Bool, true, false, ◌&&◌}
use Rattle.pk_ast.specs.Trees.{ExpressionTree, name, constant, character, parenthesized, unary, cast, binary, conditional, comma}
use Rattle.pk_type_scope.specs.Declarations.{Names, is_enumerator}

abbrev pub both : Bool → Bool → Bool
both a b = a && b

unfoldable pub is_constant_form : Names → ExpressionTree → Bool
is_constant_form d (name x) = is_enumerator (d x)
is_constant_form d (constant at t n) = true
is_constant_form d (character at n) = true
is_constant_form d (parenthesized at e) = is_constant_form d e
is_constant_form d (unary op at e) = is_constant_form d e
is_constant_form d (cast at specifiers e) = is_constant_form d e
is_constant_form d (binary op at a b) = both (is_constant_form d a) (is_constant_form d b)
is_constant_form d (conditional at a b c) =
    both (is_constant_form d a) (both (is_constant_form d b) (is_constant_form d c))
is_constant_form d (comma at a b) = both (is_constant_form d a) (is_constant_form d b)
is_constant_form d e = false
