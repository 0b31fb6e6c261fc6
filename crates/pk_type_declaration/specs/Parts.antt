-- Parts of a tree in order, where each has one.
use Rattle.std.specs.Prelude.{List, ◌++◌, Option, Some, None, if◌then◌else◌}
use Rattle.pk_type_expression.specs.Typed.{of_both}
use Rattle.pk_type_declaration.specs.declared.parts.Parts.{Parts}

abbrev pub parts_in : {A : Type 0} → Parts A → Option (List A)
parts_in p = if p.is_whole then Some p.items.items else None

-- parts after parts
abbrev pub joined : {A : Type 0} → Option (List A) → Option (List A) → Option (List A)
joined = of_both (λ xs ys. xs ++ ys)
