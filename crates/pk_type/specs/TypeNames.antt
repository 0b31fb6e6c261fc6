-- Declarations of type names (C99 6.7.7).
use Rattle.std.specs.Prelude.{List, [], ◌∷◌}
use Rattle.pk_ast.specs.declared.expressions.Identifier.{Identifier}
use Rattle.pk_ast.specs.Trees.{TypedefTree}
use Rattle.pk_type_scope.specs.declared.declarations.Declaration.TheVariants as declared
use Rattle.pk_type_scope.specs.declared.declarations.NamedType.{NamedType}
use Rattle.pk_type_declaration.specs.declared.words.Words.{Words}
use Rattle.pk_type_declaration.specs.Checks.{DeclarationChecks}
use Rattle.pk_type_declaration.specs.Enumerations.{words_at, after_words}
use Rattle.pk_type_declaration.specs.Walks.{Walked, here, finding, after_name}

-- what each name stands for
abbrev pub named_type : Words → NamedType
named_type words = record { typing = words.typing; is_const = words.is_const }

-- a declared name; void may have one
abbrev pub after_type_name : {F : Type 0} → DeclarationChecks F → NamedType → Identifier → Walked F → Walked F
after_type_name c t x w =
    after_name x (declared.TypeName t) (finding (c.name w.scoping x) w)

unfoldable pub after_type_names : {F : Type 0} → DeclarationChecks F → NamedType → List Identifier → Walked F → Walked F
after_type_names c t [] w = w
after_type_names c t (x ∷ xs) w = after_type_names c t xs (after_type_name c t x w)

-- the words stand outside the scopes of the names
unfoldable pub after_typedef : {F : Type 0} → DeclarationChecks F → TypedefTree → Walked F → Walked F
after_typedef c d w =
    after_type_names c (named_type (words_at (here w) d.specifiers d.enumeration)) (d.names.first ∷ d.names.more)
    (after_words c d.specifiers d.enumeration w)
