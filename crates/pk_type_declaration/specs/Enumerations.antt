-- Enumerations (C99 6.7.2.2): int under another name, and constants of it. And the words of a declaration, which may end with one.
use Rattle.std.specs.Prelude.{ℤ, pos, ◌+ℤ◌, false, ◌||◌, Option, Some, None, List, [], ◌∷◌, ◌++◌, if◌then◌else◌}
use Rattle.pk_ctypes.specs.declared.places.Pos.{Pos}
use Rattle.pk_ctypes.specs.declared.types.IntType.TheVariants.{Int}
use Rattle.pk_ctypes.specs.Types.{is_in_type}
use Rattle.pk_ast.specs.declared.declarations.Specifier.{Specifier}
use Rattle.pk_ast.specs.declared.expressions.Identifier.{Identifier}
use Rattle.pk_ast.specs.Trees.{OneOrMore, ExpressionTree, EnumeratorTree, EnumerationTree}
use Rattle.pk_typed.specs.Trees.{DeclaredTree, hiding_constant}
use Rattle.pk_type_scope.specs.declared.declarations.Declaration.{Declaration}
use Rattle.pk_type_scope.specs.declared.declarations.Declaration.TheVariants as declared
use Rattle.pk_type_scope.specs.declared.declarations.NamedType.{NamedType}
use Rattle.pk_type_scope.specs.declared.declarations.Typing.TheVariants.{Integer}
use Rattle.pk_type_scope.specs.Declarations.{Names}
use Rattle.pk_type_scope.specs.Specifiers.{type_name_among, is_const_among, has_const}
use Rattle.pk_type_declaration.specs.declared.words.Words.{Words}
use Rattle.pk_type_declaration.specs.Checks.{DeclarationChecks}
use Rattle.pk_type_declaration.specs.Constants.{evaluated, number_in}
use Rattle.pk_type_declaration.specs.Declarations.{words_of}
use Rattle.pk_type_declaration.specs.Walks.{Walked, here, finding, after_value, after_name}

-- the words of a declaration: with braces they name int, and `const` may stand on both sides of them
abbrev pub words_at : Names → OneOrMore Specifier → Option EnumerationTree → Words
words_at d words None = words_of d words
words_at d words (Some e) = record { typing = Integer Int; is_const = is_const_among words || has_const e.qualifiers }

abbrev pub int_named : NamedType
int_named = record { typing = Integer Int; is_const = false }

-- a tag, if there is one
abbrev pub after_tag : {F : Type 0} → DeclarationChecks F → Option Identifier → Walked F → Walked F
after_tag c None w = w
after_tag c (Some x) w = after_name x (declared.TypeName int_named) (finding (c.tag w.scoping x) w)

-- the number of an enumerator without an expression: one more than the one before, where that is known
abbrev pub next_number : Option ℤ → Option ℤ
next_number None = None
next_number (Some n) = Some (n +ℤ pos 1)

abbrev pub int_in : Option ℤ → Option ℤ
int_in None = None
int_in (Some n) = if is_in_type Int n then Some n else None

-- the value of an enumerator, where it is known and an int: that of its expression, else the next
abbrev pub enumerator_value : {F : Type 0} → Walked F → Option ℤ → Option ExpressionTree → Option ℤ
enumerator_value w next None = int_in next
enumerator_value w next (Some e) = int_in (number_in (evaluated w e))

-- as far as its value
abbrev pub after_enumerator_value : {F : Type 0} → DeclarationChecks F → Option ℤ → Identifier → Option ExpressionTree →
    Walked F → Walked F
after_enumerator_value c next x None w = finding (c.counted next x) w
after_enumerator_value c next x (Some e) w = finding (c.enumerator (evaluated w e) e) (after_value c e w)

-- its name
abbrev pub after_enumerator_name : {F : Type 0} → DeclarationChecks F → Option ℤ → Identifier → Walked F → Walked F
after_enumerator_name c value x w = after_name x (declared.Enumerator value) (finding (c.name w.scoping x) w)

-- its scope begins behind its value (C99 6.2.1)
unfoldable pub after_enumerator : {F : Type 0} → DeclarationChecks F → Option ℤ → EnumeratorTree → Walked F → Walked F
after_enumerator c next x w =
    after_enumerator_name c (enumerator_value w next x.value) x.name
    (after_enumerator_value c next x.name x.value w)

unfoldable pub after_enumerators : {F : Type 0} → DeclarationChecks F → Option ℤ → List EnumeratorTree → Walked F →
    Walked F
after_enumerators c next [] w = w
after_enumerators c next (x ∷ xs) w =
    after_enumerators c (next_number (enumerator_value w next x.value)) xs (after_enumerator c next x w)

-- the words of a declaration, and what they declare: a tag before its enumerators
unfoldable pub after_words : {F : Type 0} → DeclarationChecks F → OneOrMore Specifier → Option EnumerationTree →
    Walked F →
    Walked F
after_words c words None w = finding (c.words (here w) words) w
after_words c words (Some e) w =
    after_enumerators c (Some (pos 0)) (e.enumerators.first ∷ e.enumerators.more)
    (after_tag c (type_name_among words) w)

-- The typed trees of an enumeration: what its constants hide (C99 6.2.1), where that is an object.

abbrev pub hidden : Option Declaration → Pos → List DeclaredTree
hidden None at = []
hidden (Some (declared.Object o)) at = hiding_constant o.variable at ∷ []
hidden (Some (declared.Function f)) at = []
hidden (Some (declared.Enumerator n)) at = []
hidden (Some (declared.TypeName t)) at = []

unfoldable pub hidden_by : {F : Type 0} → DeclarationChecks F → Option ℤ → List EnumeratorTree → Walked F →
    List DeclaredTree
hidden_by c next [] w = []
hidden_by c next (x ∷ xs) w =
    hidden (here w x.name) x.name.at
    ++ hidden_by c (next_number (enumerator_value w next x.value)) xs (after_enumerator c next x w)

unfoldable pub word_trees_at : {F : Type 0} → DeclarationChecks F → OneOrMore Specifier → Option EnumerationTree →
    Walked F →
    List DeclaredTree
word_trees_at c words None w = []
word_trees_at c words (Some e) w =
    hidden_by c (Some (pos 0)) (e.enumerators.first ∷ e.enumerators.more)
    (after_tag c (type_name_among words) w)
