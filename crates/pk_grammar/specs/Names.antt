-- The names of a text.
use Rattle.std.specs.Prelude.{◌≡◌, List, [], ◌∷◌, ◌++◌}
use Rattle.pk_lex.specs.declared.token.Token.{Token}
use Rattle.pk_lex.specs.declared.token.Kind.{Kind}
use Rattle.pk_lex.specs.declared.token.Kind.TheVariants as kind
use Rattle.pk_ast.specs.declared.expressions.Identifier.{Identifier}
use Rattle.pk_ast.specs.Names.{names_of}
use Rattle.pk_ast.specs.Trees.{ExternalTree}
use Rattle.pk_grammar.specs.Languages.{identifier_of}
use Rattle.pk_grammar.specs.Outcomes.{IsParsed}

-- a token that is a name or a type name
abbrev pub name_of : Kind → Identifier → List Identifier
name_of kind.Name x = x ∷ []
name_of kind.TypeName x = x ∷ []
name_of (kind.Keyword k) x = []
name_of (kind.Constant ty v) x = []
name_of (kind.Character v) x = []
name_of kind.StringLiteral x = []
name_of kind.Floating x = []
name_of kind.Directive x = []
name_of (kind.Punctuator p) x = []
name_of kind.End x = []

-- those that are, each with its span and place
abbrev pub names_among : List Token → List Identifier
names_among [] = []
names_among (t ∷ ts) = name_of t.kind (identifier_of t) ++ names_among ts

-- The names in trees, type names among them, are those among the tokens of their text, in its order.
abbrev pub NamesAreTokens : Type 0
NamesAreTokens =
    (tokens : List Token) (trees : List ExternalTree) → IsParsed tokens trees → names_of trees ≡ names_among tokens
