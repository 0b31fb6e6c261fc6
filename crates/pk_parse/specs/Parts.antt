-- The parts of declarations, statements and external definitions: in which states they begin, and to which they lead.
use Rattle.std.specs.Prelude.{◌≡◌, ◌⊎◌, ℕ, ◌+◌, List, [], ◌∷◌, ◌++◌, Option, Some, None, Bool, ◌&&◌, not, true, false}
use Rattle.std.specs.Option.{is_some}
use Rattle.pk_ctypes.specs.declared.places.Pos.{Pos}
use Rattle.pk_lex.specs.declared.token.Token.{Token}
use Rattle.pk_ast.specs.declared.declarations.Specifier.{Specifier}
use Rattle.pk_ast.specs.declared.expressions.Identifier.{Identifier}
use Rattle.pk_ast.specs.declared.units.Storage.{Storage}
use Rattle.pk_ast.specs.Lists.{append_items}
use Rattle.pk_ast.specs.Trees.{OneOrMore, ExpressionTree, ExpressionTrees, expression_then, InitializerItemTree, item_row, braced, DeclaratorTree, EnumeratorTree, EnumerationTree, block, ItemTrees, no_items, BlockTree, BracketsTree, ParameterTree, TypedefTree, ExternalTree, function, type_names}
use Rattle.pk_grammar.specs.declared.signs.Fixed.{Fixed}
use Rattle.pk_grammar.specs.declared.signs.Fixed.TheVariants as fixed
use Rattle.pk_grammar.specs.Languages.{identifier_of}
use Rattle.pk_grammar.specs.Grammar.{conditional_expression, any_expression}
use Rattle.pk_grammar.specs.Machine.Signs.{is_fixed, specifier_word}
use Rattle.pk_grammar.specs.Machine.States.{Head, OpenBlock, function_block, inner_block, Site, in_a_block, in_a_for, outside, Declaring, Naming, Initializing, Initialized, EnumerationSite, in_declaration, in_typedef, Enumerating, Enumerated, Receiving, Purpose, as_enumerator, as_parameter_length, as_parameter_columns, as_whole, State, top, after_storage, type_specifiers, at_enumerator, after_enumerator_name, after_braces, after_specifiers, after_name, after_length, after_columns, at_initializer_item, at_row_item, after_item, after_initializer, parameter_specifiers, parameter_name, parameter_length, parameter_end, block_item, after_static, after_statement, operand, complete}
use Rattle.pk_grammar.specs.Machine.Steps.{refused, taken, wanted, site_nesting, enumerating_nesting, initializing_nesting, with_dimensions, with_initializer, with_item, with_brackets, receiving, declared_at, next_word, end_in_enum, may_open, open_parameters, purpose_level, end_purpose, step}
use Rattle.pk_grammar.specs.Machine.Running.{first_of_all, run}
use Rattle.pk_parse_expression.specs.Parsing.{Begins, EndsAt, UpTo, Reads}

-- Enumerations

-- behind the words of a type
abbrev pub words_state : EnumerationSite → OneOrMore Specifier → State
words_state (in_declaration s) specs = after_specifiers s specs
words_state (in_typedef before) specs = type_specifiers before specs

-- behind the words of a type, and behind the braces of an enumeration where it has some
abbrev pub type_state : EnumerationSite → OneOrMore Specifier → Option EnumerationTree → State
type_state s specs None = words_state s specs
type_state s specs (Some e) = after_braces s specs e

-- neither a further word comes nor the `{` of an enumeration, nor, behind its braces, a `const`
abbrev pub EndsType : Token → OneOrMore Specifier → Option EnumerationTree → List Token → Type 0
EndsType end specs None ts =
    (next_word specs (first_of_all end ts) ≡ None)
    × (is_fixed fixed.OpenBrace (first_of_all end ts).kind ≡ true → may_open specs ≡ false)
EndsType end specs (Some e) ts = is_fixed fixed.Const (first_of_all end ts).kind ≡ false

-- the `{` was read
abbrev pub braces_open : EnumerationSite → OneOrMore Specifier → Enumerating
braces_open s specs = record { site = s; specifiers = specs; enumerators = [] }

-- An enumerator comes in an enumeration at this nesting; its first one where a `}` comes.
pub record CanEnumerate (end : Token) (d : Enumerating) (n : ℕ) (ts : List Token) : Type 0 where
  pub nesting : enumerating_nesting d ≡ n
  pub no_end : is_fixed fixed.CloseBrace (first_of_all end ts).kind ≡ true → d.enumerators ≡ []

-- behind an enumerator's name and its value, where it is given one
abbrev pub value_state : Enumerating → Identifier → Option ExpressionTree → State
value_state d id None = after_enumerator_name d id
value_state d id (Some e) = complete (enumerating_nesting d) e (as_whole (as_enumerator d id))

-- no `=` comes, or the value that is given has ended
abbrev pub EndsValue : Token → Option ExpressionTree → List Token → Type 0
EndsValue end None ts = is_fixed fixed.Assign (first_of_all end ts).kind ≡ false
EndsValue end (Some e) ts = EndsAt end conditional_expression ts

abbrev pub goes_on_enumerating : Enumerated → Enumerating
goes_on_enumerating d =
    record {
      site = d.site;
      specifiers = d.specifiers;
      enumerators = d.enumerators.first ∷ d.enumerators.more;
    }

abbrev pub enumerated : Enumerated → EnumerationTree
enumerated d = record { enumerators = d.enumerators; qualifiers = [] }

-- behind an enumerator: another one is to come, or the braces have ended
abbrev pub enumerator_state : Bool → Enumerated → State
enumerator_state true d = at_enumerator (goes_on_enumerating d)
enumerator_state false d = after_braces d.site d.specifiers (enumerated d)

abbrev pub with_enumerators : Enumerated → List EnumeratorTree → Enumerated
with_enumerators d more =
    record {
      site = d.site;
      specifiers = d.specifiers;
      enumerators = record { first = d.enumerators.first; more = d.enumerators.more ++ more };
    }

abbrev pub with_qualifiers : EnumerationTree → List Specifier → EnumerationTree
with_qualifiers e more = record { enumerators = e.enumerators; qualifiers = e.qualifiers ++ more }

-- Lists in braces

-- an item comes
abbrev pub GoesOn : Token → Bool → List Token → Type 0
GoesOn end another ts = another ≡ true → is_fixed fixed.CloseBrace (first_of_all end ts).kind ≡ false

-- behind an item comes a comma, and then another item
pub record IsFollowed (end : Token) (ts : List Token) (rest : List Token) : Type 0 where
  pub comma : Token
  pub begins : Begins fixed.Comma ts comma rest
  pub no_end : is_fixed fixed.CloseBrace (first_of_all end rest).kind ≡ false

-- behind an item comes the `}`, perhaps with a comma before it
pub record IsLast (ts : List Token) (rest : List Token) : Type 0 where
  pub before : List Token
  pub comma : (before ≡ ts) ⊎ ((t : Token) × Begins fixed.Comma ts t before)
  pub brace : Token
  pub closes : Begins fixed.CloseBrace before brace rest

abbrev pub EndsItem : Token → List Token → Bool → List Token → Type 0
EndsItem end ts true rest = IsFollowed end ts rest
EndsItem end ts false rest = IsLast ts rest

-- Lengths of arrays

-- behind a declarator's name, or behind how many rows it has
abbrev pub length_state : Declaring → Identifier → Option ExpressionTree → State
length_state d id None = after_name d id
length_state d id (Some rows) = after_length d id rows

-- behind one more length
abbrev pub next_length_state : Declaring → Identifier → Option ExpressionTree → ExpressionTree → State
next_length_state d id None e = after_length d id e
next_length_state d id (Some rows) e = after_columns (with_dimensions d id (record { length = rows; columns = Some e }))

-- no `[` comes, or a length in brackets
abbrev pub IsLength : Token → ℕ → List Token → Option ExpressionTree → List Token → Type 0
IsLength end n ts None rest = (rest ≡ ts) × (is_fixed fixed.OpenBracket (first_of_all end ts).kind ≡ false)
IsLength end n ts (Some e) rest =
    (d : Declaring) (id : Identifier) (rows : Option ExpressionTree) → site_nesting d.site ≡ n →
    run end (length_state d id rows) ts ≡ run end (next_length_state d id rows e) rest

-- Initializers

-- the `{` was read
abbrev pub initializer_open : Naming → Pos → Initializing
initializer_open d at = record { naming = d; brace = at; items = [] }

-- An item comes in the braces of an initializer at this nesting; its first one where a `}` comes.
pub record CanInitialize (end : Token) (d : Initializing) (n : ℕ) (ts : List Token) : Type 0 where
  pub nesting : initializing_nesting d ≡ n
  pub no_end : is_fixed fixed.CloseBrace (first_of_all end ts).kind ≡ true → d.items ≡ []

abbrev pub goes_on_initializing : Initialized → Initializing
goes_on_initializing d =
    record {
      naming = d.naming;
      brace = d.brace;
      items = d.items.first ∷ d.items.more;
    }

-- behind an item: another one is to come, or the braces have ended
abbrev pub items_state : Bool → Initialized → State
items_state true d = at_initializer_item (goes_on_initializing d)
items_state false d = after_initializer (with_initializer d.naming (Some (braced d.brace d.items)))

abbrev pub with_items_more : Initialized → List InitializerItemTree → Initialized
with_items_more d more =
    record {
      naming = d.naming;
      brace = d.brace;
      items = record { first = d.items.first; more = d.items.more ++ more };
    }

-- behind a value of a row: another one is to come, or the row has ended
abbrev pub row_state : Bool → Initializing → Pos → ExpressionTree → ExpressionTrees → State
row_state true d at e es = at_row_item d at (expression_then e es)
row_state false d at e es = after_item (with_item d (item_row at e es))

-- Declarations

-- A declaration at this nesting, of which a name was read; where a `(` follows, it isn't the name of a function.
pub record CanDeclare (end : Token) (d : Declaring) (id : Identifier) (n : ℕ) (ts : List Token) : Type 0 where
  pub nesting : site_nesting d.site ≡ n
  pub no_function : is_fixed fixed.OpenParenthesis (first_of_all end ts).kind ≡ true →
      open_parameters d.site d.specifiers d.enumeration d.declarators id ≡ refused

-- a declaration in a function
abbrev pub IsInner : Site → Type 0
IsInner (in_a_block b s) = Unit {0}
IsInner (in_a_for n at o) = Unit {0}
IsInner (outside before s) = ⊥

-- a name has to be declared there, whatever stands before it
abbrev pub needs_name : Site → Bool
needs_name (in_a_block b s) = is_some s
needs_name (in_a_for n at o) = false
needs_name (outside before s) = false

-- behind a type, where no function can be declared; an enumeration may stand alone or not
pub record AtNames (end : Token) (s : Site) (specs : OneOrMore Specifier) (e : Option EnumerationTree) (alone : Bool)
    (n : ℕ) (ts : List Token) : Type 0 where
  pub nesting : site_nesting s ≡ n
  pub no_function : (id : Identifier) → open_parameters s specs e [] id ≡ refused
  pub is_alone : alone ≡ (is_some e && not (needs_name s))
  pub ends : EndsType end specs e ts

-- no name was read yet
abbrev pub named_first : Site → OneOrMore Specifier → Option EnumerationTree → Declaring
named_first s specs e = record { site = s; specifiers = specs; enumeration = e; declarators = [] }

abbrev pub with_declarators : Declaring → List DeclaratorTree → Declaring
with_declarators d more =
    record {
      site = d.site;
      specifiers = d.specifiers;
      enumeration = d.enumeration;
      declarators = d.declarators ++ more;
    }

-- the declaration has ended behind these declarators
abbrev pub after_declaration : Declaring → State
after_declaration d =
    declared_at d.site
    (record { specifiers = d.specifiers; enumeration = d.enumeration; declarators = d.declarators })

-- No expression before this token, or one that ends somewhere
abbrev pub IsOptional : Token → ℕ → Fixed → List Token → Option ExpressionTree → List Token → Type 0
IsOptional end n close ts None rest = (rest ≡ ts) × (is_fixed close (first_of_all end ts).kind ≡ true)
IsOptional end n close ts (Some e) rest =
    (is_fixed close (first_of_all end ts).kind ≡ false)
    × Reads end (UpTo any_expression) (λ c. operand n c) n ts e rest × EndsAt end any_expression rest

-- from this state an expression in parentheses is read, and leads to the next one
pub record IsTest (s : State) (p : Purpose) (n : ℕ) (next : ExpressionTree → State) : Type 0 where
  pub level : purpose_level p ≡ any_expression
  pub opens : (t : Token) → step s t ≡ wanted fixed.OpenParenthesis t (taken (n + 1) (operand (n + 1) (as_whole p)))
  pub closes : (e : ExpressionTree) (t : Token) → end_purpose p e t ≡ wanted fixed.CloseParenthesis t (taken n (next e))

abbrev pub with_items : OpenBlock → ItemTrees → OpenBlock
with_items (function_block h ps at items) more = function_block h ps at (append_items items more)
with_items (inner_block n at items o) more = inner_block n at (append_items items more) o

-- a block's next item comes, of which a `static` was read or not
abbrev pub static_state : OpenBlock → Option Pos → State
static_state b None = block_item b
static_state b (Some at) = after_static b at

abbrev pub BeginsNoDeclaration : Token → List Token → Type 0
BeginsNoDeclaration end ts =
    (specifier_word (first_of_all end ts) ≡ None) × (is_fixed fixed.Static (first_of_all end ts).kind ≡ false)

-- a block at this nesting, of which the `{` was read
abbrev pub IsNewBlock : OpenBlock → Pos → ℕ → Type 0
IsNewBlock (function_block h ps at items) place n = (at ≡ place) × (items ≡ no_items) × (1 ≡ n)
IsNewBlock (inner_block m at items o) place n = (at ≡ place) × (items ≡ no_items) × (m + 1 ≡ n)

abbrev pub after_function : Head → List ParameterTree → Option BlockTree → State
after_function h ps body =
    top (h.before ++ function
    (record { storage = h.storage; specifiers = h.specifiers; name = h.name; parameters = ps; body = body }) ∷ [])

abbrev pub after_type_names : List ExternalTree → TypedefTree → State
after_type_names before d = top (before ++ type_names d ∷ [])

abbrev pub with_names : TypedefTree → List Identifier → TypedefTree
with_names d more =
    record {
      specifiers = d.specifiers;
      enumeration = d.enumeration;
      names = record { first = d.names.first; more = d.names.more ++ more };
    }

abbrev pub after_block : OpenBlock → BlockTree → State
after_block (function_block h ps at items) b = after_function h ps (Some b)
after_block (inner_block n at items o) b = after_statement (block b.opened b.items b.closed) o

-- behind the words of a parameter's type, and its name where it has one
abbrev pub name_state : Head → List ParameterTree → OneOrMore Specifier → Option Identifier → State
name_state h ps specs None = parameter_specifiers h ps specs
name_state h ps specs (Some id) = parameter_name (receiving h ps specs (Some id))

-- no name comes, or this one
abbrev pub IsName : Token → List Token → Option Identifier → List Token → Type 0
IsName end ts None rest = (rest ≡ ts) × (is_fixed fixed.Name (first_of_all end ts).kind ≡ false)
IsName end ts (Some id) rest = (t : Token) × Begins fixed.Name ts t rest × (id ≡ identifier_of t)

-- a length in the brackets of a parameter, or its columns behind this length
abbrev pub bracket_purpose : Receiving → Option (Option ExpressionTree) → Purpose
bracket_purpose d None = as_parameter_length d
bracket_purpose d (Some length) = as_parameter_columns d length

-- behind the brackets
abbrev pub bracketed : Receiving → Option ExpressionTree → Option ExpressionTree → State
bracketed d length columns =
    parameter_end d.head d.before (with_brackets d (Some (record { length = length; columns = columns })))

-- behind its `]`
abbrev pub next_bracket_state : Receiving → Option (Option ExpressionTree) → ExpressionTree → State
next_bracket_state d None e = parameter_length d (Some e)
next_bracket_state d (Some length) e = bracketed d length (Some e)

-- a parameter was read; words of a type alone may be `void`
abbrev pub parameter_state : Head → List ParameterTree → ParameterTree → Option Identifier → Option BracketsTree →
    State
parameter_state h ps p None None = parameter_specifiers h ps p.specifiers
parameter_state h ps p None (Some b) = parameter_end h ps p
parameter_state h ps p (Some id) b = parameter_end h ps p

abbrev pub after_parameter : Head → List ParameterTree → ParameterTree → State
after_parameter h ps p = parameter_state h ps p p.name p.brackets

-- behind words of a type alone comes neither a further one nor a name nor a `[`, and `enum` isn't the last one
abbrev pub EndsWords : Token → OneOrMore Specifier → Option Identifier → Option BracketsTree → List Token → Type 0
EndsWords end words None None ts =
    (next_word words (first_of_all end ts) ≡ None) × (is_fixed fixed.Name (first_of_all end ts).kind ≡ false)
    × (is_fixed fixed.OpenBracket (first_of_all end ts).kind ≡ false) × (end_in_enum words ≡ false)
EndsWords end words None (Some b) ts = Unit {0}
EndsWords end words (Some id) b ts = Unit {0}

abbrev pub EndsParameter : Token → ParameterTree → List Token → Type 0
EndsParameter end p ts = EndsWords end p.specifiers p.name p.brackets ts

abbrev pub storage_state : List ExternalTree → Option Storage → State
storage_state before None = top before
storage_state before (Some s) = after_storage before s
