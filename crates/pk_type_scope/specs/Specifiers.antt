-- The type that the words of a declaration or of a cast name (C99 6.7.2): keywords in any order, or a type name (C99 6.7.7) or an enumeration's tag (C99 6.7.2.3) with `const` alone beside it.
use Rattle.std.specs.Prelude.{ℕ, ◌+◌, Bool, true, false, not, ◌&&◌, ◌||◌, nat_eq, nat_le, List, [], ◌∷◌, ◌++◌, Option, Some, None, if◌then◌else◌}
use Rattle.pk_ctypes.specs.declared.places.Pos.{Pos}
use Rattle.pk_ctypes.specs.declared.types.IntType.TheVariants.{Char, SChar, UChar, Short, UShort, Int, UInt, Long, ULong, LLong, ULLong}
use Rattle.pk_ctypes.specs.declared.words.Rule.TheVariants as rule
use Rattle.pk_ast.specs.declared.declarations.Specifier.{Specifier}
use Rattle.pk_ast.specs.declared.declarations.SpecifierWord.{SpecifierWord}
use Rattle.pk_ast.specs.declared.declarations.SpecifierWord.TheVariants as word
use Rattle.pk_ast.specs.declared.expressions.Identifier.{Identifier}
use Rattle.pk_ast.specs.Trees.{OneOrMore}
use Rattle.pk_type_scope.specs.declared.failures.Failure.{Failure}
use Rattle.pk_type_scope.specs.declared.declarations.Typing.{Typing}
use Rattle.pk_type_scope.specs.declared.declarations.Typing.TheVariants.{Void, Integer, Unknown}
use Rattle.pk_type_scope.specs.declared.specifiers.Counts.{Counts}
use Rattle.pk_type_scope.specs.declared.specifiers.Times.{Times}
use Rattle.pk_type_scope.specs.declared.specifiers.Times.TheVariants.{Never, Once, Twice, AtMostOnce}
use Rattle.pk_type_scope.specs.Declarations.{Names, is_unknown, is_type_name, type_meant, const_meant}
use Rattle.pk_type_scope.specs.Failures.{fails_if}

-- one word more; `const` names no type, and a type name or a tag none by its spelling
abbrev pub counted : Counts → SpecifierWord → Counts
counted c word.Void = record c { voids = c.voids + 1 }
counted c word.Char = record c { chars = c.chars + 1 }
counted c word.Short = record c { shorts = c.shorts + 1 }
counted c word.Int = record c { ints = c.ints + 1 }
counted c word.Long = record c { longs = c.longs + 1 }
counted c word.Signed = record c { signeds = c.signeds + 1 }
counted c word.Unsigned = record c { unsigneds = c.unsigneds + 1 }
counted c word = c

-- how often each word stands among these, after some
abbrev pub counts_of : Counts → List Specifier → Counts
counts_of c [] = c
counts_of c (s ∷ more) = counts_of (counted c s.word) more

abbrev pub total_of : Counts → ℕ
total_of c = c.voids + c.chars + c.shorts + c.ints + c.longs + c.signeds + c.unsigneds

abbrev pub no_words : Counts
no_words = record { voids = 0; chars = 0; shorts = 0; ints = 0; longs = 0; signeds = 0; unsigneds = 0 }

abbrev pub occurs : Times → ℕ → Bool
occurs Never n = nat_eq n 0
occurs Once n = nat_eq n 1
occurs Twice n = nat_eq n 2
occurs AtMostOnce n = nat_le n 1

-- how often each word stands in the name of a type
unfoldable pub has_words : Counts → (void char short int long signed unsigned : Times) → Bool
has_words c void char short int long signed unsigned =
    occurs void c.voids && occurs char c.chars && occurs short c.shorts && occurs int c.ints && occurs long c.longs
    && occurs signed c.signeds && occurs unsigned c.unsigneds

-- The table of C99 6.7.2: `int` may stand beside short, long, signed and unsigned, and signed beside the signed types.
abbrev pub type_counted : Counts → Typing
type_counted c =
    --                void  char  short int        long  signed     unsigned
    if has_words c Once Never Never Never Never Never Never then Void
    else if has_words c Never Once Never Never Never Never Never then Integer Char
    else if has_words c Never Once Never Never Never Once Never then Integer SChar
    else if has_words c Never Once Never Never Never Never Once then Integer UChar
    else if has_words c Never Never Once AtMostOnce Never AtMostOnce Never then Integer Short
    else if has_words c Never Never Once AtMostOnce Never Never Once then Integer UShort
    else if has_words c Never Never Never Once Never AtMostOnce Never then Integer Int
    else if has_words c Never Never Never Never Never Once Never then Integer Int
    else if has_words c Never Never Never AtMostOnce Never Never Once then Integer UInt
    else if has_words c Never Never Never AtMostOnce Once AtMostOnce Never then Integer Long
    else if has_words c Never Never Never AtMostOnce Once Never Once then Integer ULong
    else if has_words c Never Never Never AtMostOnce Twice AtMostOnce Never then Integer LLong
    else if has_words c Never Never Never AtMostOnce Twice Never Once then Integer ULLong
    else Unknown

-- the type that the keywords name; unknown where they name none
abbrev pub type_spelled : OneOrMore Specifier → Typing
type_spelled words = type_counted (counts_of (counted no_words words.first.word) words.more)

-- the name that a word of a type is looked up by, where it is a type name or a tag
abbrev pub word_meant : SpecifierWord → Pos → List Identifier
word_meant (word.TypeName start end) at = record { start = start; end = end; at = at; is_tag = false } ∷ []
word_meant (word.Tag start end) at = record { start = start; end = end; at = at; is_tag = true } ∷ []
word_meant word at = []

abbrev pub words_meant : List Specifier → List Identifier
words_meant [] = []
words_meant (s ∷ more) = word_meant s.word s.at ++ words_meant more

abbrev pub first_name : List Identifier → Option Identifier
first_name [] = None
first_name (x ∷ xs) = Some x

-- the type name or the tag among the words, if one is there: the grammar lets no second one stand
abbrev pub type_name_among : OneOrMore Specifier → Option Identifier
type_name_among words = first_name (words_meant (words.first ∷ words.more))

abbrev pub type_by : Names → Option Identifier → OneOrMore Specifier → Typing
type_by d None words = type_spelled words
type_by d (Some x) words = type_meant (d x)

-- the type that the words name; unknown where they name none
unfoldable pub type_named : Names → OneOrMore Specifier → Typing
type_named d words = type_by d (type_name_among words) words

-- specifiers: the words name neither void nor a type; at the first word
abbrev pub specifiers : OneOrMore Specifier → List Failure
specifiers words = fails_if (is_unknown (type_spelled words)) rule.Specifiers words.first.at

-- undeclared: the type name or the tag stands for no type; at the name
abbrev pub undeclared_type : Names → Identifier → List Failure
undeclared_type d x = fails_if (not (is_type_name (d x))) rule.Undeclared x.at

-- the first row where keywords name the type, the second where a name does
abbrev pub failures_by : Names → Option Identifier → OneOrMore Specifier → List Failure
failures_by d None words = specifiers words
failures_by d (Some x) words = undeclared_type d x

unfoldable pub word_failures : Names → OneOrMore Specifier → List Failure
word_failures d words = failures_by d (type_name_among words) words

abbrev pub is_const_word : SpecifierWord → Bool
is_const_word word.Const = true
is_const_word word = false

abbrev pub has_const : List Specifier → Bool
has_const [] = false
has_const (s ∷ more) = if is_const_word s.word then true else has_const more

abbrev pub is_const_among : OneOrMore Specifier → Bool
is_const_among words = has_const (words.first ∷ words.more)

abbrev pub const_by : Names → Option Identifier → Bool
const_by d None = false
const_by d (Some x) = const_meant (d x)

-- const stands among the words, or the type name among them is one for a const type
unfoldable pub names_const : Names → OneOrMore Specifier → Bool
names_const d words = is_const_among words || const_by d (type_name_among words)
