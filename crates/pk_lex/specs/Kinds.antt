-- What a word is.
use Rattle.std.specs.Prelude.{ℕ, List, Option, Some, None, if◌then◌else◌}
use Rattle.std.specs.Option.{option_map}
use Rattle.pk_lex.specs.declared.numbers.Constant.{Constant}
use Rattle.pk_lex.specs.declared.token.Keyword.{Keyword}
use Rattle.pk_lex.specs.declared.token.Kind.{Kind}
use Rattle.pk_lex.specs.declared.token.Kind.TheVariants as kind
use Rattle.pk_lex.specs.Tables.{keyword_of, punctuator_of}
use Rattle.pk_lex.specs.Numbers.{is_number, constant_of, is_floating}
use Rattle.pk_lex.specs.Characters.{is_character, character_of, is_string}
use Rattle.pk_lex.specs.Words.{is_name}

-- a name that is no keyword is a name
abbrev pub keyword_or_name : Option Keyword → Kind
keyword_or_name None = kind.Name
keyword_or_name (Some k) = kind.Keyword k

abbrev pub floating_if : List ℕ → Option Kind
floating_if number = if is_floating number then Some kind.Floating else None

-- an integer constant, else a floating one, else neither
abbrev pub number_kind : List ℕ → Option Constant → Option Kind
number_kind number None = floating_if number
number_kind number (Some c) = Some (kind.Constant c.ty c.value)

-- the kind of a word, which only a number may lack
unfoldable pub kind_of : List ℕ → Option Kind
kind_of word =
    if is_name word then Some (keyword_or_name (keyword_of word)) else
    if is_number word then number_kind word (constant_of word) else
    if is_character word then option_map kind.Character (character_of word) else
    if is_string word then Some kind.StringLiteral else
    option_map kind.Punctuator (punctuator_of word)
