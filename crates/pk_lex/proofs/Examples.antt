-- The definitions at worked values.
use Rattle.std.proofs.Common.{◌≡◌, ℕ, List, [], ◌∷◌, ◌++◌, true, false, Some, None, refl}
use Rattle.std.specs.Prelude.{codes, negsuc, Option}
use Rattle.pk_ctypes.specs.declared.types.IntType.TheVariants as ctype
use Rattle.pk_lex.specs.declared.token.Keyword.TheVariants as keyword
use Rattle.pk_lex.specs.declared.token.Punctuator.TheVariants as punctuator
use Rattle.pk_lex.specs.declared.token.Kind.{Kind}
use Rattle.pk_lex.specs.declared.token.Kind.TheVariants as kind
use Rattle.pk_lex.specs.declared.token.LexicalKind.TheVariants as lexical
use Rattle.pk_lex.specs.Tables.{keyword_of, punctuator_of}
use Rattle.pk_lex.specs.Numbers.{suffix_of, constant_of, is_floating}
use Rattle.pk_lex.specs.Characters.{is_character, character_of}
use Rattle.pk_lex.specs.Words.{is_word}
use Rattle.pk_lex.specs.Kinds.{kind_of}
use Rattle.pk_lex.specs.Lines.{is_skipped, begins_line}
use Rattle.pk_lex.specs.WhiteSpace.{has_close}
use Rattle.pk_lex.specs.Failures.{lexical_kind}

abbrev Gives : List ℕ → Option Kind → Type 0
Gives word k = kind_of word ≡ k

octal_digits : Gives (codes "08") None
unfolding kind_of keyword_of punctuator_of suffix_of constant_of is_floating is_character character_of
octal_digits = refl

unsigned_hexadecimal : Gives (codes "0x80000000") (Some (kind.Constant ctype.UInt 2147483648))
unfolding kind_of keyword_of punctuator_of suffix_of constant_of is_floating is_character character_of
unsigned_hexadecimal = refl

long_decimal : Gives (codes "2147483648") (Some (kind.Constant ctype.Long 2147483648))
unfolding kind_of keyword_of punctuator_of suffix_of constant_of is_floating is_character character_of
long_decimal = refl

mixed_case : Gives (codes "1lL") None
unfolding kind_of keyword_of punctuator_of suffix_of constant_of is_floating is_character character_of
mixed_case = refl

no_type : Gives (codes "9223372036854775808") None
unfolding kind_of keyword_of punctuator_of suffix_of constant_of is_floating is_character character_of
no_type = refl

largest : Gives (codes "18446744073709551615LLu") (Some (kind.Constant ctype.ULLong 18446744073709551615))
unfolding kind_of keyword_of punctuator_of suffix_of constant_of is_floating is_character character_of
largest = refl

escaped : Gives (codes "'\\377'") (Some (kind.Character (negsuc 0)))
unfolding kind_of keyword_of punctuator_of suffix_of constant_of is_floating is_character character_of
escaped = refl

signed_exponent : Gives (codes "0xe+1") None
unfolding kind_of keyword_of punctuator_of suffix_of constant_of is_floating is_character character_of
signed_exponent = refl

hexadecimal_point : Gives (codes "0x1.8p3") (Some kind.Floating)
unfolding kind_of keyword_of punctuator_of suffix_of constant_of is_floating is_character character_of
hexadecimal_point = refl

gnu_word : Gives (codes "__attribute__") (Some (kind.Keyword keyword.GnuAttribute))
unfolding kind_of keyword_of punctuator_of suffix_of constant_of is_floating is_character character_of
gnu_word = refl

arrow : Gives (codes "->") (Some (kind.Punctuator punctuator.Arrow))
unfolding kind_of keyword_of punctuator_of suffix_of constant_of is_floating is_character character_of
arrow = refl

text_with_quote : Gives (codes "\"a\\\"b\"") (Some kind.StringLiteral)
unfolding kind_of keyword_of punctuator_of suffix_of constant_of is_floating is_character character_of
text_with_quote = refl

too_large : is_word (codes "'\\400'") ≡ false
unfolding is_word is_character punctuator_of
too_large = refl

backslash_alone : is_word (codes "'\\'") ≡ false
unfolding is_word is_character punctuator_of
backslash_alone = refl

unclosed : is_word (codes "\"a\\\"") ≡ false
unfolding is_word is_character punctuator_of
unclosed = refl

pragma_line : is_skipped (codes "# \tpragma x") ≡ true
pragma_line = refl

pragmatic_line : is_skipped (codes "#pragmatic") ≡ false
pragmatic_line = refl

line_marker : is_skipped (codes "# 1 \"a.c\"") ≡ true
line_marker = refl

second_line : begins_line (codes "a;" ++ 10 ∷ 32 ∷ 12 ∷ []) ≡ true
second_line = refl

after_comment : begins_line (codes "/**/") ≡ false
after_comment = refl

closed : has_close (codes "a**/") ≡ true
closed = refl

wrong_number : lexical_kind (codes "08;") ≡ lexical.Constant
wrong_number = refl

wrong_byte : lexical_kind (codes "@") ≡ lexical.Byte
wrong_byte = refl
