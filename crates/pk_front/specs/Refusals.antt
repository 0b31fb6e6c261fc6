-- How a refusal is told.
use Rattle.std.specs.Prelude.{ℕ, List, ◌++◌, codes}
use Rattle.pk_front.specs.declared.failures.Refusal.{Refusal}
use Rattle.pk_front.specs.declared.failures.Refusal.TheVariants.{Lexical, Unsupported, Syntax, Typing, NoEntry, Recursion, UndefinedCall}
use Rattle.pk_ctypes.specs.Places.{pos_text}
use Rattle.pk_ctypes.specs.Words.{construct_text, rule_text, names_text}
use Rattle.pk_lex.specs.Failures.{lexical_word}

abbrev pub refusal_text : Refusal → List ℕ
refusal_text (Lexical kind at) = codes "lexical " ++ lexical_word kind ++ codes " at " ++ pos_text at
refusal_text (Unsupported construct at) =
    codes "unsupported " ++ construct_text construct ++ codes " at " ++ pos_text at
refusal_text (Syntax at) = codes "syntax at " ++ pos_text at
refusal_text (Typing rule at) = codes "typing " ++ rule_text rule ++ codes " at " ++ pos_text at
refusal_text (NoEntry name) = codes "no entry " ++ name
refusal_text (Recursion cycle) = codes "recursion " ++ names_text cycle
refusal_text (UndefinedCall name at) = codes "undefined call " ++ name ++ codes " at " ++ pos_text at
