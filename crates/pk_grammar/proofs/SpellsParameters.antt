-- What the steps of a function's parameters leave.
use Rattle.std.proofs.Common.{◌≡◌, ℕ, inr, List, [], ◌∷◌, Bool, true, false, Option, Some, None, if◌then◌else◌, refl, ap, ◌∙◌, subst}
use Rattle.pk_lex.specs.declared.token.Token.{Token}
use Rattle.pk_lex.specs.declared.token.Kind.TheVariants as kind
use Rattle.pk_lex.specs.declared.token.Keyword.TheVariants as key
use Rattle.pk_lex.specs.declared.token.Punctuator.TheVariants as mark
use Rattle.pk_ast.specs.declared.declarations.Specifier.{Specifier}
use Rattle.pk_ast.specs.declared.declarations.SpecifierWord.{SpecifierWord}
use Rattle.pk_ast.specs.declared.declarations.SpecifierWord.TheVariants as word
use Rattle.pk_ast.specs.declared.expressions.Identifier.{Identifier}
use Rattle.pk_ast.specs.Trees.{OneOrMore, ExpressionTree, BracketsTree, ParameterTree}
use Rattle.pk_grammar.specs.declared.signs.Fixed.TheVariants as fixed
use Rattle.pk_grammar.specs.Languages.{Marked, ◌⊙◌, identifier_of}
use Rattle.pk_grammar.specs.Grammar.{keyword, punctuator, specifier, specifier_list, specifiers, conditional_expression, Expression, open_length, brackets, parameter, IsVoidAlone, parameters, IsWord}
use Rattle.pk_grammar.specs.Machine.Signs.{specifier_word, is_void_word}
use Rattle.pk_grammar.specs.Machine.States.{Head, Receiving, as_parameter_length, as_whole, parameters_closed}
use Rattle.pk_grammar.specs.Machine.Steps.{taken, refused, at_operand, with_brackets, close_brackets, begin_parameter, is_void_alone, is_void, words_alone, last_parameter, more_parameter, at_parameter_end, at_parameter_name, at_parameter_bracket, at_parameter_length, next_word, end_in_enum}
use Rattle.pk_grammar.proofs.SpellsSigns.{IsSpecifier, is_specifier, IsNext, is_next}
use Rattle.pk_grammar.proofs.SpellsWords.{and_none, drop_none, drop_last, then_as, Words, ◌▹◌, push, none_more, not_there, gather, last_as, before_as}
use Rattle.pk_grammar.proofs.SpellsLists.{first_word, one_more_word, whole_words, parameters_end, parameters_comma}
use Rattle.pk_grammar.proofs.SpellsStates.{open_words, parameters_before, to_parameters, to_parameter, to_brackets}
use Rattle.pk_grammar.proofs.SpellsGood.{Good, if_good, fixed_good, wanted_good}

pub begin_parameter_good : (h : Head) (ps : List ParameterTree) (t : Token) (ms : List Marked) →
    to_parameter h ps ms → Good (begin_parameter h ps t (specifier_word t)) t ms
begin_parameter_good h ps t ms g = go (specifier_word t) (is_specifier t)
  where
    go : (w : Option SpecifierWord) → IsSpecifier w t → Good (begin_parameter h ps t w) t ms
    go (Some w) k = first_word w t 1 ms k g
    go None k = tt

void_word : (w : SpecifierWord) → is_void_word w ≡ true → w ≡ word.Void
void_word word.Void e = refl
void_word _ e = cc

-- `void` alone
void_first : (s : Specifier) (more : List Specifier) (n : ℕ) (ts : List Marked) → is_void_alone s.word more ≡ true → (specifier s ⊙ specifier_list more) n ts → keyword key.Void n ts
void_first s [] n ts e h =
    let g = drop_last h in
    record { token = g.token; is = g.is; holds = subst (λ w. IsWord w g.token) (void_word s.word e) g.holds.0 }
void_first s (r ∷ more) n ts e h = cc

void_alone : (ss : OneOrMore Specifier) (n : ℕ) (ts : List Marked) → is_void ss ≡ true → specifiers ss n ts → keyword key.Void n ts
void_alone ss n ts e h = void_first ss.first ss.more n ts e h.is

is_void_of : (ss : OneOrMore Specifier) → ss.first.word ≡ word.Void → ss.more ≡ [] → is_void ss ≡ true
is_void_of ss e f = ap (λ more. is_void_alone ss.first.word more) f ∙ ap is_void_word e

-- a parameter without a name and brackets
words_only : (ss : OneOrMore Specifier) (n : ℕ) (ts : List Marked) → specifiers ss n ts → parameter (words_alone ss) n ts
words_only ss n ts h = then_as (λ us g. and_none n us g) (and_none n ts h)

only_parameter : (b : Bool) (ss : OneOrMore Specifier) (n : ℕ) (ts : List Marked) → is_void ss ≡ b → specifiers ss n ts →
    parameters (if b then [] else words_alone ss ∷ []) n ts
only_parameter true ss n ts e h = inr (void_alone ss n ts e h)
only_parameter false ss n ts e h = record { holds = λ v. let f = is_void_of ss v.0 v.1 in cc; is = words_only ss n ts h }

-- the last parameter, or none
last_parameter_good : {R : Words} (ps : List ParameterTree) (ss : OneOrMore Specifier) (ms : List Marked) → (R ▹ parameters_before ps 1 ▹ specifiers ss 1) ms → (R ▹ parameters (last_parameter ps ss) 1) ms
last_parameter_good [] ss ms h = last_as (λ ts g. only_parameter (is_void ss) ss 1 ts refl g) (before_as (λ ts b. drop_none 1 b) h)
last_parameter_good (p ∷ ps) ss ms h = last_as (λ ts g. parameters_end (p ∷ ps) _ 1 ts (λ e. cc) g) (gather (last_as (λ ts g. words_only ss 1 ts g) h))

pub more_parameter_good : (h : Head) (ps : List ParameterTree) (ss : OneOrMore Specifier) (t : Token) (ms : List Marked) →
    (to_parameter h ps ▹ open_words ss 1) ms → Good (more_parameter h ps ss t (next_word ss t)) t ms
more_parameter_good h ps ss t ms g = go (next_word ss t) (is_next ss t)
  where
    go : (w : Option SpecifierWord) → IsNext ss w t → Good (more_parameter h ps ss t w) t ms
    go (Some w) k = one_more_word ss w t 1 ms k g
    go None k = if_good (end_in_enum ss) refused _ t ms (λ b. tt) (λ b.
        let h = whole_words ss 1 ms b g in
        fixed_good fixed.Name _ _ t ms (λ k. (λ v. let e : ◌≡◌ {A = Option Identifier} (Some (identifier_of t)) None = v.2 in cc, push ms t h (k, refl)))
        (fixed_good fixed.OpenBracket _ _ t ms (λ k. push ms t (none_more 1 h) k)
        (fixed_good fixed.Comma _ _ t ms (λ k. last_as (λ ts f. parameters_comma ps _ 1 ts f) (gather (gather (push ms t (last_as (λ ts g. words_only ss 1 ts g) h) k))))
        (wanted_good fixed.CloseParenthesis _ t ms (λ k. push ms t (gather (last_parameter_good ps ss ms h)) k)))))

pub at_parameter_end_good : (h : Head) (ps : List ParameterTree) (p : ParameterTree) (t : Token) (ms : List Marked) → ¬ IsVoidAlone p → (to_parameter h ps ▹ parameter p 1) ms → Good (at_parameter_end h ps p t) t ms
at_parameter_end_good h ps p t ms v g =
    fixed_good fixed.Comma _ _ t ms (λ k. last_as (λ ts f. parameters_comma ps p 1 ts f) (gather (gather (push ms t g k))))
    (wanted_good fixed.CloseParenthesis _ t ms (λ k. push ms t (gather (last_as (λ ts f. parameters_end ps p 1 ts (λ e. v) f) (gather g))) k))

-- brackets, or none, end a parameter
bracketed : (d : Receiving) (b : Option BracketsTree) (ms : List Marked) → (to_brackets d ▹ brackets b 1) ms → (to_parameter d.head d.before ▹ parameter (with_brackets d b) 1) ms
bracketed d b ms h = gather (gather h)

-- they are more than `void`
no_void : (d : Receiving) (b : BracketsTree) → ¬ IsVoidAlone (with_brackets d (Some b))
no_void d b v = let e : ◌≡◌ {A = Option BracketsTree} (Some b) None = v.3 in cc

pub at_parameter_name_good : (d : Receiving) (t : Token) (ms : List Marked) → ¬ IsVoidAlone (with_brackets d None) → to_brackets d ms → Good (at_parameter_name d t) t ms
at_parameter_name_good d t ms v g =
    fixed_good fixed.OpenBracket _ _ t ms (λ k. push ms t g k)
    (at_parameter_end_good d.head d.before (with_brackets d None) t ms v (bracketed d None ms (none_more 1 g)))

pub at_parameter_bracket_good : (d : Receiving) (t : Token) (ms : List Marked) → (to_brackets d ▹ punctuator mark.OpenBracket 2) ms → Good (at_operand 2 (as_whole (as_parameter_length d)) t) t ms →
    Good (at_parameter_bracket d t) t ms
at_parameter_bracket_good d t ms g o = fixed_good fixed.CloseBracket _ _ t ms (λ k. gather (push ms t (gather (none_more 2 g)) k)) o

pub at_parameter_length_good : (d : Receiving) (l : Option ExpressionTree) (t : Token) (ms : List Marked) → (to_brackets d ▹ open_length l 1) ms → Good (at_parameter_length d l t) t ms
at_parameter_length_good d l t ms g =
    let b : BracketsTree = record { length = l; columns = None } in
    fixed_good fixed.OpenBracket _ _ t ms (λ k. (refl, push ms t g k))
    (at_parameter_end_good d.head d.before (with_brackets d (Some b)) t ms (no_void d b) (bracketed d (Some b) ms (gather (none_more 1 g))))

-- the `]` behind columns
pub close_brackets_good : (d : Receiving) (l : Option ExpressionTree) (e : ExpressionTree) (t : Token) (ms : List Marked) → t.kind ≡ kind.Punctuator mark.CloseBracket →
    (to_brackets d ▹ open_length l 1 ▹ (punctuator mark.OpenBracket ⊙ Expression conditional_expression e) 2) ms → Good (close_brackets d l e) t ms
close_brackets_good d l e t ms k h =
    let b : BracketsTree = record { length = l; columns = Some e } in
    (no_void d b, bracketed d (Some b) _ (gather (gather (push ms t h k))))

pub parameters_open_good : (h : Head) (t : Token) (ms : List Marked) → t.kind ≡ kind.Punctuator mark.CloseParenthesis → (to_parameters h ▹ punctuator mark.OpenParenthesis 1) ms →
    Good (taken 0 (parameters_closed h [])) t ms
parameters_open_good h t ms k g = push ms t (gather (not_there (keyword key.Void) 1 g)) k
