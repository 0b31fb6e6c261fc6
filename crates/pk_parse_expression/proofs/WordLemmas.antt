-- The words of a type with which tokens begin.
use Rattle.std.proofs.Common.{◌≡◌, ◌<◌, ◌≤◌, List, [], ◌∷◌, Option, Some, None, refl, sym, ap, ◌∙◌, length, arith}
use Rattle.pk_lex.specs.declared.token.Token.{Token}
use Rattle.pk_ast.specs.declared.declarations.Specifier.{Specifier}
use Rattle.pk_ast.specs.declared.declarations.SpecifierWord.{SpecifierWord}
use Rattle.pk_ast.specs.Lists.{with_last}
use Rattle.pk_ast.specs.Trees.{OneOrMore}
use Rattle.pk_grammar.specs.declared.signs.Shape.{Shape}
use Rattle.pk_grammar.specs.Grammar.{all_of}
use Rattle.pk_grammar.specs.Machine.Signs.{following_word, with_word, shape_of}
use Rattle.pk_grammar.specs.Machine.Steps.{specifier_at, next_word}
use Rattle.pk_grammar.specs.Machine.Running.{first_of_all}
use Rattle.pk_grammar.proofs.WordLemmas.{shape_with_last}
use Rattle.pk_parse_expression.specs.Parsing.{BeginsWithWord, words, words_then}

pub no_words : (end : Token) (done : OneOrMore Specifier) (ts : List Token) → next_word done (first_of_all end ts) ≡ None → words done ts ≡ (done, ts)
unfolding words
no_words end done [] e = refl
no_words end done (t ∷ ts) e = ap (λ o. words_then done t ts o (λ q. words q ts)) e

pub one_word : (done : OneOrMore Specifier) (ts : List Token) (s : Specifier) (rest : List Token) → BeginsWithWord (next_word done) ts s rest → words (with_last done s) rest ≡ words done ts
unfolding words
one_word done ts s rest b =
    ap (λ q. words (with_last done q) rest) b.specifier
    ∙ sym (ap (λ q. words done q) b.cut ∙ ap (λ o. words_then done b.token rest o (λ q. words q rest)) b.is)

pub shorter : {of : Token → Option SpecifierWord} (ts : List Token) (s : Specifier) (rest : List Token) → BeginsWithWord of ts s rest → length rest < length ts
shorter ts s rest b = omega (arith, ap length b.cut)

pub no_longer : (ts : List Token) (done : OneOrMore Specifier) → length (words done ts).1 ≤ length ts
unfolding words
no_longer [] done = omega arith
no_longer (t ∷ ts) done = by_word (λ q. no_longer ts q) (next_word done t)
  where
    by_word : ((q : OneOrMore Specifier) → length (words q ts).1 ≤ length ts) → (o : Option SpecifierWord) → length (words_then done t ts o (λ q. words q ts)).1 ≤ length (t ∷ ts)
    by_word on None = omega arith
    by_word on (Some w) = let h = on (with_last done (specifier_at t w)) in omega arith

-- what words are, with one more

pub shape_as : (s : Shape) (done all : OneOrMore Specifier) → s ≡ shape_of (all_of done) → all ≡ done → s ≡ shape_of (all_of all)
shape_as s done all e f = e ∙ ap (λ q. shape_of (all_of q)) (sym f)

pub shape_more : (s r : Shape) (done : OneOrMore Specifier) (w : Specifier) → r ≡ shape_of (all_of done) → s ≡ with_word r w.word → s ≡ shape_of (all_of (with_last done w))
shape_more s r done w e f = f ∙ ap (λ q. with_word q w.word) e ∙ sym (shape_with_last done w)

-- what may follow is what is next
pub following_next : (s : Shape) (done : OneOrMore Specifier) (t : Token) → s ≡ shape_of (all_of done) → following_word s t ≡ next_word done t
following_next s done t h = ap (λ q. following_word q t) h

pub begins_next : (s : Shape) (done : OneOrMore Specifier) (ts : List Token) (w : Specifier) (rest : List Token) → s ≡ shape_of (all_of done) → BeginsWithWord (following_word s) ts w rest →
    BeginsWithWord (next_word done) ts w rest
begins_next s done ts w rest h b =
    record { token = b.token; word = b.word; cut = b.cut; is = sym (following_next s done b.token h) ∙ b.is; specifier = b.specifier }
