-- What an enumeration's steps leave, up to its closing brace.
use Rattle.std.proofs.Common.{◌≡◌, ℕ, List, [], ◌∷◌, Option, Some, None, inr, refl}
use Rattle.pk_lex.specs.declared.token.Token.{Token}
use Rattle.pk_lex.specs.declared.token.Kind.TheVariants as kind
use Rattle.pk_lex.specs.declared.token.Punctuator.TheVariants as mark
use Rattle.pk_ast.specs.declared.declarations.Specifier.{Specifier}
use Rattle.pk_ast.specs.declared.declarations.SpecifierWord.TheVariants as word
use Rattle.pk_ast.specs.declared.expressions.Identifier.{Identifier}
use Rattle.pk_ast.specs.Trees.{OneOrMore, ExpressionTree, EnumeratorTree, EnumerationTree}
use Rattle.pk_grammar.specs.declared.signs.Fixed.TheVariants as fixed
use Rattle.pk_grammar.specs.Languages.{Marked, Optional, Identified, ◌⊙◌}
use Rattle.pk_grammar.specs.Grammar.{specifier, punctuator, enumerator_value, braces, type_words}
use Rattle.pk_grammar.specs.Machine.States.{EnumerationSite, Enumerating, Enumerated}
use Rattle.pk_grammar.specs.Machine.Steps.{refused, may_open, enumeration_nesting, enumerating_nesting, with_enumerator, close_braces, next_enumerator, after_enumerator, open_braces, end_braces, at_next_enumerator, at_enumerator_name, with_qualifier}
use Rattle.pk_grammar.proofs.WordLemmas.{before_braces, consts_end}
use Rattle.pk_grammar.proofs.SpellsWords.{◌▹◌, push, none_more, not_there, gather, spread, last_as, assoc, then_as}
use Rattle.pk_grammar.proofs.SpellsLists.{enumerators_end, enumerators_comma, enumerators_before_end, qualifiers_end}
use Rattle.pk_grammar.proofs.SpellsStates.{bare, open_words, to_enumeration, to_enumerator, to_enumerator_end}
use Rattle.pk_grammar.proofs.SpellsGood.{Good, if_good, wanted_good, fixed_good}

pub open_braces_good : (s : EnumerationSite) (ss : OneOrMore Specifier) (t : Token) (ms : List Marked) → t.kind ≡ kind.Punctuator mark.OpenBrace →
    (to_enumeration s ▹ open_words ss (enumeration_nesting s)) ms → Good (open_braces s ss) t ms
open_braces_good s ss t ms k h = if_good (may_open ss) _ refused t ms
    (λ b. none_more (enumeration_nesting s) (push ms t (before_braces ss h.second.holds b, last_as (λ ts g. g.is) h) k)) (λ b. tt)

-- a value, or none, ends an enumerator
pub valued : (d : Enumerating) (id : Identifier) (v : Option ExpressionTree) (ms : List Marked) → (to_enumerator d ▹ Identified id (enumerating_nesting d) ▹ enumerator_value v (enumerating_nesting d)) ms →
    to_enumerator_end (with_enumerator d id v) ms
valued d id v ms h = last_as (λ ts g. enumerators_end d.enumerators _ _ ts g) (gather (gather h))

-- the closing brace
pub braces_close : (d : Enumerated) (t : Token) (ms : List Marked) → t.kind ≡ kind.Punctuator mark.CloseBrace →
    (to_enumerator_end d ▹ Optional (punctuator mark.Comma) (enumeration_nesting d.site)) ms → Good (close_braces d) t ms
braces_close d t ms k g =
    let n : ℕ = enumeration_nesting d.site in
    let before = g.first.first.first.0 in
    last_as (λ ts f. record { holds = (before, tt); is = f }) (gather (bare (gather (gather (gather (gather (none_more n (push ms t g k))))))))

pub next_enumerator_good : (d : Enumerated) (t : Token) (ms : List Marked) → t.kind ≡ kind.Punctuator mark.Comma → to_enumerator_end d ms → Good (next_enumerator d) t ms
next_enumerator_good d t ms k g = last_as (λ ts f. enumerators_comma d.enumerators _ ts f) (gather (push ms t g k))

pub close_braces_good : (d : Enumerated) (t : Token) (ms : List Marked) → t.kind ≡ kind.Punctuator mark.CloseBrace → to_enumerator_end d ms → Good (close_braces d) t ms
close_braces_good d t ms k g = braces_close d t ms k (not_there (punctuator mark.Comma) (enumeration_nesting d.site) g)

after_enumerator_good : (d : Enumerated) (t : Token) (ms : List Marked) → to_enumerator_end d ms → Good (after_enumerator d t) t ms
after_enumerator_good d t ms g =
    fixed_good fixed.Comma _ _ t ms (λ k. next_enumerator_good d t ms k g) (wanted_good fixed.CloseBrace _ t ms (λ k. close_braces_good d t ms k g))

-- the brace behind a comma
end_braces_good : (s : EnumerationSite) (ss : OneOrMore Specifier) (xs : List EnumeratorTree) (t : Token) (ms : List Marked) →
    to_enumerator (record { site = s; specifiers = ss; enumerators = xs }) ms → Good (end_braces s ss xs t) t ms
end_braces_good s ss [] t ms h = tt
end_braces_good s ss (x ∷ xs) t ms h = wanted_good fixed.CloseBrace _ t ms (λ k.
    braces_close (record { site = s; specifiers = ss; enumerators = record { first = x; more = xs } }) t ms k
    (last_as (λ ts c. inr c) (spread (last_as (λ ts g. enumerators_before_end x xs _ ts g) h))))

pub at_next_enumerator_good : (d : Enumerating) (t : Token) (ms : List Marked) → to_enumerator d ms → Good (at_next_enumerator d t) t ms
at_next_enumerator_good d t ms h = fixed_good fixed.Name _ _ t ms (λ k. push ms t h (k, refl)) (end_braces_good d.site d.specifiers d.enumerators t ms h)

pub at_enumerator_name_good : (d : Enumerating) (id : Identifier) (t : Token) (ms : List Marked) → (to_enumerator d ▹ Identified id (enumerating_nesting d)) ms → Good (at_enumerator_name d id t) t ms
at_enumerator_name_good d id t ms h =
    fixed_good fixed.Assign _ _ t ms (λ k. (refl, push ms t h k)) (after_enumerator_good _ t ms (valued d id None ms (none_more (enumerating_nesting d) h)))

-- a `const` behind the braces

braces_qualifier : (e : EnumerationTree) (q : Specifier) (n : ℕ) (ts : List Marked) → (braces e ⊙ specifier q) n ts → braces (with_qualifier e q) n ts
braces_qualifier e q n ts h =
    then_as (λ us g. then_as (λ vs f. then_as (λ ws d. then_as (λ xs c. qualifiers_end e.qualifiers q n xs c) (assoc d)) (assoc f)) (assoc g)) (assoc h)

pub one_more_qualifier : (ss : OneOrMore Specifier) (e : EnumerationTree) (q : Specifier) (n : ℕ) (ts : List Marked) → q.word ≡ word.Const → (type_words ss (Some e) ⊙ specifier q) n ts →
    type_words ss (Some (with_qualifier e q)) n ts
one_more_qualifier ss e q n ts c h = record {
  holds = (h.first.holds.0, consts_end e.qualifiers q h.first.holds.1 c);
  is = then_as (λ us g. braces_qualifier e q n us g) (assoc (record { front = h.front; back = h.back; cut = h.cut; first = h.first.is; second = h.second }));
}
