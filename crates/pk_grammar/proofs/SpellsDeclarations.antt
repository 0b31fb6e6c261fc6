-- What a declaration's steps leave.
use Rattle.std.proofs.Common.{◌≡◌, ℕ, ◌+◌, inr, List, [], ◌∷◌, Option, Some, None, refl}
use Rattle.pk_ctypes.specs.declared.places.Pos.{Pos}
use Rattle.pk_lex.specs.declared.token.Token.{Token}
use Rattle.pk_lex.specs.declared.token.Kind.TheVariants as kind
use Rattle.pk_lex.specs.declared.token.Punctuator.TheVariants as mark
use Rattle.pk_ast.specs.declared.declarations.Specifier.{Specifier}
use Rattle.pk_ast.specs.declared.declarations.SpecifierWord.{SpecifierWord}
use Rattle.pk_ast.specs.declared.declarations.SpecifierWord.TheVariants as word
use Rattle.pk_ast.specs.declared.expressions.Identifier.{Identifier}
use Rattle.pk_ast.specs.Trees.{OneOrMore, ExpressionTree, InitializerTree, DeclaratorTree, EnumerationTree, DeclarationTree, ExpressionTrees, no_expressions, expression_then, InitializerItemTree, item_row, braced}
use Rattle.pk_grammar.specs.declared.signs.Fixed.TheVariants as fixed
use Rattle.pk_grammar.specs.Languages.{Marked, Optional, Identified}
use Rattle.pk_grammar.specs.Grammar.{Items, type_words, initializer, initializer_item, declarators, declared, punctuator, punctuator_at}
use Rattle.pk_grammar.specs.Machine.States.{function_block, inner_block, Site, in_a_block, in_a_for, outside, EnumerationSite, in_declaration, in_typedef, Declaring, Declared, Naming, Initializing, Initialized, as_item, as_row_item, as_whole}
use Rattle.pk_grammar.specs.Machine.Steps.{taken, specifier_at, enumeration_nesting, declared_at, whole_declaration, first_name, end_alone, alone, behind_braces, at_after_braces, more_specifiers, with_dimensions, without_dimensions, open_parameters, at_after_dimensions, at_after_name, at_after_length, site_nesting, naming_nesting, initializing_nesting, with_initializer, with_item, at_item_end, next_item, close_initializer, close_row, end_items, end_row, at_next_item, at_next_row_item, at_operand, end_declaration, next_declarator, after_declarator, next_word}
use Rattle.pk_grammar.proofs.SpellsSigns.{IsNext, is_next}
use Rattle.pk_grammar.proofs.SpellsWords.{and_none, drop_none, ◌▹◌, push, none_more, not_there, gather, spread, together, last_as, before_as, moved}
use Rattle.pk_grammar.proofs.SpellsLists.{one_more_word, whole_at, declarators_end, declarators_comma, values_before_end, items_end, items_comma, items_before_end, items_declaration, externals_end}
use Rattle.pk_grammar.proofs.SpellsStates.{open_words, to_enumeration, to_declaration, to_declarator, to_declarator_end, to_initializer, to_columns, to_next_item, to_items_end, to_row_item, bare_three}
use Rattle.pk_grammar.proofs.CompleteDeclarations.{MayDeclare}
use Rattle.pk_grammar.proofs.SpellsEnumerations.{open_braces_good, one_more_qualifier}
use Rattle.pk_grammar.proofs.SpellsGood.{Good, wanted_good, fixed_good, two}

-- an initializer, or none, ends a declarator
pub initialized : (d : Naming) (i : Option InitializerTree) (ms : List Marked) → (to_initializer d ▹ initializer i (naming_nesting d)) ms → to_declarator_end (with_initializer d i) ms
initialized d i ms h = last_as (λ ts g. declarators_end d.declaring.enumeration d.declaring.declarators _ _ ts g) (gather (gather (gather h)))

declaration_ends : (s : Site) (d : DeclarationTree) (t : Token) (ms : List Marked) → t.kind ≡ kind.Punctuator mark.Semicolon → MayDeclare s d.declarators →
    (to_declaration s ▹ type_words d.specifiers d.enumeration (site_nesting s) ▹ declarators d.enumeration d.declarators (site_nesting s)) ms →
    Good (taken (site_nesting s) (declared_at s d)) t ms
declaration_ends (in_a_block (function_block h ps at items) p) d t ms k may g = last_as (λ ts f. items_declaration items p d 1 ts may f) (gather (gather (gather (gather (push ms t g k)))))
declaration_ends (in_a_block (inner_block n at items o) p) d t ms k may g =
    (g.first.first.first.0, last_as (λ ts f. items_declaration items p d (n + 1) ts may f) (gather (gather (gather (gather (push ms t (bare_three g) k))))))
declaration_ends (in_a_for n at o) d t ms k may g = moved (declared d) (two n) (gather (gather (push ms t g k)))
declaration_ends (outside before s) d t ms k may g = externals_end before _ 0 _ (together (gather (gather (gather (push ms t g k)))))

-- a name is declared
declares : (s : Site) (d : DeclaratorTree) (ds : List DeclaratorTree) → MayDeclare s (d ∷ ds)
declares (in_a_block b None) d ds = tt
declares (in_a_block b (Some at)) d ds = tt
declares (in_a_for n at o) d ds = tt
declares (outside before s) d ds = tt

pub end_declaration_good : (d : Declared) (t : Token) (ms : List Marked) → t.kind ≡ kind.Punctuator mark.Semicolon → to_declarator_end d ms → Good (end_declaration d) t ms
end_declaration_good d t ms k g = declaration_ends d.site (whole_declaration d) t ms k (declares d.site d.declarators.first d.declarators.more) g

pub next_declarator_good : (d : Declared) (t : Token) (ms : List Marked) → t.kind ≡ kind.Punctuator mark.Comma → to_declarator_end d ms → Good (next_declarator d) t ms
next_declarator_good d t ms k g = last_as (λ ts f. declarators_comma d.enumeration d.declarators _ ts f) (gather (push ms t g k))

pub after_declarator_good : (d : Declared) (t : Token) (ms : List Marked) → to_declarator_end d ms → Good (after_declarator d t) t ms
after_declarator_good d t ms g =
    fixed_good fixed.Comma _ _ t ms (λ k. next_declarator_good d t ms k g) (wanted_good fixed.Semicolon _ t ms (λ k. end_declaration_good d t ms k g))

-- the `}` of an initializer
initializer_ends : (d : Initialized) (t : Token) (ms : List Marked) → t.kind ≡ kind.Punctuator mark.CloseBrace → (to_items_end d ▹ Optional (punctuator mark.Comma) (naming_nesting d.naming)) ms →
    Good (close_initializer d) t ms
initializer_ends d t ms k h = initialized d.naming (Some (braced d.brace d.items)) _ (gather (gather (gather (gather (push ms t h k)))))

pub close_initializer_good : (d : Initialized) (t : Token) (ms : List Marked) → t.kind ≡ kind.Punctuator mark.CloseBrace → to_items_end d ms → Good (close_initializer d) t ms
close_initializer_good d t ms k h = initializer_ends d t ms k (not_there (punctuator mark.Comma) (naming_nesting d.naming) h)

pub next_item_good : (d : Initialized) (t : Token) (ms : List Marked) → t.kind ≡ kind.Punctuator mark.Comma → to_items_end d ms → Good (next_item d) t ms
next_item_good d t ms k h = last_as (λ ts f. items_comma d.items _ ts f) (gather (push ms t h k))

pub at_item_end_good : (d : Initialized) (t : Token) (ms : List Marked) → to_items_end d ms → Good (at_item_end d t) t ms
at_item_end_good d t ms h = fixed_good fixed.Comma _ _ t ms (λ k. next_item_good d t ms k h) (wanted_good fixed.CloseBrace _ t ms (λ k. close_initializer_good d t ms k h))

-- an item is one more
pub one_item : (d : Initializing) (i : InitializerItemTree) (ms : List Marked) → (to_next_item d ▹ initializer_item i (initializing_nesting d)) ms → to_items_end (with_item d i) ms
one_item d i ms h = last_as (λ ts g. items_end d.items i _ ts g) (gather h)

-- the `}` of a row
row_ends : (d : Initializing) (at : Pos) (e : ExpressionTree) (es : ExpressionTrees) (t : Token) (ms : List Marked) → t.kind ≡ kind.Punctuator mark.CloseBrace →
    (to_next_item d ▹ punctuator_at mark.OpenBrace at (initializing_nesting d) ▹ Items e es (initializing_nesting d) ▹ Optional (punctuator mark.Comma) (initializing_nesting d)) ms → Good (close_row d at e es) t ms
row_ends d at e es t ms k h = one_item d (item_row at e es) _ (gather (gather (gather (push ms t h k))))

pub close_row_good : (d : Initializing) (at : Pos) (e : ExpressionTree) (es : ExpressionTrees) (t : Token) (ms : List Marked) → t.kind ≡ kind.Punctuator mark.CloseBrace →
    (to_next_item d ▹ punctuator_at mark.OpenBrace at (initializing_nesting d) ▹ Items e es (initializing_nesting d)) ms → Good (close_row d at e es) t ms
close_row_good d at e es t ms k h = row_ends d at e es t ms k (not_there (punctuator mark.Comma) (initializing_nesting d) h)

-- the `}` behind a comma
end_items_good : (d : Naming) (at : Pos) (items : List InitializerItemTree) (t : Token) (ms : List Marked) → t.kind ≡ kind.Punctuator mark.CloseBrace →
    to_next_item (record { naming = d; brace = at; items = items }) ms → Good (end_items d at items) t ms
end_items_good d at [] t ms k h = tt
end_items_good d at (i ∷ items) t ms k h =
    initializer_ends (record { naming = d; brace = at; items = record { first = i; more = items } }) t ms k
    (last_as (λ ts c. inr c) (spread (last_as (λ ts g. items_before_end i items _ ts g) h)))

end_row_good : (d : Initializing) (at : Pos) (es : ExpressionTrees) (t : Token) (ms : List Marked) → t.kind ≡ kind.Punctuator mark.CloseBrace → to_row_item d at es ms → Good (end_row d at es) t ms
end_row_good d at no_expressions t ms k h = tt
end_row_good d at (expression_then e es) t ms k h =
    row_ends d at e es t ms k (last_as (λ ts c. inr c) (spread (last_as (λ ts g. values_before_end e es _ ts h.0 g) h.1)))

pub at_next_item_good : (d : Initializing) (t : Token) (ms : List Marked) → to_next_item d ms → Good (at_operand (initializing_nesting d) (as_whole (as_item d)) t) t ms → Good (at_next_item d t) t ms
at_next_item_good d t ms h g =
    fixed_good fixed.OpenBrace _ _ t ms (λ k. (tt, none_more (initializing_nesting d) (push ms t h (k, refl))))
    (fixed_good fixed.CloseBrace _ _ t ms (λ k. end_items_good d.naming d.brace d.items t ms k h) g)

pub at_next_row_item_good : (d : Initializing) (at : Pos) (es : ExpressionTrees) (t : Token) (ms : List Marked) → to_row_item d at es ms →
    Good (at_operand (initializing_nesting d) (as_whole (as_row_item d at es)) t) t ms → Good (at_next_row_item d at es t) t ms
at_next_row_item_good d at es t ms h g = fixed_good fixed.CloseBrace _ _ t ms (λ k. end_row_good d at es t ms k h) g

-- A declarator's steps

-- the first name
first_name_good : (s : Site) (ss : OneOrMore Specifier) (e : Option EnumerationTree) (t : Token) (ms : List Marked) → (t.kind ≡ kind.Name → (to_declaration s ▹ type_words ss e (site_nesting s)) ms) →
    Good (first_name s ss e t) t ms
first_name_good s ss e t ms h = wanted_good fixed.Name _ t ms (λ k. push ms t (none_more (site_nesting s) (h k)) (k, refl))

pub more_specifiers_good : (s : Site) (ss : OneOrMore Specifier) (t : Token) (ms : List Marked) → (to_declaration s ▹ open_words ss (site_nesting s)) ms →
    Good (more_specifiers s ss t (next_word ss t)) t ms
more_specifiers_good s ss t ms h = go (next_word ss t) refl (is_next ss t)
  where
    go : (w : Option SpecifierWord) → next_word ss t ≡ w → IsNext ss w t → Good (more_specifiers s ss t w) t ms
    go (Some w) e k = one_more_word ss w t (site_nesting s) ms k h
    go None e k = fixed_good fixed.OpenBrace _ _ t ms (λ k. open_braces_good (in_declaration s) ss t ms k h) (first_name_good s ss None t ms (λ k. whole_at ss t (site_nesting s) ms e k h))

-- an enumeration stands alone
end_alone_good : (s : Site) (ss : OneOrMore Specifier) (e : EnumerationTree) (t : Token) (ms : List Marked) → t.kind ≡ kind.Punctuator mark.Semicolon →
    (to_declaration s ▹ type_words ss (Some e) (site_nesting s)) ms → Good (end_alone s ss e) t ms
end_alone_good s ss e t ms k h = go s (last_as (λ ts g. record { holds = tt; is = g }) (none_more (site_nesting s) h))
  where
    go : (s : Site) → (to_declaration s ▹ type_words ss (Some e) (site_nesting s) ▹ declarators (Some e) [] (site_nesting s)) ms → Good (end_alone s ss e) t ms
    go (in_a_block b None) h = declaration_ends (in_a_block b None) (alone ss e) t ms k tt h
    go (in_a_block b (Some at)) h = tt
    go (in_a_for n at o) h = declaration_ends (in_a_for n at o) (alone ss e) t ms k tt h
    go (outside before s) h = declaration_ends (outside before s) (alone ss e) t ms k tt h

-- what stands behind the braces of an enumeration
behind_braces_good : (s : EnumerationSite) (ss : OneOrMore Specifier) (e : EnumerationTree) (t : Token) (ms : List Marked) → (to_enumeration s ▹ type_words ss (Some e) (enumeration_nesting s)) ms →
    Good (behind_braces s ss e t) t ms
behind_braces_good (in_declaration s) ss e t ms h =
    fixed_good fixed.Semicolon _ _ t ms (λ k. end_alone_good s ss e t ms k h) (first_name_good s ss (Some e) t ms (λ k. h))
behind_braces_good (in_typedef before) ss e t ms h = wanted_good fixed.Name _ t ms (λ k. last_as (λ ts g. and_none 0 ts g) (push ms t h (k, refl)))

pub at_after_braces_good : (s : EnumerationSite) (ss : OneOrMore Specifier) (e : EnumerationTree) (t : Token) (ms : List Marked) → (to_enumeration s ▹ type_words ss (Some e) (enumeration_nesting s)) ms →
    Good (at_after_braces s ss e t) t ms
at_after_braces_good s ss e t ms h =
    fixed_good fixed.Const _ _ t ms (λ k. last_as (λ ts g. one_more_qualifier ss e (specifier_at t word.Const) _ ts refl g) (gather (push ms t h (k, refl)))) (behind_braces_good s ss e t ms h)

open_parameters_good : (s : Site) (ss : OneOrMore Specifier) (e : Option EnumerationTree) (ds : List DeclaratorTree) (id : Identifier) (t : Token) (ms : List Marked) → t.kind ≡ kind.Punctuator mark.OpenParenthesis →
    (to_declarator (record { site = s; specifiers = ss; enumeration = e; declarators = ds }) ▹ Identified id (site_nesting s)) ms → Good (open_parameters s ss e ds id) t ms
open_parameters_good (in_a_block b p) ss e ds id t ms k h = tt
open_parameters_good (in_a_for n at o) ss e ds id t ms k h = tt
open_parameters_good (outside before s) ss None [] id t ms k h = push ms t (before_as (λ ts b. drop_none 0 b) h) k
open_parameters_good (outside before s) ss None (d ∷ ds) id t ms k h = tt
open_parameters_good (outside before s) ss (Some e) ds id t ms k h = tt

pub at_after_dimensions_good : (d : Naming) (t : Token) (ms : List Marked) → to_initializer d ms → Good (at_after_dimensions d t) t ms
at_after_dimensions_good d t ms h =
    fixed_good fixed.Assign _ _ t ms (λ k. push ms t h k) (after_declarator_good _ t ms (initialized d None ms (none_more (naming_nesting d) h)))

pub at_after_name_good : (d : Declaring) (id : Identifier) (t : Token) (ms : List Marked) → (to_declarator d ▹ Identified id (site_nesting d.site)) ms → Good (at_after_name d id t) t ms
at_after_name_good d id t ms h =
    let n : ℕ = site_nesting d.site in
    fixed_good fixed.OpenParenthesis _ _ t ms (λ k. open_parameters_good d.site d.specifiers d.enumeration d.declarators id t ms k h)
    (fixed_good fixed.OpenBracket _ _ t ms (λ k. (refl, push ms t h k))
    (at_after_dimensions_good (without_dimensions d id) t ms (none_more n h)))

pub at_after_length_good : (d : Declaring) (id : Identifier) (e : ExpressionTree) (t : Token) (ms : List Marked) → to_columns d id e ms → Good (at_after_length d id e t) t ms
at_after_length_good d id e t ms h =
    fixed_good fixed.OpenBracket _ _ t ms (λ k. (refl, push ms t h k))
    (at_after_dimensions_good (with_dimensions d id (record { length = e; columns = None })) t ms (gather (none_more (site_nesting d.site) h)))
