-- What the steps of a statement leave.
use Rattle.std.proofs.Common.{◌≡◌, ℕ, ◌+◌, List, true, Option, Some, None, refl}
use Rattle.pk_ctypes.specs.declared.places.Pos.{Pos}
use Rattle.pk_lex.specs.declared.token.Token.{Token}
use Rattle.pk_lex.specs.declared.token.Kind.TheVariants as kind
use Rattle.pk_lex.specs.declared.token.Punctuator.TheVariants as mark
use Rattle.pk_ast.specs.declared.declarations.SpecifierWord.{SpecifierWord}
use Rattle.pk_ast.specs.Trees.{StatementTree, block, empty, label, case, default, if_then, if_else, switch, while, for_loop}
use Rattle.pk_grammar.specs.declared.signs.Fixed.TheVariants as fixed
use Rattle.pk_grammar.specs.declared.signs.StatementStart.{StatementStart}
use Rattle.pk_grammar.specs.declared.signs.StatementStart.TheVariants as first
use Rattle.pk_grammar.specs.Languages.{Marked}
use Rattle.pk_grammar.specs.Grammar.{conditional_expression, OpenEnd, optional_static, statement}
use Rattle.pk_grammar.specs.Machine.Signs.{is_fixed, statement_start, specifier_word}
use Rattle.pk_grammar.specs.Machine.States.{OpenBlock, function_block, inner_block, Outer, in_block, in_label, in_case, in_default, in_if, in_else, in_switch, in_while, in_do, in_for, as_statement, as_whole}
use Rattle.pk_grammar.specs.Machine.Steps.{block_nesting, begin_statement, begins_statement, end_block, with_statement, declaration_or_statement, begin_static, at_items, resume}
use Rattle.pk_grammar.proofs.SpellsSigns.{is_this, IsStatement, is_statement, IsSpecifier, is_specifier}
use Rattle.pk_grammar.proofs.SpellsWords.{◌▹◌, push, push_at, none_more, gather, together, last_as, before_as, moved}
use Rattle.pk_grammar.proofs.SpellsLists.{items_statement, externals_end, first_word}
use Rattle.pk_grammar.proofs.SpellsStates.{bare, to_item, to_statement, outer_nesting}
use Rattle.pk_grammar.proofs.SpellsGood.{Good, if_good, fixed_good, wanted_good, two}
use Rattle.pk_grammar.proofs.SpellsPurposes.{leveled}
use Rattle.pk_grammar.proofs.SpellsOperands.{at_operand_good}

begin_statement_good : (n : ℕ) (o : Outer) (t : Token) (ms : List Marked) (s : StatementStart) → IsStatement s t.kind → n ≡ outer_nesting o → to_statement o ms → Good (begin_statement n o t s) t ms
unfolding statement
begin_statement_good n o t ms first.Block k en h = (en, none_more (n + 1) (push ms t h (k, refl)))
begin_statement_good n o t ms first.Empty k en h = (λ x. x, moved (statement (empty t.at)) en (push ms t h (k, refl)))
begin_statement_good n o t ms first.Case k en h = (refl, (en, push ms t h (k, refl)))
begin_statement_good n o t ms first.Default k en h = (en, push ms t h (k, refl))
begin_statement_good n o t ms (first.Test w) k en h = (en, push ms t h (k, refl))
begin_statement_good n o t ms first.Do k en h = (refl, (en, push ms t h (k, refl)))
begin_statement_good n o t ms first.For k en h = (en, push ms t h (k, refl))
begin_statement_good n o t ms first.Goto k en h = (en, push ms t h (k, refl))
begin_statement_good n o t ms first.Continue k en h =
    ((en, λ x. x), last_as (λ ts d us w. record { front = ts; back = us; cut = refl; first = d; second = w }) (push ms t {n = n + 1} h (k, refl)))
begin_statement_good n o t ms first.Break k en h =
    ((en, λ x. x), last_as (λ ts d us w. record { front = ts; back = us; cut = refl; first = d; second = w }) (push ms t {n = n + 1} h (k, refl)))
begin_statement_good n o t ms first.Return k en h = (en, push ms t h (k, refl))
begin_statement_good n o t ms first.Other k en h = at_operand_good (n + 1) (as_whole (as_statement n o)) t ms refl (en, h)

pub begins_statement_good : (n : ℕ) (o : Outer) (t : Token) (ms : List Marked) → n ≡ outer_nesting o → to_statement o ms → Good (begins_statement n o t) t ms
begins_statement_good n o t ms en h = begin_statement_good n o t ms (statement_start t.kind) (is_statement t.kind) en h

end_block_good : (b : OpenBlock) (t : Token) (ms : List Marked) → t.kind ≡ kind.Punctuator mark.CloseBrace → to_item b ms → Good (end_block b t) t ms
unfolding statement
end_block_good (function_block h ps at items) t ms k g = externals_end h.before _ 0 _ (together (gather (gather (gather (gather (gather (gather (push ms t (gather g) (k, refl)))))))))
end_block_good (inner_block n at items o) t ms k g = (λ x. x, moved (statement (block at items t.at)) g.0 (gather (push ms t (gather g.1) (k, refl))))

-- a block's next statement
with_statement_good : (b : OpenBlock) (s : StatementTree) (ms : List Marked) → (to_item b ▹ statement s (block_nesting b)) ms → to_item (with_statement b s) ms
with_statement_good (function_block h ps at items) s ms g = last_as (λ ts f. items_statement items s 1 ts f) (gather g)
with_statement_good (inner_block n at items o) s ms g = (g.first.0, last_as (λ ts f. items_statement items s (n + 1) ts f) (gather (bare g)))

declaration_or_statement_good : (b : OpenBlock) (t : Token) (ms : List Marked) (w : Option SpecifierWord) → IsSpecifier w t → to_item b ms → Good (declaration_or_statement b t w) t ms
declaration_or_statement_good b t ms (Some w) k g = first_word w t (block_nesting b) ms k (none_more (block_nesting b) g)
declaration_or_statement_good b t ms None k g =
    fixed_good fixed.CloseBrace _ _ t ms (λ k. end_block_good b t ms k g)
    (fixed_good fixed.Static _ _ t ms (λ k. push ms t g (k, refl)) (begins_statement_good (block_nesting b) (in_block b) t ms refl g))

pub at_items_good : (b : OpenBlock) (t : Token) (ms : List Marked) → to_item b ms → Good (at_items b t) t ms
at_items_good b t ms g = declaration_or_statement_good b t ms (specifier_word t) (is_specifier t) g

pub begin_static_good : (b : OpenBlock) (at : Pos) (t : Token) (ms : List Marked) → (to_item b ▹ optional_static (Some at) (block_nesting b)) ms → Good (begin_static b at t (specifier_word t)) t ms
begin_static_good b at t ms h = go (specifier_word t) (is_specifier t)
  where
    go : (w : Option SpecifierWord) → IsSpecifier w t → Good (begin_static b at t w) t ms
    go (Some w) k = first_word w t (block_nesting b) ms k h
    go None k = tt

-- a statement was read, and what it is part of goes on; no else follows it that it could take
pub resume_good : (o : Outer) (s : StatementTree) (t : Token) (ms : List Marked) → (is_fixed fixed.Else t.kind ≡ true → ¬ OpenEnd s) →
    (to_statement o ▹ statement s (outer_nesting o)) ms → Good (resume s o t) t ms
unfolding resume statement
resume_good (in_block b) s t ms f h = at_items_good (with_statement b s) t ms (with_statement_good b s ms h)
resume_good (in_label n id o) s t ms f h = resume_good o (label id s) t ms f (moved (statement (label id s)) h.first.0 (gather (gather (bare h))))
resume_good (in_case n at e o) s t ms f h = resume_good o (case at e s) t ms f
    (moved (statement (case at e s)) h.first.0.0 (gather (gather (gather (before_as (λ ts b. before_as (λ us c. leveled conditional_expression h.first.0.1 c) b) (bare h))))))
resume_good (in_default n at o) s t ms f h = resume_good o (default at s) t ms f (moved (statement (default at s)) h.first.0 (gather (gather (bare h))))
resume_good (in_if n at e o) s t ms f h = if_good (is_fixed fixed.Else t.kind) _ _ t ms
    (λ b. (two n, (h.first.0, push_at ms t (two n) (last_as (λ ts g. record { holds = f b; is = g }) (bare h)) (is_this fixed.Else t.kind b))))
    (λ b. resume_good o (if_then at e s) t ms (λ a. absurd (cc)) (moved (statement (if_then at e s)) h.first.0 (gather (gather (bare h)))))
resume_good (in_else n at e r o) s t ms f h = resume_good o (if_else at e r s) t ms f (moved (statement (if_else at e r s)) h.first.0 (gather (gather (gather (gather (bare h))))))
resume_good (in_switch n at e o) s t ms f h = resume_good o (switch at e s) t ms f (moved (statement (switch at e s)) h.first.0 (gather (gather (bare h))))
resume_good (in_while n at e o) s t ms f h = resume_good o (while at e s) t ms f (moved (statement (while at e s)) h.first.0 (gather (gather (bare h))))
resume_good (in_do n at o) s t ms f h = wanted_good fixed.While _ t ms (λ k. (h.first.0, push ms t (bare h) k))
resume_good (in_for n at g second third o) s t ms f h = resume_good o (for_loop at g second third s) t ms f
    (moved (statement (for_loop at g second third s)) h.first.0 (gather (gather (gather (bare h)))))
