-- A statement leaves the scopes around it as they were, and its own but for the names that it declares.
use Rattle.std.proofs.Common.{◌≡◌, ℤ, pos, List, [], ◌∷◌, Option, Some, None, refl, ◌∙◌}
use Rattle.pk_ctypes.specs.declared.places.Pos.{Pos}
use Rattle.pk_ast.specs.declared.declarations.Specifier.{Specifier}
use Rattle.pk_ast.specs.declared.expressions.Identifier.{Identifier}
use Rattle.pk_ast.specs.Trees.{OneOrMore, EnumeratorTree, EnumerationTree, ExpressionTree, ExpressionTrees, no_expressions, expression_then, InitializerTree, single, braced, DimensionsTree, DeclaratorTree, DeclarationTree, ForStartTree, declaration, expression, StatementTree, block, empty, expression_statement, label, case, default, if_then, if_else, switch, while, do_while, for_loop, goto, continue, break, return, ItemTrees, no_items, declaration_then, statement_then}
use Rattle.pk_type_scope.specs.declared.declarations.Typing.{Typing}
use Rattle.pk_type_scope.specs.Scopes.{Scoping}
use Rattle.pk_type_scope.specs.Specifiers.{type_name_among}
use Rattle.pk_type_declaration.specs.declared.words.Words.{Words}
use Rattle.pk_type_declaration.specs.Checks.{DeclarationChecks}
use Rattle.pk_type_declaration.specs.Declarations.{after_declarator, after_declarators, after_columns, after_dimensions, after_initializer, after_head}
use Rattle.pk_type_declaration.specs.Enumerations.{words_at, after_tag, next_number, enumerator_value, after_enumerator_value, after_enumerator, after_enumerators, after_words}
use Rattle.pk_type_declaration.specs.Constants.{after_constant, after_length}
use Rattle.pk_type_declaration.specs.Initializers.{given}
use Rattle.pk_type_declaration.specs.Starts.{after_numbers}
use Rattle.pk_type_declaration.specs.Statics.{after_static_head, after_static, after_statics, after_declaration, after_static_declaration, after_block_declaration}
use Rattle.pk_type_declaration.specs.Walks.{Walked, here, after_value}
use Rattle.pk_type_statement.specs.Checks.{StatementChecks}
use Rattle.pk_type_statement.specs.Statements as statements
use Rattle.pk_type_statement.specs.Statements.{Passed, after, after_items, on, with_case, with_default, in_switch}

pub record Kept (s t : Scoping) : Type 0 where
  pub text : t.text ≡ s.text
  pub outer : t.outer ≡ s.outer

same : (s : Scoping) → Kept s s
same s = record { text = refl; outer = refl }

then : (s t u : Scoping) → Kept s t → Kept t u → Kept s u
then s t u a b = record { text = b.text ∙ a.text; outer = b.outer ∙ a.outer }

kept_columns : {F : Type 0} (c : DeclarationChecks F) (at : Pos) (e : Option ExpressionTree) (w : Walked F) → Kept w.scoping (after_columns c at e w).scoping
kept_columns c at None w = same w.scoping
kept_columns c at (Some e) w = same w.scoping

kept_dimensions : {F : Type 0} (c : DeclarationChecks F) (at : Pos) (d : Option DimensionsTree) (w : Walked F) → Kept w.scoping (after_dimensions c at d w).scoping
kept_dimensions c at None w = same w.scoping
kept_dimensions c at (Some d) w = kept_columns c at d.columns (after_length c d.length w)

kept_initializer : {F : Type 0} (c : DeclarationChecks F) (i : Option InitializerTree) (w : Walked F) → Kept w.scoping (after_initializer c i w).scoping
kept_initializer c None w = same w.scoping
kept_initializer c (Some (single e)) w = same w.scoping
kept_initializer c (Some (braced at is)) w = same w.scoping

kept_declarator : {F : Type 0} (c : DeclarationChecks F) (words : Words) (d : DeclaratorTree) (w : Walked F) → Kept w.scoping (after_declarator c words d w).scoping
unfolding after_declarator
kept_declarator c words d w =
    let k = kept_dimensions c d.name.at d.dimensions w in
    then w.scoping (after_head c words d w).scoping _ (record { text = k.text; outer = k.outer }) (kept_initializer c d.initializer (after_head c words d w))

kept_declarators : {F : Type 0} (c : DeclarationChecks F) (words : Words) (ds : List DeclaratorTree) (w : Walked F) → Kept w.scoping (after_declarators c words ds w).scoping
unfolding after_declarators
kept_declarators c words [] w = same w.scoping
kept_declarators c words (d ∷ ds) w = then w.scoping (after_declarator c words d w).scoping _ (kept_declarator c words d w) (kept_declarators c words ds (after_declarator c words d w))

kept_tag : {F : Type 0} (c : DeclarationChecks F) (tag : Option Identifier) (w : Walked F) → Kept w.scoping (after_tag c tag w).scoping
kept_tag c None w = same w.scoping
kept_tag c (Some x) w = record { text = refl; outer = refl }

kept_enumerator_value : {F : Type 0} (c : DeclarationChecks F) (next : Option ℤ) (x : Identifier) (e : Option ExpressionTree) (w : Walked F) → Kept w.scoping (after_enumerator_value c next x e w).scoping
kept_enumerator_value c next x None w = same w.scoping
kept_enumerator_value c next x (Some e) w = same w.scoping

kept_enumerator : {F : Type 0} (c : DeclarationChecks F) (next : Option ℤ) (x : EnumeratorTree) (w : Walked F) → Kept w.scoping (after_enumerator c next x w).scoping
unfolding after_enumerator
kept_enumerator c next x w = let k = kept_enumerator_value c next x.name x.value w in record { text = k.text; outer = k.outer }

kept_enumerators : {F : Type 0} (c : DeclarationChecks F) (next : Option ℤ) (xs : List EnumeratorTree) (w : Walked F) → Kept w.scoping (after_enumerators c next xs w).scoping
unfolding after_enumerators
kept_enumerators c next [] w = same w.scoping
kept_enumerators c next (x ∷ xs) w =
    then w.scoping (after_enumerator c next x w).scoping _ (kept_enumerator c next x w) (kept_enumerators c (next_number (enumerator_value w next x.value)) xs (after_enumerator c next x w))

kept_words : {F : Type 0} (c : DeclarationChecks F) (words : OneOrMore Specifier) (e : Option EnumerationTree) (w : Walked F) → Kept w.scoping (after_words c words e w).scoping
unfolding after_words
kept_words c words None w = same w.scoping
kept_words c words (Some e) w =
    let v = after_tag c (type_name_among words) w in
    then w.scoping v.scoping _ (kept_tag c (type_name_among words) w) (kept_enumerators c (Some (pos 0)) (e.enumerators.first ∷ e.enumerators.more) v)

pub kept_declaration : {F : Type 0} (c : DeclarationChecks F) (d : DeclarationTree) (w : Walked F) → Kept w.scoping (after_declaration c d w).scoping
unfolding after_declaration
kept_declaration c d w =
    let v = after_words c d.specifiers d.enumeration w in
    then w.scoping v.scoping _ (kept_words c d.specifiers d.enumeration w) (kept_declarators c (words_at (here w) d.specifiers d.enumeration) d.declarators v)

kept_numbers : {F : Type 0} (c : DeclarationChecks F) (es : ExpressionTrees) (w : Walked F) → Kept w.scoping (after_numbers c es w).scoping
unfolding after_numbers
kept_numbers c no_expressions w = same w.scoping
kept_numbers c (expression_then e es) w = kept_numbers c es (after_constant c e w)

kept_static : {F : Type 0} (c : DeclarationChecks F) (words : Words) (d : DeclaratorTree) (w : Walked F) → Kept w.scoping (after_static c words d w).scoping
unfolding after_static
kept_static c words d w =
    let k = kept_dimensions c d.name.at d.dimensions w in
    then w.scoping (after_static_head c words d w).scoping _ (record { text = k.text; outer = k.outer }) (kept_numbers c (given d.initializer) (after_static_head c words d w))

kept_statics : {F : Type 0} (c : DeclarationChecks F) (words : Words) (ds : List DeclaratorTree) (w : Walked F) → Kept w.scoping (after_statics c words ds w).scoping
unfolding after_statics
kept_statics c words [] w = same w.scoping
kept_statics c words (d ∷ ds) w = then w.scoping (after_static c words d w).scoping _ (kept_static c words d w) (kept_statics c words ds (after_static c words d w))

pub kept_block_declaration : {F : Type 0} (c : DeclarationChecks F) (x : Option Pos) (d : DeclarationTree) (w : Walked F) → Kept w.scoping (after_block_declaration c x d w).scoping
unfolding after_static_declaration
kept_block_declaration c None d w = kept_declaration c d w
kept_block_declaration c (Some at) d w =
    let v = after_words c d.specifiers d.enumeration w in
    then w.scoping v.scoping _ (kept_words c d.specifiers d.enumeration w) (kept_statics c (words_at (here w) d.specifiers d.enumeration) d.declarators v)

kept_value : {F : Type 0} (c : DeclarationChecks F) (e : Option ExpressionTree) (w : Walked F) → Kept w.scoping (statements.after_optional_value c e w).scoping
kept_value c None w = same w.scoping
kept_value c (Some e) w = same w.scoping

kept_effect : {F : Type 0} (c : DeclarationChecks F) (e : Option ExpressionTree) (w : Walked F) → Kept w.scoping (statements.after_optional_effect c e w).scoping
kept_effect c None w = same w.scoping
kept_effect c (Some e) w = same w.scoping

kept_return : {F : Type 0} (c : StatementChecks F) (returns : Typing) (at : Pos) (e : Option ExpressionTree) (w : Walked F) → Kept w.scoping (statements.after_return c returns at e w).scoping
kept_return c returns at None w = same w.scoping
kept_return c returns at (Some e) w = same w.scoping

kept_start : {F : Type 0} (c : DeclarationChecks F) (start : ForStartTree) (w : Walked F) → Kept w.scoping (statements.after_start c start w).scoping
kept_start c (declaration d) w = kept_declaration c d w
kept_start c (expression e) w = kept_effect c e w

pub kept_head : {F : Type 0} (c : DeclarationChecks F) (start : ForStartTree) (test step : Option ExpressionTree) (w : Walked F) → Kept w.scoping (statements.after_head c start test step w).scoping
kept_head c start test step w =
    let a = statements.after_start c start w in
    let b = statements.after_optional_value c test a in
    then w.scoping a.scoping _ (kept_start c start w) (then a.scoping b.scoping _ (kept_value c test a) (kept_effect c step b))

mutual
  unfolding after after_items

  pub kept : {F : Type 0} (c : StatementChecks F) (returns : Typing) (p : Passed F) (s : StatementTree) → Kept p.walked.scoping (after c returns p s).walked.scoping
  kept c returns p (block opened items closed) = same p.walked.scoping
  kept c returns p (empty at) = same p.walked.scoping
  kept c returns p (expression_statement e) = same p.walked.scoping
  kept c returns p (label x s) = kept c returns p s
  kept c returns p (case at e s) = kept c returns (with_case c.declarations at e p) s
  kept c returns p (default at s) = kept c returns (with_default p) s
  kept c returns p (if_then at e s) = kept c returns (on (after_value c.declarations e) p) s
  kept c returns p (if_else at e s t) =
      let q = on (after_value c.declarations e) p in then p.walked.scoping (after c returns q s).walked.scoping _ (kept c returns q s) (kept c returns (after c returns q s) t)
  kept c returns p (switch at e s) = kept c returns (in_switch (on (after_value c.declarations e) p)) s
  kept c returns p (while at e s) = kept c returns (on (after_value c.declarations e) p) s
  kept c returns p (do_while at s e) = kept c returns p s
  kept c returns p (for_loop at start test step s) = same p.walked.scoping
  kept c returns p (goto at x) = same p.walked.scoping
  kept c returns p (continue at) = same p.walked.scoping
  kept c returns p (break at) = same p.walked.scoping
  kept c returns p (return at e) = kept_return c returns at e p.walked

  pub kept_items : {F : Type 0} (c : StatementChecks F) (returns : Typing) (p : Passed F) (items : ItemTrees) → Kept p.walked.scoping (after_items c returns p items).walked.scoping
  kept_items c returns p no_items = same p.walked.scoping
  kept_items c returns p (declaration_then x d items) =
      let q = on (after_block_declaration c.declarations x d) p in then p.walked.scoping q.walked.scoping _ (kept_block_declaration c.declarations x d p.walked) (kept_items c returns q items)
  kept_items c returns p (statement_then s items) =
      let q = after c returns p s in then p.walked.scoping q.walked.scoping _ (kept c returns p s) (kept_items c returns q items)
