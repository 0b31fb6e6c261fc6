-- What stands after statements (C99 6.8): scopes, calls, objects, and the cases of a `switch`. Labels and jumps are a matter of their own.
use Rattle.std.specs.Prelude.{Bool, true, false, Option, Some, None, List, [], ◌∷◌, ◌++◌}
use Rattle.pk_ctypes.specs.declared.places.Pos.{Pos}
use Rattle.pk_ast.specs.Trees.{ExpressionTree, ForStartTree, declaration, expression, StatementTree, block, empty, expression_statement, label, case, default, if_then, if_else, switch, while, do_while, for_loop, goto, continue, break, return, ItemTrees, no_items, declaration_then, statement_then}
use Rattle.pk_type_scope.specs.declared.declarations.Typing.{Typing}
use Rattle.pk_type_expression.specs.Types.{type_of}
use Rattle.pk_type_declaration.specs.Checks.{DeclarationChecks}
use Rattle.pk_type_declaration.specs.Constants.{evaluated, number_in, after_constant}
use Rattle.pk_type_declaration.specs.Statics.{after_declaration, after_block_declaration}
use Rattle.pk_type_declaration.specs.Walks.{Walked, here, finding, after_value, after_effect, entering, leaving}
use Rattle.pk_type_statement.specs.declared.statements.Case.{Case}
use Rattle.pk_type_statement.specs.Checks.{StatementChecks}

-- what stands before a place of a function, and of its innermost `switch`
pub record Passed (F : Type 0) : Type 0 where
  pub walked : Walked F
  pub cases : List Case
  pub has_default : Bool

abbrev pub on : {F : Type 0} → (Walked F → Walked F) → Passed F → Passed F
on f p = record { walked = f p.walked; cases = p.cases; has_default = p.has_default }

abbrev pub inside : {F : Type 0} → Passed F → Passed F
inside p = on entering p

abbrev pub outside : {F : Type 0} → Passed F → Passed F → Passed F
outside before p = on (leaving before.walked) p

abbrev pub after_optional_value : {F : Type 0} → DeclarationChecks F → Option ExpressionTree → Walked F → Walked F
after_optional_value c None w = w
after_optional_value c (Some e) w = after_value c e w

abbrev pub after_optional_effect : {F : Type 0} → DeclarationChecks F → Option ExpressionTree → Walked F → Walked F
after_optional_effect c None w = w
after_optional_effect c (Some e) w = after_effect c e w

abbrev pub after_return : {F : Type 0} → StatementChecks F → Typing → Pos → Option ExpressionTree → Walked F → Walked F
after_return c returns at e w =
    after_optional_value c.declarations e (finding (c.return returns at e) w)

-- a case: its value has to be constant
abbrev pub with_case : {F : Type 0} → DeclarationChecks F → Pos → ExpressionTree → Passed F → Passed F
with_case c at e p = record {
  walked = after_constant c e p.walked;
  cases = p.cases ++ record { at = at; value = number_in (evaluated p.walked e) } ∷ [];
  has_default = p.has_default;
}

abbrev pub with_default : {F : Type 0} → Passed F → Passed F
with_default p = record { walked = p.walked; cases = p.cases; has_default = true }

-- the body of a `switch` begins with no case, and its cases end with it
abbrev pub in_switch : {F : Type 0} → Passed F → Passed F
in_switch p = record { walked = p.walked; cases = []; has_default = false }

abbrev pub after_switch : {F : Type 0} → StatementChecks F → Typing → List Case → Bool → Passed F → Passed F
after_switch c t cases has_default p =
    record { walked = finding (c.cases t p.cases) p.walked; cases = cases; has_default = has_default }

abbrev pub after_start : {F : Type 0} → DeclarationChecks F → ForStartTree → Walked F → Walked F
after_start c (declaration d) w = after_declaration c d w
after_start c (expression e) w = after_optional_effect c e w

-- the parentheses of a `for`
abbrev pub after_head : {F : Type 0} → DeclarationChecks F → ForStartTree → Option ExpressionTree →
    Option ExpressionTree →
    Walked F → Walked F
after_head c start test step w =
    after_optional_effect c step (after_optional_value c test (after_start c start w))

-- Statements in order. A block is a scope, and so is a `for` (6.8.2, 6.8.5).
unfoldable mutual
  pub after : {F : Type 0} → StatementChecks F → Typing → Passed F → StatementTree → Passed F
  after c returns p (block opened items closed) = outside p (after_items c returns (inside p) items)
  after c returns p (empty at) = p
  after c returns p (expression_statement e) = on (after_effect c.declarations e) p
  after c returns p (label x s) = after c returns p s
  after c returns p (case at e s) = after c returns (with_case c.declarations at e p) s
  after c returns p (default at s) = after c returns (with_default p) s
  after c returns p (if_then at e s) = after c returns (on (after_value c.declarations e) p) s
  after c returns p (if_else at e s t) = after c returns (after c returns (on (after_value c.declarations e) p) s) t
  after c returns p (switch at e s) =
      after_switch c (type_of (here p.walked) e) p.cases p.has_default
      (after c returns (in_switch (on (after_value c.declarations e) p)) s)
  after c returns p (while at e s) = after c returns (on (after_value c.declarations e) p) s
  after c returns p (do_while at s e) = on (after_value c.declarations e) (after c returns p s)
  after c returns p (for_loop at start test step s) =
      outside p (after c returns (on (after_head c.declarations start test step) (inside p)) s)
  after c returns p (goto at x) = p
  after c returns p (continue at) = p
  after c returns p (break at) = p
  after c returns p (return at e) = on (after_return c returns at e) p

  pub after_items : {F : Type 0} → StatementChecks F → Typing → Passed F → ItemTrees → Passed F
  after_items c returns p no_items = p
  after_items c returns p (declaration_then s d items) =
      after_items c returns (on (after_block_declaration c.declarations s d) p) items
  after_items c returns p (statement_then s items) = after_items c returns (after c returns p s) items
