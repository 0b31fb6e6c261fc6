-- The operators and calls of a typed unit are those of the trees of its text, and these are tokens of their own.
use Rattle.std.specs.Prelude.{ℕ, ◌≤◌, List, All, IfSome, None}
use Rattle.pk_lex.specs.declared.token.Token.{Token}
use Rattle.pk_ast.specs.Trees.{ExternalTree}
use Rattle.pk_grammar.specs.Outcomes.{IsParsed}
use Rattle.pk_typed.specs.Trees.{BodyTree, FunctionTree, UnitTree}
use Rattle.pk_type.specs.Rules.{noting}
use Rattle.pk_type.specs.Units.{checked, unit_of}
use Rattle.pk_access_laws.specs.Operators.{Counting, in_items}
use Rattle.pk_access_laws.specs.Laws.{in_calls}
use Rattle.pk_operator_laws.specs.Trees.{in_externals, in_tokens}

-- in each body they count no more than this
abbrev pub CountAtMost : Counting → ℕ → UnitTree → Type 0
CountAtMost q m u = All (λ (f : FunctionTree). IfSome f.body (λ (b : BodyTree). in_items q b.items ≤ m)) u.functions

-- Whatever the places count, the operators of a typed body count no more than those of the trees of its text.
abbrev pub OperatorsAreTheTrees : Type 0
OperatorsAreTheTrees =
    (text : List ℕ) (xs : List ExternalTree) (q : Counting) →
    CountAtMost q (in_externals q xs) (unit_of (checked noting None text xs))

-- and their calls
abbrev pub CallsCountAtMost : Counting → ℕ → UnitTree → Type 0
CallsCountAtMost q m u =
    All (λ (f : FunctionTree). IfSome f.body (λ (b : BodyTree). in_calls q b.calls ≤ m)) u.functions

-- Its calls don't either.
abbrev pub CallsAreTheTrees : Type 0
CallsAreTheTrees =
    (text : List ℕ) (xs : List ExternalTree) (q : Counting) →
    CallsCountAtMost q (in_externals q xs) (unit_of (checked noting None text xs))

-- And these count no more than the tokens from which they are parsed.
abbrev pub OperatorsAreTheTokens : Type 0
OperatorsAreTheTokens =
    (tokens : List Token) (xs : List ExternalTree) (q : Counting) → IsParsed tokens xs →
    in_externals q xs ≤ in_tokens q tokens
