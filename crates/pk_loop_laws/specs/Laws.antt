-- The loops of a typed unit are those of the trees of its text, and these are tokens of their own.
use Rattle.std.specs.Prelude.{ℕ, ◌≤◌, List, All, IfSome, None}
use Rattle.pk_lex.specs.declared.token.Token.{Token}
use Rattle.pk_ast.specs.Trees.{ExternalTree}
use Rattle.pk_grammar.specs.Outcomes.{IsParsed}
use Rattle.pk_typed.specs.Trees.{BodyTree, FunctionTree, UnitTree}
use Rattle.pk_type.specs.Rules.{noting}
use Rattle.pk_type.specs.Units.{checked, unit_of}
use Rattle.pk_access_laws.specs.Operators.{Counting}
use Rattle.pk_operator_laws.specs.Trees.{in_tokens}
use Rattle.pk_loop_laws.specs.Loops.{loops_in_items}
use Rattle.pk_loop_laws.specs.Trees.{all_loops}

-- in each body they count no more than this
abbrev pub LoopsCountAtMost : Counting → ℕ → UnitTree → Type 0
LoopsCountAtMost q m u =
    All (λ (f : FunctionTree). IfSome f.body (λ (b : BodyTree). loops_in_items q b.items ≤ m)) u.functions

-- Whatever the places count, the loops of a typed body count no more than those of the trees of its text.
abbrev pub LoopsAreTheTrees : Type 0
LoopsAreTheTrees =
    (text : List ℕ) (xs : List ExternalTree) (q : Counting) →
    LoopsCountAtMost q (all_loops q xs) (unit_of (checked noting None text xs))

-- And these count no more than the tokens from which they are parsed.
abbrev pub LoopsAreTheTokens : Type 0
LoopsAreTheTokens =
    (tokens : List Token) (xs : List ExternalTree) (q : Counting) → IsParsed tokens xs →
    all_loops q xs ≤ in_tokens q tokens
