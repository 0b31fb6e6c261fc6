-- How much is made depends on the tree, the unit and the sizes of the functions that the tree calls alone: not on the path, nor on the numbers of the draft, nor on the names of variables.
use Rattle.std.specs.Prelude.{◌≡◌, ℕ, ◌+◌, List, Option}
use Rattle.pk_typed.specs.Trees.{ValueTree, EffectTree, ValueTrees, StatementTree, ItemTrees, UnitTree}
use Rattle.pk_calls.specs.declared.listings.Caller.{Caller}
use Rattle.pk_calls.specs.Calls.{HasBody}
use Rattle.pk_draft.specs.declared.drafts.Region.{Region}
use Rattle.pk_draft.specs.declared.drafts.Size.{Size}
use Rattle.pk_draft.specs.Drafts.{DraftOf}
use Rattle.pk_lower_row.specs.Contexts.{Context}
use Rattle.pk_lower_expression.specs.Expressions.{ways, performed, passed}
use Rattle.pk_lower_statement.specs.Statements.{lowered, lowered_items}
use Rattle.pk_lower.specs.Parts.{context, body_at, part, measured}
use Rattle.pk_lower_laws.specs.Parts.Called.{AtValue, AtEffect, AtValues, AtStatement, AtItems}
use Rattle.pk_lower_laws.specs.Parts.Steps.{AsMuch, PassAsMuch, WaysInStep, WorkAsMuch, moved, AgreeAt}

-- with variables named by V and by W, and sizes that agree at calls
pub record ExpressionsMakeAsMuch (V W : Type 0) : Type 0 where
  pub values : (c : Context) (k n : ℕ) (ss : List (Option Size)) (v : ValueTree) → AtValue (AgreeAt c.sizes ss) v →
      WaysInStep {V = V} {W = W} (ways c v) (ways (moved k n ss c) v)
  pub effects : (c : Context) (k n : ℕ) (ss : List (Option Size)) (e : EffectTree) →
      AtEffect (AgreeAt c.sizes ss) e → AsMuch {V = V} {W = W} (performed c e) (performed (moved k n ss c) e)
  pub arguments : (c : Context) (k n : ℕ) (ss : List (Option Size)) (es : ValueTrees) →
      AtValues (AgreeAt c.sizes ss) es → PassAsMuch {V = V} {W = W} (passed c es) (passed (moved k n ss c) es)

pub record StatementsMakeAsMuch (V W : Type 0) : Type 0 where
  pub statements : (c : Context) (k n : ℕ) (ss : List (Option Size)) (s : StatementTree) →
      AtStatement (AgreeAt c.sizes ss) s → WorkAsMuch {V = V} {W = W} (lowered c s) (lowered (moved k n ss c) s)
  pub items : (c : Context) (k n : ℕ) (ss : List (Option Size)) (is : ItemTrees) → AtItems (AgreeAt c.sizes ss) is →
      WorkAsMuch {V = V} {W = W} (lowered_items c is) (lowered_items (moved k n ss c) is)

-- Where a function with a body is measured with sizes that agree at its calls, its part ends behind its region's beginning by the size that is measured.
pub record PartsMakeTheirSize (V : Type 0) : Type 0 where
  pub points : (u : UnitTree) (sizes ss : List (Option Size)) (k n f : ℕ) (from : Option Caller) (r : Region)
      (d : DraftOf V) → HasBody u f → AtItems (AgreeAt sizes ss) (body_at u f).items
      → (part (context u sizes k n f) f from r d).points ≡ r.points + (measured u ss f).points
  pub variables : (u : UnitTree) (sizes ss : List (Option Size)) (k n f : ℕ) (from : Option Caller) (r : Region)
      (d : DraftOf V) → HasBody u f → AtItems (AgreeAt sizes ss) (body_at u f).items
      → (part (context u sizes k n f) f from r d).variables ≡ r.variables + (measured u ss f).variables
