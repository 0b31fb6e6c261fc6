-- Jumps out of place (C99 6.8.1, 6.8.4.2, 6.8.6).
use Rattle.std.specs.Prelude.{ℕ, ◌+◌, Bool, true, false, not, ◌||◌, List, [], ◌∷◌, ◌++◌, Option, Some, None, is_some, nat_eq, slice_get}
use Rattle.pk_ctypes.specs.declared.places.Pos.{Pos}
use Rattle.pk_ast.specs.Trees.{declaration, expression, StatementTree, block, empty, expression_statement, label, case, default, if_then, if_else, switch, while, do_while, for_loop, goto, continue, break, return, ItemTrees, no_items, declaration_then, statement_then}
use Rattle.pk_type_jump.specs.declared.labels.Label.{Label}
use Rattle.pk_type_scope.specs.Scopes.{spelled}

-- What is around a place: the scopes that hold it, the outermost first, the innermost again, whether a loop is around it, and the innermost scope around its `switch`.
pub record Around : Type 0 where
  pub scopes : List ℕ
  pub here : ℕ
  pub in_loop : Bool
  pub switch : Option ℕ

-- What stands before a place: how many declarations, whether its `switch` has a default, and where labels and jumps are out of place: a `goto` whose name no label has apart.
pub record Jumped : Type 0 where
  pub declarations : ℕ
  pub has_default : Bool
  pub unknown : List Pos
  pub misplaced : List Pos

abbrev pub nothing_jumped : Jumped
nothing_jumped = record { declarations = 0; has_default = false; unknown = []; misplaced = [] }

abbrev pub at_if : Bool → Pos → List Pos
at_if true at = at ∷ []
at_if false at = []

abbrev pub misplaced_if : Bool → Pos → Jumped → Jumped
misplaced_if b at j = record j { misplaced = j.misplaced ++ at_if b at }

abbrev pub is_number : Option ℕ → ℕ → Bool
is_number None n = false
is_number (Some m) n = nat_eq m n

-- The scope that holds a label holds a place too: scopes lie in one another, so it is the one of its depth there.
abbrev pub holds : Label → List ℕ → Bool
holds l scopes = is_number (slice_get scopes l.within.depth) l.within.scope

-- goto: into the scope of a declaration from outside, or to no label; at its name
abbrev pub gone : Option Label → Around → Pos → Jumped → Jumped
gone None a at j = record j { unknown = j.unknown ++ at ∷ [] }
gone (Some l) a at j = misplaced_if (not (holds l a.scopes)) at j

-- case: outside a `switch`, or into the scope of a declaration from outside it
abbrev pub is_out_of_place : Around → Bool
is_out_of_place a = not (is_number a.switch a.here)

-- break: no loop and no `switch` is around it
abbrev pub is_unbroken : Around → Bool
is_unbroken a = not (a.in_loop || is_some a.switch)

-- default: out of place, or a second one
abbrev pub with_default : Around → Pos → Jumped → Jumped
with_default a at j =
    record j { has_default = true; misplaced = j.misplaced ++ at_if (is_out_of_place a || j.has_default) at }

abbrev pub looped : Around → Around
looped a = record a { in_loop = true }

abbrev pub switched : Around → Around
switched a = record a { switch = Some a.here }

-- in the scope of the next declaration
abbrev pub within_next : Jumped → Around → Around
within_next j a = record a { scopes = a.scopes ++ (j.declarations + 1) ∷ []; here = j.declarations + 1 }

abbrev pub with_declaration : Jumped → Jumped
with_declaration j = record j { declarations = j.declarations + 1 }

abbrev pub with_default_flag : Bool → Jumped → Jumped
with_default_flag b j = record j { has_default = b }

unfoldable mutual
  pub jumped : List ℕ → (List ℕ → Option Label) → Around → Jumped → StatementTree → Jumped
  jumped text labels a j (block opened items closed) = jumped_items text labels a j items
  jumped text labels a j (empty at) = j
  jumped text labels a j (expression_statement e) = j
  jumped text labels a j (label x s) = jumped text labels a j s
  jumped text labels a j (case at e s) = jumped text labels a (misplaced_if (is_out_of_place a) at j) s
  jumped text labels a j (default at s) = jumped text labels a (with_default a at j) s
  jumped text labels a j (if_then at e s) = jumped text labels a j s
  jumped text labels a j (if_else at e s t) = jumped text labels a (jumped text labels a j s) t
  jumped text labels a j (switch at e s) =
      with_default_flag j.has_default (jumped text labels (switched a) (with_default_flag false j) s)
  jumped text labels a j (while at e s) = jumped text labels (looped a) j s
  jumped text labels a j (do_while at s e) = jumped text labels (looped a) j s
  jumped text labels a j (for_loop at (declaration d) condition step s) =
      jumped text labels (looped (within_next j a)) (with_declaration j) s
  jumped text labels a j (for_loop at (expression e) condition step s) = jumped text labels (looped a) j s
  jumped text labels a j (goto at x) = gone (labels (spelled text x)) a x.at j
  jumped text labels a j (continue at) = misplaced_if (not a.in_loop) at j
  jumped text labels a j (break at) = misplaced_if (is_unbroken a) at j
  jumped text labels a j (return at e) = j

  -- what follows a declaration in its block lies in its scope
  pub jumped_items : List ℕ → (List ℕ → Option Label) → Around → Jumped → ItemTrees → Jumped
  jumped_items text labels a j no_items = j
  jumped_items text labels a j (declaration_then s d items) =
      jumped_items text labels (within_next j a) (with_declaration j) items
  jumped_items text labels a j (statement_then s items) = jumped_items text labels a (jumped text labels a j s) items

-- a function's body: no loop and no `switch` is around it
abbrev pub around_body : Around
around_body = record { scopes = 0 ∷ []; here = 0; in_loop = false; switch = None }

-- those of a function's body
abbrev pub jumps_of : List ℕ → (List ℕ → Option Label) → ItemTrees → Jumped
jumps_of text labels items = jumped_items text labels around_body nothing_jumped items
