-- The labels of a function, and the scopes of declarations that hold them (C99 6.8.1, 6.2.1). Declarations are counted from 1 in the order of the text; no statement lies between the
-- names of one declaration, so it has one scope. The scopes that hold a place lie in one another: 0 stands for the function, and the others are as many as the place is deep.
use Rattle.std.specs.Prelude.{ℕ, ◌+◌, List, [], ◌∷◌, ◌++◌, Option, Some, None, if◌then◌else◌}
use Rattle.std.specs.Str.{bytes_eq}
use Rattle.pk_ctypes.specs.declared.places.Pos.{Pos}
use Rattle.pk_ast.specs.declared.expressions.Identifier.{Identifier}
use Rattle.pk_ast.specs.Trees.{declaration, expression, StatementTree, block, empty, expression_statement, label, case, default, if_then, if_else, switch, while, do_while, for_loop, goto, continue, break, return, ItemTrees, no_items, declaration_then, statement_then}
use Rattle.pk_type_jump.specs.declared.labels.Label.{Label}
use Rattle.pk_type_jump.specs.declared.labels.Within.{Within}
use Rattle.pk_type_scope.specs.Scopes.{spelled}

-- what stands before a place: the labels, each spelling with its last one, how many there are, how many declarations, and where a label is repeated
pub record Listed : Type 0 where
  pub labels : List ℕ → Option Label
  pub count : ℕ
  pub declarations : ℕ
  pub repeated : List Pos

abbrev pub nothing_listed : Listed
nothing_listed = record { labels = λ q. None; count = 0; declarations = 0; repeated = [] }

abbrev pub is_repeated : Option Label → Pos → List Pos
is_repeated None at = []
is_repeated (Some l) at = at ∷ []

abbrev pub named : (List ℕ → Option Label) → List ℕ → Label → List ℕ → Option Label
named labels name l q = if bytes_eq name q then Some l else labels q

-- and a label
abbrev pub with_label : List ℕ → Within → Identifier → Listed → Listed
with_label text w x l = record {
  labels = named l.labels (spelled text x) (record { number = l.count; within = w });
  count = l.count + 1;
  declarations = l.declarations;
  repeated = l.repeated ++ is_repeated (l.labels (spelled text x)) x.at;
}

-- and a declaration
abbrev pub with_declaration : Listed → Listed
with_declaration l =
    record { labels = l.labels; count = l.count; declarations = l.declarations + 1; repeated = l.repeated }

-- a place in the scope of the next declaration
abbrev pub inside : ℕ → Within → Within
inside declarations w = record { scope = declarations + 1; depth = w.depth + 1 }

unfoldable mutual
  pub listed : List ℕ → Within → Listed → StatementTree → Listed
  listed text w l (block opened items closed) = listed_items text w l items
  listed text w l (empty at) = l
  listed text w l (expression_statement e) = l
  listed text w l (label x s) = listed text w (with_label text w x l) s
  listed text w l (case at e s) = listed text w l s
  listed text w l (default at s) = listed text w l s
  listed text w l (if_then at e s) = listed text w l s
  listed text w l (if_else at e s t) = listed text w (listed text w l s) t
  listed text w l (switch at e s) = listed text w l s
  listed text w l (while at e s) = listed text w l s
  listed text w l (do_while at s e) = listed text w l s
  listed text w l (for_loop at (declaration d) condition step s) =
      listed text (inside l.declarations w) (with_declaration l) s
  listed text w l (for_loop at (expression e) condition step s) = listed text w l s
  listed text w l (goto at x) = l
  listed text w l (continue at) = l
  listed text w l (break at) = l
  listed text w l (return at e) = l

  -- what follows a declaration in its block lies in its scope
  pub listed_items : List ℕ → Within → Listed → ItemTrees → Listed
  listed_items text w l no_items = l
  listed_items text w l (declaration_then s d items) =
      listed_items text (inside l.declarations w) (with_declaration l) items
  listed_items text w l (statement_then s items) = listed_items text w (listed text w l s) items

-- a place in no declaration's scope
abbrev pub outermost : Within
outermost = record { scope = 0; depth = 0 }

-- those of a function's body
abbrev pub labels_of : List ℕ → ItemTrees → Listed
labels_of text items = listed_items text outermost nothing_listed items
