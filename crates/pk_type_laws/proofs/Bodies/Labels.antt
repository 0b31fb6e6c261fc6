-- Labels that are listed stay, and jumps to none are never taken back.
use Rattle.std.proofs.Common.{◌≡◌, ℕ, Bool, true, false, List, [], ◌∷◌, Option, Some, None, refl, sym, ◌∙◌, if◌then◌else◌}
use Rattle.std.proofs.lemmas.Bool.{false≢true}
use Rattle.std.proofs.lemmas.Slice.Eq.{bytes_eq-Decides}
use Rattle.std.specs.Prelude.{is_some}
use Rattle.std.specs.Str.{bytes_eq}
use Rattle.pk_ctypes.specs.declared.places.Pos.{Pos}
use Rattle.pk_ast.specs.declared.expressions.Identifier.{Identifier}
use Rattle.pk_ast.specs.Trees as ast
use Rattle.pk_ast.specs.Trees.{declaration, expression, StatementTree, ItemTrees, no_items, declaration_then, statement_then}
use Rattle.pk_type_scope.specs.Scopes.{spelled}
use Rattle.pk_type_jump.specs.declared.labels.Label.{Label}
use Rattle.pk_type_jump.specs.declared.labels.Within.{Within}
use Rattle.pk_type_jump.specs.Labels.{Listed, with_label, with_declaration, inside, listed, listed_items}
use Rattle.pk_type_jump.specs.Jumps as jump
use Rattle.pk_type_jump.specs.Jumps.{Around, Jumped, misplaced_if, gone, is_out_of_place, with_default_flag, looped, switched, within_next, jumped, jumped_items}
use Rattle.pk_type_laws.proofs.Accepted.Jumps.{none_before, none_after}

-- ---- labels

-- a spelling that has a label has one there
abbrev pub Covers : (l m : List ℕ → Option Label) → Type 0
Covers l m = (q : List ℕ) → is_some (l q) ≡ true → is_some (m q) ≡ true

either : (b : Bool) (x : Label) (o : Option Label) → is_some o ≡ true → is_some (if b then Some x else o) ≡ true
either true x o h = refl
either false x o h = h

label_stays : (text : List ℕ) (w : Within) (x : Identifier) (l : Listed) → Covers l.labels (with_label text w x l).labels
label_stays text w x l q h = either (bytes_eq (spelled text x) q) (record { number = l.count; within = w }) (l.labels q) h

its_own : (text : List ℕ) (w : Within) (x : Identifier) (l : Listed) → is_some ((with_label text w x l).labels (spelled text x)) ≡ true
its_own text w x l = chosen (bytes_eq (spelled text x) (spelled text x)) refl
  where
    chosen : (b : Bool) → bytes_eq (spelled text x) (spelled text x) ≡ b → is_some (if b then Some (record { number = l.count; within = w }) else l.labels (spelled text x)) ≡ true
    chosen true is = refl
    chosen false is = absurd (false≢true (sym is ∙ (bytes_eq-Decides (spelled text x) (spelled text x)).1 refl))

mutual
  unfolding listed listed_items

  pub labels_stay : (text : List ℕ) (w : Within) (l : Listed) (s : StatementTree) → Covers l.labels (listed text w l s).labels
  labels_stay text w l (ast.block opened items closed) q h = items_stay text w l items q h
  labels_stay text w l (ast.empty at) q h = h
  labels_stay text w l (ast.expression_statement e) q h = h
  labels_stay text w l (ast.label x s) q h = labels_stay text w (with_label text w x l) s q (label_stays text w x l q h)
  labels_stay text w l (ast.case at e s) q h = labels_stay text w l s q h
  labels_stay text w l (ast.default at s) q h = labels_stay text w l s q h
  labels_stay text w l (ast.if_then at e s) q h = labels_stay text w l s q h
  labels_stay text w l (ast.if_else at e s t) q h = labels_stay text w (listed text w l s) t q (labels_stay text w l s q h)
  labels_stay text w l (ast.switch at e s) q h = labels_stay text w l s q h
  labels_stay text w l (ast.while at e s) q h = labels_stay text w l s q h
  labels_stay text w l (ast.do_while at s e) q h = labels_stay text w l s q h
  labels_stay text w l (ast.for_loop at (declaration d) test step s) q h = labels_stay text (inside l.declarations w) (with_declaration l) s q h
  labels_stay text w l (ast.for_loop at (expression e) test step s) q h = labels_stay text w l s q h
  labels_stay text w l (ast.goto at x) q h = h
  labels_stay text w l (ast.continue at) q h = h
  labels_stay text w l (ast.break at) q h = h
  labels_stay text w l (ast.return at e) q h = h

  pub items_stay : (text : List ℕ) (w : Within) (l : Listed) (is : ItemTrees) → Covers l.labels (listed_items text w l is).labels
  items_stay text w l no_items q h = h
  items_stay text w l (declaration_then x d is) q h = items_stay text (inside l.declarations w) (with_declaration l) is q h
  items_stay text w l (statement_then s is) q h = items_stay text w (listed text w l s) is q (labels_stay text w l s q h)

-- the label that a statement begins with is listed after it
pub its_label : (text : List ℕ) (w : Within) (x : Identifier) (l : Listed) (s : StatementTree) → is_some ((listed text w (with_label text w x l) s).labels (spelled text x)) ≡ true
its_label text w x l s = labels_stay text w (with_label text w x l) s (spelled text x) (its_own text w x l)

-- ---- jumps to no label

gone_before : (l : Option Label) (a : Around) (at : Pos) (j : Jumped) → (gone l a at j).unknown ≡ [] → j.unknown ≡ []
gone_before None a at j h = none_before j.unknown (at ∷ []) h
gone_before (Some l) a at j h = h

pub gone_there : (l : Option Label) (a : Around) (at : Pos) (j : Jumped) → (gone l a at j).unknown ≡ [] → is_some l ≡ true
gone_there None a at j h = absurd (some_place (none_after j.unknown (at ∷ []) h))
  where
    some_place : at ∷ [] ≡ [] → ⊥
    some_place e = cc
gone_there (Some l) a at j h = refl

mutual
  unfolding jumped jumped_items

  pub unknown_before : (text : List ℕ) (ls : List ℕ → Option Label) (a : Around) (j : Jumped) (s : StatementTree) → (jumped text ls a j s).unknown ≡ [] → j.unknown ≡ []
  unknown_before text ls a j (ast.block opened items closed) h = items_unknown_before text ls a j items h
  unknown_before text ls a j (ast.empty at) h = h
  unknown_before text ls a j (ast.expression_statement e) h = h
  unknown_before text ls a j (ast.label x s) h = unknown_before text ls a j s h
  unknown_before text ls a j (ast.case at e s) h = unknown_before text ls a (misplaced_if (is_out_of_place a) at j) s h
  unknown_before text ls a j (ast.default at s) h = unknown_before text ls a (jump.with_default a at j) s h
  unknown_before text ls a j (ast.if_then at e s) h = unknown_before text ls a j s h
  unknown_before text ls a j (ast.if_else at e s t) h = unknown_before text ls a j s (unknown_before text ls a (jumped text ls a j s) t h)
  unknown_before text ls a j (ast.switch at e s) h = unknown_before text ls (switched a) (with_default_flag false j) s h
  unknown_before text ls a j (ast.while at e s) h = unknown_before text ls (looped a) j s h
  unknown_before text ls a j (ast.do_while at s e) h = unknown_before text ls (looped a) j s h
  unknown_before text ls a j (ast.for_loop at (declaration d) test step s) h = unknown_before text ls (looped (within_next j a)) (jump.with_declaration j) s h
  unknown_before text ls a j (ast.for_loop at (expression e) test step s) h = unknown_before text ls (looped a) j s h
  unknown_before text ls a j (ast.goto at x) h = gone_before (ls (spelled text x)) a x.at j h
  unknown_before text ls a j (ast.continue at) h = h
  unknown_before text ls a j (ast.break at) h = h
  unknown_before text ls a j (ast.return at e) h = h

  pub items_unknown_before : (text : List ℕ) (ls : List ℕ → Option Label) (a : Around) (j : Jumped) (is : ItemTrees) → (jumped_items text ls a j is).unknown ≡ [] → j.unknown ≡ []
  items_unknown_before text ls a j no_items h = h
  items_unknown_before text ls a j (declaration_then x d is) h = items_unknown_before text ls (within_next j a) (jump.with_declaration j) is h
  items_unknown_before text ls a j (statement_then s is) h = unknown_before text ls a j s (items_unknown_before text ls a (jumped text ls a j s) is h)
