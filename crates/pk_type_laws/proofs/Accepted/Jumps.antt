-- Labels are numbered below their count; outside of every `switch` there is no case, where no jump is out of place.
use Rattle.std.proofs.Common.{◌≡◌, ℕ, ◌+◌, ◌<◌, ◌≤◌, Bool, true, false, not, List, [], ◌∷◌, ◌++◌, Option, Some, None, refl, ap, sym, ◌∙◌, arith, if◌then◌else◌}
use Rattle.std.proofs.lemmas.Bool.{false≢true}
use Rattle.std.specs.Prelude.{◌||◌}
use Rattle.std.specs.Str.{bytes_eq}
use Rattle.pk_ctypes.specs.declared.places.Pos.{Pos}
use Rattle.pk_ast.specs.declared.expressions.Identifier.{Identifier}
use Rattle.pk_ast.specs.Trees as ast
use Rattle.pk_ast.specs.Trees.{declaration, expression, StatementTree, ItemTrees, no_items, declaration_then, statement_then}
use Rattle.pk_type_scope.specs.declared.declarations.Typing.{Typing}
use Rattle.pk_type_scope.specs.Scopes.{spelled}
use Rattle.pk_type_declaration.specs.Statics.{after_block_declaration}
use Rattle.pk_type_declaration.specs.Walks.{after_value}
use Rattle.pk_type_declaration.specs.Rules as declarations
use Rattle.pk_type_jump.specs.declared.labels.Label.{Label}
use Rattle.pk_type_jump.specs.declared.labels.Within.{Within}
use Rattle.pk_type_jump.specs.Labels.{Listed, nothing_listed, with_label, with_declaration, inside, listed, listed_items, outermost, labels_of}
use Rattle.pk_type_jump.specs.Jumps as jump
use Rattle.pk_type_jump.specs.Jumps.{Around, Jumped, at_if, misplaced_if, gone, holds, is_out_of_place, is_unbroken, with_default_flag, looped, switched, within_next, jumped, jumped_items}
use Rattle.pk_type_statement.specs.Statements as statements
use Rattle.pk_type_statement.specs.Statements.{on, after_head, after, after_items}
use Rattle.pk_type_statement.specs.Rules as statement_rules
use Rattle.pk_type_laws.proofs.Accepted.Statements.{P, LabelBelow, Below}

pub none_before : {A : Type 0} (xs ys : List A) → xs ++ ys ≡ [] → xs ≡ []
none_before [] ys h = refl
none_before (x ∷ xs) ys h = absurd (cc)

pub none_after : {A : Type 0} (xs ys : List A) → xs ++ ys ≡ [] → ys ≡ []
none_after [] ys h = h
none_after (x ∷ xs) ys h = absurd (cc)

not_at : (b : Bool) (at : Pos) → at_if b at ≡ [] → b ≡ false
not_at true at h = absurd (cc)
not_at false at h = refl

-- ---- labels

label_later : (m n : ℕ) (l : Option Label) → m ≤ n → LabelBelow m l → LabelBelow n l
label_later m n None h b = tt
label_later m n (Some l) h b = omega (h, b, arith)

either : (n : ℕ) (b : Bool) (l : Label) (o : Option Label) → l.number < n → LabelBelow n o → LabelBelow n (if b then Some l else o)
either n true l o h k = h
either n false l o h k = k

one_more : (text : List ℕ) (w : Within) (x : Identifier) (l : Listed) → Below l.count l.labels → Below (with_label text w x l).count (with_label text w x l).labels
one_more text w x l b q =
    either (l.count + 1) (bytes_eq (spelled text x) q) (record { number = l.count; within = w }) (l.labels q) (omega arith) (label_later l.count (l.count + 1) (l.labels q) (omega arith) (b q))

mutual
  unfolding listed listed_items

  listed_below : (text : List ℕ) (w : Within) (l : Listed) (s : StatementTree) → Below l.count l.labels → Below (listed text w l s).count (listed text w l s).labels
  listed_below text w l (ast.block opened items closed) b = items_below text w l items b
  listed_below text w l (ast.empty at) b = b
  listed_below text w l (ast.expression_statement e) b = b
  listed_below text w l (ast.label x s) b = listed_below text w (with_label text w x l) s (one_more text w x l b)
  listed_below text w l (ast.case at e s) b = listed_below text w l s b
  listed_below text w l (ast.default at s) b = listed_below text w l s b
  listed_below text w l (ast.if_then at e s) b = listed_below text w l s b
  listed_below text w l (ast.if_else at e s t) b = listed_below text w (listed text w l s) t (listed_below text w l s b)
  listed_below text w l (ast.switch at e s) b = listed_below text w l s b
  listed_below text w l (ast.while at e s) b = listed_below text w l s b
  listed_below text w l (ast.do_while at s e) b = listed_below text w l s b
  listed_below text w l (ast.for_loop at (declaration d) condition step s) b = listed_below text (inside l.declarations w) (with_declaration l) s b
  listed_below text w l (ast.for_loop at (expression e) condition step s) b = listed_below text w l s b
  listed_below text w l (ast.goto at x) b = b
  listed_below text w l (ast.continue at) b = b
  listed_below text w l (ast.break at) b = b
  listed_below text w l (ast.return at e) b = b

  items_below : (text : List ℕ) (w : Within) (l : Listed) (is : ItemTrees) → Below l.count l.labels → Below (listed_items text w l is).count (listed_items text w l is).labels
  items_below text w l no_items b = b
  items_below text w l (declaration_then x d is) b = items_below text (inside l.declarations w) (with_declaration l) is b
  items_below text w l (statement_then s is) b = items_below text w (listed text w l s) is (listed_below text w l s b)

pub labels_below : (text : List ℕ) (is : ItemTrees) → Below (labels_of text is).count (labels_of text is).labels
labels_below text is = items_below text outermost nothing_listed is (λ q. tt)

-- ---- jumps out of place

gone_before : (l : Option Label) (a : Around) (at : Pos) (j : Jumped) → (gone l a at j).misplaced ≡ [] → j.misplaced ≡ []
gone_before None a at j h = h
gone_before (Some l) a at j h = none_before j.misplaced (at_if (not (holds l a.scopes)) at) h

abbrev Labels : Type 0
Labels = List ℕ → Option Label

mutual
  unfolding jumped jumped_items

  pub before : (text : List ℕ) (labels : Labels) (a : Around) (j : Jumped) (s : StatementTree) → (jumped text labels a j s).misplaced ≡ [] → j.misplaced ≡ []
  before text labels a j (ast.block opened items closed) h = items_before text labels a j items h
  before text labels a j (ast.empty at) h = h
  before text labels a j (ast.expression_statement e) h = h
  before text labels a j (ast.label x s) h = before text labels a j s h
  before text labels a j (ast.case at e s) h = none_before j.misplaced (at_if (is_out_of_place a) at) (before text labels a (misplaced_if (is_out_of_place a) at j) s h)
  before text labels a j (ast.default at s) h = none_before j.misplaced (at_if (is_out_of_place a || j.has_default) at) (before text labels a (jump.with_default a at j) s h)
  before text labels a j (ast.if_then at e s) h = before text labels a j s h
  before text labels a j (ast.if_else at e s t) h = before text labels a j s (before text labels a (jumped text labels a j s) t h)
  before text labels a j (ast.switch at e s) h = before text labels (switched a) (with_default_flag false j) s h
  before text labels a j (ast.while at e s) h = before text labels (looped a) j s h
  before text labels a j (ast.do_while at s e) h = before text labels (looped a) j s h
  before text labels a j (ast.for_loop at (declaration d) condition step s) h = before text labels (looped (within_next j a)) (jump.with_declaration j) s h
  before text labels a j (ast.for_loop at (expression e) condition step s) h = before text labels (looped a) j s h
  before text labels a j (ast.goto at x) h = gone_before (labels (spelled text x)) a x.at j h
  before text labels a j (ast.continue at) h = none_before j.misplaced (at_if (not a.in_loop) at) h
  before text labels a j (ast.break at) h = none_before j.misplaced (at_if (is_unbroken a) at) h
  before text labels a j (ast.return at e) h = h

  pub items_before : (text : List ℕ) (labels : Labels) (a : Around) (j : Jumped) (is : ItemTrees) → (jumped_items text labels a j is).misplaced ≡ [] → j.misplaced ≡ []
  items_before text labels a j no_items h = h
  items_before text labels a j (declaration_then x d is) h = items_before text labels (within_next j a) (jump.with_declaration j) is h
  items_before text labels a j (statement_then s is) h = before text labels a j s (items_before text labels a (jumped text labels a j s) is h)

-- no case and no default is added
record Same (p q : P) : Type 0 where
  cases : q.cases ≡ p.cases
  default : q.has_default ≡ p.has_default

same : (p q r : P) → Same p q → Same q r → Same p r
same p q r a b = record { cases = b.cases ∙ a.cases; default = b.default ∙ a.default }

not_out : (a : Around) (b : Bool) (at : Pos) (xs : List Pos) → a.switch ≡ None → xs ++ at_if (is_out_of_place a || b) at ≡ [] → ⊥
not_out a b at xs n h = out (is_out_of_place a) (ap (λ (o : Option ℕ). not (jump.is_number o a.here)) n) (not_at (is_out_of_place a || b) at (none_after xs (at_if (is_out_of_place a || b) at) h))
  where
    out : (c : Bool) → c ≡ true → (c || b) ≡ false → ⊥
    out true e h = false≢true (sym h)
    out false e h = false≢true e

not_case : (a : Around) (at : Pos) (xs : List Pos) → a.switch ≡ None → xs ++ at_if (is_out_of_place a) at ≡ [] → ⊥
not_case a at xs n h = out (is_out_of_place a) (ap (λ (o : Option ℕ). not (jump.is_number o a.here)) n) (not_at (is_out_of_place a) at (none_after xs (at_if (is_out_of_place a) at) h))
  where
    out : (c : Bool) → c ≡ true → c ≡ false → ⊥
    out true e h = false≢true (sym h)
    out false e h = false≢true e

mutual
  unfolding jumped jumped_items after after_items

  outside : (text : List ℕ) (labels : Labels) (a : Around) (j : Jumped) (r : Typing) (p : P) (s : StatementTree) → a.switch ≡ None → (jumped text labels a j s).misplaced ≡ [] → Same p (after statement_rules.noting r p s)
  outside text labels a j r p (ast.block opened items closed) n h = let q = statements.inside p in let k = items_outside text labels a j r q items n h in record { cases = k.cases; default = k.default }
  outside text labels a j r p (ast.empty at) n h = record { cases = refl; default = refl }
  outside text labels a j r p (ast.expression_statement e) n h = record { cases = refl; default = refl }
  outside text labels a j r p (ast.label x s) n h = outside text labels a j r p s n h
  outside text labels a j r p (ast.case at e s) n h = absurd (not_case a at j.misplaced n (before text labels a (misplaced_if (is_out_of_place a) at j) s h))
  outside text labels a j r p (ast.default at s) n h = absurd (not_out a j.has_default at j.misplaced n (before text labels a (jump.with_default a at j) s h))
  outside text labels a j r p (ast.if_then at e s) n h = let k = outside text labels a j r (on (after_value declarations.noting e) p) s n h in record { cases = k.cases; default = k.default }
  outside text labels a j r p (ast.if_else at e s t) n h =
      let q = on (after_value declarations.noting e) p in
      let o = jumped text labels a j s in
      let k = outside text labels a j r q s n (before text labels a o t h) in
      let l = outside text labels a o r (after statement_rules.noting r q s) t n h in
      record { cases = l.cases ∙ k.cases; default = l.default ∙ k.default }
  outside text labels a j r p (ast.switch at e s) n h = record { cases = refl; default = refl }
  outside text labels a j r p (ast.while at e s) n h = let k = outside text labels (looped a) j r (on (after_value declarations.noting e) p) s n h in record { cases = k.cases; default = k.default }
  outside text labels a j r p (ast.do_while at s e) n h = let k = outside text labels (looped a) j r p s n h in record { cases = k.cases; default = k.default }
  outside text labels a j r p (ast.for_loop at (declaration d) test step s) n h =
      let k = outside text labels (looped (within_next j a)) (jump.with_declaration j) r (on (after_head declarations.noting (declaration d) test step) (statements.inside p)) s n h in record { cases = k.cases; default = k.default }
  outside text labels a j r p (ast.for_loop at (expression e) test step s) n h =
      let k = outside text labels (looped a) j r (on (after_head declarations.noting (expression e) test step) (statements.inside p)) s n h in record { cases = k.cases; default = k.default }
  outside text labels a j r p (ast.goto at x) n h = record { cases = refl; default = refl }
  outside text labels a j r p (ast.continue at) n h = record { cases = refl; default = refl }
  outside text labels a j r p (ast.break at) n h = record { cases = refl; default = refl }
  outside text labels a j r p (ast.return at e) n h = record { cases = refl; default = refl }

  items_outside : (text : List ℕ) (labels : Labels) (a : Around) (j : Jumped) (r : Typing) (p : P) (is : ItemTrees) → a.switch ≡ None → (jumped_items text labels a j is).misplaced ≡ [] → Same p (after_items statement_rules.noting r p is)
  items_outside text labels a j r p no_items n h = record { cases = refl; default = refl }
  items_outside text labels a j r p (declaration_then x d is) n h =
      let k = items_outside text labels (within_next j a) (jump.with_declaration j) r (on (after_block_declaration declarations.noting x d) p) is n h in record { cases = k.cases; default = k.default }
  items_outside text labels a j r p (statement_then s is) n h =
      let o = jumped text labels a j s in
      let k = outside text labels a j r p s n (items_before text labels a o is h) in
      let l = items_outside text labels a o r (after statement_rules.noting r p s) is n h in
      record { cases = l.cases ∙ k.cases; default = l.default ∙ k.default }

pub no_case : (text : List ℕ) (labels : Labels) (r : Typing) (p : P) (is : ItemTrees) → (jump.jumps_of text labels is).misplaced ≡ [] → (after_items statement_rules.noting r p is).cases ≡ p.cases
no_case text labels r p is h = (items_outside text labels jump.around_body jump.nothing_jumped r p is refl h).cases

pub no_default : (text : List ℕ) (labels : Labels) (r : Typing) (p : P) (is : ItemTrees) → (jump.jumps_of text labels is).misplaced ≡ [] → (after_items statement_rules.noting r p is).has_default ≡ p.has_default
no_default text labels r p is h = (items_outside text labels jump.around_body jump.nothing_jumped r p is refl h).default
