-- Labels of a function in which none is repeated.
use Rattle.std.proofs.Common.{◌≡◌, ℕ, ◌≤◌, Bool, true, false, List, [], Option, Some, None, refl, ap, sym, ◌∙◌, arith, if◌then◌else◌}
use Rattle.std.proofs.lemmas.Option.{none-some}
use Rattle.std.proofs.lemmas.Slice.Eq.{bytes_eq-Decides}
use Rattle.std.specs.Str.{bytes_eq}
use Rattle.pk_ctypes.specs.declared.places.Pos.{Pos}
use Rattle.pk_ast.specs.declared.expressions.Identifier.{Identifier}
use Rattle.pk_ast.specs.Trees as ast
use Rattle.pk_ast.specs.Trees.{declaration, expression, StatementTree, ItemTrees, no_items, declaration_then, statement_then}
use Rattle.pk_type_scope.specs.Scopes.{spelled}
use Rattle.pk_type_jump.specs.declared.labels.Label.{Label}
use Rattle.pk_type_jump.specs.declared.labels.Within.{Within}
use Rattle.pk_type_jump.specs.Labels.{Listed, is_repeated, with_label, with_declaration, inside, listed, listed_items}
use Rattle.pk_type_laws.proofs.Accepted.Jumps.{none_before, none_after}

-- what is listed stays, where no label is repeated
pub record Stays (l m : Listed) : Type 0 where
  pub repeated : m.repeated ≡ [] → l.repeated ≡ []
  pub keeps : m.repeated ≡ [] → (q : List ℕ) (x : Label) → l.labels q ≡ Some x → m.labels q ≡ Some x
  pub more : l.count ≤ m.count

stays_same : (l : Listed) → Stays l l
stays_same l = record { repeated = λ h. h; keeps = λ h q x e. e; more = omega arith }

stays_then : (l m n : Listed) → Stays l m → Stays m n → Stays l n
stays_then l m n a b = record { repeated = λ h. a.repeated (b.repeated h); keeps = λ h q x e. b.keeps h q x (a.keeps (b.repeated h) q x e); more = omega (a.more, b.more, arith) }

pick : (labels : List ℕ → Option Label) (name q : List ℕ) (new y : Label) (at : Pos) (c : Bool) → bytes_eq name q ≡ c → (o : Option Label) → labels name ≡ o → is_repeated o at ≡ [] → labels q ≡ Some y → (if c then Some new else labels q) ≡ Some y
pick labels name q new y at false is o a r e = e
pick labels name q new y at true is None a r e = absurd (none-some y (sym a ∙ (ap labels ((bytes_eq-Decides name q).0 is) ∙ e)))
pick labels name q new y at true is (Some z) a r e = absurd (cc)

new_label : (text : List ℕ) (w : Within) (x : Identifier) (l : Listed) → Stays l (with_label text w x l)
new_label text w x l = record {
  repeated = λ h. none_before l.repeated (is_repeated (l.labels (spelled text x)) x.at) h;
  keeps = λ h q y e. pick l.labels (spelled text x) q (record { number = l.count; within = w }) y x.at (bytes_eq (spelled text x) q) refl (l.labels (spelled text x)) refl
      (none_after l.repeated (is_repeated (l.labels (spelled text x)) x.at) h) e;
  more = omega arith;
}

declared_stays : (l : Listed) → Stays l (with_declaration l)
declared_stays l = record { repeated = λ h. h; keeps = λ h q x e. e; more = omega arith }

mutual
  unfolding listed listed_items

  pub stays : (text : List ℕ) (w : Within) (l : Listed) (s : StatementTree) → Stays l (listed text w l s)
  stays text w l (ast.block opened items closed) = items_stay text w l items
  stays text w l (ast.empty at) = stays_same l
  stays text w l (ast.expression_statement e) = stays_same l
  stays text w l (ast.label x s) = stays_then l (with_label text w x l) _ (new_label text w x l) (stays text w (with_label text w x l) s)
  stays text w l (ast.case at e s) = stays text w l s
  stays text w l (ast.default at s) = stays text w l s
  stays text w l (ast.if_then at e s) = stays text w l s
  stays text w l (ast.if_else at e s t) = stays_then l (listed text w l s) _ (stays text w l s) (stays text w (listed text w l s) t)
  stays text w l (ast.switch at e s) = stays text w l s
  stays text w l (ast.while at e s) = stays text w l s
  stays text w l (ast.do_while at s e) = stays text w l s
  stays text w l (ast.for_loop at (declaration d) condition step s) = stays_then l (with_declaration l) _ (declared_stays l) (stays text (inside l.declarations w) (with_declaration l) s)
  stays text w l (ast.for_loop at (expression e) condition step s) = stays text w l s
  stays text w l (ast.goto at x) = stays_same l
  stays text w l (ast.continue at) = stays_same l
  stays text w l (ast.break at) = stays_same l
  stays text w l (ast.return at e) = stays_same l

  pub items_stay : (text : List ℕ) (w : Within) (l : Listed) (is : ItemTrees) → Stays l (listed_items text w l is)
  items_stay text w l no_items = stays_same l
  items_stay text w l (declaration_then x d is) = stays_then l (with_declaration l) _ (declared_stays l) (items_stay text (inside l.declarations w) (with_declaration l) is)
  items_stay text w l (statement_then s is) = stays_then l (listed text w l s) _ (stays text w l s) (items_stay text w (listed text w l s) is)

-- the label that was listed last is found by its spelling
pub its_label : (text : List ℕ) (w : Within) (x : Identifier) (l : Listed) → (with_label text w x l).labels (spelled text x) ≡ Some (record { number = l.count; within = w })
its_label text w x l = let same : bytes_eq (spelled text x) (spelled text x) ≡ true = (bytes_eq-Decides (spelled text x) (spelled text x)).1 refl in rw same
