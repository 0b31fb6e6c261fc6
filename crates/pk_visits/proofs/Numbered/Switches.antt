-- The loop `for`, and switches, whose variables are renamed: the lowering makes the same of them.
use Rattle.std.proofs.Common.{ℕ, ◌+◌, List, [], ◌∷◌, refl, ap, ◌∙◌, ℤ}
use Rattle.pk_ctypes.specs.declared.places.Pos.{Pos}
use Rattle.pk_ctypes.specs.declared.types.IntType.{IntType}
use Rattle.pk_ctypes.specs.declared.types.Op.TheVariants.{Eq}
use Rattle.pk_lower_statement.specs.declared.statements.Exits.{Exits}
use Rattle.pk_graph.specs.declared.trees.Site.{Site}
use Rattle.pk_graph.specs.Trees.{TreeOf, constant, Skip}
use Rattle.pk_draft.specs.Drafts.{DraftOf, at, on, in_scope, fresh, go}
use Rattle.pk_draft.specs.Folding.{binary_tree}
use Rattle.pk_lower_row.specs.Rows as rows
use Rattle.pk_lower_statement.specs.Statements as statements
use Rattle.pk_lower_statement.specs.Statements.{case_tests}
use Rattle.pk_visits.proofs.Numbered.Names.{tree_by, draft_by, binary_by, go_by}
use Rattle.pk_visits.proofs.Numbered.Rows.{Works, guards_by}
use Rattle.pk_visits.proofs.Numbered.Loops.{Does, round_by}

pub for_from_by : {V W : Type 0} (f : V → W) (p : Pos) (t : (p q : ℕ) → DraftOf V → DraftOf V) (u : (p q : ℕ) → DraftOf W → DraftOf W) (a : DraftOf V → DraftOf V) (b : DraftOf W → DraftOf W) (s : Exits → DraftOf V → DraftOf V) (r : Exits → DraftOf W → DraftOf W) (x : Exits) (i k e : ℕ)
    → ((p q : ℕ) → Works f (t p q) (u p q)) → Works f a b → Does f s r → Works f (statements.for_from p t a s x i k e) (statements.for_from p u b r x i k e)
for_from_by f p t u a b s r x i k e h g j d =
    let y = statements.round x s i e k (t i e d) in
    let m = in_scope d.here.scope (on p y) in
    ap (λ z. go Skip d.point (b (in_scope d.here.scope (on p (statements.round x r i e k z))))) (h i e d)
    ∙ ap (λ z. go Skip d.point (b (in_scope d.here.scope (on p z)))) (round_by f x s r i e k j (t i e d))
    ∙ ap (go Skip d.point) (g m) ∙ go_by f Skip d.point (a m)

case_test_by : {V W : Type 0} (f : V → W) (s : Site) (t : IntType) (e : TreeOf V) (z : ℤ) (p : ℕ) → Works f (statements.case_test s t e z p) (statements.case_test s t (tree_by f e) z p)
case_test_by {W = W} f s t e z p d =
    let c = binary_tree Eq s t e (constant t z) in
    ap (λ (x : TreeOf W). at d.points (rows.guards p d.points (x, fresh 1 (draft_by f d)))) (binary_by f Eq s t e (constant t z))
    ∙ ap (at d.points) (guards_by f p d.points (c, fresh 1 d))

pub case_tests_by : (V W : Type 0) (f : V → W) (s : Site) (t : IntType) (e : TreeOf V) (zs : List ℤ) (p : ℕ) → Works f (case_tests s t e zs p) (case_tests s t (tree_by f e) zs p)
unfolding case_tests
case_tests_by V W f s t e [] p d = refl
case_tests_by V W f s t e (z ∷ zs) p d = ap (case_tests s t (tree_by f e) zs (p + 1)) (case_test_by f s t e z p d) ∙ case_tests_by V W f s t e zs (p + 1) (statements.case_test s t e z p d)
