-- The declarators of a declaration from a place on.
use Rattle.std.proofs.Math.Seq.{drop-cons}
use Rattle.std.proofs.lemmas.List.{drop_all, map-append}
use Rattle.std.proofs.Common.{◌≡◌, ℕ, suc, ◌+◌, ◌<◌, ◌≤◌, drop, get_or, add-one, List, [], ◌∷◌, ◌++◌, Option, Some, None, option_map, refl, ap, sym, ◌∙◌, length}
use Rattle.pk_ast.specs.declared.declarations.Declarator.{Declarator}
use Rattle.pk_ast.specs.Trees.{DeclaratorTree, DeclarationTree}
use Rattle.pk_ast.specs.Views.{declarator_tree, declarator_trees}
use Rattle.pk_typed.specs.declared.statements.Declared.{Declared}
use Rattle.pk_typed.specs.Trees.{DeclaredTree}
use Rattle.pk_typed.specs.Views.{declared_tree, declared_trees}
use Rattle.pk_type_scope.specs.declared.failures.Failure.{Failure}
use Rattle.pk_type_expression.specs.Typed.{of_both}
use Rattle.pk_type_declaration.specs.declared.words.Words.{Words}
use Rattle.pk_type_declaration.specs.Declarations.{after_declarator, after_declarators, declarator_tree_at, declarator_trees_at}
use Rattle.pk_type_declaration.specs.Enumerations.{words_at, after_words, word_trees_at}
use Rattle.pk_type_declaration.specs.Statics.{after_declaration, declaration_trees_at}
use Rattle.pk_type_declaration.specs.Parts.{joined}
use Rattle.pk_type_declaration.specs.Walks.{Walked, here}
use Rattle.pk_type_declaration.specs.Rules.{noting}
use Rattle.pk_type_declaration.proofs.PartLemmas.{joined_step, joined_none}

abbrev State : Type 0
State = Walked (Option Failure)

pub next : (list : List Declarator) (i : ℕ) (x : Declarator) → i < length list → x ≡ get_or list i x → declarator_trees (drop i list) ≡ declarator_tree x ∷ declarator_trees (drop (i + 1) list)
next list i x h is = rw add-one (ap declarator_trees (drop-cons list i x h ∙ ap (λ z. z ∷ drop (suc i) list) (sym is)))

pub at_end : (list : List Declarator) (i : ℕ) → length list ≤ i → declarator_trees (drop i list) ≡ []
at_end list i h = ap declarator_trees (drop_all i list h)

pub next_walked : (words : Words) (w v all : State) (now rest : List DeclaratorTree) (d : DeclaratorTree) → now ≡ d ∷ rest → v ≡ after_declarator noting words d w → after_declarators noting words now w ≡ all → after_declarators noting words rest v ≡ all
unfolding after_declarators
next_walked words w v all now rest d p q h = ap (after_declarators noting words rest) q ∙ (ap (λ n. after_declarators noting words n w) (sym p) ∙ h)

pub end_walked : (words : Words) (w all : State) (now : List DeclaratorTree) → now ≡ [] → after_declarators noting words now w ≡ all → w ≡ all
unfolding after_declarators
end_walked words w all now p h = ap (λ n. after_declarators noting words n w) (sym p) ∙ h

abbrev Trees : Type 0
Trees = Option (List DeclaredTree)

pub next_trees : (words : Words) (w v : State) (now rest : List DeclaratorTree) (d : DeclaratorTree) (xs ys all : Trees) (t : Option DeclaredTree) →
    now ≡ d ∷ rest → v ≡ after_declarator noting words d w → t ≡ declarator_tree_at noting words d w → ys ≡ of_both (λ zs z. zs ++ z ∷ []) xs t →
    joined xs (declarator_trees_at noting words now w) ≡ all → joined ys (declarator_trees_at noting words rest v) ≡ all
unfolding declarator_trees_at
next_trees words w v now rest d xs ys all t p q r s h =
    ap (λ x. joined ys (declarator_trees_at noting words rest x)) q
    ∙ (ap (λ y. joined y (declarator_trees_at noting words rest (after_declarator noting words d w))) (s ∙ ap (of_both (λ zs z. zs ++ z ∷ []) xs) r)
    ∙ (sym (joined_step xs (declarator_tree_at noting words d w) (declarator_trees_at noting words rest (after_declarator noting words d w)))
    ∙ (ap (λ n. joined xs (declarator_trees_at noting words n w)) (sym p) ∙ h)))

pub end_trees : (words : Words) (w : State) (now : List DeclaratorTree) (xs all : Trees) → now ≡ [] → joined xs (declarator_trees_at noting words now w) ≡ all → xs ≡ all
unfolding declarator_trees_at
end_trees words w now xs all p h = sym (joined_none xs) ∙ (ap (λ n. joined xs (declarator_trees_at noting words n w)) (sym p) ∙ h)

-- one part more
pub declared_push : (xs : Option (List Declared)) (x : Option Declared) → option_map declared_trees (of_both (λ zs z. zs ++ z ∷ []) xs x) ≡ of_both (λ zs z. zs ++ z ∷ []) (option_map declared_trees xs) (option_map declared_tree x)
declared_push None x = refl
declared_push (Some xs) None = refl
declared_push (Some xs) (Some x) = ap Some (map-append declared_tree xs (x ∷ []))

-- behind trees that are there
behind : {A : Type 0} (xs : List A) (ys : Option (List A)) → joined (Some xs) ys ≡ option_map (λ zs. xs ++ zs) ys
behind xs None = refl
behind xs (Some ys) = refl

-- a declaration, step by step
pub declaration_walked : (d : DeclarationTree) (words : Words) (ds : List DeclaratorTree) (w a v : State) → words ≡ words_at (here w) d.specifiers d.enumeration → ds ≡ d.declarators → a ≡ after_words noting d.specifiers d.enumeration w →
    v ≡ after_declarators noting words ds a → v ≡ after_declaration noting d w
unfolding after_declaration
declaration_walked d words ds w a v p q r t =
    t ∙ (ap (λ y. after_declarators noting words y a) q ∙ (ap (after_declarators noting words d.declarators) r ∙ ap (λ y. after_declarators noting y d.declarators (after_words noting d.specifiers d.enumeration w)) p))

pub declaration_trees : (d : DeclarationTree) (words : Words) (ds : List DeclaratorTree) (w a : State) (hs : List DeclaredTree) (xs all : Trees) → words ≡ words_at (here w) d.specifiers d.enumeration → ds ≡ d.declarators →
    a ≡ after_words noting d.specifiers d.enumeration w → hs ≡ word_trees_at noting d.specifiers d.enumeration w → xs ≡ Some hs → all ≡ joined xs (declarator_trees_at noting words ds a) → all ≡ declaration_trees_at noting d w
unfolding declaration_trees_at
declaration_trees d words ds w a hs xs all p q r e x h =
    h ∙ (ap (λ y. joined y (declarator_trees_at noting words ds a)) (x ∙ ap Some e)
    ∙ (ap (λ y. joined (Some (word_trees_at noting d.specifiers d.enumeration w)) (declarator_trees_at noting words y a)) q
    ∙ (ap (λ y. joined (Some (word_trees_at noting d.specifiers d.enumeration w)) (declarator_trees_at noting words d.declarators y)) r
    ∙ (ap (λ y. joined (Some (word_trees_at noting d.specifiers d.enumeration w)) (declarator_trees_at noting y d.declarators (after_words noting d.specifiers d.enumeration w))) p
    ∙ behind (word_trees_at noting d.specifiers d.enumeration w) (declarator_trees_at noting (words_at (here w) d.specifiers d.enumeration) d.declarators (after_words noting d.specifiers d.enumeration w))))))
