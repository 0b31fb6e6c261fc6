-- The declarators of a declaration that has `static`, from a place on.
use Rattle.std.proofs.lemmas.List.{map-append, append-nil}
use Rattle.std.proofs.Common.{◌≡◌, List, [], ◌∷◌, ◌++◌, Option, append_assoc, ap, sym, ◌∙◌}
use Rattle.pk_ast.specs.Trees.{DeclaratorTree, DeclarationTree}
use Rattle.pk_typed.specs.declared.statements.Declared.{Declared}
use Rattle.pk_typed.specs.Trees.{DeclaredTree}
use Rattle.pk_typed.specs.Views.{declared_tree, declared_trees}
use Rattle.pk_type_scope.specs.declared.failures.Failure.{Failure}
use Rattle.pk_type_declaration.specs.declared.words.Words.{Words}
use Rattle.pk_type_declaration.specs.Enumerations.{words_at, after_words, word_trees_at}
use Rattle.pk_type_declaration.specs.Statics.{after_static, after_statics, after_static_declaration, static_tree_at, static_trees_at, static_declaration_at}
use Rattle.pk_type_declaration.specs.Walks.{Walked, here}
use Rattle.pk_type_declaration.specs.Rules.{noting}

abbrev State : Type 0
State = Walked (Option Failure)

abbrev Trees : Type 0
Trees = List DeclaredTree

pub next_walked : (words : Words) (w v all : State) (now rest : List DeclaratorTree) (d : DeclaratorTree) → now ≡ d ∷ rest → v ≡ after_static noting words d w → after_statics noting words now w ≡ all → after_statics noting words rest v ≡ all
unfolding after_statics
next_walked words w v all now rest d p q h = ap (after_statics noting words rest) q ∙ (ap (λ n. after_statics noting words n w) (sym p) ∙ h)

pub end_walked : (words : Words) (w all : State) (now : List DeclaratorTree) → now ≡ [] → after_statics noting words now w ≡ all → w ≡ all
unfolding after_statics
end_walked words w all now p h = ap (λ n. after_statics noting words n w) (sym p) ∙ h

pub one_pushed : (xs : List Declared) (x : Declared) (t : DeclaredTree) → declared_tree x ≡ t → declared_trees (xs ++ x ∷ []) ≡ declared_trees xs ++ t ∷ []
one_pushed xs x t h = map-append declared_tree xs (x ∷ []) ∙ ap (λ y. declared_trees xs ++ y ∷ []) h

pub next_trees : (words : Words) (w v : State) (now rest : List DeclaratorTree) (d : DeclaratorTree) (xs ys all : Trees) → now ≡ d ∷ rest → v ≡ after_static noting words d w → ys ≡ xs ++ static_tree_at d w ∷ [] →
    xs ++ static_trees_at noting words now w ≡ all → ys ++ static_trees_at noting words rest v ≡ all
unfolding static_trees_at
next_trees words w v now rest d xs ys all p q s h =
    ap (λ x. ys ++ static_trees_at noting words rest x) q
    ∙ (ap (λ y. y ++ static_trees_at noting words rest (after_static noting words d w)) s
    ∙ (append_assoc xs (static_tree_at d w ∷ []) (static_trees_at noting words rest (after_static noting words d w)) ∙ (ap (λ n. xs ++ static_trees_at noting words n w) (sym p) ∙ h)))

pub end_trees : (words : Words) (w : State) (now : List DeclaratorTree) (xs all : Trees) → now ≡ [] → xs ++ static_trees_at noting words now w ≡ all → xs ≡ all
unfolding static_trees_at
end_trees words w now xs all p h = sym (append-nil xs) ∙ (ap (λ n. xs ++ static_trees_at noting words n w) (sym p) ∙ h)

-- a declaration, step by step
pub declaration_walked : (d : DeclarationTree) (words : Words) (ds : List DeclaratorTree) (w a v : State) → words ≡ words_at (here w) d.specifiers d.enumeration → ds ≡ d.declarators → a ≡ after_words noting d.specifiers d.enumeration w →
    v ≡ after_statics noting words ds a → v ≡ after_static_declaration noting d w
unfolding after_static_declaration
declaration_walked d words ds w a v p q r t =
    t ∙ (ap (λ y. after_statics noting words y a) q ∙ (ap (after_statics noting words d.declarators) r ∙ ap (λ y. after_statics noting y d.declarators (after_words noting d.specifiers d.enumeration w)) p))

pub declaration_trees : (d : DeclarationTree) (words : Words) (ds : List DeclaratorTree) (w a : State) (xs all : Trees) → words ≡ words_at (here w) d.specifiers d.enumeration → ds ≡ d.declarators → a ≡ after_words noting d.specifiers d.enumeration w →
    xs ≡ word_trees_at noting d.specifiers d.enumeration w → all ≡ xs ++ static_trees_at noting words ds a → all ≡ static_declaration_at noting d w
unfolding static_declaration_at
declaration_trees d words ds w a xs all p q r x h =
    h ∙ (ap (λ y. y ++ static_trees_at noting words ds a) x
    ∙ (ap (λ y. word_trees_at noting d.specifiers d.enumeration w ++ static_trees_at noting words y a) q
    ∙ (ap (λ y. word_trees_at noting d.specifiers d.enumeration w ++ static_trees_at noting words d.declarators y) r
    ∙ ap (λ y. word_trees_at noting d.specifiers d.enumeration w ++ static_trees_at noting y d.declarators (after_words noting d.specifiers d.enumeration w)) p)))
