-- The enumerators of an enumeration from a place on.
use Rattle.std.proofs.Math.Seq.{drop-cons}
use Rattle.std.proofs.lemmas.List.{drop_all, append-nil}
use Rattle.std.proofs.Common.{◌≡◌, ℕ, suc, ◌+◌, ◌<◌, ◌≤◌, ℤ, pos, drop, get_or, add-one, List, [], ◌∷◌, ◌++◌, append_assoc, Option, Some, refl, ap, sym, ◌∙◌, length}
use Rattle.pk_ast.specs.declared.declarations.Enumerator.{Enumerator}
use Rattle.pk_ast.specs.declared.declarations.Specifier.{Specifier}
use Rattle.pk_ast.specs.declared.expressions.Identifier.{Identifier}
use Rattle.pk_ast.specs.Trees.{OneOrMore, EnumeratorTree, EnumerationTree}
use Rattle.pk_ast.specs.Views.{enumerator_tree, enumerator_trees}
use Rattle.pk_typed.specs.Trees.{DeclaredTree}
use Rattle.pk_type_scope.specs.declared.failures.Failure.{Failure}
use Rattle.pk_type_scope.specs.Specifiers.{type_name_among}
use Rattle.pk_type_declaration.specs.Enumerations.{after_tag, next_number, enumerator_value, after_enumerator_value, after_enumerator_name, after_enumerator, after_enumerators, after_words, hidden, hidden_by, word_trees_at}
use Rattle.pk_type_declaration.specs.Walks.{Walked, here}
use Rattle.pk_type_declaration.specs.Rules.{noting}

abbrev State : Type 0
State = Walked (Option Failure)

abbrev Trees : Type 0
Trees = List DeclaredTree

pub next : (list : List Enumerator) (i : ℕ) (x : Enumerator) → i < length list → x ≡ get_or list i x → enumerator_trees (drop i list) ≡ enumerator_tree x ∷ enumerator_trees (drop (i + 1) list)
next list i x h is = rw add-one (ap enumerator_trees (drop-cons list i x h ∙ ap (λ z. z ∷ drop (suc i) list) (sym is)))

pub at_end : (list : List Enumerator) (i : ℕ) → length list ≤ i → enumerator_trees (drop i list) ≡ []
at_end list i h = ap enumerator_trees (drop_all i list h)

-- the number of the one behind it
abbrev then : State → Option ℤ → EnumeratorTree → Option ℤ
then w n x = next_number (enumerator_value w n x.value)

pub next_walked : (n m : Option ℤ) (w v all : State) (now rest : List EnumeratorTree) (x : EnumeratorTree) → now ≡ x ∷ rest → v ≡ after_enumerator noting n x w → m ≡ then w n x → after_enumerators noting n now w ≡ all → after_enumerators noting m rest v ≡ all
unfolding after_enumerators
next_walked n m w v all now rest x p q r h = ap (λ k. after_enumerators noting k rest v) r ∙ (ap (after_enumerators noting (then w n x) rest) q ∙ (ap (λ y. after_enumerators noting n y w) (sym p) ∙ h))

pub end_walked : (n : Option ℤ) (w all : State) (now : List EnumeratorTree) → now ≡ [] → after_enumerators noting n now w ≡ all → w ≡ all
unfolding after_enumerators
end_walked n w all now p h = ap (λ y. after_enumerators noting n y w) (sym p) ∙ h

pub next_trees : (n m : Option ℤ) (w v : State) (now rest : List EnumeratorTree) (x : EnumeratorTree) (xs ys all : Trees) → now ≡ x ∷ rest → v ≡ after_enumerator noting n x w → m ≡ then w n x → ys ≡ xs ++ hidden (here w x.name) x.name.at →
    xs ++ hidden_by noting n now w ≡ all → ys ++ hidden_by noting m rest v ≡ all
unfolding hidden_by
next_trees n m w v now rest x xs ys all p q r s h =
    ap (λ k. ys ++ hidden_by noting k rest v) r
    ∙ (ap (λ z. ys ++ hidden_by noting (then w n x) rest z) q
    ∙ (ap (λ y. y ++ hidden_by noting (then w n x) rest (after_enumerator noting n x w)) s
    ∙ (append_assoc xs (hidden (here w x.name) x.name.at) (hidden_by noting (then w n x) rest (after_enumerator noting n x w)) ∙ (ap (λ y. xs ++ hidden_by noting n y w) (sym p) ∙ h))))

pub end_trees : (n : Option ℤ) (w : State) (now : List EnumeratorTree) (xs all : Trees) → now ≡ [] → xs ++ hidden_by noting n now w ≡ all → xs ≡ all
unfolding hidden_by
end_trees n w now xs all p h = sym (append-nil xs) ∙ (ap (λ y. xs ++ hidden_by noting n y w) (sym p) ∙ h)

-- an enumerator, step by step
pub enumerator_walked : (n value : Option ℤ) (x : EnumeratorTree) (w a b : State) → value ≡ enumerator_value w n x.value → a ≡ after_enumerator_value noting n x.name x.value w → b ≡ after_enumerator_name noting value x.name a → b ≡ after_enumerator noting n x w
unfolding after_enumerator
enumerator_walked n value x w a b p q h =
    h ∙ (ap (after_enumerator_name noting value x.name) q ∙ ap (λ y. after_enumerator_name noting y x.name (after_enumerator_value noting n x.name x.value w)) p)

-- an enumeration, step by step
pub enumeration_walked : (words : OneOrMore Specifier) (e : EnumerationTree) (tag : Option Identifier) (m : Option ℤ) (more : List EnumeratorTree) (w a b v : State) → tag ≡ type_name_among words → a ≡ after_tag noting tag w →
    b ≡ after_enumerator noting (Some (pos 0)) e.enumerators.first a → m ≡ then a (Some (pos 0)) e.enumerators.first → more ≡ e.enumerators.more → v ≡ after_enumerators noting m more b → v ≡ after_words noting words (Some e) w
unfolding after_words after_enumerators
enumeration_walked words e tag m more w a b v t p q r s h =
    let x = e.enumerators.first in
    h ∙ (next_walked (Some (pos 0)) m a b (after_enumerators noting (Some (pos 0)) (x ∷ more) a) (x ∷ more) more x refl q r refl
    ∙ (ap (λ y. after_enumerators noting (Some (pos 0)) (x ∷ y) a) s
    ∙ ap (after_enumerators noting (Some (pos 0)) (x ∷ e.enumerators.more)) (p ∙ ap (λ y. after_tag noting y w) t)))

pub enumeration_trees : (words : OneOrMore Specifier) (e : EnumerationTree) (tag : Option Identifier) (m : Option ℤ) (more : List EnumeratorTree) (w a b : State) (xs ys zs : Trees) → tag ≡ type_name_among words → a ≡ after_tag noting tag w →
    b ≡ after_enumerator noting (Some (pos 0)) e.enumerators.first a → m ≡ then a (Some (pos 0)) e.enumerators.first → more ≡ e.enumerators.more → ys ≡ xs ++ hidden (here a e.enumerators.first.name) e.enumerators.first.name.at →
    zs ≡ ys ++ hidden_by noting m more b → zs ≡ xs ++ word_trees_at noting words (Some e) w
unfolding word_trees_at hidden_by
enumeration_trees words e tag m more w a b xs ys zs t p q r s y h =
    let x = e.enumerators.first in
    h ∙ (next_trees (Some (pos 0)) m a b (x ∷ more) more x xs ys (xs ++ hidden_by noting (Some (pos 0)) (x ∷ more) a) refl q r y refl
    ∙ (ap (λ z. xs ++ hidden_by noting (Some (pos 0)) (x ∷ z) a) s
    ∙ ap (λ z. xs ++ hidden_by noting (Some (pos 0)) (x ∷ e.enumerators.more) z) (p ∙ ap (λ z. after_tag noting z w) t)))
