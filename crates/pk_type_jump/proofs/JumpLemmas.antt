-- The jumps of the items of a block from a place on, and of the statements that have a scope of their own.
use Rattle.std.proofs.lemmas.List.{take-append-le}
use Rattle.std.proofs.Common.{◌≡◌, ℕ, ◌+◌, ◌≤◌, List, [], ◌∷◌, ◌++◌, Option, false, take, length, length-append, ap, sym, ◌∙◌, arith}
use Rattle.pk_ctypes.specs.declared.places.Pos.{Pos}
use Rattle.pk_ast.specs.Trees.{ExpressionTree, DeclarationTree, StatementTree, ItemTrees, no_items, declaration_then, statement_then, for_loop, switch, declaration}
use Rattle.pk_type_jump.specs.declared.labels.Label.{Label}
use Rattle.pk_type_jump.specs.Jumps.{Around, Jumped, jumped, jumped_items, within_next, with_declaration, with_default_flag, looped, switched}

abbrev Labels : Type 0
Labels = List ℕ → Option Label

pub after_declaration : (text : List ℕ) (labels : Labels) (a b : Around) (j k all : Jumped) (now rest : ItemTrees) (x : Option Pos) (d : DeclarationTree) → now ≡ declaration_then x d rest → b ≡ within_next j a → k ≡ with_declaration j → jumped_items text labels a j now ≡ all → jumped_items text labels b k rest ≡ all
unfolding jumped_items
after_declaration text labels a b j k all now rest x d p q r h =
    ap (λ y. jumped_items text labels y k rest) q ∙ (ap (λ y. jumped_items text labels (within_next j a) y rest) r ∙ (ap (λ n. jumped_items text labels a j n) (sym p) ∙ h))

pub after_statement : (text : List ℕ) (labels : Labels) (a b : Around) (j k all : Jumped) (now rest : ItemTrees) (s : StatementTree) → now ≡ statement_then s rest → b ≡ a → k ≡ jumped text labels a j s → jumped_items text labels a j now ≡ all → jumped_items text labels b k rest ≡ all
unfolding jumped_items
after_statement text labels a b j k all now rest s p q r h =
    ap (λ x. jumped_items text labels x k rest) q ∙ (ap (λ y. jumped_items text labels a y rest) r ∙ (ap (λ n. jumped_items text labels a j n) (sym p) ∙ h))

pub at_last : (text : List ℕ) (labels : Labels) (a : Around) (j all : Jumped) (now : ItemTrees) → now ≡ no_items → jumped_items text labels a j now ≡ all → j ≡ all
unfolding jumped_items
at_last text labels a j all now p h = ap (λ n. jumped_items text labels a j n) (sym p) ∙ h

pub in_switch : (text : List ℕ) (labels : Labels) (a b : Around) (j m : Jumped) (tree s : StatementTree) (at : Pos) (e : ExpressionTree) → tree ≡ switch at e s → b ≡ switched a → m ≡ jumped text labels b (with_default_flag false j) s → with_default_flag j.has_default m ≡ jumped text labels a j tree
unfolding jumped
in_switch text labels a b j m tree s at e p q r =
    ap (with_default_flag j.has_default) (r ∙ ap (λ x. jumped text labels x (with_default_flag false j) s) q) ∙ ap (jumped text labels a j) (sym p)

pub in_for : (text : List ℕ) (labels : Labels) (a b : Around) (j k m : Jumped) (tree s : StatementTree) (at : Pos) (d : DeclarationTree) (condition step : Option ExpressionTree) → tree ≡ for_loop at (declaration d) condition step s → b ≡ looped (within_next j a) → k ≡ with_declaration j → m ≡ jumped text labels b k s → m ≡ jumped text labels a j tree
unfolding jumped
in_for text labels a b j k m tree s at d condition step p q r h =
    h ∙ (ap (λ x. jumped text labels x k s) q ∙ (ap (λ y. jumped text labels (looped (within_next j a)) y s) r ∙ ap (jumped text labels a j) (sym p)))

-- one scope more
pub longer : (n : ℕ) (xs ys : List ℕ) (x : ℕ) → ys ≡ xs ++ x ∷ [] → n ≤ length xs → n ≤ length ys
longer n xs ys x p h = let q : length ys ≡ length (xs ++ x ∷ []) = ap length p in let r : length (xs ++ x ∷ []) ≡ length xs + length (x ∷ []) = length-append xs (x ∷ []) in omega (arith, q, r, h)

pub kept : (n : ℕ) (xs ys zs : List ℕ) (x : ℕ) → ys ≡ xs ++ x ∷ [] → n ≤ length xs → take n xs ≡ zs → take n ys ≡ zs
kept n xs ys zs x p h q = ap (take n) p ∙ (take-append-le n xs (x ∷ []) h ∙ q)
