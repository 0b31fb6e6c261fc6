-- The labels of the items of a block from a place on.
use Rattle.std.proofs.Common.{◌≡◌, ℕ, ◌+◌, List, ◌++◌, Option, ap, sym, ◌∙◌}
use Rattle.pk_ctypes.specs.declared.places.Pos.{Pos}
use Rattle.pk_ast.specs.declared.expressions.Identifier.{Identifier}
use Rattle.pk_ast.specs.Trees.{DeclarationTree, StatementTree, ItemTrees, no_items, declaration_then, statement_then}
use Rattle.pk_type_jump.specs.declared.labels.Label.{Label}
use Rattle.pk_type_jump.specs.declared.labels.Within.{Within}
use Rattle.pk_type_scope.specs.Scopes.{spelled}
use Rattle.pk_type_jump.specs.Labels.{Listed, listed, listed_items, inside, with_declaration, with_label, named, is_repeated}

pub after_declaration : (text : List ℕ) (w v : Within) (l m all : Listed) (now rest : ItemTrees) (x : Option Pos) (d : DeclarationTree) → now ≡ declaration_then x d rest → v ≡ inside l.declarations w → m ≡ with_declaration l → listed_items text w l now ≡ all → listed_items text v m rest ≡ all
unfolding listed_items
after_declaration text w v l m all now rest x d p q r h =
    ap (λ z. listed_items text z m rest) q ∙ (ap (λ y. listed_items text (inside l.declarations w) y rest) r ∙ (ap (λ n. listed_items text w l n) (sym p) ∙ h))

pub after_statement : (text : List ℕ) (w v : Within) (l m all : Listed) (now rest : ItemTrees) (s : StatementTree) → v ≡ w → now ≡ statement_then s rest → m ≡ listed text w l s → listed_items text w l now ≡ all → listed_items text v m rest ≡ all
unfolding listed_items
after_statement text w v l m all now rest s r p q h =
    ap (λ x. listed_items text x m rest) r ∙ (ap (λ y. listed_items text w y rest) q ∙ (ap (λ n. listed_items text w l n) (sym p) ∙ h))

pub at_last : (text : List ℕ) (w : Within) (l all : Listed) (now : ItemTrees) → now ≡ no_items → listed_items text w l now ≡ all → l ≡ all
unfolding listed_items
at_last text w l all now p h = ap (λ n. listed_items text w l n) (sym p) ∙ h

abbrev made : (List ℕ → Option Label) → ℕ → ℕ → List Pos → Listed
made labels count declarations repeated = record { labels = labels; count = count; declarations = declarations; repeated = repeated }

-- a label is listed
pub after_label : (text bytes : List ℕ) (w : Within) (x : Identifier) (l : Listed) (labels put : List ℕ → Option Label) (count declarations : ℕ) (old : Option Label) (repeated before : List Pos) →
    bytes ≡ spelled text x → labels ≡ put → put ≡ named l.labels bytes (record { number = l.count; within = w }) → count ≡ l.count + 1 → declarations ≡ l.declarations →
    old ≡ l.labels bytes → repeated ≡ before ++ is_repeated old x.at → before ≡ l.repeated → made labels count declarations repeated ≡ with_label text w x l
after_label text bytes w x l labels put count declarations old repeated before b p n c d o r k =
    ap (λ y. made y count declarations repeated) (p ∙ (n ∙ ap (λ z. named l.labels z (record { number = l.count; within = w })) b))
    ∙ (ap (λ y. made (with_label text w x l).labels y declarations repeated) c
    ∙ (ap (λ y. made (with_label text w x l).labels (l.count + 1) y repeated) d
    ∙ ap (λ y. made (with_label text w x l).labels (l.count + 1) l.declarations y) (r ∙ (ap (λ y. y ++ is_repeated old x.at) k ∙ ap (λ y. l.repeated ++ is_repeated y x.at) (o ∙ ap l.labels b)))))
