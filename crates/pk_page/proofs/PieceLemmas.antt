-- What is written piece by piece.
use Rattle.std.proofs.Common.{◌≡◌, ℕ, List, ◌++◌, sym, ap, ◌∙◌, append_assoc}
use Rattle.std.proofs.lemmas.List.Concat.{flat_map-append}
use Rattle.pk_html.specs.declared.parts.Part.{Part}
use Rattle.pk_html.specs.Parts.{part_text, parts_text}

two_pieces : (a b : List Part) (n n1 n2 : List ℕ) → n1 ≡ n ++ parts_text a → n2 ≡ n1 ++ parts_text b → n2 ≡ n ++ parts_text (a ++ b)
two_pieces a b n n1 n2 e1 e2 =
    e2 ∙ ap (λ (l : List ℕ). l ++ parts_text b) e1 ∙ append_assoc n (parts_text a) (parts_text b) ∙
    ap (λ (l : List ℕ). n ++ l) (sym (flat_map-append part_text a b))

pub three_pieces : (a b c : List Part) (n n1 n2 n3 : List ℕ) → n1 ≡ n ++ parts_text a → n2 ≡ n1 ++ parts_text b → n3 ≡ n2 ++ parts_text c →
    n3 ≡ n ++ parts_text (a ++ (b ++ c))
three_pieces a b c n n1 n2 n3 e1 e2 e3 = two_pieces a (b ++ c) n n1 n3 e1 (two_pieces b c n1 n2 n3 e2 e3)
