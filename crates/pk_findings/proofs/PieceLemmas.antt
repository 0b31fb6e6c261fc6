-- What is written piece by piece.
use Rattle.std.proofs.Common.{◌≡◌, ℕ, List, ◌++◌, ap, ◌∙◌, append_assoc}

pub three_pieces : (a b c n n1 n2 n3 : List ℕ) → n1 ≡ n ++ a → n2 ≡ n1 ++ b → n3 ≡ n2 ++ c → n3 ≡ n ++ (a ++ (b ++ c))
three_pieces a b c n n1 n2 n3 e1 e2 e3 =
    e3 ∙ ap (λ (l : List ℕ). l ++ c) (e2 ∙ ap (λ (l : List ℕ). l ++ b) e1) ∙ simp append_assoc
