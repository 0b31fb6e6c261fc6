-- What is written piece by piece.
use Rattle.std.proofs.Common.{◌≡◌, ℕ, List, ◌++◌, ap, ◌∙◌, append_assoc}

pub five_pieces : (a b c d e n n1 n2 n3 n4 n5 : List ℕ) → n1 ≡ n ++ a → n2 ≡ n1 ++ b → n3 ≡ n2 ++ c → n4 ≡ n3 ++ d → n5 ≡ n4 ++ e →
    n5 ≡ n ++ (a ++ (b ++ (c ++ (d ++ e))))
five_pieces a b c d e n n1 n2 n3 n4 n5 e1 e2 e3 e4 e5 =
    e5
    ∙ ap (λ (l : List ℕ). l ++ e) (e4 ∙ ap (λ (l : List ℕ). l ++ d) (e3 ∙ ap (λ (l : List ℕ). l ++ c) (e2 ∙ ap (λ (l : List ℕ). l ++ b) e1)))
    ∙ simp append_assoc

pub four_pieces : (a b c d n n1 n2 n3 n4 : List ℕ) → n1 ≡ n ++ a → n2 ≡ n1 ++ b → n3 ≡ n2 ++ c → n4 ≡ n3 ++ d → n4 ≡ n ++ (a ++ (b ++ (c ++ d)))
four_pieces a b c d n n1 n2 n3 n4 e1 e2 e3 e4 =
    e4
    ∙ ap (λ (l : List ℕ). l ++ d) (e3 ∙ ap (λ (l : List ℕ). l ++ c) (e2 ∙ ap (λ (l : List ℕ). l ++ b) e1))
    ∙ simp append_assoc
