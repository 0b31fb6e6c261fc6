-- How far a line goes as the texts of a kind: what is left of it.
use Rattle.std.proofs.Common.{◌≡◌, ◌⊎◌, inl, inr, ℕ, ◌+◌, ◌-◌, ◌≤◌, ◌<◌, min, List, [], ◌++◌, length, take, sym, ap, subst, ◌∙◌, Bool, true, arith, append-nil, length-append}
use Rattle.std.proofs.Math.Seq.{take-append_seam}
use Rattle.std.proofs.lemmas.Bool.{cases_lt}
use Rattle.pk_wrong_byte.specs.Pieces.{ReachedOf, reached}
use Rattle.pk_wrong_byte.specs.Lines.{left}
use Rattle.pk_wrong_byte_laws.proofs.Goes.{Goes, Beginning, IsPiece}

-- Where anything is read, what is read begins such a text; and none agrees with the line any further.
pub record Leaves (P : List ℕ → Type 0) (line : List ℕ) (n : ℕ) : Type 0 where
  pub within : n ≤ length line
  pub begins : n < length line → Beginning P (take (length line - n) line)
  pub furthest : (u x y same : List ℕ) → P u → u ≡ same ++ x → line ≡ same ++ y → length same + n ≤ length line

pub goes_leaves : (P : List ℕ → Type 0) (test : ℕ → Bool) (line : List ℕ) (r : ReachedOf) → Goes P test line r → Leaves P line (left r)
goes_leaves P test line r g = record {
  within = omega (arith, size);
  begins = λ h. subst (Beginning P) front_is g.begins;
  furthest = λ u x y same h e f. told u x same e (g.furthest u [] x y same h tt (append-nil u ∙ e) f);
}
  where
    size : length line ≡ length g.front + length r.rest
    size = ap length g.split ∙ length-append g.front r.rest

    front_is : g.front ≡ take (length line - length r.rest) line
    front_is =
        let n : length g.front ≡ length line - length r.rest = omega (arith, size) in
        sym (take-append_seam g.front r.rest) ∙ ap (take (length g.front)) (sym g.split) ∙ ap (λ (k : ℕ). take k line) n

    told : (u x same : List ℕ) → u ≡ same ++ x → (length same ≤ length g.front) ⊎ ((r.is_open ≡ true) × (u ≡ g.front)) → length same + length r.rest ≤ length line
    told u x same e (inl h) = omega (arith, h, size)
    told u x same e (inr h) = omega (arith, size, ap length h.1, ap length e, length-append same x)

pub piece_leaves : (P : List ℕ → Type 0) (test : ℕ → Bool) (f : ReachedOf → ReachedOf) → IsPiece P test f → (line : List ℕ) →
    Leaves P line (left (f (reached line true)))
piece_leaves P test f p line = goes_leaves P test line (f (reached line true)) (p.goes line)

-- texts of two kinds
abbrev pub Or : (List ℕ → Type 0) → (List ℕ → Type 0) → List ℕ → Type 0
Or P Q u = P u ⊎ Q u

first_begins : (P Q : List ℕ → Type 0) (front : List ℕ) → Beginning P front → Beginning (Or P Q) front
first_begins P Q front b = record { more = b.more; whole = inl b.whole }

second_begins : (P Q : List ℕ → Type 0) (front : List ℕ) → Beginning Q front → Beginning (Or P Q) front
second_begins P Q front b = record { more = b.more; whole = inr b.whole }

pub either_leaves : (P Q : List ℕ → Type 0) (line : List ℕ) (m n : ℕ) → Leaves P line m → Leaves Q line n → Leaves (Or P Q) line (min m n)
either_leaves P Q line m n p q = record {
  within = omega (arith, p.within);
  begins = λ h. by_least h (cases_lt m n);
  furthest = λ u x y same h e f. by_kind u x y same h e f;
}
  where
    by_least : min m n < length line → (m < n) ⊎ (n ≤ m) → Beginning (Or P Q) (take (length line - min m n) line)
    by_least h (inl less) =
        let least : m ≡ min m n = omega (arith, less) in
        subst (λ (k : ℕ). Beginning (Or P Q) (take (length line - k) line)) least
        (first_begins P Q (take (length line - m) line) (p.begins (omega (arith, h, least))))
    by_least h (inr less) =
        let least : n ≡ min m n = omega (arith, less) in
        subst (λ (k : ℕ). Beginning (Or P Q) (take (length line - k) line)) least
        (second_begins P Q (take (length line - n) line) (q.begins (omega (arith, h, least))))

    by_kind : (u x y same : List ℕ) → Or P Q u → u ≡ same ++ x → line ≡ same ++ y → length same + min m n ≤ length line
    by_kind u x y same (inl h) e f = omega (arith, p.furthest u x y same h e f)
    by_kind u x y same (inr h) e f = omega (arith, q.furthest u x y same h e f)

-- the same texts otherwise told
pub retold_leaves : (P Q : List ℕ → Type 0) (line : List ℕ) (n : ℕ) → ((u : List ℕ) → P u → Q u) → ((u : List ℕ) → Q u → P u) →
    Leaves P line n → Leaves Q line n
retold_leaves P Q line n there back l = record {
  within = l.within;
  begins = λ h. let b = l.begins h in record { more = b.more; whole = there (take (length line - n) line ++ b.more) b.whole };
  furthest = λ u x y same h. l.furthest u x y same (back u h);
}

-- no text at all
pub none_leaves : (P : List ℕ → Type 0) → ((u : List ℕ) → P u → ⊥) → (line : List ℕ) → Leaves P line (length line)
none_leaves P none line = record {
  within = omega arith;
  begins = λ h. absurd (omega (arith, h));
  furthest = λ u x y same h e f. absurd (none u h);
}
