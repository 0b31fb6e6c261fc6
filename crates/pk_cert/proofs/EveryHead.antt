-- Every list of bytes begins with a head, or has a first byte with which none goes on.
use Rattle.std.specs.Prelude.{◌≡◌, ℕ, List, ◌++◌, length}
use Rattle.std.proofs.Common.{arith, refl, ap, ◌∙◌, inl, inr}
use Rattle.pk_cert.specs.Beginnings.{TextsOf, Leads}
use Rattle.pk_cert.specs.Heads.{HeadOf, head_text}
use Rattle.pk_cert.specs.Pieces.{BeginsWith, IsBetween, counted, IsName, IsBlock, lined, FromEntry, FromOct, FromSize}
use Rattle.pk_cert.specs.Laws.{EveryHeadEnds}
use Rattle.pk_cert.proofs.Parts.{names_told, literals_told}
use Rattle.pk_cert.proofs.Every.{Ends, first_there, literal_ends, count_ends, name_ends, block_ends, two_ends}
use Rattle.pk_cert.proofs.Heading.{opening, Whole, sizes_told, a_last, an_entry, an_oct, a_size, opening_stops, head_of_whole, head_stops}

entry_ends : (size : ℕ) (bytes : List ℕ) → Ends (FromEntry size) bytes
entry_ends size =
    two_ends IsName lined (λ (e : List ℕ). TextsOf (IsBlock size) lined) names_told (λ e h. a_last size) name_ends
    (λ e h. block_ends size)

oct_ends : (size : ℕ) (bytes : List ℕ) → Ends (FromOct size) bytes
oct_ends size =
    two_ends (IsBetween 0 64) (counted 32) (λ (m : ℕ). FromEntry size) (sizes_told 64 (omega arith)) (λ m h. an_entry size)
    (count_ends 0 64 32 (omega arith) (omega arith) (omega arith) (omega arith)) (λ m h. entry_ends size)

size_ends : (bytes : List ℕ) → Ends FromSize bytes
size_ends =
    two_ends (IsBetween 0 4194304) (counted 32) FromOct (sizes_told 4194304 (omega arith)) (λ m h. an_oct m)
    (count_ends 0 4194304 32 (omega arith) (omega arith) (omega arith) (omega arith)) (λ m h. oct_ends m)

-- a literal as a text
opening_ends : (bytes : List ℕ) → Ends (TextsOf (λ (t : List ℕ). t ≡ opening) (λ (t : List ℕ). t)) bytes
opening_ends bytes = elim (literal_ends opening bytes) [
  | inl l ↦ inl (l.0, l.1, (l.0, l.2, refl), l.3)
  | inr s ↦ inr (s.0, opening_stops bytes s.0 s.1)
]

whole_ends : (bytes : List ℕ) → Ends Whole bytes
whole_ends =
    two_ends (λ (t : List ℕ). t ≡ opening) (λ (t : List ℕ). t) (λ (t : List ℕ). FromSize) (literals_told opening) (λ t h. a_size)
    opening_ends (λ t h. size_ends)

begun : (bytes : List ℕ) → Leads Whole bytes → (h : HeadOf) × BeginsWith bytes h
begun bytes l =
    let h = head_of_whole l.0 l.2 in
    let e : bytes ≡ head_text h.0 ++ l.1 = l.3 ∙ ap (λ (x : List ℕ). x ++ l.1) h.2 in
    (h.0, record { is = h.1; len = length (head_text h.0); first = first_there (head_text h.0) l.1 bytes e })

pub every_head_ends : EveryHeadEnds
every_head_ends bytes = elim (whole_ends bytes) [
  | inl l ↦ inl (begun bytes l)
  | inr s ↦ inr (s.0, head_stops bytes s.0 s.1)
]
