-- Places in a text.
use Rattle.std.specs.Prelude.{◌≡◌, ◌<◌, ◌⊎◌, ℕ, ◌+◌, ◌==◌, List, [], ◌∷◌, ◌++◌, codes, if◌then◌else◌}
use Rattle.std.specs.Fmt.{decimal}
use Rattle.pk_ctypes.specs.declared.places.Pos.{Pos}

-- `L:C`
abbrev pub pos_text : Pos → List ℕ
pos_text p = decimal p.line ++ codes ":" ++ decimal p.column

-- an earlier line, or the same line and an earlier column
abbrev pub Before : Pos → Pos → Type 0
Before p q = (p.line < q.line) ⊎ ((p.line ≡ q.line) × (p.column < q.column))

-- a strict total order on places
pub record OrdersPlaces (R : Pos → Pos → Type 0) : Type 0 where
  pub irreflexive : (p : Pos) → ¬ (R p p)
  pub transitive : (p q r : Pos) → R p q → R q r → R p r
  pub total : (p q : Pos) → R p q ⊎ ((p ≡ q) ⊎ R q p)

-- the place of a text's first byte
abbrev pub start_of_text : Pos
start_of_text = record { line = 1; column = 1 }

-- the place after a byte: a newline ends its line
abbrev pub after_byte : Pos → ℕ → Pos
after_byte p b =
    if b == 10 then record { line = p.line + 1; column = 1 } else record { line = p.line; column = p.column + 1 }

-- the place after some bytes
abbrev pub after_bytes : Pos → List ℕ → Pos
after_bytes p [] = p
after_bytes p (b ∷ bytes) = after_bytes (after_byte p b) bytes
