-- A loop over a table finds what stands beside a spelling.
use Rattle.std.proofs.Common.{◌≡◌, ℕ, suc, ◌+◌, ◌<◌, ◌≤◌, true, false, cond, Some, None, List, map, length, drop, get_or, refl, sym, ap, ◌∙◌, add-one, Bor}
use Rattle.std.proofs.Math.Seq.{drop-cons}
use Rattle.std.proofs.lemmas.List.{drop_all}
use Rattle.std.specs.Str.{bytes_eq}
use Rattle.pk_ctypes.specs.Spellings.{lookup}

abbrev rows : {T : Type 0} → List (Bor (List ℕ) × T) → List (List ℕ × T)
rows table = map (λ row. (row.0.now, row.1)) table

next_row : {T : Type 0} (table : List (Bor (List ℕ) × T)) (word : List ℕ) (i : ℕ) (row : Bor (List ℕ) × T) → i < length table → row ≡ get_or table i row →
    lookup (rows (drop i table)) word ≡ cond (bytes_eq row.0.now word) (Some row.1) (lookup (rows (drop (suc i) table)) word)
next_row {T} table word i row lt e = rw (drop-cons table i row lt, ← e) refl

pub row_found : {T : Type 0} (table : List (Bor (List ℕ) × T)) (word : List ℕ) (i : ℕ) (row : Bor (List ℕ) × T) → i < length table → row ≡ get_or table i row →
    bytes_eq row.0.now word ≡ true → lookup (rows (drop i table)) word ≡ lookup (rows table) word → Some row.1 ≡ lookup (rows table) word
row_found table word i row lt e s inv = sym (ap (λ b. cond b (Some row.1) (lookup (rows (drop (suc i) table)) word)) s) ∙ sym (next_row table word i row lt e) ∙ inv

pub row_passed : {T : Type 0} (table : List (Bor (List ℕ) × T)) (word : List ℕ) (i : ℕ) (row : Bor (List ℕ) × T) → i < length table → row ≡ get_or table i row →
    bytes_eq row.0.now word ≡ false → lookup (rows (drop i table)) word ≡ lookup (rows table) word → lookup (rows (drop (i + 1) table)) word ≡ lookup (rows table) word
row_passed table word i row lt e s inv =
    rw add-one (sym (ap (λ b. cond b (Some row.1) (lookup (rows (drop (suc i) table)) word)) s) ∙ sym (next_row table word i row lt e) ∙ inv)

pub rows_passed : {T : Type 0} (table : List (Bor (List ℕ) × T)) (word : List ℕ) (i : ℕ) → length table ≤ i →
    lookup (rows (drop i table)) word ≡ lookup (rows table) word → None ≡ lookup (rows table) word
rows_passed table word i le inv = ap (λ l. lookup (rows l) word) (sym (drop_all i table le)) ∙ inv
