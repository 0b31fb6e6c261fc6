-- With what the texts of a class begin.
use Rattle.std.specs.Prelude.{◌≡◌, ℕ, suc, ◌<◌, ◌≤◌, List, ◌++◌, length, take}

-- the texts of the values that meet P
abbrev pub TextsOf : {A : Type 0} → (A → Type 0) → (A → List ℕ) → List ℕ → Type 0
TextsOf {A} P text bytes = (a : A) × P a × (bytes ≡ text a)

-- some text of the class begins with these bytes
abbrev pub Begins : (List ℕ → Type 0) → List ℕ → Type 0
Begins C bytes = (rest : List ℕ) × C (bytes ++ rest)

-- these bytes begin with some text of the class
abbrev pub Leads : (List ℕ → Type 0) → List ℕ → Type 0
Leads C bytes = (text rest : List ℕ) × C text × (bytes ≡ text ++ rest)

-- The first byte with which no text of the class goes on: with what stands before it some text begins, with it none does. At the end the bytes are none of the class, though some text goes on from there.
pub record IsFirstWrong (C : List ℕ → Type 0) (bytes : List ℕ) (n : ℕ) : Type 0 where
  pub there : n ≤ length bytes
  pub before : Begins C (take n bytes)
  pub wrong : n < length bytes → Begins C (take (suc n) bytes) → ⊥
  pub early : n ≡ length bytes → C bytes → ⊥

-- the first byte with which no text of the class goes on, whatever stands behind it
pub record IsStop (C : List ℕ → Type 0) (bytes : List ℕ) (n : ℕ) : Type 0 where
  pub there : n ≤ length bytes
  pub before : Begins C (take n bytes)
  pub wrong : n < length bytes → Begins (Leads C) (take (suc n) bytes) → ⊥
  pub early : n ≡ length bytes → Leads C bytes → ⊥

-- bytes have at most one first wrong byte, and none if they are of the class
pub record IsOneWrong (C : List ℕ → Type 0) (bytes : List ℕ) : Type 0 where
  pub one : (m n : ℕ) → IsFirstWrong C bytes m → IsFirstWrong C bytes n → m ≡ n
  pub none : (n : ℕ) → IsFirstWrong C bytes n → C bytes → ⊥
