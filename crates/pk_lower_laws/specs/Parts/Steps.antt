-- Drafts of which one is ahead of the other, and work that makes as much in both.
use Rattle.std.specs.Prelude.{◌≡◌, ℕ, ◌+◌, List, [], ◌∷◌, Option}
use Rattle.pk_draft.specs.declared.drafts.Size.{Size}
use Rattle.pk_draft.specs.Drafts.{DraftOf, Given}
use Rattle.pk_lower_row.specs.Contexts.{Context, size_in}
use Rattle.pk_lower_row.specs.Rows.{Ways, Passed}
use Rattle.pk_lower_statement.specs.declared.statements.Exits.{Exits}

-- a points and b variables are p points and v variables more than c and d
pub record Ahead (p v a b c d : ℕ) : Type 0 where
  pub points : a ≡ p + c
  pub variables : b ≡ v + d

-- the numbers of d are ahead of those of e by p points and v variables
abbrev pub InStep : {V W : Type 0} → (p v : ℕ) → DraftOf V → DraftOf W → Type 0
InStep p v d e = Ahead p v d.points d.variables e.points e.variables

-- both make as many points and variables, whatever drafts they begin with
abbrev pub AsMuch : {V W : Type 0} → (DraftOf V → DraftOf V) → (DraftOf W → DraftOf W) → Type 0
AsMuch {V = V} {W = W} f g = (p v : ℕ) (d : DraftOf V) (e : DraftOf W) → InStep p v d e → InStep p v (f d) (g e)

abbrev pub GiveAsMuch : {V W : Type 0} → (DraftOf V → Given V) → (DraftOf W → Given W) → Type 0
GiveAsMuch f g = AsMuch (λ d. (f d).1) (λ e. (g e).1)

abbrev pub ChooseAsMuch : {V W : Type 0} → ((p q : ℕ) → DraftOf V → DraftOf V) →
    ((p q : ℕ) → DraftOf W → DraftOf W) → Type 0
ChooseAsMuch f g = (i j k l : ℕ) → AsMuch (f i j) (g k l)

abbrev pub AsMany : {A B : Type 0} → List A → List B → Type 0
AsMany [] [] = Unit {0}
AsMany [] (y ∷ ys) = ⊥
AsMany (x ∷ xs) [] = ⊥
AsMany (x ∷ xs) (y ∷ ys) = AsMany xs ys

abbrev pub PassAsMuch : {V W : Type 0} → (DraftOf V → Passed V) → (DraftOf W → Passed W) → Type 0
PassAsMuch {V = V} {W = W} f g = (p v : ℕ) (d : DraftOf V) (e : DraftOf W) → InStep p v d e
    → AsMany (f d).trees (g e).trees × InStep p v (f d).draft (g e).draft

pub record WaysInStep {V W : Type 0} (f : Ways V) (g : Ways W) : Type 0 where
  pub value : GiveAsMuch f.value g.value
  pub choice : ChooseAsMuch f.choice g.choice
  pub unused : AsMuch f.unused g.unused

-- the same function on path k, whose first call leads to path n, with other sizes
abbrev pub moved : (k n : ℕ) → List (Option Size) → Context → Context
moved k n ss c = record c { path = k; first = n; sizes = ss }

-- the sizes of a function are the same
abbrev pub AgreeAt : (ss rs : List (Option Size)) → (f n : ℕ) → Type 0
AgreeAt ss rs f n = size_in ss f ≡ size_in rs f

-- a statement's part, wherever jumps lead
abbrev pub WorkAsMuch : {V W : Type 0} → (Exits → DraftOf V → DraftOf V) → (Exits → DraftOf W → DraftOf W) → Type 0
WorkAsMuch f g = (x y : Exits) → AsMuch (f x) (g y)
