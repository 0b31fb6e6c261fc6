-- Languages: lists of tokens with their nesting.
use Rattle.std.specs.Prelude.{◌≡◌, ℕ, ◌+◌, ◌⊎◌, false, List, [], ◌∷◌, ◌++◌}
use Rattle.pk_ctypes.specs.declared.places.Pos.{Pos}
use Rattle.pk_lex.specs.declared.token.Token.{Token}
use Rattle.pk_lex.specs.declared.token.Kind.{Kind}
use Rattle.pk_lex.specs.declared.token.Kind.TheVariants.{Name}
use Rattle.pk_ast.specs.declared.expressions.Identifier.{Identifier}

-- A token, and its nesting: how many constructs are open there. A construct is opened by its first token and closed by the
-- token that ends it, such as `)` or `;`; that token counts it only where it is its first one too.
pub record Marked : Type 0 where
  pub token : Token
  pub nesting : ℕ

-- which lists of tokens belong to it, where so many constructs are open around them
abbrev pub Language : Type 1
Language = ℕ → List Marked → Type 0

-- no token
abbrev pub Nothing : Language
Nothing n ts = ts ≡ []

-- one token of which this holds
pub record One (P : Token → Type 0) (n : ℕ) (ts : List Marked) : Type 0 where
  pub token : Token
  pub is : ts ≡ record { token = token; nesting = n } ∷ []
  pub holds : P token

abbrev pub At : Kind → Pos → Language
At k at = One (λ t. (t.kind ≡ k) × (t.at ≡ at))

abbrev pub Any : Kind → Language
Any k = One (λ t. t.kind ≡ k)

abbrev pub identifier_of : Token → Identifier
identifier_of t = record { start = t.start; end = t.end; at = t.at; is_tag = false }

abbrev pub Identified : Identifier → Language
Identified id = One (λ t. (t.kind ≡ Name) × (identifier_of t ≡ id))

-- one language after another
infixr 9 ◌⊙◌
pub record ◌⊙◌ (P Q : Language) (n : ℕ) (ts : List Marked) : Type 0 where
  pub front : List Marked
  pub back : List Marked
  pub cut : ts ≡ front ++ back
  pub first : P n front
  pub second : Q n back

-- with so many more constructs open
abbrev pub Past : ℕ → Language → Language
Past k P n ts = P (n + k) ts

-- with one more construct open
abbrev pub Inside : Language → Language
Inside P n ts = P (n + 1) ts

abbrev pub Optional : Language → Language
Optional P n ts = (ts ≡ []) ⊎ P n ts

-- a language under a condition
pub record Where (A : Type 0) (P : Language) (n : ℕ) (ts : List Marked) : Type 0 where
  pub holds : A
  pub is : P n ts
