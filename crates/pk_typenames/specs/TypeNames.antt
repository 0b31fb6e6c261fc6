-- Type names (C99 6.7.7), over whole lists of tokens and their text.
use Rattle.std.specs.Prelude.{◌≡◌, ℕ, ◌⊎◌, List, [], ◌∷◌, ◌++◌, ◌&&◌, nat_le, length, slice_range, if◌then◌else◌}
use Rattle.pk_lex.specs.declared.token.Token.{Token}
use Rattle.pk_lex.specs.declared.token.Kind.{Kind}
use Rattle.pk_lex.specs.declared.token.Kind.TheVariants as kind
use Rattle.pk_lex.specs.declared.token.Keyword.TheVariants as key
use Rattle.pk_lex.specs.declared.token.Punctuator.TheVariants as mark
use Rattle.pk_constructs.specs.Constructs.{BracesAfter}

-- the bytes of a token in its text
abbrev pub spelled : List ℕ → Token → List ℕ
spelled text t = if nat_le t.start t.end && nat_le t.end (length text) then slice_range text t.start t.end else []

-- what follows these tokens stands outside all braces
abbrev pub IsOutside : List Token → Type 0
IsOutside front = BracesAfter front 0 0

-- These tokens end inside a typedef: a `typedef` outside all braces, and no `;` outside braces since.
pub record InTypedef (front : List Token) : Type 0 where
  pub before : List Token
  pub word : Token
  pub since : List Token
  pub cut : front ≡ before ++ word ∷ since
  pub is : word.kind ≡ kind.Keyword key.Typedef
  pub outside : IsOutside before
  pub unended : (some more : List Token) (t : Token) → since ≡ some ++ t ∷ more →
      t.kind ≡ kind.Punctuator mark.Semicolon → ¬ IsOutside (before ++ word ∷ some)

-- the last of these tokens is a name of this spelling, outside all braces in a typedef
pub record EndsInName (text : List ℕ) (front : List Token) (q : List ℕ) : Type 0 where
  pub before : List Token
  pub name : Token
  pub cut : front ≡ before ++ name ∷ []
  pub is : name.kind ≡ kind.Name
  pub inside : InTypedef before
  pub outside : IsOutside before
  pub same : spelled text name ≡ q

-- a `,` or a `;`
abbrev pub IsEnd : Kind → Type 0
IsEnd k = (k ≡ kind.Punctuator mark.Comma) ⊎ (k ≡ kind.Punctuator mark.Semicolon)

-- Among these tokens a type of this spelling is declared: by such a name directly before a `,` or a `;`.
pub record IsDeclared (text : List ℕ) (front : List Token) (q : List ℕ) : Type 0 where
  pub before : List Token
  pub sign : Token
  pub since : List Token
  pub cut : front ≡ before ++ sign ∷ since
  pub name : EndsInName text before q
  pub ends : IsEnd sign.kind

-- a token behind these is a type name
abbrev pub IsTypeName : List ℕ → List Token → Token → Type 0
IsTypeName text front t = (t.kind ≡ kind.Name) × IsDeclared text front (spelled text t)

abbrev pub as_type_name : Token → Token
as_type_name t = record t { kind = kind.TypeName }

-- What the grammar sees of a token behind these: that it is a type name, where it is one, and else the token itself.
abbrev pub IsMarked : List ℕ → List Token → Token → Token → Type 0
IsMarked text front t m =
    (IsTypeName text front t × (m ≡ as_type_name t)) ⊎ ((¬ IsTypeName text front t) × (m ≡ t))

-- what it sees of tokens that stand behind others
abbrev pub AreMarked : List ℕ → List Token → List Token → List Token → Type 0
AreMarked text front [] [] = Unit {0}
AreMarked text front [] (m ∷ ms) = ⊥
AreMarked text front (t ∷ ts) [] = ⊥
AreMarked text front (t ∷ ts) (m ∷ ms) = IsMarked text front t m × AreMarked text (front ++ t ∷ []) ts ms

-- Of every text and its tokens there is exactly one marking.
pub record OneMarking : Type 0 where
  pub some : (text : List ℕ) (tokens : List Token) → (marked : List Token) × AreMarked text [] tokens marked
  pub one : (text : List ℕ) (tokens a b : List Token) → AreMarked text [] tokens a → AreMarked text [] tokens b → a ≡ b
