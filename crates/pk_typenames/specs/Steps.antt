-- What one token tells of those behind it.
use Rattle.std.specs.Prelude.{◌≡◌, ◌≢◌, ℕ, ◌⊎◌, List, Option, Some, None, Bool, true, false, if◌then◌else◌}
use Rattle.pk_lex.specs.declared.token.Kind.{Kind}
use Rattle.pk_lex.specs.declared.token.Kind.TheVariants as kind
use Rattle.pk_lex.specs.declared.token.Keyword.TheVariants as key
use Rattle.pk_lex.specs.declared.token.Punctuator.TheVariants as mark

-- a typedef is open after a token or not, where it was before it or not
abbrev pub OpenStep : Kind → Bool → Bool → Bool → Type 0
OpenStep k outside was after =
    ((k ≡ kind.Keyword key.Typedef) × (outside ≡ true) × (after ≡ true))
    ⊎ ((k ≡ kind.Punctuator mark.Semicolon) × (outside ≡ true) × (after ≡ false))
    ⊎ ((outside ≡ false) × (after ≡ was))
    ⊎ ((k ≢ kind.Keyword key.Typedef) × (k ≢ kind.Punctuator mark.Semicolon) × (after ≡ was))

-- a name that a `,` or a `;` may declare
abbrev pub pending_after : Bool → List ℕ → Option (List ℕ)
pending_after may name = if may then Some name else None
