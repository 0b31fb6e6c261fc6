-- The first token that shows a construct which is not analysed, or none does.
use Rattle.std.proofs.Common.{◌≡◌, ℕ, List, [], ◌∷◌, Option, Some, None, refl}
use Rattle.std.proofs.Math.Dec.{ltb}
use Rattle.std.proofs.lemmas.Bool.{ltb-true, lt-ltb}
use Rattle.pk_ctypes.specs.declared.places.Pos.{Pos}
use Rattle.pk_ctypes.specs.declared.words.Construct.{Construct}
use Rattle.pk_lex.specs.declared.token.Token.{Token}
use Rattle.pk_constructs.specs.declared.constructs.Before.{Before}
use Rattle.pk_constructs.specs.declared.constructs.Before.TheVariants as before
use Rattle.pk_constructs.specs.Constructs.{IsSupported, FirstUnsupported}
use Rattle.pk_constructs.specs.Tables.{before_of, kind_shows}
use Rattle.pk_constructs.proofs.ScanLemmas.{Scanned, brace_step, scanned_none, unsupported_here, scanned_more, scanned_all}

-- no token shows a construct, or one is the first that does
pub data Shown (tokens : List Token) : Type 0 where
  none : IsSupported tokens → Shown tokens
  first : (c : Construct) (at : Pos) → FirstUnsupported tokens c at → Shown tokens

scan : (tokens rest : List Token) (b : Before) (braces : ℕ) → Scanned tokens rest b braces → Shown tokens
scan tokens [] b braces s = none (scanned_all tokens b braces s)
scan tokens (t ∷ after) b braces s = by_token (λ d depth r. scan tokens after d depth r) (kind_shows b (ltb 0 braces) t.kind) refl
  where
    by_token : ((d : Before) (depth : ℕ) → Scanned tokens after d depth → Shown tokens) → (c : Option Construct) → kind_shows b (ltb 0 braces) t.kind ≡ c → Shown tokens
    by_token on (Some c) e =
        first c t.at (unsupported_here tokens (t ∷ after) b braces s t after refl (ltb 0 braces) (ltb-true 0 braces) (lt-ltb 0 braces) c e)
    by_token on None e =
        let p = brace_step t.kind braces in
        on (before_of t.kind) p.0
        (scanned_more tokens (t ∷ after) b braces s t after refl (ltb 0 braces) (ltb-true 0 braces) (lt-ltb 0 braces) e (before_of t.kind) p.0 refl p.1)

pub shown_first : (tokens : List Token) → Shown tokens
shown_first tokens = scan tokens tokens before.Other 0 (scanned_none tokens before.Other refl)
