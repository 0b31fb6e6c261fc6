-- The special names: functions that the analysis knows, where a text declares them (C99 has no such names but abort, 7.20.4.1).
use Rattle.std.specs.Prelude.{ℕ, List, [], ◌∷◌, Option, codes}
use Rattle.pk_ctypes.specs.Spellings.{lookup}
use Rattle.pk_ctypes.specs.declared.types.IntType.TheVariants as ctype
use Rattle.pk_type_scope.specs.declared.declarations.Callee.{Callee}
use Rattle.pk_type_scope.specs.declared.declarations.Callee.TheVariants.{Any, Assume, Assert, Abort}

abbrev pub specials : List (List ℕ × Callee)
specials =
    (codes "abort", Abort) ∷ (codes "__VERIFIER_assume", Assume) ∷ (codes "__pikos_assert", Assert)
    ∷ (codes "__VERIFIER_nondet_char", Any ctype.Char) ∷ (codes "__VERIFIER_nondet_uchar", Any ctype.UChar)
    ∷ (codes "__VERIFIER_nondet_short", Any ctype.Short) ∷ (codes "__VERIFIER_nondet_ushort", Any ctype.UShort)
    ∷ (codes "__VERIFIER_nondet_int", Any ctype.Int) ∷ (codes "__VERIFIER_nondet_uint", Any ctype.UInt)
    ∷ (codes "__VERIFIER_nondet_long", Any ctype.Long) ∷ (codes "__VERIFIER_nondet_ulong", Any ctype.ULong)
    ∷ (codes "__VERIFIER_nondet_longlong", Any ctype.LLong) ∷ (codes "__VERIFIER_nondet_ulonglong", Any ctype.ULLong)
    ∷ []

-- what a call of a special name is, where the name is one
unfoldable pub special : List ℕ → Option Callee
special name = lookup specials name
