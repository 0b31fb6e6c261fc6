-- What a verdict must say of the tokens so far and the one at which it was given.
use Rattle.std.proofs.Common.{◌≡◌, ℕ, suc, ◌+◌, ◌≤◌, List, [], ◌∷◌, ◌++◌, Bool, true, false, refl, arith}
use Rattle.std.specs.Prelude.{if◌then◌else◌, nat_le}
use Rattle.pk_lex.specs.declared.token.Token.{Token}
use Rattle.pk_lex.specs.declared.token.Kind.TheVariants as kind
use Rattle.pk_grammar.specs.declared.signs.Fixed.{Fixed}
use Rattle.pk_grammar.specs.Languages.{Marked}
use Rattle.pk_grammar.specs.Grammar.{externals}
use Rattle.pk_grammar.specs.Machine.Signs.{is_fixed}
use Rattle.pk_grammar.specs.Machine.Steps.{Verdict, taken, refused, finished, wanted}
use Rattle.pk_grammar.proofs.SpellsSigns.{IsFixed, is_this}
use Rattle.pk_grammar.proofs.SpellsStates.{Spells}

abbrev pub Good : Verdict → Token → List Marked → Type 0
Good (taken n s) t ms = Spells s (ms ++ record { token = t; nesting = n } ∷ [])
Good refused t ms = Unit {0}
Good (finished u) t ms = (t.kind ≡ kind.End) × externals u 0 ms

pub if_good : (b : Bool) (v w : Verdict) (t : Token) (ms : List Marked) → (b ≡ true → Good v t ms) → (b ≡ false → Good w t ms) → Good (if b then v else w) t ms
if_good true v w t ms g h = g refl
if_good false v w t ms g h = h refl

pub fixed_good : (f : Fixed) (v w : Verdict) (t : Token) (ms : List Marked) → (IsFixed f t.kind → Good v t ms) → Good w t ms → Good (if is_fixed f t.kind then v else w) t ms
fixed_good f v w t ms g h = if_good (is_fixed f t.kind) v w t ms (λ e. g (is_this f t.kind e)) (λ e. h)

pub wanted_good : (f : Fixed) (v : Verdict) (t : Token) (ms : List Marked) → (IsFixed f t.kind → Good v t ms) → Good (wanted f t v) t ms
wanted_good f v t ms g = fixed_good f v refused t ms g tt

-- The nesting of what stands two constructs deep is written in two ways.
pub two : (n : ℕ) → n + 2 ≡ n + 1 + 1
two n = omega arith

pub le_true : (a b : ℕ) → nat_le a b ≡ true → a ≤ b
le_true a b e = grind arith

pub le_false : (a b : ℕ) → nat_le a b ≡ false → suc b ≤ a
le_false a b e = grind arith
