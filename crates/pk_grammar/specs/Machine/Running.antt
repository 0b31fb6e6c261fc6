-- What parsing answers from a state on, with the nesting bounded.
use Rattle.std.specs.Prelude.{◌≡◌, List, [], ◌∷◌, if◌then◌else◌, nat_le}
use Rattle.pk_ctypes.specs.declared.places.Pos.{Pos}
use Rattle.pk_lex.specs.declared.token.Token.{Token}
use Rattle.pk_lex.specs.declared.token.Kind.TheVariants as kind
use Rattle.pk_ast.specs.Trees.{ExternalTree}
use Rattle.pk_grammar.specs.declared.failure.ParseError.{ParseError}
use Rattle.pk_grammar.specs.declared.failure.ParseError.TheVariants.{Unsupported, Syntax, Nesting, Memory}
use Rattle.pk_grammar.specs.Machine.States.{State}
use Rattle.pk_grammar.specs.Outcomes.{nesting_limit}
use Rattle.pk_grammar.specs.Machine.Steps.{Verdict, taken, refused, finished, step}

-- The trees of the tokens; or the place of the first one with which no text goes on, or that is nested too deep
pub data Answer : Type 0 where
  trees : List ExternalTree → Answer
  syntax : Pos → Answer
  deep : Pos → Answer

-- the token that ends the text
abbrev pub end_of : Token → Token
end_of t = record { kind = kind.End; start = t.start; end = t.end; at = t.at }

-- the first one of the tokens that are left, which the end follows
abbrev pub first_of_all : Token → List Token → Token
first_of_all end [] = end_of end
first_of_all end (t ∷ ts) = t

abbrev pub run_on : Verdict → Token → (State → Answer) → Answer
run_on (taken n s) t go = if nat_le n nesting_limit then go s else deep t.at
run_on refused t go = syntax t.at
run_on (finished u) t go = trees u

-- what is answered from a state on, where these tokens are left, which the end follows
unfoldable pub run : Token → State → List Token → Answer
run end s [] = run_on (step s (end_of end)) (end_of end) (λ r. syntax end.at)
run end s (t ∷ ts) = run_on (step s t) t (λ r. run end r ts)

-- the answer is this error; where memory is wanted there is none
abbrev pub Fails : Answer → ParseError → Type 0
Fails a (Unsupported construct at) = ⊥
Fails a (Syntax at) = a ≡ syntax at
Fails a (Nesting at) = a ≡ deep at
Fails a Memory = Unit {0}
