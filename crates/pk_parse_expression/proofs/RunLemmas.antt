-- What is answered from one state on, and from the next one.
use Rattle.std.proofs.Common.{◌≡◌, ℕ, ◌+◌, ◌<◌, ◌≤◌, List, [], ◌∷◌, Result, Ok, Err, IsErrAnd, MatchResult, sym, ap, subst, ◌∙◌, le-leb, arith}
use Rattle.std.proofs.lemmas.Bool.{lt-leb}
use Rattle.std.proofs.lemmas.Result.{err_from_is_err_and}
use Rattle.pk_lex.specs.declared.token.Token.{Token}
use Rattle.pk_grammar.specs.declared.failure.ParseError.{ParseError}
use Rattle.pk_grammar.specs.declared.failure.ParseError.TheVariants.{Syntax, Nesting, Memory}
use Rattle.pk_grammar.specs.Machine.States.{State}
use Rattle.pk_grammar.specs.Machine.Steps.{taken, refused, step}
use Rattle.pk_grammar.specs.Machine.Running.{Answer, syntax, deep, end_of, first_of_all, run_on, run, Fails}

pub run_takes : (end : Token) (s : State) (ts : List Token) (t : Token) (rest : List Token) (n : ℕ) (r : State) → ts ≡ t ∷ rest → step s t ≡ taken n r → n ≤ 128 → run end s ts ≡ run end r rest
unfolding run
run_takes end s ts t rest n r cut e h = ap (λ q. run end s q) cut ∙ ap (λ v. run_on v t (λ q. run end q rest)) e ∙ rw (le-leb n 128 h)

pub run_deep : (end : Token) (s : State) (ts : List Token) (t : Token) (rest : List Token) (n : ℕ) (r : State) → ts ≡ t ∷ rest → step s t ≡ taken n r → 128 < n → run end s ts ≡ deep t.at
unfolding run
run_deep end s ts t rest n r cut e h = ap (λ q. run end s q) cut ∙ ap (λ v. run_on v t (λ q. run end q rest)) e ∙ rw (lt-leb n 128 h)

pub run_refused : (end : Token) (s : State) (ts : List Token) → step s (first_of_all end ts) ≡ refused → run end s ts ≡ syntax (first_of_all end ts).at
unfolding run
run_refused end s [] e = ap (λ v. run_on v (end_of end) (λ q. syntax end.at)) e
run_refused end s (t ∷ ts) e = ap (λ v. run_on v t (λ q. run end q ts)) e

pub run_alike : (end : Token) (s r : State) (ts : List Token) → step s (first_of_all end ts) ≡ step r (first_of_all end ts) → run end s ts ≡ run end r ts
unfolding run
run_alike end s r [] e = ap (λ v. run_on v (end_of end) (λ q. syntax end.at)) e
run_alike end s r (t ∷ ts) e = ap (λ v. run_on v t (λ q. run end q ts)) e

pub first_is : (end : Token) (ts : List Token) (t : Token) (rest : List Token) → ts ≡ t ∷ rest → first_of_all end ts ≡ t
first_is end ts t rest cut = ap (first_of_all end) cut

pub fails_as : (a b : Answer) (x : ParseError) → a ≡ b → Fails b x → Fails a x
fails_as a b x e f = subst (λ q. Fails q x) (sym e) f

-- an error of which it is known what it is
pub fails_syntax : (a : Answer) (x : ParseError) (p : _) → x ≡ Syntax p → a ≡ syntax p → Fails a x
fails_syntax a x p e f = subst (λ q. Fails a q) (sym e) f

pub fails_nesting : (a : Answer) (x : ParseError) (p : _) → x ≡ Nesting p → a ≡ deep p → Fails a x
fails_nesting a x p e f = subst (λ q. Fails a q) (sym e) f

pub fails_memory : (a : Answer) (x : ParseError) → x ≡ Memory → Fails a x
fails_memory a x e = subst (λ q. Fails a q) (sym e) tt

-- an error that a `?` hands on
pub passed : {X : Type 0} (P : X → Type 0) (F : ParseError → Type 0) (r : Result X ParseError) (e : ParseError) → IsErrAnd r (λ y. y ≡ e) → F e → MatchResult r P F
passed P F r e g f = let p = err_from_is_err_and r g in subst (λ q. MatchResult q P F) (sym (p.1 ∙ ap (λ y. Err y) p.2)) f

-- a call's result that is handed on
pub handed : {X : Type 0} (P Q : X → Type 0) (F G : ParseError → Type 0) (r : Result X ParseError) → MatchResult r P F → ((x : X) → P x → Q x) → ((e : ParseError) → F e → G e) → MatchResult r Q G
handed P Q F G (Ok x) m f g = f x m
handed P Q F G (Err e) m f g = g e m

-- Numbers

pub no_more : (n : ℕ) → n ≤ n
no_more n = omega arith

pub below : (n : ℕ) → n < 128 → n + 1 ≤ 128
below n h = omega arith

pub outside_below : (n : ℕ) → n < 128 → n ≤ 128
outside_below n h = omega arith

pub one_below : (n inside : ℕ) → inside ≡ n + 1 → inside ≤ 128 → n + 1 ≤ 128
one_below n inside e h = omega arith
