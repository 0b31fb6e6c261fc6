-- How the parser reads marked tokens, one list after another.
use Rattle.std.proofs.Common.{◌≡◌, ℕ, List, [], ◌∷◌, ◌++◌, refl, sym, ap, subst, ◌∙◌, append_assoc, append-nil}
use Rattle.pk_lex.specs.declared.token.Token.{Token}
use Rattle.pk_grammar.specs.Languages.{Marked, One, ◌⊙◌}
use Rattle.pk_grammar.specs.Machine.States.{State}
use Rattle.pk_grammar.specs.Machine.Steps.{taken, step, Reading, then_reading, read_on, read}

abbrev pub tokens_of : List Marked → List Token
tokens_of [] = []
tokens_of (m ∷ ms) = m.token ∷ tokens_of ms

abbrev pub nestings_of : List Marked → List ℕ
nestings_of [] = []
nestings_of (m ∷ ms) = m.nesting ∷ nestings_of ms

-- a reading, with these nestings before its own
abbrev pub before : List ℕ → Reading → Reading
before ns r = record { nestings = ns ++ r.nestings; ending = r.ending }

-- from the one state these tokens are read to the other, where these come behind them
pub record Reads (s : State) (ms : List Marked) (s' : State) (rest : List Token) : Type 0 where
  pub is : read s (tokens_of ms ++ rest) ≡ before (nestings_of ms) (read s' rest)

tokens_of-append : (a b : List Marked) (rest : List Token) → tokens_of (a ++ b) ++ rest ≡ tokens_of a ++ (tokens_of b ++ rest)
tokens_of-append [] b rest = refl
tokens_of-append (m ∷ a) b rest = ap (λ ts. m.token ∷ ts) (tokens_of-append a b rest)

nestings_of-append : (a b : List Marked) (ns : List ℕ) → nestings_of (a ++ b) ++ ns ≡ nestings_of a ++ (nestings_of b ++ ns)
nestings_of-append [] b ns = refl
nestings_of-append (m ∷ a) b ns = ap (λ ts. m.nesting ∷ ts) (nestings_of-append a b ns)

pub reads_join : {s s' s'' : State} {rest : List Token} (a b : List Marked) → Reads s a s' (tokens_of b ++ rest) → Reads s' b s'' rest → Reads s (a ++ b) s'' rest
reads_join {s} {s'} {s''} {rest} a b h g = record {
  is =
      ap (λ ts. read s ts) (tokens_of-append a b rest) ∙ h.is ∙ ap (λ r. before (nestings_of a) r) g.is
      ∙ sym (ap (λ ns. record { nestings = ns; ending = (read s'' rest).ending }) (nestings_of-append a b (read s'' rest).nestings));
}

-- one language after another
pub reads_both : {P Q : ℕ → List Marked → Type 0} {n : ℕ} {ts : List Marked} {s s' s'' : State} {rest : List Token} (h : (P ⊙ Q) n ts) →
    Reads s h.front s' (tokens_of h.back ++ rest) → Reads s' h.back s'' rest → Reads s ts s'' rest
reads_both {s = s} {s'' = s''} {rest = rest} h f g = subst (λ ts. Reads s ts s'' rest) (sym h.cut) (reads_join h.front h.back f g)

pub read_taken : (s : State) (t : Token) (n : ℕ) (s' : State) (rest : List Token) → step s t ≡ taken n s' → read s (t ∷ rest) ≡ then_reading n (read s' rest)
unfolding read
read_taken s t n s' rest e = ap (λ v. read_on v t (λ r. read r rest)) e

pub read_alike : (s s' : State) (t : Token) (rest : List Token) → step s t ≡ step s' t → read s (t ∷ rest) ≡ read s' (t ∷ rest)
unfolding read
read_alike s s' t rest e = ap (λ v. read_on v t (λ r. read r rest)) e

-- one token
pub reads_one : {P : Token → Type 0} {n : ℕ} {ts : List Marked} {s s' : State} {rest : List Token} (h : One P n ts) → step s h.token ≡ taken n s' → Reads s ts s' rest
reads_one {n = n} {s = s} {s' = s'} {rest = rest} h e =
    subst (λ ts. Reads s ts s' rest) (sym h.is) (record { is = read_taken s h.token n s' rest e })

-- no token
pub reads_none : {s : State} {ts : List Marked} {rest : List Token} → ts ≡ [] → Reads s ts s rest
reads_none {s} {rest = rest} e = subst (λ ts. Reads s ts s rest) (sym e) (record { is = refl })

-- the states do the same at the first of these tokens
pub reads_from : {s r s' : State} {rest : List Token} (t : Token) (n : ℕ) (ms : List Marked) → step s t ≡ step r t → Reads r (record { token = t; nesting = n } ∷ ms) s' rest →
    Reads s (record { token = t; nesting = n } ∷ ms) s' rest
reads_from {s} {r} {s'} {rest} t n ms e h = record { is = read_alike s r t (tokens_of ms ++ rest) e ∙ h.is }

-- and so do these at the token that follows
pub reads_to : {s r s' : State} {ms : List Marked} (t : Token) (rest : List Token) → Reads s ms r (t ∷ rest) → step r t ≡ step s' t → Reads s ms s' (t ∷ rest)
reads_to {s} {r} {s'} {ms} t rest h e = record { is = h.is ∙ ap (λ q. before (nestings_of ms) q) (read_alike r s' t rest e) }

-- a token, and a language behind it
pub reads_head : {P : Token → Type 0} {Q : ℕ → List Marked → Type 0} {n : ℕ} {ts : List Marked} {s s' s'' : State} {rest : List Token} (h : (One P ⊙ Q) n ts) →
    step s h.first.token ≡ taken n s' → Reads s' h.back s'' rest → Reads s ts s'' rest
reads_head h e g = reads_both h (reads_one h.first e) g

-- tokens that are read where the next one is known, that one, and a language behind it
pub reads_sign : {P : Token → Type 0} {Q : ℕ → List Marked → Type 0} {n : ℕ} {ts back : List Marked} {s s' s'' s''' : State} {rest : List Token} (front : List Marked) → ts ≡ front ++ back →
    (h : (One P ⊙ Q) n back) → Reads s front s' (h.first.token ∷ (tokens_of h.back ++ rest)) → step s' h.first.token ≡ taken n s'' → Reads s'' h.back s''' rest → Reads s ts s''' rest
reads_sign {n = n} {back = back} {s} {s'} {s'''} {rest} front cut h f e g =
    let is : back ≡ record { token = h.first.token; nesting = n } ∷ h.back = h.cut ∙ ap (λ ts. ts ++ h.back) h.first.is in
    subst (λ ts. Reads s ts s''' rest) (sym (cut ∙ ap (λ b. front ++ b) is))
    (reads_join front (record { token = h.first.token; nesting = n } ∷ h.back) f
    (record { is = read_taken s' h.first.token n _ (tokens_of h.back ++ rest) e ∙ ap (λ r. then_reading n r) g.is }))

-- the same, with that token the last one
pub reads_last : {P : Token → Type 0} {n : ℕ} {ts back : List Marked} {s s' s'' : State} {rest : List Token} (front : List Marked) → ts ≡ front ++ back → (h : One P n back) →
    Reads s front s' (h.token ∷ rest) → step s' h.token ≡ taken n s'' → Reads s ts s'' rest
reads_last {n = n} {s = s} {s'} {s''} {rest} front cut h f e =
    subst (λ ts. Reads s ts s'' rest) (sym (cut ∙ ap (λ b. front ++ b) h.is))
    (reads_join front (record { token = h.token; nesting = n } ∷ []) f (record { is = read_taken s' h.token n s'' rest e }))

-- the same tokens, cut behind the first language
abbrev pub regrouped : {P Q R : ℕ → List Marked → Type 0} {n : ℕ} {ts : List Marked} (front back : List Marked) → ts ≡ front ++ back → (P ⊙ Q) n front → R n back → (P ⊙ (Q ⊙ R)) n ts
regrouped front back cut h r = record {
  front = h.front;
  back = h.back ++ back;
  cut = cut ∙ ap (λ ts. ts ++ back) h.cut ∙ append_assoc h.front h.back back;
  first = h.first;
  second = record { front = h.back; back = back; cut = refl; first = h.second; second = r };
}

-- nothing behind what is read
pub reads_join_none : {s s' : State} {ts front back : List Marked} {rest : List Token} → ts ≡ front ++ back → back ≡ [] → Reads s front s' rest → Reads s ts s' rest
reads_join_none {s} {s'} {front = front} {rest = rest} cut e h = subst (λ ts. Reads s ts s' rest) (sym (cut ∙ ap (λ b. front ++ b) e ∙ append-nil front)) h
