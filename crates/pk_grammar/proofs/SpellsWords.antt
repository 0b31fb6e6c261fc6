-- Lists of tokens one after another.
use Rattle.std.proofs.Common.{◌≡◌, ℕ, inl, List, [], ◌∷◌, ◌++◌, refl, sym, ap, subst, ◌∙◌, append_assoc, append-nil}
use Rattle.pk_lex.specs.declared.token.Token.{Token}
use Rattle.pk_grammar.specs.Languages.{Marked, Language, Nothing, One, ◌⊙◌, Optional}

-- which lists of marked tokens these are
abbrev pub Words : Type 1
Words = List Marked → Type 0

-- some words and then others
infixl 8 ◌▹◌
pub record ◌▹◌ (R S : Words) (ts : List Marked) : Type 0 where
  pub front : List Marked
  pub back : List Marked
  pub cut : ts ≡ front ++ back
  pub first : R front
  pub second : S back

-- the token that comes last
pub push : {R : Words} {P : Token → Type 0} (ms : List Marked) (t : Token) {n : ℕ} → R ms → P t → (R ▹ One P n) (ms ++ record { token = t; nesting = n } ∷ [])
push ms t r p = record { front = ms; back = _; cut = refl; first = r; second = record { token = t; is = refl; holds = p } }

pub none_more : {R : Words} (n : ℕ) {ms : List Marked} → R ms → (R ▹ Nothing n) ms
none_more n {ms = ms} r = record { front = ms; back = []; cut = sym (append-nil ms); first = r; second = refl }

pub not_there : {R : Words} (P : Language) (n : ℕ) {ms : List Marked} → R ms → (R ▹ Optional P n) ms
not_there P n {ms = ms} r = record { front = ms; back = []; cut = sym (append-nil ms); first = r; second = inl refl }

-- what comes last joins what is before it
pub gather : {R : Words} {P Q : Language} {n : ℕ} {ms : List Marked} → (R ▹ P n ▹ Q n) ms → (R ▹ (P ⊙ Q) n) ms
gather h =
    let g = h.first in
    record {
      front = g.front;
      back = g.back ++ h.back;
      cut = h.cut ∙ ap (λ q. q ++ h.back) g.cut ∙ append_assoc g.front g.back h.back;
      first = g.first;
      second = record { front = g.back; back = h.back; cut = refl; first = g.second; second = h.second };
    }

-- and is taken apart
pub spread : {R : Words} {P Q : Language} {n : ℕ} {ms : List Marked} → (R ▹ (P ⊙ Q) n) ms → (R ▹ P n ▹ Q n) ms
spread h =
    let g = h.second in
    record {
      front = h.front ++ g.front;
      back = g.back;
      cut = h.cut ∙ ap (λ q. h.front ++ q) g.cut ∙ sym (append_assoc h.front g.front g.back);
      first = record { front = h.front; back = g.front; cut = refl; first = h.first; second = g.first };
      second = g.second;
    }

pub together : {P Q : Language} {n : ℕ} {ms : List Marked} → (P n ▹ Q n) ms → (P ⊙ Q) n ms
together h = record { front = h.front; back = h.back; cut = h.cut; first = h.first; second = h.second }

-- what comes last is also this
pub last_as : {R S S' : Words} {ms : List Marked} → ((ts : List Marked) → S ts → S' ts) → (R ▹ S) ms → (R ▹ S') ms
last_as f h = record { front = h.front; back = h.back; cut = h.cut; first = h.first; second = f h.back h.second }

-- and what comes before
pub before_as : {R R' S : Words} {ms : List Marked} → ((ts : List Marked) → R ts → R' ts) → (R ▹ S) ms → (R' ▹ S) ms
before_as f h = record { front = h.front; back = h.back; cut = h.cut; first = f h.front h.first; second = h.second }

-- a token at the end of what comes last
pub push_last : {R S S' : Words} {ms : List Marked} (m : Marked) → ((ts : List Marked) → S ts → S' (ts ++ m ∷ [])) → (R ▹ S) ms → (R ▹ S') (ms ++ m ∷ [])
push_last m f h = record {
  front = h.front;
  back = h.back ++ m ∷ [];
  cut = ap (λ q. q ++ m ∷ []) h.cut ∙ append_assoc h.front h.back (m ∷ []);
  first = h.first;
  second = f h.back h.second;
}

-- the last token, where its nesting is written otherwise
pub push_at : {R : Words} {P : Token → Type 0} (ms : List Marked) (t : Token) {n m : ℕ} → m ≡ n → R ms → P t → (R ▹ One P n) (ms ++ record { token = t; nesting = m } ∷ [])
push_at ms t e r p = record { front = ms; back = _; cut = refl; first = r; second = record { token = t; is = ap (λ k. record { token = t; nesting = k } ∷ []) e; holds = p } }

-- what comes last, where its nesting is written otherwise
pub moved : {R : Words} (P : Language) {n m : ℕ} {ms : List Marked} → n ≡ m → (R ▹ P n) ms → (R ▹ P m) ms
moved P e h = record { front = h.front; back = h.back; cut = h.cut; first = h.first; second = subst (λ k. P k h.back) e h.second }

-- One language after another

pub assoc : {P Q R : Language} {n : ℕ} {ts : List Marked} → ((P ⊙ Q) ⊙ R) n ts → (P ⊙ (Q ⊙ R)) n ts
assoc h =
    let g = h.first in
    record {
      front = g.front;
      back = g.back ++ h.back;
      cut = h.cut ∙ ap (λ q. q ++ h.back) g.cut ∙ append_assoc g.front g.back h.back;
      first = g.first;
      second = record { front = g.back; back = h.back; cut = refl; first = g.second; second = h.second };
    }

pub back_assoc : {P Q R : Language} {n : ℕ} {ts : List Marked} → (P ⊙ (Q ⊙ R)) n ts → ((P ⊙ Q) ⊙ R) n ts
back_assoc h =
    let g = h.second in
    record {
      front = h.front ++ g.front;
      back = g.back;
      cut = h.cut ∙ ap (λ q. h.front ++ q) g.cut ∙ sym (append_assoc h.front g.front g.back);
      first = record { front = h.front; back = g.front; cut = refl; first = h.first; second = g.first };
      second = g.second;
    }

pub then_as : {P Q Q' : Language} {n : ℕ} {ts : List Marked} → ((us : List Marked) → Q n us → Q' n us) → (P ⊙ Q) n ts → (P ⊙ Q') n ts
then_as f h = record { front = h.front; back = h.back; cut = h.cut; first = h.first; second = f h.back h.second }

pub alone : {P : Language} {n : ℕ} {ts : List Marked} → (Nothing ⊙ P) n ts → P n ts
alone {P = P} {n = n} h = subst (λ q. P n q) (sym (h.cut ∙ ap (λ q. q ++ h.back) h.first)) h.second

pub and_none : {P : Language} (n : ℕ) (ts : List Marked) → P n ts → (P ⊙ Nothing) n ts
and_none n ts p = record { front = ts; back = []; cut = sym (append-nil ts); first = p; second = refl }

pub drop_none : {R : Words} (n : ℕ) {ms : List Marked} → (R ▹ Nothing n) ms → R ms
drop_none {R = R} n h = subst R (sym (h.cut ∙ ap (λ q. h.front ++ q) h.second ∙ append-nil h.front)) h.first

pub drop_last : {P : Language} {n : ℕ} {ts : List Marked} → (P ⊙ Nothing) n ts → P n ts
drop_last {P} {n} h = subst (λ q. P n q) (sym (h.cut ∙ ap (λ q. h.front ++ q) h.second ∙ append-nil h.front)) h.first
