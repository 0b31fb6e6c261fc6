-- What was read where reading ends.
use Rattle.std.proofs.Common.{◌≡◌, ℕ, List, [], ◌∷◌, ◌++◌, refl, sym, ap, subst, ◌∙◌, append_assoc, append-nil}
use Rattle.pk_lex.specs.declared.token.Token.{Token}
use Rattle.pk_lex.specs.declared.token.Kind.TheVariants as kind
use Rattle.pk_ast.specs.Trees.{ExternalTree}
use Rattle.pk_grammar.specs.Languages.{Marked}
use Rattle.pk_grammar.specs.Grammar.{externals, text}
use Rattle.pk_grammar.specs.Machine.States.{State, top}
use Rattle.pk_grammar.specs.Machine.Steps.{Verdict, taken, refused, finished, step, Ending, ends, stops, cut_off, Reading, then_reading, read_on, read}
use Rattle.pk_grammar.proofs.CompleteLists.{tokens_of, nestings_of, before}
use Rattle.pk_grammar.proofs.CompleteExternals.{read_text}
use Rattle.pk_grammar.proofs.SpellsStates.{Spells}
use Rattle.pk_grammar.proofs.Spells.{spells_step, spells_end}

-- from the one state these tokens are read to the other, whatever comes behind them
pub record Leads (s : State) (ms : List Marked) (s' : State) : Type 0 where
  pub is : (rest : List Token) → read s (tokens_of ms ++ rest) ≡ before (nestings_of ms) (read s' rest)

pub leads_none : (s : State) → Leads s [] s
leads_none s = record { is = λ rest. refl }

pub leads_more : (s : State) (t : Token) (n : ℕ) (s' : State) (ms : List Marked) (s'' : State) → step s t ≡ taken n s' → Leads s' ms s'' → Leads s (record { token = t; nesting = n } ∷ ms) s''
unfolding read
leads_more s t n s' ms s'' e l = record { is = λ rest. ap (λ v. read_on v t (λ r. read r (tokens_of ms ++ rest))) e ∙ ap (λ r. then_reading n r) (l.is rest) }

-- it ends with the trees: of the tokens so far and those in front of an End
pub record Finished (s : State) (ms : List Marked) (ts : List Token) (ns : List ℕ) (u : List ExternalTree) : Type 0 where
  pub front : List Marked
  pub end : Token
  pub rest : List Token
  pub cut : ts ≡ tokens_of front ++ end ∷ rest
  pub nestings : ns ≡ nestings_of front
  pub is_end : end.kind ≡ kind.End
  pub derived : externals u 0 (ms ++ front)

-- it stops at a token: a text goes on from those before it
pub record Stopped (s : State) (ms : List Marked) (ts : List Token) (ns : List ℕ) (t : Token) : Type 0 where
  pub front : List Marked
  pub rest : List Token
  pub state : State
  pub cut : ts ≡ tokens_of front ++ t ∷ rest
  pub nestings : ns ≡ nestings_of front
  pub leads : Leads s front state
  pub refuses : step state t ≡ refused
  pub spells : Spells state (ms ++ front)

-- the tokens don't suffice
pub record CutOff (s : State) (ms : List Marked) (ts : List Token) (ns : List ℕ) : Type 0 where
  pub front : List Marked
  pub state : State
  pub cut : ts ≡ tokens_of front
  pub nestings : ns ≡ nestings_of front
  pub leads : Leads s front state
  pub spells : Spells state (ms ++ front)

abbrev pub Outcome : State → List Marked → List Token → List ℕ → Ending → Type 0
Outcome s ms ts ns (ends u) = Finished s ms ts ns u
Outcome s ms ts ns (stops t) = Stopped s ms ts ns t
Outcome s ms ts ns cut_off = CutOff s ms ts ns

outcome_more : (s : State) (ms : List Marked) (t : Token) (n : ℕ) (s' : State) (ts : List Token) (ns : List ℕ) (e : Ending) → step s t ≡ taken n s' →
    Outcome s' (ms ++ record { token = t; nesting = n } ∷ []) ts ns e → Outcome s ms (t ∷ ts) (n ∷ ns) e
outcome_more s ms t n s' ts ns (ends u) f o = record {
  front = record { token = t; nesting = n } ∷ o.front;
  end = o.end;
  rest = o.rest;
  cut = ap (λ q. t ∷ q) o.cut;
  nestings = ap (λ q. n ∷ q) o.nestings;
  is_end = o.is_end;
  derived = subst (λ q. externals u 0 q) (append_assoc ms (record { token = t; nesting = n } ∷ []) o.front) o.derived;
}
outcome_more s ms t n s' ts ns (stops r) f o = record {
  front = record { token = t; nesting = n } ∷ o.front;
  rest = o.rest;
  state = o.state;
  cut = ap (λ q. t ∷ q) o.cut;
  nestings = ap (λ q. n ∷ q) o.nestings;
  leads = leads_more s t n s' o.front o.state f o.leads;
  refuses = o.refuses;
  spells = subst (λ q. Spells o.state q) (append_assoc ms (record { token = t; nesting = n } ∷ []) o.front) o.spells;
}
outcome_more s ms t n s' ts ns cut_off f o = record {
  front = record { token = t; nesting = n } ∷ o.front;
  state = o.state;
  cut = ap (λ q. t ∷ q) o.cut;
  nestings = ap (λ q. n ∷ q) o.nestings;
  leads = leads_more s t n s' o.front o.state f o.leads;
  spells = subst (λ q. Spells o.state q) (append_assoc ms (record { token = t; nesting = n } ∷ []) o.front) o.spells;
}

pub outcome : (ts : List Token) (s : State) (ms : List Marked) → Spells s ms → Outcome s ms ts (read s ts).nestings (read s ts).ending
unfolding read
outcome [] s ms h = record { front = []; state = s; cut = refl; nestings = refl; leads = leads_none s; spells = subst (λ q. Spells s q) (sym (append-nil ms)) h }
outcome (t ∷ ts) s ms h = go (λ s' ms' h'. outcome ts s' ms' h') (step s t) refl
  where
    go : ((s' : State) (ms' : List Marked) → Spells s' ms' → Outcome s' ms' ts (read s' ts).nestings (read s' ts).ending) →
        (v : Verdict) → step s t ≡ v → Outcome s ms (t ∷ ts) (read_on v t (λ r. read r ts)).nestings (read_on v t (λ r. read r ts)).ending
    go on (taken n s') e = outcome_more s ms t n s' ts (read s' ts).nestings (read s' ts).ending e (on s' _ (spells_step s s' t n ms h e))
    go on refused e = record {
      front = [];
      rest = ts;
      state = s;
      cut = refl;
      nestings = refl;
      leads = leads_none s;
      refuses = e;
      spells = subst (λ q. Spells s q) (sym (append-nil ms)) h;
    }
    go on (finished u) e =
        let d = spells_end s t u ms h e in
        record { front = []; end = t; rest = ts; cut = refl; nestings = refl; is_end = d.0; derived = subst (λ q. externals u 0 q) (sym (append-nil ms)) d.1 }

-- The trees of a text are those that are read from its tokens, and its nestings are those of reading.

tokens_join : (a b : List Marked) → tokens_of (a ++ b) ≡ tokens_of a ++ tokens_of b
tokens_join [] b = refl
tokens_join (m ∷ a) b = ap (λ q. m.token ∷ q) (tokens_join a b)

pub text_read : (u : List ExternalTree) (ts : List Marked) → text u 0 ts → (read (top []) (tokens_of ts)).ending ≡ ends u
text_read u ts h =
    let one = h.second in
    let cut : tokens_of ts ≡ tokens_of h.front ++ one.token ∷ [] = ap tokens_of (h.cut ∙ ap (λ q. h.front ++ q) one.is) ∙ tokens_join h.front _ in
    ap (λ q. (read (top []) q).ending) cut ∙ ap (λ (r : Reading). r.ending) (read_text u h.front one.token h.first one.holds)

-- a list of tokens is a text of one list of trees at most
pub one_unit : (u v : List ExternalTree) (ts ts' : List Marked) → text u 0 ts → text v 0 ts' → tokens_of ts ≡ tokens_of ts' → u ≡ v
one_unit u v ts ts' h g e = let f : ends u ≡ ends v = sym (text_read u ts h) ∙ ap (λ q. (read (top []) q).ending) e ∙ text_read v ts' g in cc

-- no text begins with what was read and the token that is refused
pub refused_so : (front : List Marked) (s : State) (t : Token) → Leads (top []) front s → step s t ≡ refused →
    (u : List ExternalTree) (ts : List Marked) (rest : List Token) → text u 0 ts → tokens_of ts ≡ tokens_of front ++ t ∷ rest → ⊥
unfolding read
refused_so front s t l r u ts rest h e =
    let f : (read (top []) (tokens_of ts)).ending ≡ stops t =
    ap (λ q. (read (top []) q).ending) e ∙ ap (λ (r : Reading). r.ending) (l.is (t ∷ rest)) ∙ ap (λ v. (read_on v t (λ q. read q rest)).ending) r in
    let g = sym (text_read u ts h) ∙ f in
    cc

-- a list that begins with these marked tokens
pub record BeginsWith (front ts : List Marked) : Type 0 where
  pub back : List Marked
  pub cut : ts ≡ front ++ back

begins : (front ts : List Marked) (last : Token) (rest : List Token) (ns : List ℕ) → tokens_of ts ++ last ∷ [] ≡ tokens_of front ++ rest → nestings_of ts ≡ nestings_of front ++ ns →
    BeginsWith front ts
begins [] ts last rest ns e f = record { back = ts; cut = refl }
begins (m ∷ front) [] last rest ns e f = cc
begins (m ∷ front) (k ∷ ts) last rest ns e f =
    let g : k.token ≡ m.token = cc in
    let h : k.nesting ≡ m.nesting = cc in
    let same : ◌≡◌ {A = Marked} k m = λ i. record { token = g i; nesting = h i } in
    let r = begins front ts last rest ns (cc) (cc) in
    record { back = r.back; cut = ap (λ q. q ∷ ts) same ∙ ap (λ q. m ∷ q) r.cut }

-- a text that begins with the tokens that were read has them nested as they were read
pub nested_so : (front : List Marked) (s : State) → Leads (top []) front s → (u : List ExternalTree) (ts : List Marked) (rest : List Token) → text u 0 ts →
    tokens_of ts ≡ tokens_of front ++ rest → BeginsWith front ts
nested_so front s l u ts rest h e =
    let one = h.second in
    let cut : tokens_of ts ≡ tokens_of h.front ++ one.token ∷ [] = ap tokens_of (h.cut ∙ ap (λ q. h.front ++ q) one.is) ∙ tokens_join h.front _ in
    let read_so : nestings_of h.front ≡ nestings_of front ++ (read s rest).nestings =
    sym (ap (λ (r : Reading). r.nestings) (read_text u h.front one.token h.first one.holds)) ∙ ap (λ q. (read (top []) q).nestings) (sym cut ∙ e) ∙ ap (λ (r : Reading). r.nestings) (l.is rest) in
    let r = begins front h.front one.token rest (read s rest).nestings (sym cut ∙ e) read_so in
    record { back = r.back ++ h.back; cut = h.cut ∙ ap (λ q. q ++ h.back) r.cut ∙ append_assoc front r.back h.back }
