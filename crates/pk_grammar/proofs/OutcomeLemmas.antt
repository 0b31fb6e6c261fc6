-- From what is answered to what is promised.
use Rattle.std.proofs.Common.{◌≡◌, ◌≢◌, ℕ, ◌<◌, ◌≤◌, List, [], ◌∷◌, ◌++◌, Bool, true, false, refl, sym, ap, subst, ◌∙◌, append_assoc, arith, append-nil}
use Rattle.std.specs.Prelude.{nat_le, if◌then◌else◌}
use Rattle.pk_ctypes.specs.declared.places.Pos.{Pos}
use Rattle.pk_lex.specs.declared.token.Token.{Token}
use Rattle.pk_lex.specs.declared.token.Kind.TheVariants as kind
use Rattle.pk_ast.specs.Trees.{ExternalTree}
use Rattle.pk_grammar.specs.Languages.{Marked}
use Rattle.pk_grammar.specs.Grammar.{externals}
use Rattle.pk_grammar.specs.Machine.States.{State, top}
use Rattle.pk_grammar.specs.Machine.Steps.{Verdict, taken, refused, finished, step}
use Rattle.pk_grammar.specs.Outcomes.{nesting_limit, IsEnded, unmarked, IsWithin, IsParsed, SomeTextBegins, FailsSyntax, FailsNesting}
use Rattle.pk_grammar.specs.Machine.Running.{Answer, trees, syntax, deep, end_of, run_on, run}
use Rattle.pk_grammar.proofs.CompleteLists.{tokens_of}
use Rattle.pk_grammar.proofs.SpellsStates.{Spells}
use Rattle.pk_grammar.proofs.SpellsGood.{le_true, le_false}
use Rattle.pk_grammar.proofs.Spells.{spells_start, spells_step, spells_end, spells_goes_on}
use Rattle.pk_grammar.proofs.SpellsReading.{Leads, leads_none, leads_more, one_unit, refused_so, nested_so}
use Rattle.pk_grammar.proofs.EndLemmas.{IsNotTaken, not_taken}

pub tokens_of_all : (ms : List Marked) → unmarked ms ≡ tokens_of ms
tokens_of_all [] = refl
tokens_of_all (m ∷ ms) = ap (λ ts. m.token ∷ ts) (tokens_of_all ms)

abbrev IsNoEnd : List Token → Type 0
IsNoEnd [] = Unit {0}
IsNoEnd (t ∷ ts) = (t.kind ≢ kind.End) × IsNoEnd ts

-- what was read behind ms, from a state on
record Done (ms : List Marked) (ts : List Token) (u : List ExternalTree) : Type 0 where
  back : List Marked
  cut : ts ≡ unmarked back
  derived : externals u 0 (ms ++ back)
  within : IsWithin back

record Stops (s : State) (ms : List Marked) (ts : List Token) (at : Pos) : Type 0 where
  back : List Marked
  found : Token
  rest : List Token
  state : State
  cut : ts ≡ unmarked back ++ found ∷ rest
  place : found.at ≡ at
  leads : Leads s back state
  refuses : step state found ≡ refused
  spells : Spells state (ms ++ back)
  within : IsWithin back

record Sinks (s : State) (ms : List Marked) (ts : List Token) (at : Pos) : Type 0 where
  back : List Marked
  found : Marked
  rest : List Token
  state : State
  cut : ts ≡ unmarked back ++ found.token ∷ rest
  place : found.token.at ≡ at
  leads : Leads s (back ++ found ∷ []) state
  spells : Spells state (ms ++ back ++ found ∷ [])
  within : IsWithin back
  deeper : nesting_limit < found.nesting

abbrev Comes : Token → State → List Marked → List Token → Answer → Type 0
Comes end s ms ts (trees u) = Done ms ts u
Comes end s ms ts (syntax at) = Stops s ms (ts ++ end ∷ []) at
Comes end s ms ts (deep at) = Sinks s ms (ts ++ end ∷ []) at

module _ (end : Token) (is_end : end.kind ≡ kind.End) where
  same_end : end ≡ end_of end
  same_end = λ i. record { kind = is_end i; start = end.start; end = end.end; at = end.at }

  more : (s : State) (ms : List Marked) (t : Token) (n : ℕ) (r : State) (ts : List Token) (a : Answer) → step s t ≡ taken n r → n ≤ nesting_limit →
      Comes end r (ms ++ record { token = t; nesting = n } ∷ []) ts a → Comes end s ms (t ∷ ts) a
  more s ms t n r ts (trees u) e h c = record {
    back = record { token = t; nesting = n } ∷ c.back;
    cut = ap (λ q. t ∷ q) c.cut;
    derived = subst (λ q. externals u 0 q) (append_assoc ms (record { token = t; nesting = n } ∷ []) c.back) c.derived;
    within = (h, c.within);
  }
  more s ms t n r ts (syntax at) e h c = record {
    back = record { token = t; nesting = n } ∷ c.back;
    found = c.found;
    rest = c.rest;
    state = c.state;
    cut = ap (λ q. t ∷ q) c.cut;
    place = c.place;
    leads = leads_more s t n r c.back c.state e c.leads;
    refuses = c.refuses;
    spells = subst (λ q. Spells c.state q) (append_assoc ms (record { token = t; nesting = n } ∷ []) c.back) c.spells;
    within = (h, c.within);
  }
  more s ms t n r ts (deep at) e h c = record {
    back = record { token = t; nesting = n } ∷ c.back;
    found = c.found;
    rest = c.rest;
    state = c.state;
    cut = ap (λ q. t ∷ q) c.cut;
    place = c.place;
    leads = leads_more s t n r (c.back ++ c.found ∷ []) c.state e c.leads;
    spells = subst (λ q. Spells c.state q) (ap (λ q. q ++ c.found ∷ []) (append_assoc ms (record { token = t; nesting = n } ∷ []) c.back)) c.spells;
    within = (h, c.within);
    deeper = c.deeper;
  }

  comes : (ts : List Token) → IsNoEnd ts → (s : State) (ms : List Marked) → Spells s ms → Comes end s ms ts (run end s ts)
  unfolding run
  comes [] free s ms h = go (step s (end_of end)) refl (not_taken end s)
    where
      go : (v : Verdict) → step s (end_of end) ≡ v → IsNotTaken v → Comes end s ms [] (run_on v (end_of end) (λ r. syntax end.at))
      go (taken n r) e f = absurd f
      go refused e f = record {
        back = [];
        found = end_of end;
        rest = [];
        state = s;
        cut = ap (λ q. q ∷ []) same_end;
        place = refl;
        leads = leads_none s;
        refuses = e;
        spells = subst (λ q. Spells s q) (sym (append-nil ms)) h;
        within = tt;
      }
      go (finished u) e f = record { back = []; cut = refl; derived = subst (λ q. externals u 0 q) (sym (append-nil ms)) (spells_end s (end_of end) u ms h e).1; within = tt }
  comes (t ∷ ts) free s ms h = go (λ r ns k. comes ts free.1 r ns k) (step s t) refl
    where
      deeper : (n : ℕ) (r : State) → step s t ≡ taken n r → ((r : State) (ns : List Marked) → Spells r ns → Comes end r ns ts (run end r ts)) → (b : Bool) → nat_le n nesting_limit ≡ b →
          Comes end s ms (t ∷ ts) (if b then run end r ts else deep t.at)
      deeper n r e on true b = more s ms t n r ts (run end r ts) e (le_true n nesting_limit b) (on r _ (spells_step s r t n ms h e))
      deeper n r e on false b = record {
        back = [];
        found = record { token = t; nesting = n };
        rest = ts ++ end ∷ [];
        state = r;
        cut = refl;
        place = refl;
        leads = leads_more s t n r [] r e (leads_none r);
        spells = subst (λ q. Spells r (q ++ record { token = t; nesting = n } ∷ [])) (sym (append-nil ms)) (spells_step s r t n ms h e);
        within = tt;
        deeper = le_false n nesting_limit b;
      }

      go : ((r : State) (ns : List Marked) → Spells r ns → Comes end r ns ts (run end r ts)) → (v : Verdict) → step s t ≡ v →
          Comes end s ms (t ∷ ts) (run_on v t (λ r. run end r ts))
      go on (taken n r) e = deeper n r e on (nat_le n nesting_limit) refl
      go on refused e = record {
        back = [];
        found = t;
        rest = ts ++ end ∷ [];
        state = s;
        cut = refl;
        place = refl;
        leads = leads_none s;
        refuses = e;
        spells = subst (λ q. Spells s q) (sym (append-nil ms)) h;
        within = tt;
      }
      go on (finished u) e = absurd (free.0 (spells_end s t u ms h e).0)

within_append : (a b : List Marked) → IsWithin a → IsWithin b → IsWithin (a ++ b)
within_append [] b g h = h
within_append (m ∷ a) b g h = (g.0, within_append a b g.1 h)

-- the last nesting of a front
pub within_last : (a : List Marked) (m : Marked) (b : List Marked) → IsWithin ((a ++ m ∷ []) ++ b) → m.nesting ≤ nesting_limit
within_last [] m b h = h.0
within_last (k ∷ a) m b h = within_last a m b h.1

pub unmarked_append : (a b : List Marked) → unmarked (a ++ b) ≡ unmarked a ++ unmarked b
unmarked_append [] b = refl
unmarked_append (m ∷ a) b = ap (λ ts. m.token ∷ ts) (unmarked_append a b)

text_begins : (state : State) (ms : List Marked) → Spells state ms → SomeTextBegins ms
text_begins state ms h = let g = spells_goes_on state ms h in record { trees = g.trees; more = g.more; is = g.is }

-- the tokens in front of the end are no End
fronts : (front : List Token) (end : Token) → IsEnded (front ++ end ∷ []) → (end.kind ≡ kind.End) × IsNoEnd front
fronts [] end h = (h, tt)
fronts (t ∷ []) end h = (h.1, (h.0, tt))
fronts (t ∷ u ∷ ts) end h = let r = fronts (u ∷ ts) end h.1 in (r.0, (h.0, r.1))

module _ (front : List Token) (end : Token) (tokens : List Token) (cut : tokens ≡ front ++ end ∷ []) (ended : IsEnded tokens) where
  ends_here : (end.kind ≡ kind.End) × IsNoEnd front
  ends_here = fronts front end (subst IsEnded cut ended)

  answer : Comes end (top []) [] front (run end (top []) front)
  answer = comes end ends_here.0 front ends_here.1 (top []) [] spells_start

  pub parsed_so : (u : List ExternalTree) → run end (top []) front ≡ trees u → IsParsed tokens u
  parsed_so u e =
      let d : Done [] front u = subst (λ a. Comes end (top []) [] front a) e answer in
      record {
        marked = d.back ++ record { token = end; nesting = 0 } ∷ [];
        tokens_are = unmarked_append d.back _ ∙ ap (λ q. q ++ end ∷ []) (sym d.cut) ∙ sym cut;
        derived = record { front = d.back; back = _; cut = refl; first = d.derived; second = record { token = end; is = refl; holds = ends_here.0 } };
        within = within_append d.back _ d.within ((omega arith), tt);
      }

  pub syntax_so : (at : Pos) → run end (top []) front ≡ syntax at → FailsSyntax tokens at
  syntax_so at e =
      let d : Stops (top []) [] (front ++ end ∷ []) at = subst (λ a. Comes end (top []) [] front a) e answer in
      record {
        front = d.back;
        found = d.found;
        rest = d.rest;
        tokens_are = cut ∙ d.cut;
        place = d.place;
        begins = text_begins d.state d.back d.spells;
        within = d.within;
        none_begins = λ u marked more h f. refused_so d.back d.state d.found d.leads d.refuses u marked more h
            (sym (tokens_of_all marked) ∙ f ∙ append_assoc (unmarked d.back) (d.found ∷ []) more ∙ ap (λ q. q ++ d.found ∷ more) (tokens_of_all d.back));
      }

  pub nesting_so : (at : Pos) → run end (top []) front ≡ deep at → FailsNesting tokens at
  nesting_so at e =
      let d : Sinks (top []) [] (front ++ end ∷ []) at = subst (λ a. Comes end (top []) [] front a) e answer in
      record {
        front = d.back;
        found = d.found;
        rest = d.rest;
        tokens_are = cut ∙ d.cut;
        place = d.place;
        begins = text_begins d.state (d.back ++ d.found ∷ []) d.spells;
        within = d.within;
        deeper = d.deeper;
      }

  -- what is parsed is answered
  only_so : (u : List ExternalTree) → IsParsed tokens u → (a : Answer) → run end (top []) front ≡ a → a ≡ trees u
  only_so u p (trees v) e =
      let q = parsed_so v e in
      ap trees (one_unit v u q.marked p.marked q.derived p.derived (sym (tokens_of_all q.marked) ∙ q.tokens_are ∙ sym p.tokens_are ∙ tokens_of_all p.marked))
  only_so u p (syntax at) e =
      let f = syntax_so at e in
      absurd (f.none_begins u p.marked f.rest p.derived (p.tokens_are ∙ f.tokens_are ∙ sym (append_assoc (unmarked f.front) (f.found ∷ []) f.rest)))
  only_so u p (deep at) e =
      let d : Sinks (top []) [] (front ++ end ∷ []) at = subst (λ a. Comes end (top []) [] front a) e answer in
      let deep_front = d.back ++ d.found ∷ [] in
      let g = nested_so deep_front d.state d.leads u p.marked d.rest p.derived
      (sym (tokens_of_all p.marked) ∙ p.tokens_are ∙ cut ∙ d.cut ∙ sym (append_assoc (unmarked d.back) (d.found.token ∷ []) d.rest)
      ∙ ap (λ q. q ++ d.rest) (sym (unmarked_append d.back (d.found ∷ [])) ∙ tokens_of_all deep_front)) in
      let h : d.found.nesting ≤ nesting_limit = within_last d.back d.found g.back (subst IsWithin g.cut p.within) in
      let k = d.deeper in
      absurd (omega arith)

  pub only_answer : (u : List ExternalTree) → IsParsed tokens u → run end (top []) front ≡ trees u
  only_answer u p = only_so u p (run end (top []) front) refl
