-- The nestings of a text's tokens are those of reading, whatever follows.
use Rattle.std.proofs.Common.{◌≡◌, ℕ, List, [], ◌∷◌, ◌++◌, refl, sym, ap, subst, ◌∙◌, append_assoc}
use Rattle.pk_lex.specs.declared.token.Token.{Token}
use Rattle.pk_ast.specs.Trees.{ExternalTree}
use Rattle.pk_grammar.specs.Languages.{Marked}
use Rattle.pk_grammar.specs.Grammar.{text}
use Rattle.pk_grammar.specs.Machine.States.{State, top}
use Rattle.pk_grammar.specs.Machine.Steps.{Verdict, taken, refused, finished, step, Reading, read_on, read}
use Rattle.pk_grammar.specs.Outcomes.{unmarked, GoesOnFrom}
use Rattle.pk_grammar.proofs.CompleteLists.{tokens_of, nestings_of}
use Rattle.pk_grammar.proofs.CompleteExternals.{read_text}
use Rattle.pk_grammar.proofs.SpellsReading.{Leads, leads_none, leads_more, nested_so, one_unit}
use Rattle.pk_grammar.proofs.OutcomeLemmas.{tokens_of_all}

-- the state that some tokens lead to, where reading goes past them with these nestings
leads_of : (front : List Marked) (s : State) (rest : List Token) (ns : List ℕ) → (read s (tokens_of front ++ rest)).nestings ≡ nestings_of front ++ ns → (r : State) × Leads s front r
unfolding read
leads_of [] s rest ns e = (s, leads_none s)
leads_of (m ∷ front) s rest ns e = go (λ r f. leads_of front r rest ns f) (step s m.token) refl e
  where
    go : ((r : State) → (read r (tokens_of front ++ rest)).nestings ≡ nestings_of front ++ ns → (q : State) × Leads r front q) → (v : Verdict) → step s m.token ≡ v →
        (read_on v m.token (λ r. read r (tokens_of front ++ rest))).nestings ≡ m.nesting ∷ (nestings_of front ++ ns) → (r : State) × Leads s (m ∷ front) r
    go on (taken n r) f g =
        let same : n ≡ m.nesting = cc in
        let p = on r (cc) in
        (p.0, subst (λ k. Leads s (record { token = m.token; nesting = k } ∷ front) p.0) same (leads_more s m.token n r front p.0 f p.1))
    go on refused f g = absurd (cc)
    go on (finished u) f g = absurd (cc)

not_empty : (front : List Marked) (next : Marked) (more : List Marked) → front ++ next ∷ more ≡ [] → ⊥
not_empty [] next more e = cc
not_empty (m ∷ front) next more e = cc

proper : (front : List Marked) (next : Marked) (more whole : List Marked) (last : Marked) → front ++ next ∷ more ≡ whole ++ last ∷ [] → (x : List Marked) × (whole ≡ front ++ x)
proper [] next more whole last e = (whole, refl)
proper (m ∷ front) next more [] last e = let g : front ++ next ∷ more ≡ [] = cc in absurd (not_empty front next more g)
proper (m ∷ front) next more (k ∷ whole) last e =
    let g : front ++ next ∷ more ≡ whole ++ last ∷ [] = cc in
    let h : k ≡ m = cc in
    let r = proper front next more whole last g in
    (r.0, ap (λ q. q ∷ whole) h ∙ ap (λ q. m ∷ q) r.1)

nestings_join : (a b : List Marked) → nestings_of (a ++ b) ≡ nestings_of a ++ nestings_of b
nestings_join [] b = refl
nestings_join (m ∷ a) b = ap (λ q. m.nesting ∷ q) (nestings_join a b)

tokens_join : (a b : List Marked) → tokens_of (a ++ b) ≡ tokens_of a ++ tokens_of b
tokens_join [] b = refl
tokens_join (m ∷ a) b = ap (λ q. m.token ∷ q) (tokens_join a b)

pub nested_alike : (u v : List ExternalTree) (front : List Marked) (next : Marked) (more marked : List Marked) (rest : List Token) → text u 0 (front ++ next ∷ more) → text v 0 marked →
    unmarked marked ≡ unmarked front ++ rest → GoesOnFrom front marked
nested_alike u v front next more marked rest h g e =
    let one = h.second in
    let p = proper front next more h.front (record { token = one.token; nesting = 0 }) (h.cut ∙ ap (λ q. h.front ++ q) one.is) in
    let tail = tokens_of p.0 ++ one.token ∷ [] in
    let tokens_cut : tokens_of h.front ++ one.token ∷ [] ≡ tokens_of front ++ tail =
    ap (λ q. tokens_of q ++ one.token ∷ []) p.1 ∙ ap (λ q. q ++ one.token ∷ []) (tokens_join front p.0) ∙ append_assoc (tokens_of front) (tokens_of p.0) (one.token ∷ []) in
    let nested : (read (top []) (tokens_of front ++ tail)).nestings ≡ nestings_of front ++ nestings_of p.0 =
    ap (λ q. (read (top []) q).nestings) (sym tokens_cut) ∙ ap (λ (r : Reading). r.nestings) (read_text u h.front one.token h.first one.holds) ∙ ap nestings_of p.1 ∙ nestings_join front p.0 in
    let l = leads_of front (top []) tail (nestings_of p.0) nested in
    let r = nested_so front l.0 l.1 v marked rest g (sym (tokens_of_all marked) ∙ e ∙ ap (λ q. q ++ rest) (tokens_of_all front)) in
    record { more = r.back; is = r.cut }

pub one_list : (u v : List ExternalTree) (a b : List Marked) → text u 0 a → text v 0 b → unmarked a ≡ unmarked b → u ≡ v
one_list u v a b h g e = one_unit u v a b h g (sym (tokens_of_all a) ∙ e ∙ tokens_of_all b)
