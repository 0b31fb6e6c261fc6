-- Of the answers to a text there is one.
use Rattle.std.proofs.Common.{◌≡◌, ◌<◌, ◌≤◌, inl, inr, List, [], ◌∷◌, ◌++◌, refl, sym, ap, subst, ◌∙◌, append_assoc, arith, append-nil}
use Rattle.pk_ctypes.specs.declared.places.Pos.{Pos}
use Rattle.pk_lex.specs.declared.token.Token.{Token}
use Rattle.pk_ast.specs.Trees.{ExternalTree}
use Rattle.pk_constructs.proofs.DeterminedLemmas.{two_cuts, one_first, first_is_not_supported}
use Rattle.pk_grammar.specs.declared.failure.ParseError.{ParseError}
use Rattle.pk_grammar.specs.declared.failure.ParseError.TheVariants.{Unsupported, Syntax, Nesting, Memory}
use Rattle.pk_grammar.specs.Languages.{Marked}
use Rattle.pk_grammar.specs.Grammar.{text}
use Rattle.pk_grammar.specs.Outcomes.{nesting_limit, unmarked, IsWithin, IsParsed, SomeTextBegins, NoTextBegins, FailsSyntax, FailsNesting}
use Rattle.pk_grammar.proofs.LawLemmas.{nested_alike}
use Rattle.pk_grammar.proofs.OutcomeLemmas.{tokens_of_all, unmarked_append, within_last}
use Rattle.pk_grammar.proofs.SpellsReading.{one_unit}
use Rattle.pk_parse.specs.Refusals.{IsAccepted, IsRefused}

-- what a text begins with can't be what no text begins with
begins_not : (front : List Token) (ms : List Marked) (more : List Token) → NoTextBegins front → SomeTextBegins ms → unmarked ms ≡ front ++ more → ⊥
begins_not front ms more none some e =
    none some.trees (ms ++ some.more) (more ++ unmarked some.more) some.is
    (unmarked_append ms some.more ∙ ap (λ q. q ++ unmarked some.more) e ∙ append_assoc front more (unmarked some.more))

-- a text ends with a token that isn't nested
last_is_flat : (u : List ExternalTree) (front : List Marked) (last : Marked) → text u 0 (front ++ last ∷ []) → last.nesting ≡ 0
last_is_flat u front last h = end_of_cut (front ++ last ∷ []) front last h.front h.second.token refl (h.cut ∙ ap (λ q. h.front ++ q) h.second.is)
  where
    end_of_cut : (all front : List Marked) (last : Marked) (other : List Marked) (t : Token) → all ≡ front ++ last ∷ [] → all ≡ other ++ record { token = t; nesting = 0 } ∷ [] → last.nesting ≡ 0
    end_of_cut all front last other t e f = same_last front last other (record { token = t; nesting = 0 }) (sym e ∙ f)
      where
        too_long : (a b : Marked) (xs : List Marked) → a ∷ [] ≡ b ∷ (xs ++ record { token = t; nesting = 0 } ∷ []) → ⊥
        too_long a b [] g = cc
        too_long a b (x ∷ xs) g = cc

        same_last : (a : List Marked) (x : Marked) (b : List Marked) (y : Marked) → a ++ x ∷ [] ≡ b ++ y ∷ [] → x.nesting ≡ y.nesting
        same_last [] x [] y g = let h : x ≡ y = cc in ap (λ (m : Marked). m.nesting) h
        same_last [] x (b ∷ []) y g = absurd (cc)
        same_last [] x (b ∷ c ∷ more) y g = absurd (cc)
        same_last (a ∷ []) x [] y g = absurd (cc)
        same_last (a ∷ c ∷ more) x [] y g = absurd (cc)
        same_last (a ∷ more) x (b ∷ others) y g = same_last more x others y (cc)

-- the tokens of a text that begins like another one are nested as in that one
nested_there : (u v : List ExternalTree) (front : List Marked) (found : Marked) (more marked : List Marked) (rest : List Token) → nesting_limit < found.nesting →
    text u 0 ((front ++ found ∷ []) ++ more) → text v 0 marked → unmarked marked ≡ unmarked front ++ found.token ∷ rest → (k : List Marked) × (marked ≡ (front ++ found ∷ []) ++ k)
nested_there u v front found [] marked rest deep h g e =
    let flat : found.nesting ≡ 0 = last_is_flat u front found (subst (λ q. text u 0 q) (append-nil (front ++ found ∷ [])) h) in
    absurd (omega arith)
nested_there u v front found (next ∷ more) marked rest deep h g e =
    let r = nested_alike u v (front ++ found ∷ []) next more marked rest h g
    (e ∙ sym (append_assoc (unmarked front) (found.token ∷ []) rest) ∙ ap (λ q. q ++ rest) (sym (unmarked_append front (found ∷ [])))) in
    (r.more, r.is)

-- a token that stands in a front which isn't nested too deep
within_there : (a b : List Marked) (x : Marked) (m k : List Marked) (more : List Token) → a ++ m ≡ (b ++ x ∷ []) ++ k → unmarked a ≡ unmarked b ++ x.token ∷ more → IsWithin a → x.nesting ≤ nesting_limit
within_there [] [] x m k more e f h = absurd (cc)
within_there [] (y ∷ b) x m k more e f h = absurd (cc)
within_there (z ∷ a) [] x m k more e f h = let g : z ≡ x = cc in subst (λ (q : Marked). q.nesting ≤ nesting_limit) g h.0
within_there (z ∷ a) (y ∷ b) x m k more e f h = within_there a b x m k more (cc) (cc) h.1

-- a token that is nested too deep can't stand in a text's front which isn't
deep_before : (f : List Marked) (found : Marked) (g : List Marked) (more : List Token) → nesting_limit < found.nesting → SomeTextBegins (f ++ found ∷ []) → SomeTextBegins g → IsWithin g →
    unmarked g ≡ unmarked f ++ found.token ∷ more → ⊥
deep_before f found g more deep some other within e =
    let r = nested_there some.trees other.trees f found some.more (g ++ other.more) (more ++ unmarked other.more) deep some.is other.is
    (unmarked_append g other.more ∙ ap (λ q. q ++ unmarked other.more) e ∙ append_assoc (unmarked f) (found.token ∷ more) (unmarked other.more)) in
    let h : found.nesting ≤ nesting_limit = within_there g f found other.more r.0 more r.1 e within in
    omega arith

-- what begins a text with one token less
less : (front : List Marked) (found : Marked) → SomeTextBegins (front ++ found ∷ []) → SomeTextBegins front
less front found some = record { trees = some.trees; more = found ∷ some.more; is = subst (λ q. text some.trees 0 q) (append_assoc front (found ∷ []) some.more) some.is }

one_syntax : (tokens : List Token) (at there : Pos) → FailsSyntax tokens at → FailsSyntax tokens there → at ≡ there
one_syntax tokens at there f g = elim (two_cuts (unmarked f.front) (unmarked g.front) f.found g.found f.rest g.rest (sym f.tokens_are ∙ g.tokens_are)) [
  | inl h ↦ sym f.place ∙ ap (λ (q : Token). q.at) h.1 ∙ g.place
  | inr k ↦ elim k [
    | inl h ↦ absurd (begins_not _ g.front h.more f.none_begins g.begins (h.is ∙ sym (append_assoc (unmarked f.front) (f.found ∷ []) h.more)))
    | inr h ↦ absurd (begins_not _ f.front h.more g.none_begins f.begins (h.is ∙ sym (append_assoc (unmarked g.front) (g.found ∷ []) h.more)))
  ]
]

one_nesting : (tokens : List Token) (at there : Pos) → FailsNesting tokens at → FailsNesting tokens there → at ≡ there
one_nesting tokens at there f g = elim (two_cuts (unmarked f.front) (unmarked g.front) f.found.token g.found.token f.rest g.rest (sym f.tokens_are ∙ g.tokens_are)) [
  | inl h ↦ sym f.place ∙ ap (λ (q : Token). q.at) h.1 ∙ g.place
  | inr k ↦ elim k [
    | inl h ↦ absurd (deep_before f.front f.found g.front h.more f.deeper f.begins (less g.front g.found g.begins) g.within h.is)
    | inr h ↦ absurd (deep_before g.front g.found f.front h.more g.deeper g.begins (less f.front f.found f.begins) f.within h.is)
  ]
]

not_both : (tokens : List Token) (at there : Pos) → FailsSyntax tokens at → FailsNesting tokens there → ⊥
not_both tokens at there f g = elim (two_cuts (unmarked f.front) (unmarked g.front) f.found g.found.token f.rest g.rest (sym f.tokens_are ∙ g.tokens_are)) [
  | inl h ↦ begins_not _ (g.front ++ g.found ∷ []) [] f.none_begins g.begins
      (unmarked_append g.front (g.found ∷ []) ∙ ap (λ q. q ++ g.found.token ∷ []) (sym h.0) ∙ ap (λ q. unmarked f.front ++ q ∷ []) (sym h.1) ∙ sym (append-nil (unmarked f.front ++ f.found ∷ [])))
  | inr k ↦ elim k [
    | inl h ↦ begins_not _ g.front h.more f.none_begins (less g.front g.found g.begins) (h.is ∙ sym (append_assoc (unmarked f.front) (f.found ∷ []) h.more))
    | inr h ↦ deep_before g.front g.found f.front h.more g.deeper g.begins f.begins f.within h.is
  ]
]

parsed_no_syntax : (tokens : List Token) (u : List ExternalTree) (at : Pos) → IsParsed tokens u → FailsSyntax tokens at → ⊥
parsed_no_syntax tokens u at p f = f.none_begins u p.marked f.rest p.derived (p.tokens_are ∙ f.tokens_are ∙ sym (append_assoc (unmarked f.front) (f.found ∷ []) f.rest))

parsed_no_nesting : (tokens : List Token) (u : List ExternalTree) (at : Pos) → IsParsed tokens u → FailsNesting tokens at → ⊥
parsed_no_nesting tokens u at p f =
    let some = f.begins in
    let r = nested_there some.trees u f.front f.found some.more p.marked f.rest f.deeper some.is p.derived (p.tokens_are ∙ f.tokens_are) in
    let h : f.found.nesting ≤ nesting_limit = within_last f.front f.found r.0 (subst IsWithin r.1 p.within) in
    let deep = f.deeper in
    omega arith

pub one_tree : (tokens : List Token) (u v : List ExternalTree) → IsAccepted tokens u → IsAccepted tokens v → u ≡ v
one_tree tokens u v p q =
    one_unit u v p.parsed.marked q.parsed.marked p.parsed.derived q.parsed.derived
    (sym (tokens_of_all p.parsed.marked) ∙ p.parsed.tokens_are ∙ sym q.parsed.tokens_are ∙ tokens_of_all q.parsed.marked)

pub one_refusal : (tokens : List Token) (x y : ParseError) → IsRefused tokens x → IsRefused tokens y → x ≡ y
one_refusal tokens (Unsupported c at) (Unsupported d there) f g = let e = one_first tokens c d at there f g in ap (λ q. Unsupported q at) e.0 ∙ ap (λ q. Unsupported d q) e.1
one_refusal tokens (Unsupported c at) (Syntax there) f g = absurd (first_is_not_supported tokens c at f g.0)
one_refusal tokens (Unsupported c at) (Nesting there) f g = absurd (first_is_not_supported tokens c at f g.0)
one_refusal tokens (Unsupported c at) Memory f g = absurd g
one_refusal tokens (Syntax at) (Unsupported d there) f g = absurd (first_is_not_supported tokens d there g f.0)
one_refusal tokens (Syntax at) (Syntax there) f g = ap Syntax (one_syntax tokens at there f.1 g.1)
one_refusal tokens (Syntax at) (Nesting there) f g = absurd (not_both tokens at there f.1 g.1)
one_refusal tokens (Syntax at) Memory f g = absurd g
one_refusal tokens (Nesting at) (Unsupported d there) f g = absurd (first_is_not_supported tokens d there g f.0)
one_refusal tokens (Nesting at) (Syntax there) f g = absurd (not_both tokens there at g.1 f.1)
one_refusal tokens (Nesting at) (Nesting there) f g = ap Nesting (one_nesting tokens at there f.1 g.1)
one_refusal tokens (Nesting at) Memory f g = absurd g
one_refusal tokens Memory y f g = absurd f

pub apart : (tokens : List Token) (u : List ExternalTree) (x : ParseError) → IsAccepted tokens u → IsRefused tokens x → ⊥
apart tokens u (Unsupported c at) p f = first_is_not_supported tokens c at f p.supported
apart tokens u (Syntax at) p f = parsed_no_syntax tokens u at p.parsed f.1
apart tokens u (Nesting at) p f = parsed_no_nesting tokens u at p.parsed f.1
apart tokens u Memory p f = f
