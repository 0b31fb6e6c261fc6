-- Tokens whose type names are marked.
use Rattle.std.proofs.Common.{◌≡◌, ◌≢◌, ◌∙◌, inl, inr, sym, ap, subst, ℕ, List, [], ◌∷◌, ◌++◌}
use Rattle.pk_lex.specs.declared.token.Token.{Token}
use Rattle.pk_lex.specs.declared.token.Kind.TheVariants as kind
use Rattle.pk_lex.proofs.ReadLemmas.{one_list}
use Rattle.pk_typenames.specs.TypeNames.{IsMarked, AreMarked}
use Rattle.pk_typenames.proofs.LawLemmas.{one_marking}
use Rattle.pk_grammar.specs.Outcomes.{IsEnded}
use Rattle.pk_front.specs.Texts.{HasTokens}

is_end : (text : List ℕ) (front : List Token) (t m : Token) → IsMarked text front t m → t.kind ≡ kind.End → m.kind ≡ kind.End
is_end text front t m (inl h) e = absurd (let name = h.0.0 in cc)
is_end text front t m (inr h) e = ap (λ (u : Token). u.kind) h.1 ∙ e

no_end : (text : List ℕ) (front : List Token) (t m : Token) → IsMarked text front t m → t.kind ≢ kind.End → m.kind ≢ kind.End
no_end text front t m (inl h) n e = absurd (let made = ap (λ (u : Token). u.kind) h.1 in cc)
no_end text front t m (inr h) n e = n (ap (λ (u : Token). u.kind) (sym h.1) ∙ e)

-- The last of marked tokens is still the end, and no other is.
pub marked_is_ended : (text : List ℕ) (front words tokens : List Token) → AreMarked text front words tokens → IsEnded words → IsEnded tokens
marked_is_ended text front [] tokens h e = absurd e
marked_is_ended text front (t ∷ ts) [] h e = absurd h
marked_is_ended text front (t ∷ []) (m ∷ []) h e = is_end text front t m h.0 e
marked_is_ended text front (t ∷ []) (m ∷ n ∷ ms) h e = absurd h.1
marked_is_ended text front (t ∷ u ∷ ts) (m ∷ []) h e = absurd h.1
marked_is_ended text front (t ∷ u ∷ ts) (m ∷ n ∷ ms) h e = (no_end text front t m h.0 e.0, marked_is_ended text (front ++ t ∷ []) (u ∷ ts) (n ∷ ms) h.1 e.1)

pub one_tokens : (text : List ℕ) (ts us : List Token) → HasTokens text ts → HasTokens text us → ts ≡ us
one_tokens text ts us a b =
    let same : a.words ≡ b.words = one_list text a.words b.words a.lexed b.lexed in
    one_marking text [] b.words ts us (subst (λ (x : List Token). AreMarked text [] x ts) same a.marked) b.marked
