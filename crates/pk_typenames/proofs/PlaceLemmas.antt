-- Tokens that are marked in place.
use Rattle.std.proofs.Common.{◌≡◌, ◌↔◌, ℕ, ◌+◌, ◌<◌, List, [], ◌∷◌, ◌++◌, Option, None, Bool, true, false, is_some, ◌&&◌, if◌then◌else◌, length, get_or, refl, sym, ap, subst, ◌∙◌, append_assoc, append-nil, length-append, arith}
use Rattle.std.proofs.Math.ListN.{set}
use Rattle.std.proofs.Math.Seq.{set-append_seam, get_or-append_seam}
use Rattle.pk_lex.specs.declared.token.Token.{Token}
use Rattle.pk_lex.specs.declared.token.Kind.TheVariants as kind
use Rattle.pk_constructs.specs.Constructs.{BraceStep}
use Rattle.pk_typenames.specs.TypeNames.{spelled, IsEnd, as_type_name, AreMarked}
use Rattle.pk_typenames.specs.Spellings.{Layer, noted}
use Rattle.pk_typenames.specs.Steps.{OpenStep, pending_after}
use Rattle.pk_typenames.proofs.ScanLemmas.{Scanned, scanned_none, scanned_more}

-- the first i tokens of a list are marked, and the others stand as they stood
pub record Marking (text : List ℕ) (tokens now : List Token) (i : ℕ) (l : Layer) (braces : ℕ) (within : Bool) (pending : Option (List ℕ)) : Type 0 where
  pub front : List Token
  pub marks : List Token
  pub rest : List Token
  pub cut : tokens ≡ front ++ rest
  pub made : now ≡ marks ++ rest
  pub count : length marks ≡ i
  pub scanned : Scanned text front marks l braces within pending

pub marking_none : (text : List ℕ) (tokens : List Token) (l : Layer) → ((q : List ℕ) → l q ≡ None) → Marking text tokens tokens 0 l 0 false None
marking_none text tokens l none = record { front = []; marks = []; rest = tokens; cut = refl; made = refl; count = refl; scanned = scanned_none text l none }

-- one token is left, at least
record Next (text : List ℕ) (tokens now : List Token) (i : ℕ) (t : Token) (l : Layer) (braces : ℕ) (within : Bool) (pending : Option (List ℕ)) : Type 0 where
  pub front : List Token
  pub marks : List Token
  pub rest : List Token
  pub cut : tokens ≡ front ++ t ∷ rest
  pub made : now ≡ marks ++ t ∷ rest
  pub count : length marks ≡ i
  pub scanned : Scanned text front marks l braces within pending

module _ (text : List ℕ) (tokens now : List Token) (i : ℕ) (l : Layer) (braces : ℕ) (within : Bool) (pending : Option (List ℕ)) where
  next : Marking text tokens now i l braces within pending → i < length now → (d : Token) → Next text tokens now i (get_or now i d) l braces within pending
  next p less d = by_rest p.rest refl
    where
      by_rest : (rest : List Token) → p.rest ≡ rest → Next text tokens now i (get_or now i d) l braces within pending
      by_rest [] e = let size = ap length p.made in let none = ap length e in let count = p.count in absurd (omega (arith, length-append p.marks p.rest))
      by_rest (u ∷ rest) e =
          let made : now ≡ p.marks ++ u ∷ rest = p.made ∙ ap (λ q. p.marks ++ q) e in
          let here : get_or now i d ≡ u = ap (λ q. get_or q i d) made ∙ (ap (λ n. get_or (p.marks ++ u ∷ rest) n d) (sym p.count) ∙ get_or-append_seam p.marks u rest d) in
          record {
            front = p.front;
            marks = p.marks;
            rest = rest;
            cut = p.cut ∙ (ap (λ q. p.front ++ q) e ∙ ap (λ q. p.front ++ q ∷ rest) (sym here));
            made = made ∙ ap (λ q. p.marks ++ q ∷ rest) (sym here);
            count = p.count;
            scanned = p.scanned;
          }

  more : (t : Token) (n : Next text tokens now i t l braces within pending) (u : Token) (m : Layer) (depth : ℕ) (after : Bool) (pended : Option (List ℕ)) →
      Scanned text (n.front ++ t ∷ []) (n.marks ++ u ∷ []) m depth after pended → Marking text tokens (set now i u) (i + 1) m depth after pended
  more t n u m depth after pended s = record {
    front = n.front ++ t ∷ [];
    marks = n.marks ++ u ∷ [];
    rest = n.rest;
    cut = n.cut ∙ sym (append_assoc n.front (t ∷ []) n.rest);
    made = ap (λ q. set q i u) n.made ∙ (ap (λ k. set (n.marks ++ t ∷ n.rest) k u) (sym n.count) ∙ (set-append_seam n.marks t n.rest u ∙ sym (append_assoc n.marks (u ∷ []) n.rest)));
    count = let e = n.count in omega (arith, length-append n.marks (u ∷ []));
    scanned = s;
  }

  pub marking_more : Marking text tokens now i l braces within pending → i < length now → (d : Token) (name : List ℕ) → name ≡ spelled text (get_or now i d) →
      (named : Bool) → ((named ≡ true) ↔ ((get_or now i d).kind ≡ kind.Name)) → (known : Bool) → known ≡ (named && is_some (l name)) →
      (ends : Bool) → ((ends ≡ true) ↔ IsEnd (get_or now i d).kind) → (m : Layer) → ((q : List ℕ) → m q ≡ noted l ends pending q) →
      (outside : Bool) → ((outside ≡ true) ↔ (braces ≡ 0)) → (pended : Option (List ℕ)) → pended ≡ pending_after (named && within && outside) name →
      (after : Bool) → OpenStep (get_or now i d).kind outside within after → (depth : ℕ) → BraceStep (get_or now i d).kind braces depth →
      (u : Token) → u ≡ (if known then as_type_name (get_or now i d) else get_or now i d) → Marking text tokens (set now i u) (i + 1) m depth after pended
  marking_more p less d name spelling named is_named known is_known ends is_ending m same outside is_out pended is_pended after step depth brace u is_marked =
      let n = next p less d in
      more (get_or now i d) n u m depth after pended
      (scanned_more text n.front n.marks l braces within pending n.scanned (get_or now i d) name spelling named is_named known is_known ends is_ending m same outside is_out pended is_pended after step depth brace u is_marked)

  pub marking_all : Marking text tokens now i l braces within pending → i ≡ length now → AreMarked text [] tokens now
  marking_all p end = by_rest p.rest refl
    where
      by_rest : (rest : List Token) → p.rest ≡ rest → AreMarked text [] tokens now
      by_rest (u ∷ rest) e = let size = ap length p.made in let some = ap length e in let count = p.count in absurd (omega (arith, length-append p.marks p.rest))
      by_rest [] e =
          let all : tokens ≡ p.front = p.cut ∙ (ap (λ q. p.front ++ q) e ∙ append-nil p.front) in
          let made : now ≡ p.marks = p.made ∙ (ap (λ q. p.marks ++ q) e ∙ append-nil p.marks) in
          subst (λ q. AreMarked text [] q now) (sym all) (subst (AreMarked text [] p.front) (sym made) p.scanned.marked)
