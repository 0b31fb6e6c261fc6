-- Of every text and its tokens there is exactly one marking.
use Rattle.std.proofs.Common.{◌≡◌, ◌↔◌, ℕ, zero, suc, inl, inr, List, [], ◌∷◌, ◌++◌, Option, None, Bool, true, false, is_some, ◌&&◌, if◌then◌else◌, refl, sym, ap, subst, ◌∙◌, append_assoc}
use Rattle.std.proofs.lemmas.Bool.{false≢true}
use Rattle.std.proofs.lemmas.List.{append-nil}
use Rattle.pk_lex.specs.declared.token.Token.{Token}
use Rattle.pk_lex.specs.declared.token.Kind.{Kind}
use Rattle.pk_lex.specs.declared.token.Kind.TheVariants as kind
use Rattle.pk_lex.specs.declared.token.Keyword.TheVariants as key
use Rattle.pk_lex.specs.declared.token.Punctuator.TheVariants as mark
use Rattle.pk_constructs.proofs.ScanLemmas.{brace_step}
use Rattle.pk_typenames.specs.TypeNames.{spelled, IsEnd, as_type_name, IsMarked, AreMarked}
use Rattle.pk_typenames.specs.Spellings.{Layer, empty, noted}
use Rattle.pk_typenames.specs.Steps.{OpenStep, pending_after}
use Rattle.pk_typenames.proofs.ScanLemmas.{Scanned, scanned_none, scanned_more}

-- what one token is, by tests

abbrev is_name : Kind → Bool
is_name kind.Name = true
is_name _ = false

name_is : (k : Kind) → is_name k ≡ true → k ≡ kind.Name
name_is kind.Name e = refl
name_is _ e = absurd (false≢true e)

name_or_not : (k : Kind) → (b : Bool) × ((b ≡ true) ↔ (k ≡ kind.Name))
name_or_not k = (is_name k, (λ e. name_is k e, λ e. ap is_name e))

abbrev is_comma : Kind → Bool
is_comma (kind.Punctuator mark.Comma) = true
is_comma _ = false

comma_is : (k : Kind) → is_comma k ≡ true → k ≡ kind.Punctuator mark.Comma
comma_is (kind.Punctuator mark.Comma) e = refl
comma_is _ e = absurd (false≢true e)

abbrev is_semicolon : Kind → Bool
is_semicolon (kind.Punctuator mark.Semicolon) = true
is_semicolon _ = false

semicolon_is : (k : Kind) → is_semicolon k ≡ true → k ≡ kind.Punctuator mark.Semicolon
semicolon_is (kind.Punctuator mark.Semicolon) e = refl
semicolon_is _ e = absurd (false≢true e)

abbrev is_typedef : Kind → Bool
is_typedef (kind.Keyword key.Typedef) = true
is_typedef _ = false

typedef_is : (k : Kind) → is_typedef k ≡ true → k ≡ kind.Keyword key.Typedef
typedef_is (kind.Keyword key.Typedef) e = refl
typedef_is _ e = absurd (false≢true e)

end_or_not : (k : Kind) → (b : Bool) × ((b ≡ true) ↔ IsEnd k)
end_or_not k = by_comma (is_comma k) refl (is_semicolon k) refl
  where
    by_comma : (b : Bool) → is_comma k ≡ b → (d : Bool) → is_semicolon k ≡ d → (b : Bool) × ((b ≡ true) ↔ IsEnd k)
    by_comma true e d f = (true, (λ h. inl (comma_is k e), λ h. refl))
    by_comma false e true f = (true, (λ h. inr (semicolon_is k f), λ h. refl))
    by_comma false e false f = (
      false,
      (λ h. absurd (false≢true h), λ h. elim h [ inl g ↦ absurd (false≢true (sym e ∙ ap is_comma g)) | inr g ↦ absurd (false≢true (sym f ∙ ap is_semicolon g)) ]),
    )

outside_or_not : (n : ℕ) → (b : Bool) × ((b ≡ true) ↔ (n ≡ 0))
outside_or_not zero = (true, (λ e. refl, λ e. refl))
outside_or_not (suc n) = (false, (λ e. absurd (false≢true e), λ e. absurd (cc)))

open_step : (k : Kind) (outside was : Bool) → (after : Bool) × OpenStep k outside was after
open_step k false was = (was, inr (inr (inl (refl, refl))))
open_step k true was = by_word (is_typedef k) refl (is_semicolon k) refl
  where
    by_word : (b : Bool) → is_typedef k ≡ b → (d : Bool) → is_semicolon k ≡ d → (after : Bool) × OpenStep k true was after
    by_word true e d f = (true, inl (typedef_is k e, refl, refl))
    by_word false e true f = (false, inr (inl (semicolon_is k f, refl, refl)))
    by_word false e false f = (was, inr (inr (inr ((λ h. false≢true (sym e ∙ ap is_typedef h)), (λ h. false≢true (sym f ∙ ap is_semicolon h)), refl))))

-- the rest of a list is marked too
rest_marked : (text : List ℕ) (rest front marks : List Token) (l : Layer) (braces : ℕ) (within : Bool) (pending : Option (List ℕ)) → Scanned text front marks l braces within pending →
    (ms : List Token) × AreMarked text [] (front ++ rest) ms
rest_marked text [] front marks l braces within pending s = (marks, subst (λ q. AreMarked text [] q marks) (sym (append-nil front)) s.marked)
rest_marked text (t ∷ rest) front marks l braces within pending s =
    let named = name_or_not t.kind in
    let ends = end_or_not t.kind in
    let outside = outside_or_not braces in
    let after = open_step t.kind outside.0 within in
    let depth = brace_step t.kind braces in
    let name : List ℕ = spelled text t in
    let known : Bool = named.0 && is_some (l name) in
    let m : Token = if known then as_type_name t else t in
    let all = rest_marked text rest (front ++ t ∷ []) (marks ++ m ∷ []) (noted l ends.0 pending) depth.0 after.0 (pending_after (named.0 && within && outside.0) name)
    (scanned_more text front marks l braces within pending s t name refl named.0 named.1 known refl ends.0 ends.1 (noted l ends.0 pending) (λ q. refl) outside.0 outside.1 _ refl after.0 after.1 depth.0 depth.1 m refl) in
    (all.0, subst (λ q. AreMarked text [] q all.0) (append_assoc front (t ∷ []) rest) all.1)

pub some_marking : (text : List ℕ) (tokens : List Token) → (ms : List Token) × AreMarked text [] tokens ms
some_marking text tokens = rest_marked text tokens [] [] empty 0 false None (scanned_none text empty (λ q. refl))

same_mark : (text : List ℕ) (front : List Token) (t a b : Token) → IsMarked text front t a → IsMarked text front t b → a ≡ b
same_mark text front t a b (inl g) (inl h) = g.1 ∙ sym h.1
same_mark text front t a b (inl g) (inr h) = absurd (h.0 g.0)
same_mark text front t a b (inr g) (inl h) = absurd (g.0 h.0)
same_mark text front t a b (inr g) (inr h) = g.1 ∙ sym h.1

pub one_marking : (text : List ℕ) (front tokens a b : List Token) → AreMarked text front tokens a → AreMarked text front tokens b → a ≡ b
one_marking text front [] [] [] g h = refl
one_marking text front [] [] (y ∷ b) g h = absurd h
one_marking text front [] (x ∷ a) b g h = absurd g
one_marking text front (t ∷ ts) [] b g h = absurd g
one_marking text front (t ∷ ts) (x ∷ a) [] g h = absurd h
one_marking text front (t ∷ ts) (x ∷ a) (y ∷ b) g h =
    let first = same_mark text front t x y g.0 h.0 in
    let others = one_marking text (front ++ t ∷ []) ts a b g.1 h.1 in
    cc
