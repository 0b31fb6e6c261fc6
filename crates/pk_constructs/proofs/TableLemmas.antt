-- What the tables find is what is shown, and all of it.
use Rattle.std.proofs.Common.{◌≡◌, ◌≢◌, ◌⊎◌, inl, inr, Option, Some, None, Bool, true, false, refl, sym, ap, subst, ◌∙◌}
use Rattle.pk_ctypes.specs.declared.words.Construct.{Construct}
use Rattle.pk_ctypes.specs.declared.words.Construct.TheVariants as construct
use Rattle.pk_lex.specs.declared.token.Kind.{Kind}
use Rattle.pk_lex.specs.declared.token.Kind.TheVariants as kind
use Rattle.pk_lex.specs.declared.token.Keyword.{Keyword}
use Rattle.pk_lex.specs.declared.token.Keyword.TheVariants as key
use Rattle.pk_lex.specs.declared.token.Punctuator.{Punctuator}
use Rattle.pk_lex.specs.declared.token.Punctuator.TheVariants as mark
use Rattle.pk_constructs.specs.declared.constructs.Before.{Before}
use Rattle.pk_constructs.specs.declared.constructs.Before.TheVariants as before
use Rattle.pk_constructs.specs.Constructs.{Is, EndsOperand, Shows}
use Rattle.pk_constructs.specs.Tables.{word_shows, before_punctuator, before_of, before_next, star_shows, opening_shows, closing_shows, punctuator_shows, kind_shows}

-- what is known of the kind of a token
abbrev Tells : Before → Kind → Type 0
Tells before.Operand k = EndsOperand k
Tells before.OpenBracket k = k ≡ kind.Punctuator mark.OpenBracket
Tells before.CloseBracket k = k ≡ kind.Punctuator mark.CloseBracket
Tells before.List k = (k ≡ kind.Punctuator mark.OpenBrace) ⊎ (k ≡ kind.Punctuator mark.Comma)
Tells before.Other k = ¬ EndsOperand k

no_end : (p : Punctuator) → p ≢ mark.CloseParenthesis → p ≢ mark.CloseBracket → p ≢ mark.Increment → p ≢ mark.Decrement → ¬ EndsOperand (kind.Punctuator p)
no_end p a b c d h = elim h [ inl e ↦ a e | inr g ↦ elim g [ inl e ↦ b e | inr f ↦ elim f [ inl e ↦ c e | inr e ↦ d e ] ] ]

tells_punctuator : (p : Punctuator) → Tells (before_punctuator p) (kind.Punctuator p)
tells_punctuator mark.CloseParenthesis = inl refl
tells_punctuator mark.OpenBracket = refl
tells_punctuator mark.CloseBracket = refl
tells_punctuator mark.OpenBrace = inl refl
tells_punctuator mark.Comma = inr refl
tells_punctuator mark.Increment = inr (inr (inl refl))
tells_punctuator mark.Decrement = inr (inr (inr refl))
tells_punctuator p = no_end p (λ e. cc) (λ e. cc) (λ e. cc) (λ e. cc)

tells : (k : Kind) → Tells (before_of k) k
tells (kind.Keyword k) = λ h. h
tells kind.Name = tt
tells kind.TypeName = tt
tells (kind.Constant t v) = tt
tells (kind.Character v) = tt
tells kind.StringLiteral = λ h. h
tells kind.Floating = λ h. h
tells kind.Directive = λ h. h
tells (kind.Punctuator p) = tells_punctuator p
tells kind.End = λ h. h

-- which kinds end an operand
ends_by : (b : Before) (k : Kind) → Tells b k → star_shows b ≡ None → EndsOperand k
ends_by before.Operand k h e = h
ends_by before.OpenBracket k h e = absurd (cc)
ends_by before.CloseBracket k h e = subst EndsOperand (sym h) (inr (inl refl))
ends_by before.List k h e = absurd (cc)
ends_by before.Other k h e = absurd (cc)

no_end_by : (b : Before) (k : Kind) → Tells b k → star_shows b ≡ Some construct.Pointer → ¬ EndsOperand k
no_end_by before.Operand k h e = absurd (cc)
no_end_by before.OpenBracket k h e = λ g. no_end mark.OpenBracket (λ e. cc) (λ e. cc) (λ e. cc) (λ e. cc) (subst EndsOperand h g)
no_end_by before.CloseBracket k h e = absurd (cc)
no_end_by before.List k h e = λ g. elim h [
  | inl f ↦ no_end mark.OpenBrace (λ e. cc) (λ e. cc) (λ e. cc) (λ e. cc) (subst EndsOperand f g)
  | inr f ↦ no_end mark.Comma (λ e. cc) (λ e. cc) (λ e. cc) (λ e. cc) (subst EndsOperand f g)
]
no_end_by before.Other k h e = h

star_either : (b : Before) → (star_shows b ≡ None) ⊎ (star_shows b ≡ Some construct.Pointer)
star_either before.Operand = inl refl
star_either before.OpenBracket = inr refl
star_either before.CloseBracket = inl refl
star_either before.List = inr refl
star_either before.Other = inr refl

-- a `*` or `&` shows a pointer where no operand ends before it
star_finds : (last : Option Kind) → ¬ Is EndsOperand last → star_shows (before_next last) ≡ Some construct.Pointer
star_finds None h = refl
star_finds (Some k) h = elim (star_either (before_of k)) [ inl e ↦ absurd (h (ends_by (before_of k) k (tells k) e)) | inr e ↦ e ]

star_found : (last : Option Kind) (c : Construct) → star_shows (before_next last) ≡ Some c → (c ≡ construct.Pointer) × ¬ Is EndsOperand last
star_found None c e = (cc, λ h. h)
star_found (Some k) c e = elim (star_either (before_of k)) [
  | inl f ↦ absurd (cc)
  | inr f ↦ (cc, no_end_by (before_of k) k (tells k) f)
]

opening_of : (b : Before) (k : Kind) (c : Construct) → Tells b k → opening_shows b ≡ Some c →
    ((c ≡ construct.Arrays) × (k ≡ kind.Punctuator mark.CloseBracket)) ⊎ ((c ≡ construct.Designator) × ((k ≡ kind.Punctuator mark.OpenBrace) ⊎ (k ≡ kind.Punctuator mark.Comma)))
opening_of before.Operand k c h e = absurd (cc)
opening_of before.OpenBracket k c h e = absurd (cc)
opening_of before.CloseBracket k c h e = inl (cc, h)
opening_of before.List k c h e = inr (cc, h)
opening_of before.Other k c h e = absurd (cc)

closing_of : (b : Before) (k : Kind) (c : Construct) → Tells b k → closing_shows b ≡ Some c → (c ≡ construct.Brackets) × (k ≡ kind.Punctuator mark.OpenBracket)
closing_of before.Operand k c h e = absurd (cc)
closing_of before.OpenBracket k c h e = (cc, h)
closing_of before.CloseBracket k c h e = absurd (cc)
closing_of before.List k c h e = absurd (cc)
closing_of before.Other k c h e = absurd (cc)

module _ (last : Option Kind) (InBraces : Type 0) (in_braces : Bool) where
  opening_found : (c : Construct) → opening_shows (before_next last) ≡ Some c → Shows last InBraces (kind.Punctuator mark.OpenBracket) c
  opening_found c e = elim last as (λ l. opening_shows (before_next l) ≡ Some c → Shows l InBraces (kind.Punctuator mark.OpenBracket) c) [
    | None ↦ λ f. absurd (cc)
    | Some k ↦ λ f. elim (opening_of (before_of k) k c (tells k) f) [
      | inl g ↦ subst (λ d. Shows (Some k) InBraces (kind.Punctuator mark.OpenBracket) d) (sym g.0) (refl, g.1)
      | inr g ↦ subst (λ d. Shows (Some k) InBraces (kind.Punctuator mark.OpenBracket) d) (sym g.0) (refl, g.1)
    ]
  ] e

  closing_found : (c : Construct) → closing_shows (before_next last) ≡ Some c → Shows last InBraces (kind.Punctuator mark.CloseBracket) c
  closing_found c e = elim last as (λ l. closing_shows (before_next l) ≡ Some c → Shows l InBraces (kind.Punctuator mark.CloseBracket) c) [
    | None ↦ λ f. absurd (cc)
    | Some k ↦ λ f. let g = closing_of (before_of k) k c (tells k) f in subst (λ d. Shows (Some k) InBraces (kind.Punctuator mark.CloseBracket) d) (sym g.0) (refl, g.1)
  ] e

  -- what is found is shown where it is shown by itself
  shown : (k : Kind) (d c : Construct) → Some d ≡ Some c → Shows last InBraces k d → Shows last InBraces k c
  shown k d c e s = let g : d ≡ c = cc in subst (λ q. Shows last InBraces k q) g s

  found_typedef : (b : Bool) (c : Construct) → (b ≡ true → InBraces) → word_shows key.Typedef b ≡ Some c → Shows last InBraces (kind.Keyword key.Typedef) c
  found_typedef true c h e = let g : construct.Typedef ≡ c = cc in subst (λ d. Shows last InBraces (kind.Keyword key.Typedef) d) g (refl, h refl)
  found_typedef false c h e = absurd (cc)

  found_word : (k : Keyword) (c : Construct) → (in_braces ≡ true → InBraces) → word_shows k in_braces ≡ Some c → Shows last InBraces (kind.Keyword k) c
  found_word key.Auto c h e = shown (kind.Keyword key.Auto) construct.Auto c e refl
  found_word key.Double c h e = shown (kind.Keyword key.Double) construct.Double c e refl
  found_word key.Enum c h e = absurd (cc)
  found_word key.Float c h e = shown (kind.Keyword key.Float) construct.Float c e refl
  found_word key.Inline c h e = shown (kind.Keyword key.Inline) construct.Inline c e refl
  found_word key.Register c h e = shown (kind.Keyword key.Register) construct.Register c e refl
  found_word key.Restrict c h e = shown (kind.Keyword key.Restrict) construct.Restrict c e refl
  found_word key.Sizeof c h e = shown (kind.Keyword key.Sizeof) construct.Sizeof c e refl
  found_word key.Static c h e = absurd (cc)
  found_word key.Struct c h e = shown (kind.Keyword key.Struct) construct.Struct c e refl
  found_word key.Typedef c h e = found_typedef in_braces c h e
  found_word key.Union c h e = shown (kind.Keyword key.Union) construct.Union c e refl
  found_word key.Volatile c h e = shown (kind.Keyword key.Volatile) construct.Volatile c e refl
  found_word key.Bool c h e = shown (kind.Keyword key.Bool) construct.Bool c e refl
  found_word key.Complex c h e = shown (kind.Keyword key.Complex) construct.Complex c e refl
  found_word key.Imaginary c h e = shown (kind.Keyword key.Imaginary) construct.Imaginary c e refl
  found_word key.Asm c h e = shown (kind.Keyword key.Asm) construct.Asm c e refl
  found_word key.GnuAsm c h e = shown (kind.Keyword key.GnuAsm) construct.GnuAsm c e refl
  found_word key.GnuAttribute c h e = shown (kind.Keyword key.GnuAttribute) construct.GnuAttribute c e refl
  found_word key.GnuExtension c h e = shown (kind.Keyword key.GnuExtension) construct.GnuExtension c e refl
  found_word key.GnuInline c h e = shown (kind.Keyword key.GnuInline) construct.GnuInline c e refl
  found_word key.GnuRestrict c h e = shown (kind.Keyword key.GnuRestrict) construct.GnuRestrict c e refl
  found_word k c h e = absurd (cc)

  found_punctuator : (p : Punctuator) (c : Construct) → punctuator_shows p (before_next last) ≡ Some c → Shows last InBraces (kind.Punctuator p) c
  found_punctuator mark.OpenBracket c e = opening_found c e
  found_punctuator mark.CloseBracket c e = closing_found c e
  found_punctuator mark.Star c e = let f = star_found last c e in subst (λ d. Shows last InBraces (kind.Punctuator mark.Star) d) (sym f.0) (inl refl, f.1)
  found_punctuator mark.Ampersand c e = let f = star_found last c e in subst (λ d. Shows last InBraces (kind.Punctuator mark.Ampersand) d) (sym f.0) (inr refl, f.1)
  found_punctuator mark.Dot c e = shown (kind.Punctuator mark.Dot) construct.Dot c e refl
  found_punctuator mark.Ellipsis c e = shown (kind.Punctuator mark.Ellipsis) construct.Ellipsis c e refl
  found_punctuator mark.Arrow c e = shown (kind.Punctuator mark.Arrow) construct.Arrow c e refl
  found_punctuator p c e = absurd (cc)

  pub found : (k : Kind) (c : Construct) → (in_braces ≡ true → InBraces) → kind_shows (before_next last) in_braces k ≡ Some c → Shows last InBraces k c
  found (kind.Keyword k) c h e = found_word k c h e
  found kind.Name c h e = absurd (cc)
  found kind.TypeName c h e = absurd (cc)
  found (kind.Constant t v) c h e = absurd (cc)
  found (kind.Character v) c h e = absurd (cc)
  found kind.StringLiteral c h e = shown kind.StringLiteral construct.StringLiteral c e refl
  found kind.Floating c h e = shown kind.Floating construct.Floating c e refl
  found kind.Directive c h e = shown kind.Directive construct.Directive c e refl
  found (kind.Punctuator p) c h e = found_punctuator p c e
  found kind.End c h e = absurd (cc)

  arrays_finds : (l : Option Kind) → Is (λ b. b ≡ kind.Punctuator mark.CloseBracket) l → opening_shows (before_next l) ≡ Some construct.Arrays
  arrays_finds None h = absurd h
  arrays_finds (Some k) h = ap (λ q. opening_shows (before_of q)) h

  brackets_finds : (l : Option Kind) → Is (λ b. b ≡ kind.Punctuator mark.OpenBracket) l → closing_shows (before_next l) ≡ Some construct.Brackets
  brackets_finds None h = absurd h
  brackets_finds (Some k) h = ap (λ q. closing_shows (before_of q)) h

  designator_finds : (l : Option Kind) → Is (λ b. (b ≡ kind.Punctuator mark.OpenBrace) ⊎ (b ≡ kind.Punctuator mark.Comma)) l → opening_shows (before_next l) ≡ Some construct.Designator
  designator_finds None h = absurd h
  designator_finds (Some k) h = elim h [ inl e ↦ ap (λ q. opening_shows (before_of q)) e | inr e ↦ ap (λ q. opening_shows (before_of q)) e ]

  pub finds : (k : Kind) (c : Construct) → (InBraces → in_braces ≡ true) → Shows last InBraces k c → kind_shows (before_next last) in_braces k ≡ Some c
  finds k construct.Enum h s = absurd s
  finds k construct.Static h s = absurd s
  finds k construct.Typedef h s = ap (λ q. kind_shows (before_next last) in_braces q) s.0 ∙ ap (λ q. word_shows key.Typedef q) (h s.1)
  finds k construct.Pointer h s = elim s.0 [
    | inl e ↦ ap (λ q. kind_shows (before_next last) in_braces q) e ∙ star_finds last s.1
    | inr e ↦ ap (λ q. kind_shows (before_next last) in_braces q) e ∙ star_finds last s.1
  ]
  finds k construct.Brackets h s = ap (λ q. kind_shows (before_next last) in_braces q) s.0 ∙ brackets_finds last s.1
  finds k construct.Arrays h s = ap (λ q. kind_shows (before_next last) in_braces q) s.0 ∙ arrays_finds last s.1
  finds k construct.Designator h s = ap (λ q. kind_shows (before_next last) in_braces q) s.0 ∙ designator_finds last s.1
  finds k construct.Later h s = absurd s
  finds k c h s = ap (λ q. kind_shows (before_next last) in_braces q) s
