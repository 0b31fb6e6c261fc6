-- The first construct of a text is determined.
use Rattle.std.proofs.Common.{◌≡◌, ◌⊎◌, inl, inr, List, [], ◌∷◌, ◌++◌, Some, true, refl, sym, ap, subst, ◌∙◌, append_assoc}
use Rattle.std.proofs.lemmas.List.{append-nil}
use Rattle.pk_ctypes.specs.declared.words.Construct.{Construct}
use Rattle.pk_ctypes.specs.declared.places.Pos.{Pos}
use Rattle.pk_lex.specs.declared.token.Token.{Token}
use Rattle.pk_constructs.specs.Constructs.{IsInBraces, last_kind, IsUnsupported, AreSupported, IsSupported, FirstUnsupported}
use Rattle.pk_constructs.specs.Tables.{before_next, kind_shows}
use Rattle.pk_constructs.proofs.TableLemmas.{finds}

supported_at : (front a : List Token) (t : Token) (b : List Token) → AreSupported front (a ++ t ∷ b) → (c : Construct) → ¬ IsUnsupported (front ++ a) t c
supported_at front [] t b h c = subst (λ q. ¬ IsUnsupported q t c) (sym (append-nil front)) (h.0 c)
supported_at front (u ∷ a) t b h c = subst (λ q. ¬ IsUnsupported q t c) (append_assoc front (u ∷ []) a) (supported_at (front ++ u ∷ []) a t b h.1 c)

-- two cuts of a list are at one place, or one is before the other
pub record IsLater (front : List Token) (t : Token) (other : List Token) : Type 0 where
  pub more : List Token
  pub is : other ≡ front ++ t ∷ more

abbrev pub Cuts : List Token → Token → List Token → Token → Type 0
Cuts a t b u = ((a ≡ b) × (t ≡ u)) ⊎ IsLater a t b ⊎ IsLater b u a

pub two_cuts : (a b : List Token) (t u : Token) (x y : List Token) → a ++ t ∷ x ≡ b ++ u ∷ y → Cuts a t b u
two_cuts [] [] t u x y e = inl (refl, cc)
two_cuts [] (v ∷ b) t u x y e = let g : v ≡ t = cc in inr (inl (record { more = b; is = ap (λ q. q ∷ b) g }))
two_cuts (v ∷ a) [] t u x y e = let g : v ≡ u = cc in inr (inr (record { more = a; is = ap (λ q. q ∷ a) g }))
two_cuts (v ∷ a) (w ∷ b) t u x y e =
    let g : v ≡ w = cc in
    let f : a ++ t ∷ x ≡ b ++ u ∷ y = cc in
    elim (two_cuts a b t u x y f) [
      | inl h ↦ inl (ap (λ q. q ∷ a) g ∙ ap (λ q. w ∷ q) h.0, h.1)
      | inr k ↦ inr (elim k [
        | inl h ↦ inl (record { more = h.more; is = ap (λ q. q ∷ b) (sym g) ∙ ap (λ q. v ∷ q) h.is })
        | inr h ↦ inr (record { more = h.more; is = ap (λ q. q ∷ a) g ∙ ap (λ q. w ∷ q) h.is })
      ])
    ]

not_later : (front : List Token) (t : Token) (other : List Token) (c : Construct) → IsLater front t other → IsSupported other → IsUnsupported front t c → ⊥
not_later front t other c later h s = supported_at [] front t later.more (subst IsSupported later.is h) c s

same_construct : (front : List Token) (t : Token) (c d : Construct) → IsUnsupported front t c → IsUnsupported front t d → c ≡ d
same_construct front t c d f g =
    let a : kind_shows (before_next (last_kind front)) true t.kind ≡ Some c = finds (last_kind front) (IsInBraces front) true t.kind c (λ h. refl) f in
    let b : kind_shows (before_next (last_kind front)) true t.kind ≡ Some d = finds (last_kind front) (IsInBraces front) true t.kind d (λ h. refl) g in
    cc

pub one_first : (tokens : List Token) (c d : Construct) (at there : Pos) → FirstUnsupported tokens c at → FirstUnsupported tokens d there → (c ≡ d) × (at ≡ there)
one_first tokens c d at there f g = elim (two_cuts f.front g.front f.found g.found f.rest g.rest (sym f.cut ∙ g.cut)) [
  | inl h ↦ (
    same_construct g.front g.found c d (subst (λ q. IsUnsupported q g.found c) h.0 (subst (λ q. IsUnsupported f.front q c) h.1 f.shows)) g.shows,
    sym f.place ∙ ap (λ (q : Token). q.at) h.1 ∙ g.place,
  )
  | inr k ↦ elim k [
    | inl h ↦ absurd (not_later f.front f.found g.front c h g.before f.shows)
    | inr h ↦ absurd (not_later g.front g.found f.front d h f.before g.shows)
  ]
]

pub first_is_not_supported : (tokens : List Token) (c : Construct) (at : Pos) → FirstUnsupported tokens c at → IsSupported tokens → ⊥
first_is_not_supported tokens c at f h = supported_at [] f.front f.found f.rest (subst IsSupported f.cut h) c f.shows
