-- The tokens of a text stand in it, at bounded places.
use Rattle.std.proofs.Common.{◌≡◌, ℕ, ◌+◌, ◌≤◌, inl, inr, Bool, true, false, ◌==◌, List, [], ◌∷◌, ◌++◌, length, refl, ap, sym, subst, ◌∙◌, arith, length-append, length-take, append_assoc, append-nil, if◌then◌else◌}
use Rattle.std.specs.Prelude.{All, take}
use Rattle.std.proofs.Math.Seq.{take-append_seam}
use Rattle.std.proofs.lemmas.List.Elements.{All-nil, All-cons, All-head, All-tail, All-push}
use Rattle.pk_ctypes.specs.declared.places.Pos.{Pos}
use Rattle.pk_ctypes.specs.Places.{start_of_text, after_byte, after_bytes}
use Rattle.pk_lex.specs.declared.token.Kind.TheVariants as kind
use Rattle.pk_lex.specs.declared.token.Token.{Token}
use Rattle.pk_lex.specs.Tokens.{Reads, nothing, past_white, past_token, token_of, IsLexed}
use Rattle.pk_typenames.specs.TypeNames.{IsMarked, AreMarked}
use Rattle.pk_unit_texts.specs.Standing.{IsPlaceIn, IsBounded}
use Rattle.pk_unit_texts.specs.Laws.{PlacesAreBounded}

-- ---- tokens

abbrev AllStand : List ℕ → List Token → Type 0
AllStand text = All (λ (t : Token). IsPlaceIn text t.at)

stands : (text front rest : List ℕ) → front ++ rest ≡ text → IsPlaceIn text (after_bytes start_of_text front)
stands text front rest e = record {
  before = length front;
  within = omega (arith, length-append front rest, ap length e);
  place = ap (after_bytes start_of_text) (sym (ap (take (length front)) (sym e) ∙ take-append_seam front rest));
}

read_stand : (text : List ℕ) {front rest end back : List ℕ} {ts : List Token} → Reads front rest ts end back → front ++ rest ≡ text → AllStand text ts
read_stand text nothing e = All-nil _
read_stand text (past_white {front = front} {piece = piece} {after = after} c w r) e =
    read_stand text r (append_assoc front piece after ∙ (ap (λ (l : List ℕ). front ++ l) (sym c) ∙ e))
read_stand text (past_token {front = front} {rest = rest} {word = word} {after = after} {k = k} {tokens = ts} c t r) e =
    All-cons (λ (u : Token). IsPlaceIn text u.at) (token_of front word k) ts (stands text front rest e) (read_stand text r (append_assoc front word after ∙ (ap (λ (l : List ℕ). front ++ l) (sym c) ∙ e)))

lexed_stand : (text : List ℕ) (ts : List Token) → IsLexed text ts → AllStand text ts
lexed_stand text ts h =
    subst (AllStand text) (sym h.1.0)
    (All-push (λ (u : Token). IsPlaceIn text u.at) h.0 (token_of text [] kind.End) (read_stand text h.1.1 refl) (stands text text [] (append-nil text)))

marked_stands : (text : List ℕ) (front : List Token) (t m : Token) → IsMarked text front t m → IsPlaceIn text t.at → IsPlaceIn text m.at
marked_stands text front t m (inl h) k = subst (λ (u : Token). IsPlaceIn text u.at) (sym h.1) k
marked_stands text front t m (inr h) k = subst (λ (u : Token). IsPlaceIn text u.at) (sym h.1) k

marked_stand : (text : List ℕ) (front ts ms : List Token) → AreMarked text front ts ms → AllStand text ts → AllStand text ms
marked_stand text front [] [] h k = All-nil _
marked_stand text front [] (m ∷ ms) h k = absurd h
marked_stand text front (t ∷ ts) [] h k = absurd h
marked_stand text front (t ∷ ts) (m ∷ ms) h k =
    let Stands = λ (u : Token). IsPlaceIn text u.at in
    All-cons Stands m ms (marked_stands text front t m h.0 (All-head Stands t ts k)) (marked_stand text (front ++ t ∷ []) ts ms h.1 (All-tail Stands t ts k))

pub tokens_stand : (text : List ℕ) (words tokens : List Token) → IsLexed text words → AreMarked text [] words tokens → All (λ (t : Token). IsPlaceIn text t.at) tokens
tokens_stand text words tokens h k = marked_stand text [] words tokens k (lexed_stand text words h)

-- ---- bounds

record IsNext (p q : Pos) : Type 0 where
  pub line : q.line ≤ p.line + 1
  pub column : q.column ≤ p.column + 1

next : (p : Pos) (b : Bool) → IsNext p (if b then record { line = p.line + 1; column = 1 } else record { line = p.line; column = p.column + 1 })
next p true = record { line = omega arith; column = omega arith }
next p false = record { line = omega arith; column = omega arith }

record IsBehind (p q : Pos) (n : ℕ) : Type 0 where
  pub line : q.line ≤ p.line + n
  pub column : q.column ≤ p.column + n

behind : (p : Pos) (bs : List ℕ) → IsBehind p (after_bytes p bs) (length bs)
behind p [] = record { line = omega arith; column = omega arith }
behind p (b ∷ bs) =
    let n = next p (b == 10) in
    let h = behind (after_byte p b) bs in
    record { line = omega (arith, n.line, h.line); column = omega (arith, n.column, h.column) }

pub places_are_bounded : PlacesAreBounded
places_are_bounded text at h =
    let b = behind start_of_text (take h.before text) in
    let few : length (take h.before text) ≤ length text = omega (arith, length-take h.before text) in
    subst (IsBounded text) (sym h.place) (record { line = omega (arith, b.line, few); column = omega (arith, b.column, few) })
