-- How far a text goes as a piece, of all texts of that piece.
use Rattle.std.proofs.Common.{◌≡◌, ◌⊎◌, inl, inr, ⊎_elim, ℕ, ◌≤◌, ◌<◌, List, [], ◌∷◌, ◌++◌, length, refl, sym, ap, subst, ◌∙◌, Bool, true, false, arith, append_assoc, length-append}
use Rattle.std.proofs.lemmas.Bool.{cases_lt}
use Rattle.pk_wrong_byte.specs.Pieces.{ReachedOf, reached}
use Rattle.pk_wrong_byte_laws.proofs.Alike.{Apart, longer_of, cancelled}

-- one behind the other
pub record Then (P Q : List ℕ → Type 0) (text : List ℕ) : Type 0 where
  pub first : List ℕ
  pub second : List ℕ
  pub is_first : P first
  pub is_second : Q second
  pub joined : text ≡ first ++ second

pub record Beginning (P : List ℕ → Type 0) (front : List ℕ) : Type 0 where
  pub more : List ℕ
  pub whole : P (front ++ more)

-- What stands in front begins a text of the piece, and is one where the pieces are whole. A text of the piece, and what may
-- stand behind it, agree with the text no further; or the text has that one in front.
pub record Goes (P : List ℕ → Type 0) (test : ℕ → Bool) (text : List ℕ) (r : ReachedOf) : Type 0 where
  pub front : List ℕ
  pub split : text ≡ front ++ r.rest
  pub begins : Beginning P front
  pub whole : r.is_open ≡ true → P front
  pub furthest : (u w x y same : List ℕ) → P u → Apart test w → u ++ w ≡ same ++ x → text ≡ same ++ y →
      (length same ≤ length front) ⊎ ((r.is_open ≡ true) × (u ≡ front))

pub then_is : {P Q : List ℕ → Type 0} (text : List ℕ) (h : Then P Q text) (a b : List ℕ) → h.first ≡ a → h.second ≡ b → text ≡ a ++ b
then_is text h a b e f = h.joined ∙ ap (λ (t : List ℕ). t ++ h.second) e ∙ ap (λ (t : List ℕ). a ++ t) f

-- ---- the same texts otherwise told

pub retold : (P Q : List ℕ → Type 0) (test : ℕ → Bool) (text : List ℕ) (r : ReachedOf) → ((u : List ℕ) → P u → Q u) → ((u : List ℕ) → Q u → P u) →
    Goes P test text r → Goes Q test text r
retold P Q test text r there back g = record {
  front = g.front;
  split = g.split;
  begins = record { more = g.begins.more; whole = there (g.front ++ g.begins.more) g.begins.whole };
  whole = λ o. there g.front (g.whole o);
  furthest = λ u w x y same h. g.furthest u w x y same (back u h);
}

-- ---- one piece behind another

abbrev pub HasBehind : (ℕ → Bool) → (List ℕ → Type 0) → (ℕ → Bool) → Type 0
HasBehind test Q behind = (b w : List ℕ) → Q b → Apart behind w → Apart test (b ++ w)

pub closed_seq : (P Q : List ℕ → Type 0) (test behind : ℕ → Bool) (text : List ℕ) (r s : ReachedOf) → Goes P test text r → r.is_open ≡ false →
    s ≡ reached r.rest false → (some : List ℕ) → Q some → HasBehind test Q behind → Goes (Then P Q) behind text s
closed_seq P Q test behind text r s g closed e some is_some apart = record {
  front = g.front;
  split = g.split ∙ ap (λ (t : ReachedOf). g.front ++ t.rest) (sym e);
  begins = record {
    more = g.begins.more ++ some;
    whole = record {
      first = g.front ++ g.begins.more;
      second = some;
      is_first = g.begins.whole;
      is_second = is_some;
      joined = sym (append_assoc g.front g.begins.more some);
    };
  };
  whole = λ o. let both : true ≡ false = sym o ∙ ap (λ (t : ReachedOf). t.is_open) e in absurd (cc both);
  furthest = λ u w x y same h a e f. ⊎_elim inl
      (λ both. let no : true ≡ false = sym both.0 ∙ closed in absurd (cc no))
      (g.furthest h.first (h.second ++ w) x y same h.is_first (apart h.second w h.is_second a) (sym (append_assoc h.first h.second w) ∙ ap (λ (t : List ℕ). t ++ w) (sym h.joined) ∙ e) f);
}

pub open_seq : (P Q : List ℕ → Type 0) (test behind : ℕ → Bool) (text : List ℕ) (r s : ReachedOf) → Goes P test text r → r.is_open ≡ true →
    Goes Q behind r.rest s → HasBehind test Q behind → Goes (Then P Q) behind text s
open_seq P Q test behind text r s g open_there next apart = record {
  front = g.front ++ next.front;
  split = g.split ∙ ap (λ (t : List ℕ). g.front ++ t) next.split ∙ sym (append_assoc g.front next.front s.rest);
  begins = record {
    more = next.begins.more;
    whole = record {
      first = g.front;
      second = next.front ++ next.begins.more;
      is_first = g.whole open_there;
      is_second = next.begins.whole;
      joined = append_assoc g.front next.front next.begins.more;
    };
  };
  whole = λ o. record { first = g.front; second = next.front; is_first = g.whole open_there; is_second = next.whole o; joined = refl };
  furthest = λ u w x y same h a e f.
      let whole : h.first ++ (h.second ++ w) ≡ same ++ x = sym (append_assoc h.first h.second w) ∙ ap (λ (t : List ℕ). t ++ w) (sym h.joined) ∙ e in
      ⊎_elim (λ n. inl (omega (arith, n, length-append g.front next.front)))
      (λ both. behind_first u w x y same h a whole f both.1 (cases_lt (length g.front) (length same)))
      (g.furthest h.first (h.second ++ w) x y same h.is_first (apart h.second w h.is_second a) whole f);
}
  where
    joined_both : (u : List ℕ) (h : Then P Q u) → h.first ≡ g.front → h.second ≡ next.front → u ≡ g.front ++ next.front
    joined_both u h e f = h.joined ∙ ap (λ (t : List ℕ). t ++ h.second) e ∙ ap (λ (t : List ℕ). g.front ++ t) f

    behind_first : (u w x y same : List ℕ) (h : Then P Q u) → Apart behind w → h.first ++ (h.second ++ w) ≡ same ++ x → text ≡ same ++ y →
        h.first ≡ g.front → (length g.front < length same) ⊎ (length same ≤ length g.front) →
        (length same ≤ length (g.front ++ next.front)) ⊎ ((s.is_open ≡ true) × (u ≡ g.front ++ next.front))
    behind_first u w x y same h a e f is (inr n) = inl (omega (arith, n, length-append g.front next.front))
    behind_first u w x y same h a e f is (inl n) =
        let l = longer_of g.front (h.second ++ w) same x (ap (λ (t : List ℕ). t ++ (h.second ++ w)) (sym is) ∙ e) (omega (arith, n)) in
        let back : g.front ++ r.rest ≡ g.front ++ (l.more ++ y) =
        sym g.split ∙ f ∙ ap (λ (t : List ℕ). t ++ y) l.longer ∙ append_assoc g.front l.more y in
        ⊎_elim (λ k. inl (omega (arith, k, length-append g.front next.front, ap length l.longer, length-append g.front l.more)))
        (λ both. inr (both.0, joined_both u h is both.1))
        (next.furthest h.second w x y l.more h.is_second a l.rest (cancelled g.front r.rest (l.more ++ y) back))

-- A piece: of what isn't whole it reads nothing.
pub record IsPiece (P : List ℕ → Type 0) (test : ℕ → Bool) (f : ReachedOf → ReachedOf) : Type 0 where
  pub closed : (text : List ℕ) → f (reached text false) ≡ reached text false
  pub goes : (text : List ℕ) → Goes P test text (f (reached text true))

pub eta : (P : List ℕ → Type 0) (test : ℕ → Bool) (g : ReachedOf → ReachedOf) (r : ReachedOf) (is_open : Bool) → is_open ≡ r.is_open →
    Goes P test r.rest (g (reached r.rest is_open)) → Goes P test r.rest (g r)
eta P test g r is_open e h = subst (λ (t : Bool). Goes P test r.rest (g (reached r.rest t))) e h

pub seq : (P Q : List ℕ → Type 0) (test behind : ℕ → Bool) (f g : ReachedOf → ReachedOf) → IsPiece P test f → IsPiece Q behind g →
    HasBehind test Q behind → IsPiece (Then P Q) behind (λ r. g (f r))
seq P Q test behind f g p q apart = record {
  closed = λ text. ap g (p.closed text) ∙ q.closed text;
  goes = λ text. by_open text (f (reached text true)).is_open refl;
}
  where
    by_open : (text : List ℕ) (t : Bool) → t ≡ (f (reached text true)).is_open → Goes (Then P Q) behind text (g (f (reached text true)))
    by_open text true e =
        let r = f (reached text true) in
        open_seq P Q test behind text r (g r) (p.goes text) (sym e) (eta Q behind g r true e (q.goes r.rest)) apart
    by_open text false e =
        let r = f (reached text true) in
        let some = (q.goes []).begins in
        closed_seq P Q test behind text r (g r) (p.goes text) (sym e) (ap (λ (t : Bool). g (reached r.rest t)) (sym e) ∙ q.closed r.rest)
        ((q.goes []).front ++ some.more) some.whole apart

pub retold_piece : (P Q : List ℕ → Type 0) (test : ℕ → Bool) (f : ReachedOf → ReachedOf) → ((u : List ℕ) → P u → Q u) → ((u : List ℕ) → Q u → P u) →
    IsPiece P test f → IsPiece Q test f
retold_piece P Q test f there back p = record {
  closed = p.closed;
  goes = λ text. retold P Q test text (f (reached text true)) there back (p.goes text);
}

-- ---- what may stand behind

abbrev pub nothing : ℕ → Bool
nothing b = false

apart_from_nothing : (w : List ℕ) → Apart nothing w
apart_from_nothing [] = tt
apart_from_nothing (b ∷ w) = refl

pub after_literal : (Q : List ℕ → Type 0) (behind : ℕ → Bool) → HasBehind nothing Q behind
after_literal Q behind b w h a = apart_from_nothing (b ++ w)

pub literal_next : (test : ℕ → Bool) (c : ℕ) (l : List ℕ) (Q : List ℕ → Type 0) (behind : ℕ → Bool) → test c ≡ false →
    HasBehind test (Then (λ u. u ≡ c ∷ l) Q) behind
literal_next test c l Q behind e b w h a =
    subst (λ (t : List ℕ). Apart test (t ++ w)) (sym (then_is b h (c ∷ l) h.second h.is_first refl)) e

pub literal_last : (test : ℕ → Bool) (c : ℕ) (l : List ℕ) (behind : ℕ → Bool) → test c ≡ false → HasBehind test (λ u. u ≡ c ∷ l) behind
literal_last test c l behind e b w h a = subst (λ (t : List ℕ). Apart test (t ++ w)) (sym h) e
