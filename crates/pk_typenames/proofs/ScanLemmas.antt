-- Tokens that were looked through.
use Rattle.std.proofs.Common.{◌≡◌, ◌↔◌, ◌⊎◌, ℕ, inl, inr, List, [], ◌∷◌, ◌++◌, Option, Some, None, Bool, true, false, is_some, ◌&&◌, if◌then◌else◌, refl, sym, ap, subst, ◌∙◌, append_assoc}
use Rattle.std.proofs.lemmas.List.{append-nil}
use Rattle.std.proofs.lemmas.Slice.Eq.{bytes_eq-Decides}
use Rattle.std.specs.Str.{bytes_eq}
use Rattle.pk_lex.specs.declared.token.Token.{Token}
use Rattle.pk_lex.specs.declared.token.Kind.TheVariants as kind
use Rattle.pk_lex.specs.declared.token.Keyword.TheVariants as key
use Rattle.pk_lex.specs.declared.token.Punctuator.TheVariants as mark
use Rattle.pk_constructs.specs.Constructs.{BraceStep, BracesAfter}
use Rattle.pk_constructs.proofs.ScanLemmas.{one_depth, one_brace_more}
use Rattle.pk_typenames.specs.TypeNames.{spelled, InTypedef, EndsInName, IsEnd, IsDeclared, IsTypeName, as_type_name, IsMarked, AreMarked}
use Rattle.pk_typenames.specs.Spellings.{Layer, noted}
use Rattle.pk_typenames.specs.Steps.{OpenStep, pending_after}

no_cut : (xs ys : List Token) (x : Token) → [] ≡ xs ++ x ∷ ys → ⊥
no_cut [] ys x e = absurd (cc)
no_cut (a ∷ xs) ys x e = absurd (cc)

-- where a list that ends in t is cut: before t, or earlier
abbrev CutAt : List Token → List Token → List Token → Token → Token → Type 0
CutAt xs ys front x t = ((ys ≡ []) × (xs ≡ front) × (x ≡ t)) ⊎ ((more : List Token) × (ys ≡ more ++ t ∷ []) × (front ≡ xs ++ x ∷ more))

cut_behind : (xs ys front : List Token) (x t a f : Token) → a ≡ f → CutAt xs ys front x t → CutAt (a ∷ xs) ys (f ∷ front) x t
cut_behind xs ys front x t a f s (inl h) = inl (h.0, cc, h.2)
cut_behind xs ys front x t a f s (inr h) = inr (h.0, h.1, cc)

cut_at : (xs ys front : List Token) (x t : Token) → xs ++ x ∷ ys ≡ front ++ t ∷ [] → CutAt xs ys front x t
cut_at [] ys [] x t e = inl (cc, refl, cc)
cut_at [] ys (f ∷ fs) x t e = inr (fs, cc, cc)
cut_at (a ∷ xs) ys [] x t e =
    let none : xs ++ x ∷ ys ≡ [] = cc in
    absurd (no_cut xs ys x (sym none))
cut_at (a ∷ xs) ys (f ∷ fs) x t e =
    let rest : xs ++ x ∷ ys ≡ fs ++ t ∷ [] = cc in
    let same : a ≡ f = cc in
    cut_behind xs ys fs x t a f same (cut_at xs ys fs x t rest)

-- one token more
module _ (front : List Token) (t : Token) (n : ℕ) (depth : BracesAfter front 0 n) where
  is_outside : n ≡ 0 → BracesAfter front 0 0
  is_outside z = subst (λ m. BracesAfter front 0 m) z depth

  is_zero : (other : List Token) → other ≡ front → BracesAfter other 0 0 → n ≡ 0
  is_zero other e h = one_depth front 0 n 0 depth (subst (λ q. BracesAfter q 0 0) e h)

  opens : t.kind ≡ kind.Keyword key.Typedef → n ≡ 0 → InTypedef (front ++ t ∷ [])
  opens k z = record {
    before = front;
    word = t;
    since = [];
    cut = refl;
    is = k;
    outside = is_outside z;
    unended = λ some more u e l o. no_cut some more u e;
  }

  not_ended : t.kind ≡ kind.Punctuator mark.Semicolon → n ≡ 0 → (p : InTypedef (front ++ t ∷ [])) → CutAt p.before p.since front p.word t → ⊥
  not_ended k z p (inl h) = let is = p.is in let same = h.2 in absurd (cc)
  not_ended k z p (inr h) = p.unended h.0 [] t h.1 k (subst (λ q. BracesAfter q 0 0) h.2 (is_outside z))

  ended : t.kind ≡ kind.Punctuator mark.Semicolon → n ≡ 0 → InTypedef (front ++ t ∷ []) → ⊥
  ended k z p = not_ended k z p (cut_at p.before p.since front p.word t (sym p.cut))

  module _ (no_end : t.kind ≡ kind.Punctuator mark.Semicolon → n ≡ 0 → ⊥) (p : InTypedef front) where
    no_end_in : (some more : List Token) (u : Token) → u.kind ≡ kind.Punctuator mark.Semicolon → BracesAfter (p.before ++ p.word ∷ some) 0 0 → CutAt some more p.since u t → ⊥
    no_end_in some more u k o (inl h) =
        let there : p.before ++ p.word ∷ some ≡ front = ap (λ q. p.before ++ p.word ∷ q) h.1 ∙ sym p.cut in
        let same = h.2 in
        let ends : t.kind ≡ kind.Punctuator mark.Semicolon = cc in
        no_end ends (is_zero _ there o)
    no_end_in some more u k o (inr h) = p.unended some h.0 u h.2 k o

    stays : InTypedef (front ++ t ∷ [])
    stays = record {
      before = p.before;
      word = p.word;
      since = p.since ++ t ∷ [];
      cut = ap (λ q. q ++ t ∷ []) p.cut ∙ append_assoc p.before (p.word ∷ p.since) (t ∷ []);
      is = p.is;
      outside = p.outside;
      unended = λ some more u e k o. no_end_in some more u k o (cut_at some more p.since u t (sym e));
    }

  was_at : (t.kind ≡ kind.Keyword key.Typedef → n ≡ 0 → ⊥) → (p : InTypedef (front ++ t ∷ [])) → CutAt p.before p.since front p.word t → InTypedef front
  was_at no_word p (inl h) =
      let same = h.2 in
      let is = p.is in
      let word : t.kind ≡ kind.Keyword key.Typedef = cc in
      absurd (no_word word (is_zero p.before h.1 p.outside))
  was_at no_word p (inr h) = record {
    before = p.before;
    word = p.word;
    since = h.0;
    cut = h.2;
    is = p.is;
    outside = p.outside;
    unended = λ some more u e k o. p.unended some (more ++ t ∷ []) u (h.1 ∙ ap (λ q. q ++ t ∷ []) e ∙ append_assoc some (u ∷ more) (t ∷ [])) k o;
  }

  was_open : (t.kind ≡ kind.Keyword key.Typedef → n ≡ 0 → ⊥) → InTypedef (front ++ t ∷ []) → InTypedef front
  was_open no_word p = was_at no_word p (cut_at p.before p.since front p.word t (sym p.cut))

  open_more : (outside was after : Bool) → ((outside ≡ true) ↔ (n ≡ 0)) → OpenStep t.kind outside was after → ((was ≡ true) ↔ InTypedef front) → (after ≡ true) ↔ InTypedef (front ++ t ∷ [])
  open_more outside was after z (inl h) d = (λ e. opens h.0 (z.0 h.1), λ p. h.2)
  open_more outside was after z (inr (inl h)) d = (λ e. absurd (cc), λ p. absurd (ended h.0 (z.0 h.1) p))
  open_more outside was after z (inr (inr (inl h))) d = (
    λ e. stays (λ k m. let o = z.1 m in let f = h.0 in absurd (cc)) (d.0 (sym h.1 ∙ e)),
    λ p. h.1 ∙ d.1 (was_open (λ k m. let o = z.1 m in let f = h.0 in absurd (cc)) p),
  )
  open_more outside was after z (inr (inr (inr h))) d = (
    λ e. stays (λ k m. h.1 k) (d.0 (sym h.2 ∙ e)),
    λ p. h.2 ∙ d.1 (was_open (λ k m. h.0 k) p),
  )

  module _ (text : List ℕ) where
    ends_in_name : (name : List ℕ) → spelled text t ≡ name → (q : List ℕ) → t.kind ≡ kind.Name → InTypedef front → n ≡ 0 → name ≡ q → EndsInName text (front ++ t ∷ []) q
    ends_in_name name s q k p z e = record {
      before = front;
      name = t;
      cut = refl;
      is = k;
      inside = p;
      outside = is_outside z;
      same = s ∙ e;
    }

    record LastIs (q : List ℕ) : Type 0 where
      pub kind_is : t.kind ≡ kind.Name
      pub inside : InTypedef front
      pub zero : n ≡ 0
      pub same : spelled text t ≡ q

    last_at : (q : List ℕ) (p : EndsInName text (front ++ t ∷ []) q) → CutAt p.before [] front p.name t → LastIs q
    last_at q p (inl h) = record {
      kind_is = subst (λ (u : Token). u.kind ≡ kind.Name) h.2 p.is;
      inside = subst InTypedef h.1 p.inside;
      zero = is_zero p.before h.1 p.outside;
      same = subst (λ (u : Token). spelled text u ≡ q) h.2 p.same;
    }
    last_at q p (inr h) = absurd (no_cut h.0 [] t h.1)

    last_is : (q : List ℕ) → EndsInName text (front ++ t ∷ []) q → LastIs q
    last_is q p = last_at q p (cut_at p.before [] front p.name t (sym p.cut))

    pending_at : (named within outside : Bool) (name : List ℕ) → spelled text t ≡ name → ((named ≡ true) ↔ (t.kind ≡ kind.Name)) → ((within ≡ true) ↔ InTypedef front) → ((outside ≡ true) ↔ (n ≡ 0)) → (q : List ℕ)
        → (pending_after (named && within && outside) name ≡ Some q) ↔ EndsInName text (front ++ t ∷ []) q
    pending_at true true true name s k w z q = (λ e. ends_in_name name s q (k.0 refl) (w.0 refl) (z.0 refl) (cc), λ p. let l = last_is q p in let m = l.same in ap Some (sym s ∙ m))
    pending_at true true false name s k w z q = (λ e. absurd (cc), λ p. let l = last_is q p in let f = z.1 l.zero in absurd (cc))
    pending_at true false outside name s k w z q = (λ e. absurd (cc), λ p. let l = last_is q p in let f = w.1 l.inside in absurd (cc))
    pending_at false within outside name s k w z q = (λ e. absurd (cc), λ p. let l = last_is q p in let f = k.1 l.kind_is in absurd (cc))

    -- the spellings that were declared
    declared_more : (q : List ℕ) → IsDeclared text front q → IsDeclared text (front ++ t ∷ []) q
    declared_more q p = record {
      before = p.before;
      sign = p.sign;
      since = p.since ++ t ∷ [];
      cut = ap (λ r. r ++ t ∷ []) p.cut ∙ append_assoc p.before (p.sign ∷ p.since) (t ∷ []);
      name = p.name;
      ends = p.ends;
    }

    declared_here : (q : List ℕ) → EndsInName text front q → IsEnd t.kind → IsDeclared text (front ++ t ∷ []) q
    declared_here q p e = record { before = front; sign = t; since = []; cut = refl; name = p; ends = e }

    which : (q : List ℕ) (p : IsDeclared text (front ++ t ∷ []) q) → CutAt p.before p.since front p.sign t → (EndsInName text front q × IsEnd t.kind) ⊎ IsDeclared text front q
    which q p (inl h) = inl (subst (λ r. EndsInName text r q) h.1 p.name, subst (λ (u : Token). IsEnd u.kind) h.2 p.ends)
    which q p (inr h) = inr (record { before = p.before; sign = p.sign; since = h.0; cut = h.2; name = p.name; ends = p.ends })

    declared_which : (q : List ℕ) → IsDeclared text (front ++ t ∷ []) q → (EndsInName text front q × IsEnd t.kind) ⊎ IsDeclared text front q
    declared_which q p = which q p (cut_at p.before p.since front p.sign t (sym p.cut))

    -- a spelling that is noted, or was
    noted_name : (l : Layer) (name q : List ℕ) → EndsInName text front name → IsEnd t.kind → (is_some (l q) ≡ true → IsDeclared text front q) → (b : Bool) → bytes_eq name q ≡ b →
        is_some (if b then Some true else l q) ≡ true → IsDeclared text (front ++ t ∷ []) q
    noted_name l name q p e d true same f = declared_here q (subst (EndsInName text front) ((bytes_eq-Decides name q).0 same) p) e
    noted_name l name q p e d false same f = declared_more q (d f)

    some_if : (l : Layer) (q : List ℕ) (b : Bool) → is_some (l q) ≡ true → is_some (if b then Some true else l q) ≡ true
    some_if l q true h = refl
    some_if l q false h = h

    some_same : (l : Layer) (q : List ℕ) (b : Bool) → b ≡ true → is_some (if b then Some true else l q) ≡ true
    some_same l q true h = refl
    some_same l q false h = absurd (cc)

    module _ (l : Layer) (d : (q : List ℕ) → (is_some (l q) ≡ true) ↔ IsDeclared text front q) where
      module _ (e : Bool) (k : (e ≡ true) ↔ IsEnd t.kind) (o : Option (List ℕ)) (p : (q : List ℕ) → (o ≡ Some q) ↔ EndsInName text front q) where
        noted_to : (f : Bool) → e ≡ f → (r : Option (List ℕ)) → o ≡ r → (q : List ℕ) → is_some (noted l f r q) ≡ true → IsDeclared text (front ++ t ∷ []) q
        noted_to f g None s q h = declared_more q ((d q).0 h)
        noted_to false g (Some name) s q h = declared_more q ((d q).0 h)
        noted_to true g (Some name) s q h = noted_name l name q ((p name).0 s) (k.0 g) ((d q).0) (bytes_eq name q) refl h

        kept : (f : Bool) (r : Option (List ℕ)) (q : List ℕ) → is_some (l q) ≡ true → is_some (noted l f r q) ≡ true
        kept f None q h = h
        kept false (Some name) q h = h
        kept true (Some name) q h = some_if l q (bytes_eq name q) h

        new : (f : Bool) (r : Option (List ℕ)) (q : List ℕ) → f ≡ true → r ≡ Some q → is_some (noted l f r q) ≡ true
        new f None q g s = absurd (cc)
        new false (Some name) q g s = absurd (cc)
        new true (Some name) q g s = let same : name ≡ q = cc in some_same l q (bytes_eq name q) ((bytes_eq-Decides name q).1 same)

        noted_from : (q : List ℕ) → (EndsInName text front q × IsEnd t.kind) ⊎ IsDeclared text front q → is_some (noted l e o q) ≡ true
        noted_from q (inl h) = new e o q (k.1 h.1) ((p q).1 h.0)
        noted_from q (inr h) = kept e o q ((d q).1 h)

        layer_at : (m : Layer) → ((q : List ℕ) → m q ≡ noted l e o q) → (q : List ℕ) → (is_some (m q) ≡ true) ↔ IsDeclared text (front ++ t ∷ []) q
        layer_at m same q = (
          λ h. noted_to e refl o refl q (ap is_some (sym (same q)) ∙ h),
          λ h. ap is_some (same q) ∙ noted_from q (declared_which q h),
        )

      -- whether the token itself is a type name
      word_at : (named known : Bool) → ((named ≡ true) ↔ (t.kind ≡ kind.Name)) → known ≡ is_some (l (spelled text t)) → ((named && known) ≡ true) ↔ IsTypeName text front t
      word_at true known h k = (λ e. (h.0 refl, (d _).0 (sym k ∙ e)), λ w. k ∙ (d _).1 w.1)
      word_at false known h k = (λ e. absurd (cc), λ w. absurd (let f = h.1 w.0 in cc))

  -- and how it is marked
  marked_at : (text : List ℕ) (b : Bool) → ((b ≡ true) ↔ IsTypeName text front t) → IsMarked text front t (if b then as_type_name t else t)
  marked_at text true h = inl (h.0 refl, refl)
  marked_at text false h = inr (λ w. absurd (let f = h.1 w in cc), refl)

marked_more : (text : List ℕ) (front ts ms : List Token) (t m : Token) → AreMarked text front ts ms → IsMarked text (front ++ ts) t m → AreMarked text front (ts ++ t ∷ []) (ms ++ m ∷ [])
marked_more text front [] [] t m g h = (subst (λ q. IsMarked text q t m) (append-nil front) h, tt)
marked_more text front [] (n ∷ ms) t m g h = absurd g
marked_more text front (u ∷ ts) [] t m g h = absurd g
marked_more text front (u ∷ ts) (n ∷ ms) t m g h =
    (g.0, marked_more text (front ++ u ∷ []) ts ms t m g.1 (subst (λ q. IsMarked text q t m) (sym (append_assoc front (u ∷ []) ts)) h))

-- what was read, what was kept of it, and how it is marked
pub record Scanned (text : List ℕ) (front marks : List Token) (l : Layer) (braces : ℕ) (within : Bool) (pending : Option (List ℕ)) : Type 0 where
  pub depth : BracesAfter front 0 braces
  pub inside : (within ≡ true) ↔ InTypedef front
  pub name : (q : List ℕ) → (pending ≡ Some q) ↔ EndsInName text front q
  pub declared : (q : List ℕ) → (is_some (l q) ≡ true) ↔ IsDeclared text front q
  pub marked : AreMarked text [] front marks

pub scanned_none : (text : List ℕ) (l : Layer) → ((q : List ℕ) → l q ≡ None) → Scanned text [] [] l 0 false None
scanned_none text l none = record {
  depth = refl;
  inside = (λ e. absurd (cc), λ p. absurd (no_cut p.before p.since p.word p.cut));
  name = λ q. (λ e. absurd (cc), λ p. absurd (no_cut p.before [] p.name p.cut));
  declared = λ q. (λ e. let n = none q in absurd (cc), λ p. absurd (no_cut p.before p.since p.sign p.cut));
  marked = tt;
}

pub scanned_more : (text : List ℕ) (front marks : List Token) (l : Layer) (braces : ℕ) (within : Bool) (pending : Option (List ℕ)) → Scanned text front marks l braces within pending →
    (t : Token) (name : List ℕ) → name ≡ spelled text t → (named : Bool) → ((named ≡ true) ↔ (t.kind ≡ kind.Name)) → (known : Bool) → known ≡ (named && is_some (l name)) →
    (ends : Bool) → ((ends ≡ true) ↔ IsEnd t.kind) → (m : Layer) → ((q : List ℕ) → m q ≡ noted l ends pending q) →
    (outside : Bool) → ((outside ≡ true) ↔ (braces ≡ 0)) → (next : Option (List ℕ)) → next ≡ pending_after (named && within && outside) name →
    (now : Bool) → OpenStep t.kind outside within now → (depth : ℕ) → BraceStep t.kind braces depth →
    (marked : Token) → marked ≡ (if known then as_type_name t else t) → Scanned text (front ++ t ∷ []) (marks ++ marked ∷ []) m depth now next
scanned_more text front marks l braces within pending s t name spelling named is_named known is_known ends is_ending m same outside is_out next is_next now step depth brace marked is_marked = record {
  depth = one_brace_more front t 0 braces depth s.depth brace;
  inside = open_more front t braces s.depth outside within now is_out step s.inside;
  name = λ q. subst (λ (o : Option (List ℕ)). (o ≡ Some q) ↔ EndsInName text (front ++ t ∷ []) q) (sym is_next) (pending_at front t braces s.depth text named within outside name (sym spelling) is_named s.inside is_out q);
  declared = layer_at front t braces s.depth text l s.declared ends is_ending pending s.name m same;
  marked =
      let word : (known ≡ true) ↔ IsTypeName text front t =
      subst (λ (b : Bool). (b ≡ true) ↔ IsTypeName text front t) (sym is_known) (word_at front t braces s.depth text l s.declared named (is_some (l name)) is_named (ap (λ q. is_some (l q)) spelling)) in
      marked_more text [] front marks t marked s.marked (subst (IsMarked text front t) (sym is_marked) (marked_at front t braces s.depth text known word));
}
