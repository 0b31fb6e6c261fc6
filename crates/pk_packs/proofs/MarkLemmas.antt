-- Marks of variables.
use Rattle.std.proofs.Common.{◌≡◌, ◌<◌, ◌≤◌, ℕ, refl, ap, ◌∙◌, sym, subst, Bool, true, false, nat_eq, ◌||◌, List, length, slice_index_or, slice_set, ◌⊎◌, inl, inr, arith, length-set, ◌≢◌, ◌+◌, take, replicate}
use Rattle.std.specs.List.{list_any}
use Rattle.std.proofs.Math.Bool.{or_assoc, or-false}
use Rattle.std.proofs.lemmas.Bool.Decides.{eqb_tells}
use Rattle.std.proofs.lemmas.List.{get_or-set_same, get_or-set_other, take_all}
use Rattle.std.proofs.lemmas.List.Folds.{list_any_more}
use Rattle.std.proofs.lemmas.List.{get_or-replicate, length-replicate}
use Rattle.pk_graph.specs.Graphs.{PointOf}
use Rattle.pk_graph.specs.OctagonVariables.{AreMarked, AreMarks, is_asked_in}

pub marked_none : (f : ℕ → Bool) (old : List Bool) → ((x : ℕ) → f x ≡ false) → AreMarked f old old
marked_none f old h = record {
  size = refl;
  each = λ x p. sym (or-false (slice_index_or old x false)) ∙ ap (λ (b : Bool). slice_index_or old x false || b) (sym (h x));
}

pub marked_both : (f g : ℕ → Bool) (a b c : List Bool) → AreMarked f a b → AreMarked g b c → AreMarked (λ x. f x || g x) a c
marked_both f g a b c p q = record {
  size = q.size ∙ p.size;
  each = λ x h.
      q.each x (subst (λ (n : ℕ). x < n) (sym p.size) h)
      ∙ ap (λ (v : Bool). v || g x) (p.each x h)
      ∙ or_assoc (slice_index_or a x false) (f x) (g x);
}

marked_at : (old : List Bool) (y x : ℕ) → y < length old → ((nat_eq x y ≡ true) × (x ≡ y)) ⊎ ((nat_eq x y ≡ false) × (x ≢ y))
    → slice_index_or (slice_set old y true) x false ≡ slice_index_or old x false || nat_eq x y
marked_at old y x h (inl e) =
    ap (λ (k : ℕ). slice_index_or (slice_set old y true) k false) e.1
    ∙ get_or-set_same old y true false h
    ∙ sym (or_true (slice_index_or old x false))
    ∙ ap (λ (b : Bool). slice_index_or old x false || b) (sym e.0)
  where
    or_true : (b : Bool) → (b || true) ≡ true
    or_true true = refl
    or_true false = refl
marked_at old y x h (inr e) =
    get_or-set_other old y x true false e.1
    ∙ sym (or-false (slice_index_or old x false))
    ∙ ap (λ (b : Bool). slice_index_or old x false || b) (sym e.0)

pub marked_one : (old : List Bool) (y : ℕ) → y < length old → AreMarked (λ x. nat_eq x y) old (slice_set old y true)
marked_one old y h = record { size = length-set old y true; each = λ x p. marked_at old y x h (eqb_tells x y) }

far_apart : (x y n : ℕ) → x < n → n ≤ y → ((nat_eq x y ≡ true) × (x ≡ y)) ⊎ ((nat_eq x y ≡ false) × (x ≢ y)) → nat_eq x y ≡ false
far_apart x y n p q (inl e) = absurd (omega (arith, p, q, e.1))
far_apart x y n p q (inr e) = e.0

pub marked_far : (old : List Bool) (y : ℕ) → length old ≤ y → AreMarked (λ x. nat_eq x y) old old
marked_far old y h = record {
  size = refl;
  each = λ x p. sym (or-false (slice_index_or old x false)) ∙ ap (λ (b : Bool). slice_index_or old x false || b) (sym (far_apart x y (length old) p h (eqb_tells x y)));
}

pub marked_same : (f g : ℕ → Bool) (a b : List Bool) → ((x : ℕ) → f x ≡ g x) → AreMarked f a b → AreMarked g a b
marked_same f g a b e h = record { size = h.size; each = λ x p. h.each x p ∙ ap (λ (v : Bool). slice_index_or a x false || v) (e x) }

-- marks by a list, item by item
pub marked_begin : {E : Type 0} (f : ℕ → E → Bool) (xs : List E) (a : List Bool) → AreMarked (λ x. list_any (f x) (take 0 xs)) a a
marked_begin f xs a = marked_none (λ x. list_any (f x) (take 0 xs)) a (λ x. refl)

pub marked_next : {E : Type 0} (f : ℕ → E → Bool) (xs : List E) (i : ℕ) (d : E) (a b c : List Bool) → i < length xs
    → AreMarked (λ x. list_any (f x) (take i xs)) a b → AreMarked (λ x. f x (slice_index_or xs i d)) b c → AreMarked (λ x. list_any (f x) (take (i + 1) xs)) a c
marked_next f xs i d a b c h p q =
    marked_same (λ x. list_any (f x) (take i xs) || f x (slice_index_or xs i d)) (λ x. list_any (f x) (take (i + 1) xs)) a c
    (λ x. sym (list_any_more (f x) xs i d h))
    (marked_both (λ x. list_any (f x) (take i xs)) (λ x. f x (slice_index_or xs i d)) a b c p q)

pub marked_end : {E : Type 0} (f : ℕ → E → Bool) (xs : List E) (i : ℕ) (a b : List Bool) → length xs ≤ i
    → AreMarked (λ x. list_any (f x) (take i xs)) a b → AreMarked (λ x. list_any (f x) xs) a b
marked_end f xs i a b h p = marked_same (λ x. list_any (f x) (take i xs)) (λ x. list_any (f x) xs) a b (λ x. ap (list_any (f x)) (take_all i xs h)) p

-- marks that began with none
pub marks_of : (ps : List PointOf) (n : ℕ) (first marks : List Bool) → first ≡ replicate n false → AreMarked (λ x. is_asked_in x ps) first marks → AreMarks ps n marks
marks_of ps n first marks e h =
    let long : length first ≡ n = ap length e ∙ length-replicate n false in
    record {
      size = h.size ∙ long;
      each = λ x p.
          h.each x (subst (λ (k : ℕ). x < k) (sym long) p)
          ∙ ap (λ (l : List Bool). slice_index_or l x false || is_asked_in x ps) e
          ∙ ap (λ (b : Bool). b || is_asked_in x ps) (get_or-replicate n x false false p);
    }
