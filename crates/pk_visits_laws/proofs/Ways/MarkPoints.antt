-- The points of the marks that stand in a form: each stands once, and no two have the same.
use Rattle.std.proofs.Common.{◌≡◌, ℕ, zero, suc, ◌+◌, ◌<◌, ◌≤◌, List, length, Bool, true, false, ℤ, refl, sym, ap, ◌∙◌, subst, inl, inr, arith}
use Rattle.pk_welltyped.specs.WellTyped as WellTyped
use Rattle.pk_welltyped.specs.WellTyped.{Marks}
use Rattle.pk_lower_statement.specs.declared.statements.Exits.{Exits}
use Rattle.pk_lower_statement.specs.Statements.{inside, in_switch}
use Rattle.pk_welltyped.specs.Marks as Marks
use Rattle.pk_welltyped.specs.Marks.{one_if}
use Rattle.pk_meaning.specs.Steps.{Mark, labelled, numbered, otherwise}
use Rattle.pk_visits.proofs.Settled.Trees.{mark_point}
use Rattle.pk_visits.proofs.Grows.Statements.{IsMark, point_inside}
use Rattle.pk_visits_laws.proofs.Ways.Loops.{New, ends_of}

-- a point of a mark that stands as often as t says
abbrev pub Stood : Exits → Marks → (Mark → ℕ) → ℕ → Type 0
Stood x m t q = (b : Mark) × IsMark m b × (t b ≡ 0 → ⊥) × (q ≡ mark_point b x)

-- with points before p
pub record AreApart (x : Exits) (m : Marks) (t : Mark → ℕ) (p : ℕ) : Type 0 where
  pub once : (b : Mark) → IsMark m b → t b ≤ 1
  pub apart : (b c : Mark) → IsMark m b → IsMark m c → mark_point b x ≡ mark_point c x → b ≡ c
  pub below : (b : Mark) → IsMark m b → mark_point b x < p

pub apart_part : {x : Exits} {m : Marks} {w : Mark → ℕ} {p : ℕ} (t : Mark → ℕ) (q : ℕ) → ((b : Mark) → t b ≤ w b) → p ≤ q → AreApart x m w p → AreApart x m t q
apart_part t q each le h = record {
  once = λ b is. let i = h.once b is in let j = each b in omega (arith, i, j);
  apart = h.apart;
  below = λ b is. let i = h.below b is in omega (arith, i, le);
}

pub stood_more : {x : Exits} (m : Marks) (t w : Mark → ℕ) → ((b : Mark) → t b ≤ w b) → (q : ℕ) → Stood x m t q → Stood x m w q
stood_more m t w each q (b, is, some, at) = (b, is, (λ e. some (let i = each b in omega (arith, e, i))), at)

pub stood_before : {x : Exits} {m : Marks} {w : Mark → ℕ} {p : ℕ} (t : Mark → ℕ) → AreApart x m w p → (q : ℕ) → Stood x m t q → q < p
stood_before t h q (b, is, some, at) = let i = h.below b is in omega (arith, i, at)

both_stand : (a b : ℕ) → (a ≡ 0 → ⊥) → (b ≡ 0 → ⊥) → a + b ≤ 1 → ⊥
both_stand zero b some more le = some refl
both_stand (suc a) zero some more le = more refl
both_stand (suc a) (suc b) some more le = absurd (omega (arith, le))

pub stood_apart : {x : Exits} {m : Marks} {w : Mark → ℕ} {p : ℕ} (t u : Mark → ℕ) → AreApart x m w p → ((b : Mark) → t b + u b ≤ w b) → (q : ℕ) → Stood x m t q → Stood x m u q → ⊥
stood_apart t u h each q (b, is, some, at) (c, also, more, to) =
    let e = h.apart b c is also (sym at ∙ to) in
    both_stand (t c) (u c) (λ i. some (ap t e ∙ i)) more (let i = each c in let j = h.once c also in omega (arith, i, j))

-- ---- in a loop

pub apart_inside : {x : Exits} {m : Marks} {t : Mark → ℕ} {p : ℕ} (i j : ℕ) → AreApart x m t p → AreApart (inside i j x) m t p
apart_inside {x} {m} {t} {p} i j h = record {
  once = h.once;
  apart = λ b c is also same. h.apart b c is also (sym (point_inside b i j x) ∙ same ∙ point_inside c i j x);
  below = λ b is. subst (λ q. q < p) (sym (point_inside b i j x)) (h.below b is);
}

pub stood_inside : {x : Exits} (m : Marks) (t : Mark → ℕ) (i j q : ℕ) → Stood (inside i j x) m t q → Stood x m t q
stood_inside {x} m t i j q (b, is, some, at) = (b, is, some, at ∙ point_inside b i j x)

-- ---- in a switch

one_small : (b : Bool) → one_if b ≤ 1
one_small true = omega arith
one_small false = omega arith

pub apart_switch : {x : Exits} {m : Marks} {t : Mark → ℕ} {p : ℕ} (zs : List ℤ) (b : Bool) (e q : ℕ) → ((i : ℕ) → i < length zs → t (numbered i) ≡ 1) → t otherwise ≡ one_if b → p ≤ e → e + ends_of zs b ≤ q
    → AreApart x m (λ c. Marks.in_switch c (t c)) p → AreApart (in_switch e (length zs) x) (WellTyped.in_switch (length zs) b m) t q
apart_switch {x} {m} {t} {p} zs b e q each default le room h = record { once = once; apart = apart; below = below } where
  s : Exits
  s = in_switch e (length zs) x

  c : Marks
  c = WellTyped.in_switch (length zs) b m

  once : (a : Mark) → IsMark c a → t a ≤ 1
  once (labelled l) is = h.once (labelled l) is
  once (numbered i) is = let z = each i is in omega (arith, z)
  once otherwise is = let z = one_small b in omega (arith, z, default)

  low : (l : ℕ) → l < m.labels → x.labels + l < e
  low l is = let z = h.below (labelled l) is in omega (arith, z, le)

  with_default : (b : Bool) → b ≡ true → e + ends_of zs b ≤ q → e + 1 + length zs < q
  with_default true is room = omega (arith, room)
  with_default false is room = absurd (grind (arith, is))

  below : (a : Mark) → IsMark c a → mark_point a s < q
  below (labelled l) is = let z = low l is in omega (arith, z, room)
  below (numbered i) is = omega (arith, is, room)
  below otherwise is = with_default b is room

  apart : (a d : Mark) → IsMark c a → IsMark c d → mark_point a s ≡ mark_point d s → a ≡ d
  apart (labelled l) (labelled i) is also same = h.apart (labelled l) (labelled i) is also same
  apart (labelled l) (numbered i) is also same = let z = low l is in absurd (omega (arith, z, same))
  apart (labelled l) otherwise is also same = let z = low l is in absurd (omega (arith, z, same))
  apart (numbered i) (labelled l) is also same = let z = low l also in absurd (omega (arith, z, same))
  apart (numbered i) (numbered j) is also same = ap (λ n. numbered n) (omega (arith, same))
  apart (numbered i) otherwise is also same = absurd (omega (arith, is, same))
  apart otherwise (labelled l) is also same = let z = low l also in absurd (omega (arith, z, same))
  apart otherwise (numbered i) is also same = absurd (omega (arith, also, same))
  apart otherwise otherwise is also same = refl

-- its marks are those around it, or new points behind its end
pub stood_switch : {x : Exits} (m : Marks) (t : Mark → ℕ) (zs : List ℤ) (b : Bool) (e q : ℕ) → Stood (in_switch e (length zs) x) (WellTyped.in_switch (length zs) b m) t q → New (Stood x m (λ c. Marks.in_switch c (t c))) e (ends_of zs b) q
stood_switch m t zs b e q (labelled l, is, some, at) = inl (labelled l, is, some, at)
stood_switch m t zs b e q (numbered i, is, some, at) = inr (omega (arith, at), omega (arith, is, at))
stood_switch m t zs b e q (otherwise, is, some, at) = inr (omega (arith, at), by b is) where
  by : (b : Bool) → b ≡ true → q < e + ends_of zs b
  by true is = omega (arith, at)
  by false is = absurd (grind (arith, is))

pub not_the_end : {x : Exits} {m : Marks} {w : Mark → ℕ} {p : ℕ} (t : Mark → ℕ) (zs : List ℤ) (b : Bool) (e : ℕ) → p ≤ e → AreApart x m w p → Stood (in_switch e (length zs) x) (WellTyped.in_switch (length zs) b m) t e → ⊥
not_the_end t zs b e le h (labelled l, is, some, at) = let i = h.below (labelled l) is in absurd (omega (arith, i, le, at))
not_the_end t zs b e le h (numbered i, is, some, at) = absurd (omega (arith, at))
not_the_end t zs b e le h (otherwise, is, some, at) = absurd (omega (arith, at))
