-- END alone has no successor.
use Rattle.std.proofs.Common.{◌≡◌, ℕ, ◌<◌, ◌==◌, true, false, length, get_or, arith, inl, inr, ◌∙◌}
use Rattle.std.proofs.lemmas.Bool.{cases_lt}
use Rattle.std.proofs.lemmas.Bool.Decides.{eqb_tells}
use Rattle.std.proofs.lemmas.List.Elements.{Contains-get_or}
use Rattle.pk_plan.specs.Plans.{PlanView, end_of, successors_of, Precedes, One, More}
use Rattle.pk_plan.specs.Axioms.{Axioms}

first_step : (p : PlanView) (a b : ℕ) → Precedes p a b → 0 < length (successors_of p a)
first_step p a b (One c) = omega (arith, c.1)
first_step p a c (More {b = b} before one) = first_step p a b before

pub is_end : (p : PlanView) (e : ℕ) → Axioms p → e < p.elements → length (successors_of p e) ≡ 0 → e ≡ end_of p
is_end p e axioms below none = elim (cases_lt e (end_of p)) [
  | inl before ↦ absurd (let some = first_step p e (end_of p) (axioms.before_end e before) in omega (arith, some, none))
  | inr after ↦ omega (arith, after, below, axioms.counted)
]

pub has_none : (p : PlanView) → Axioms p → length (successors_of p (end_of p)) ≡ 0
has_none p axioms = elim (cases_lt 0 (length (successors_of p (end_of p)))) [
  | inl some ↦ absurd (axioms.end_is_last (get_or (successors_of p (end_of p)) 0 0) (Contains-get_or (successors_of p (end_of p)) 0 0 some))
  | inr none ↦ omega (arith, none)
]

pub empty_is : (n : ℕ) → true ≡ (n == 0) → n ≡ 0
empty_is n h = elim (eqb_tells n 0) [ inl same ↦ same.1 | inr other ↦ absurd (let is : true ≡ false = h ∙ other.0 in cc) ]

pub some_is : (n : ℕ) → false ≡ (n == 0) → n ≡ 0 → ⊥
some_is n h e = elim (eqb_tells n 0) [ inl same ↦ absurd (let is : false ≡ true = h ∙ same.0 in cc) | inr other ↦ other.1 e ]
