-- How a board begins, and lists that grow at their end.
use Rattle.std.proofs.Common.{◌≡◌, ℕ, zero, suc, ◌+◌, ◌<◌, ◌≤◌, List, [], ◌∷◌, ◌++◌, length, get_or, true, refl, sym, ap, subst, ◌∙◌, ◌⊎◌, inl, inr, arith, length-append, All}
use Rattle.std.proofs.lemmas.Bool.{cases_lt}
use Rattle.std.proofs.lemmas.List.{get_or_append_left, get_or-append-add}
use Rattle.std.proofs.lemmas.List.Elements.{All-push}
use mathlib.Core.Option.{some}
use lib.ListN.{get_elem?}
use Rattle.atomic_table.specs.Seated.{TableId}
use Rattle.pk_plan.specs.Axioms.{Axioms}
use Rattle.pk_plan.specs.Plans.{PlanView}
use Rattle.pk_iterate.specs.Behaviour.{Behaviour}
use Rattle.pk_iterate.specs.Fits.{FitsPlan}
use Rattle.pk_layout.specs.Layouts.{LayoutView, IsLaidOut, slots_of}
use Rattle.pk_layout.specs.Wirings.{IsWired}
use Rattle.pk_words.specs.Subjects.{SubjectView}
use Rattle.pk_words.specs.Reads.{HasEnd}
use Rattle.pk_board.specs.Boards.{IsWhole}
use Rattle.pk_board.specs.Earliest.{AreEarliest}
use Rattle.pk_board.specs.Lean.{LeanView, HasItems}
use Rattle.pk_board.specs.Results.{ResultsView}

pub elem_last : {A : Type 0} (xs : List A) (k : ℕ) (y x : A) → get_elem? (xs ++ y ∷ []) k ≡ some x → (get_elem? xs k ≡ some x) ⊎ ((k ≡ length xs) × (y ≡ x))
elem_last [] zero y x h = inr (refl, cc)
elem_last [] (suc k) y x h = absurd (cc)
elem_last (z ∷ xs) zero y x h = inl h
elem_last (z ∷ xs) (suc k) y x h = elim (elem_last xs k y x h) [
  | inl a ↦ inl a
  | inr p ↦ inr (ap suc p.0, p.1)
]

pub long_more : {A : Type 0} (old new : List A) (x : A) (n : ℕ) → new ≡ old ++ x ∷ [] → length old + 1 ≡ n → length new + 1 ≡ n + 1
long_more old new x n is long = let more = ap length is ∙ length-append old (x ∷ []) in omega (arith, more, long)

pub all_more : {A C : Type 0} (f : A → C) (c : C) (old new : List A) (x : A) → new ≡ old ++ x ∷ [] → f x ≡ c → All (λ y. f y ≡ c) old → All (λ y. f y ≡ c) new
all_more f c old new x is here all = subst (All (λ y. f y ≡ c)) (sym is) (All-push (λ y. f y ≡ c) old x all here)

-- words of elements, behind two others
pub record AreWords (word : ℕ → ℕ) (n : ℕ) (words : List ℕ) : Type 0 where
  pub long : length words ≡ n + 2
  pub going : get_or words 1 0 ≡ 0
  pub each : (e : ℕ) → e < n → get_or words (e + 2) 0 ≡ word e

pub words_none : (word : ℕ → ℕ) → AreWords word 0 (0 ∷ 0 ∷ [])
words_none word = record { long = refl; going = refl; each = λ e h. absurd (omega (arith, h)) }

pub words_more : (word : ℕ → ℕ) (n m : ℕ) (words words' : List ℕ) → AreWords word n words → words' ≡ words ++ m ∷ [] → m ≡ word n → AreWords word (n + 1) words'
words_more word n m words words' h is next = subst (AreWords word (n + 1)) (sym is) (record {
  long = length-append words (m ∷ []) ∙ omega (arith, h.long);
  going = get_or_append_left words (m ∷ []) 0 1 (omega (arith, h.long)) ∙ h.going;
  each = λ e below. elim (cases_lt e n) [
    | inl before ↦ get_or_append_left words (m ∷ []) 0 (e + 2) (omega (arith, before, h.long)) ∙ h.each e before
    | inr after ↦ (
        let same : n ≡ e = omega (arith, after, below) in
        let at : e + 2 ≡ length words + 0 = omega (arith, same, h.long) in
        ap (λ (k : ℕ). get_or (words ++ m ∷ []) k 0) at ∙ get_or-append-add words (m ∷ []) 0 0 ∙ next ∙ ap word same)
  ];
})

-- ---- boards

pub wired_from : {C : Type 0} (b : Behaviour C) (p : PlanView) (limit n : ℕ) (l : LayoutView) → Axioms p → FitsPlan b p → p.elements ≤ 131073 → limit ≤ 549755813888 → n ≡ p.elements → IsLaidOut b n l → IsWired b (record { plan = p; limit = limit; layout = l })
wired_from b p limit n l axioms fits small most same laid = record { axioms = axioms; fits = fits; few = omega (arith, small); limited = omega (arith, most); laid_out = subst (λ (k : ℕ). IsLaidOut b k l) same laid }

pub whole_from : {Y C P : Type 0} (meaning : Y → Behaviour C) (subject made key : SubjectView Y) (table : TableId) (places : List ℕ) (results : ResultsView C) (lean : LeanView P) (n : ℕ) → made ≡ subject → key ≡ made → table.words ≡ subject.wiring.plan.elements + 2 → table.slots ≡ slots_of subject.wiring.layout
    → IsWired (meaning subject.system) subject.wiring → HasEnd (meaning subject.system) subject.wiring.plan → AreEarliest subject.wiring.plan places → results ≡ record { cells = []; runs = []; room = n } → n ≡ subject.wiring.plan.elements → (subject.lean ≡ true → HasItems subject.wiring.plan subject.wiring.layout lean)
    → IsWhole (meaning made.system) made key table places results lean
whole_from {Y} meaning subject made key table places results lean n same about words slots wired ends earliest room all items =
    subst (λ (s : SubjectView Y). IsWhole (meaning s.system) s key table places results lean) (sym same)
    (record {
      kept = record { about = about ∙ same; words = words; slots = slots; wired = wired; ends = ends };
      earliest = earliest;
      room = room ∙ (λ k. record { cells = []; runs = []; room = all k });
      items = items;
    })
