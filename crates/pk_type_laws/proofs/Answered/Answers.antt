-- A text has one answer.
use Rattle.std.proofs.Common.{◌≡◌, ℕ, ◌<◌, ◌≤◌, List, [], Option, Some, None, refl, ap, sym, subst, ◌∙◌, arith, inl, inr}
use Rattle.std.specs.Prelude.{MatchOption, nat_eq, if◌then◌else◌}
use Rattle.pk_ctypes.specs.declared.places.Pos.{Pos}
use Rattle.pk_ctypes.specs.declared.words.Rule.{Rule}
use Rattle.pk_ctypes.specs.declared.words.Rule.TheVariants.{Specifiers, Redeclared, Extern, Undeclared, Void, Array, Constant, Initialiser, Place, Const, Arguments, Special, Return, Label, Jump, Unsequenced}
use Rattle.pk_ctypes.specs.Places.{Before}
use Rattle.pk_ast.specs.Trees.{ExternalTree}
use Rattle.pk_type_scope.specs.declared.failures.Failure.{Failure}
use Rattle.pk_type_scope.specs.Failures.{row_of, first_of, Among, IsFirst}
use Rattle.pk_type_scope.proofs.FirstLemmas.{first_is_answered}
use Rattle.pk_type.specs.Units.{checked, unit_of}
use Rattle.pk_type.specs.Rules as units
use Rattle.pk_type_laws.specs.Answered.Answers.{Answer, accepted, refused, IsAnswer, TextsHaveOneAnswer, CheckGivesTheAnswer}
use Rattle.pk_type_laws.specs.Answered.Failures.{listing, failures_of}
use Rattle.pk_type_laws.proofs.Answered.Files.{G, checked_first}

-- ---- one first failure

-- the rule of a row
abbrev rule_of : ℕ → Rule
rule_of n =
    if nat_eq n 0 then Specifiers
    else if nat_eq n 1 then Redeclared
    else if nat_eq n 2 then Extern
    else if nat_eq n 3 then Undeclared
    else if nat_eq n 4 then Void
    else if nat_eq n 5 then Array
    else if nat_eq n 6 then Constant
    else if nat_eq n 7 then Initialiser
    else if nat_eq n 8 then Place
    else if nat_eq n 9 then Const
    else if nat_eq n 10 then Arguments
    else if nat_eq n 11 then Special
    else if nat_eq n 12 then Return
    else if nat_eq n 13 then Label
    else if nat_eq n 14 then Jump
    else Unsequenced

rule_at : (r : Rule) → rule_of (row_of r) ≡ r
rule_at Specifiers = refl
rule_at Redeclared = refl
rule_at Extern = refl
rule_at Undeclared = refl
rule_at Void = refl
rule_at Array = refl
rule_at Constant = refl
rule_at Initialiser = refl
rule_at Place = refl
rule_at Const = refl
rule_at Arguments = refl
rule_at Special = refl
rule_at Return = refl
rule_at Label = refl
rule_at Jump = refl
rule_at Unsequenced = refl

same_rule : (r s : Rule) → row_of r ≡ row_of s → r ≡ s
same_rule r s h = sym (rule_at r) ∙ (ap rule_of h ∙ rule_at s)

same_numbers : (a b x y : ℕ) → ¬ (a < x) → ¬ (x < a) → ¬ ((a ≡ x) × (b < y)) → ¬ ((x ≡ a) × (y < b)) → (a ≡ x) × (b ≡ y)
same_numbers a b x y p q r s =
    let e : a ≡ x = grind (arith) in
    (e, columns e)
  where
    columns : a ≡ x → b ≡ y
    columns e = let l : ¬ (b < y) = λ h. r (e, h) in let m : ¬ (y < b) = λ h. s (sym e, h) in grind (arith)

same_pos : (p q : Pos) → p.line ≡ q.line → p.column ≡ q.column → p ≡ q
same_pos p q l c = ap (λ (n : ℕ). place n p.column) l ∙ ap (λ (n : ℕ). place q.line n) c
  where
    place : ℕ → ℕ → Pos
    place l c = record { line = l; column = c }

same_place : (p q : Pos) → ¬ (Before p q) → ¬ (Before q p) → p ≡ q
same_place p q f g =
    let e = same_numbers p.line p.column q.line q.column (λ h. f (inl h)) (λ h. g (inl h)) (λ h. f (inr h)) (λ h. g (inr h)) in
    same_pos p q e.0 e.1

same_failure : (f g : Failure) → f.rule ≡ g.rule → f.at ≡ g.at → f ≡ g
same_failure f g r p = ap (λ (x : Rule). record { rule = x; at = f.at }) r ∙ ap (λ (x : Pos). record { rule = g.rule; at = x }) p

same_first : (fs : List Failure) (f g : Failure) → IsFirst fs f → IsFirst fs g → f ≡ g
same_first fs f g h k =
    let at : f.at ≡ g.at = same_place f.at g.at (k.earliest f h.there) (h.earliest g k.there) in
    let low : row_of f.rule ≤ row_of g.rule = h.uppermost g k.there (sym at) in
    let high : row_of g.rule ≤ row_of f.rule = k.uppermost f h.there at in
    same_failure f g (same_rule f.rule g.rule (omega (low, high, arith))) at

none_first : (f : Failure) (fs : List Failure) → fs ≡ [] → IsFirst fs f → ⊥
none_first f fs e h = none_among (subst (Among f) e h.there)
  where
    none_among : Among f [] → ⊥
    none_among m = elim m [ ]

-- ---- the laws

alone : (text : List ℕ) (xs : List ExternalTree) (a b : Answer) → IsAnswer text xs a → IsAnswer text xs b → a ≡ b
alone text xs (accepted u) (accepted v) h k = ap accepted (h.1 ∙ sym k.1)
alone text xs (accepted u) (refused g) h k = absurd (none_first g (failures_of text xs) h.0 k)
alone text xs (refused f) (accepted v) h k = absurd (none_first f (failures_of text xs) k.0 h)
alone text xs (refused f) (refused g) h k = ap refused (same_first (failures_of text xs) f g h k)

abbrev Gives : List ℕ → List ExternalTree → Option Failure → Type 0
Gives text xs o = MatchOption o (failures_of text xs ≡ []) (IsFirst (failures_of text xs))

one : (text : List ℕ) (xs : List ExternalTree) (o : Option Failure) → Gives text xs o → (a : Answer) × IsAnswer text xs a
one text xs None h = (accepted (unit_of (listing text xs)), (h, refl))
one text xs (Some f) h = (refused f, h)

pub texts_have_one_answer : TextsHaveOneAnswer
texts_have_one_answer = record {
  one = λ text xs. one text xs (first_of (failures_of text xs)) (first_is_answered (failures_of text xs));
  alone = alone;
}

-- what the walk finds that keeps the first failure alone
found : (text : List ℕ) (xs : List ExternalTree) → (checked units.noting None text xs).walked.found ≡ first_of (failures_of text xs)
found text xs = ap (λ (f : G). f.walked.found) (checked_first text xs)

gives : (text : List ℕ) (xs : List ExternalTree) (o : Option Failure) → (checked units.noting None text xs).walked.found ≡ o → Gives text xs o
gives text xs o h = subst (Gives text xs) (sym (found text xs) ∙ h) (first_is_answered (failures_of text xs))

pub check_gives_the_answer : CheckGivesTheAnswer
check_gives_the_answer = record {
  typed = λ text xs h. (gives text xs None h, ap (λ (f : G). unit_of f) (checked_first text xs));
  fails = λ text xs f h. gives text xs (Some f) h;
}
