-- The failure that is answered is the first.
use Rattle.std.proofs.Common.{◌≡◌, ◌≤◌, ◌<◌, ℕ, Bool, true, false, List, [], ◌∷◌, Some, refl, arith, ap, if◌then◌else◌, ltb, eqb, inl, inr}
use Rattle.std.proofs.lemmas.Bool.Decides.{nat_tests}
use Rattle.pk_ctypes.specs.Places.{Before}
use Rattle.pk_type_scope.specs.declared.failures.Failure.{Failure}
use Rattle.pk_type_scope.specs.Failures.{row_of, is_before, noted, Among, here, later, IsFirst, TheFirstIsAnswered}

-- by numbers alone
abbrev below : ℕ → ℕ → ℕ → ℕ → ℕ → ℕ → Bool
below a b c x y z = if eqb a x then (if eqb b y then ltb c z else ltb b y) else ltb a x

never_below_itself : (a b c : ℕ) → below a b c a b c ≡ false
never_below_itself a b c = grind (arith, nat_tests)

not_below_after : (a b c x y z u v w : ℕ) → below a b c x y z ≡ false → below x y z u v w ≡ false → below a b c u v w ≡ false
not_below_after a b c x y z u v w h k = grind (arith, nat_tests)

below_is_not_above : (a b c x y z : ℕ) → below a b c x y z ≡ true → below x y z a b c ≡ false
below_is_not_above a b c x y z h = grind (arith, nat_tests)

irreflexive : (f : Failure) → is_before f f ≡ false
irreflexive f = never_below_itself f.at.line f.at.column (row_of f.rule)

transitive : (f g h : Failure) → is_before f g ≡ false → is_before g h ≡ false → is_before f h ≡ false
transitive f g h = not_below_after f.at.line f.at.column (row_of f.rule) g.at.line g.at.column (row_of g.rule) h.at.line h.at.column (row_of h.rule)

asymmetric : (f g : Failure) → is_before f g ≡ true → is_before g f ≡ false
asymmetric f g = below_is_not_above f.at.line f.at.column (row_of f.rule) g.at.line g.at.column (row_of g.rule)

-- a failure of these that none is before
record IsLeast (fs : List Failure) (f : Failure) : Type 0 where
  there : Among f fs
  first : (g : Failure) → Among g fs → is_before g f ≡ false

record Kept (f : Failure) (fs : List Failure) : Type 0 where
  answer : Failure
  is : noted (Some f) fs ≡ Some answer
  first : IsLeast (f ∷ fs) answer

abbrev first_among : (f h : Failure) (fs : List Failure) → is_before f h ≡ false → ((g : Failure) → Among g fs → is_before g h ≡ false) → (g : Failure) → Among g (f ∷ fs) → is_before g h ≡ false
first_among f h fs p q g (here _) = p
first_among f h fs p q g (later _ _ m) = q g m

among_more : (f g h : Failure) (fs : List Failure) → Among h (f ∷ fs) → Among h (f ∷ g ∷ fs)
among_more f g h fs (here _) = here (g ∷ fs)
among_more f g h fs (later _ _ m) = later f (g ∷ fs) (later g fs m)

kept : (fs : List Failure) (f : Failure) → Kept f fs
kept [] f = record { answer = f; is = refl; first = record { there = here []; first = first_among f f [] (irreflexive f) (λ g m. elim m [ ]) } }
kept (g ∷ fs) f =
    let by : (b : Bool) → is_before g f ≡ b → Kept f (g ∷ fs) = λ b. elim b as (λ v. is_before g f ≡ v → Kept f (g ∷ fs)) [
      | true ↦ λ e. let k : Kept g fs = kept fs g in record {
        answer = k.answer;
        is = rw e k.is;
        first = record {
          there = later f (g ∷ fs) k.first.there;
          first = first_among f k.answer (g ∷ fs) (transitive f g k.answer (asymmetric g f e) (k.first.first g (here fs))) k.first.first;
        };
      }
      | false ↦ λ e. let k : Kept f fs = kept fs f in record {
        answer = k.answer;
        is = rw e k.is;
        first = record {
          there = among_more f g k.answer fs k.first.there;
          first = first_among f k.answer (g ∷ fs) (k.first.first f (here fs)) (first_among g k.answer fs (transitive g f k.answer e (k.first.first f (here fs))) (λ h m. k.first.first h (later f fs m)));
        };
      }
    ] in by (is_before g f) refl

-- in the words of places
not_on_an_earlier_line : (a b c x y z : ℕ) → below a b c x y z ≡ false → a < x → ⊥
not_on_an_earlier_line a b c x y z h l = grind (arith, nat_tests)

not_in_an_earlier_column : (a b c x y z : ℕ) → below a b c x y z ≡ false → a ≡ x → b < y → ⊥
not_in_an_earlier_column a b c x y z h l k = grind (arith, nat_tests)

no_upper_row : (a b c x y z : ℕ) → below a b c x y z ≡ false → a ≡ x → b ≡ y → z ≤ c
no_upper_row a b c x y z h p q = grind (arith, nat_tests)

not_earlier : (g f : Failure) → is_before g f ≡ false → ¬ (Before g.at f.at)
not_earlier g f h (inl l) = not_on_an_earlier_line g.at.line g.at.column (row_of g.rule) f.at.line f.at.column (row_of f.rule) h l
not_earlier g f h (inr p) = not_in_an_earlier_column g.at.line g.at.column (row_of g.rule) f.at.line f.at.column (row_of f.rule) h p.0 p.1

no_upper : (g f : Failure) → is_before g f ≡ false → g.at ≡ f.at → row_of f.rule ≤ row_of g.rule
no_upper g f h e = no_upper_row g.at.line g.at.column (row_of g.rule) f.at.line f.at.column (row_of f.rule) h (ap (λ p. p.line) e) (ap (λ p. p.column) e)

is_first : (fs : List Failure) (f : Failure) → IsLeast fs f → IsFirst fs f
is_first fs f k = record {
  there = k.there;
  earliest = λ g m. not_earlier g f (k.first g m);
  uppermost = λ g m. no_upper g f (k.first g m);
}

pub first_is_answered : TheFirstIsAnswered
first_is_answered [] = refl
first_is_answered (f ∷ fs) = let k : Kept f fs = kept fs f in rw k.is (is_first (f ∷ fs) k.answer k.first)
