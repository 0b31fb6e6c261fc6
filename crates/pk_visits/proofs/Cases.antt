-- What a switch's body needs of its begin: its marks as many as they are, and the points that are made for them.
use Rattle.std.proofs.Common.{◌≡◌, ℕ, zero, suc, ◌+◌, ◌<◌, List, ◌++◌, Bool, true, false, if◌then◌else◌, refl, arith}
use Rattle.pk_draft.specs.Drafts.{all_placed, placed, fresh}
use Rattle.pk_lower_statement.specs.declared.statements.Exits.{Exits}
use Rattle.pk_lower_statement.specs.Statements.{in_switch}
use Rattle.pk_welltyped.specs.WellTyped
use Rattle.pk_welltyped.specs.WellTyped.{Marks}
use Rattle.pk_visits.proofs.Slots.{Draft}
use Rattle.pk_visits.proofs.Stands.{Marking}
use Rattle.pk_visits.proofs.Grows.Statements.{upto, upto_has, front_list, back_list}

-- the cases, and the default where there is one
pub marking_cases : (x : Exits) (m : Marks) (ms : List ℕ) (e n : ℕ) (b : Bool) → Marking x m ms → Marking (in_switch e n x) (WellTyped.in_switch n b m) (upto (n + (if b then 1 else 0)) (e + 1) ++ ms)
marking_cases x m ms e n b h = record {
  labels = λ l k. back_list (upto (n + (if b then 1 else 0)) (e + 1)) ms (x.labels + l) (h.labels l k);
  cases = λ i k. front_list (upto (n + (if b then 1 else 0)) (e + 1)) ms (e + 1 + i) (upto_has (n + (if b then 1 else 0)) (e + 1) i (more b i k));
  default = λ k. front_list (upto (n + (if b then 1 else 0)) (e + 1)) ms (e + 1 + n) (upto_has (n + (if b then 1 else 0)) (e + 1) n (one b k));
} where
  more : (c : Bool) (i : ℕ) → i < n → i < n + (if c then 1 else 0)
  more true i k = omega (arith, k)
  more false i k = omega (arith, k)

  one : (c : Bool) → c ≡ true → n < n + (if c then 1 else 0)
  one true k = omega arith
  one false k = absurd (grind (arith, k))

-- new points leave the current point
pub placed_point : (n p : ℕ) (d : Draft) → (all_placed n p d).point ≡ d.point
placed_point zero p d = refl
placed_point (suc n) p d = placed_point n (p + 1) (placed p d)

pub fresh_point : (n : ℕ) (d : Draft) → (fresh n d).point ≡ d.point
fresh_point n d = placed_point n d.points d
