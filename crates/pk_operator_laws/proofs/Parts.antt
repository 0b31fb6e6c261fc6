-- What is made of parts that may be none counts no more than the parts.
use Rattle.std.proofs.Common.{ℕ, ◌+◌, ◌≤◌, Option, Some, None, arith}
use Rattle.std.specs.Option.{option_map}
use Rattle.pk_type_expression.specs.Typed.{of_both}
use Rattle.pk_type_statement.specs.Trees.{of_three}
use Rattle.pk_access_laws.specs.Operators.{if_some}

abbrev pub zero_of : {A : Type 0} → A → ℕ
zero_of x = 0

pub always : {A : Type 0} (o : Option A) → if_some zero_of o ≤ 0
always None = omega arith
always (Some x) = omega arith

pub mapped : {A B : Type 0} (g : A → B) (a : A → ℕ) (b : B → ℕ) → ((x : A) → b (g x) ≤ a x) → (o : Option A) → if_some b (option_map g o) ≤ if_some a o
mapped g a b h None = omega arith
mapped g a b h (Some x) = h x

pub both : {A B C : Type 0} (g : A → B → C) (a : A → ℕ) (b : B → ℕ) (c : C → ℕ) → ((x : A) (y : B) → c (g x y) ≤ a x + b y) → (o : Option A) (p : Option B) → if_some c (of_both g o p) ≤ if_some a o + if_some b p
both g a b c h None p = omega arith
both g a b c h (Some x) None = omega arith
both g a b c h (Some x) (Some y) = h x y

pub three : {A B C D : Type 0} (g : A → B → C → D) (a : A → ℕ) (b : B → ℕ) (c : C → ℕ) (d : D → ℕ) → ((x : A) (y : B) (z : C) → d (g x y z) ≤ a x + b y + c z) →
    (o : Option A) (p : Option B) (r : Option C) → if_some d (of_three g o p r) ≤ if_some a o + if_some b p + if_some c r
three g a b c d h None p r = omega arith
three g a b c d h (Some x) None r = omega arith
three g a b c d h (Some x) (Some y) None = omega arith
three g a b c d h (Some x) (Some y) (Some z) = h x y z
