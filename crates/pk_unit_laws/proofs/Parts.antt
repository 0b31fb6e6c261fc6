-- What holds of parts that may be none holds of what is made of them.
use Rattle.std.proofs.Common.{Option, Some, None}
use Rattle.std.specs.Prelude.{IfSome}
use Rattle.std.specs.Option.{option_map}
use Rattle.pk_type_expression.specs.Typed.{of_both}
use Rattle.pk_type_statement.specs.Trees.{of_three}

pub always : {A : Type 0} (o : Option A) → IfSome o (λ x. Unit {0})
always None = tt
always (Some x) = tt

pub mapped : {A B : Type 0} (f : A → B) (Q : A → Type 0) (R : B → Type 0) → ((x : A) → Q x → R (f x)) → (o : Option A) → IfSome o Q → IfSome (option_map f o) R
mapped f Q R g None h = tt
mapped f Q R g (Some x) h = g x h

pub both : {A B C : Type 0} (f : A → B → C) (Q : A → Type 0) (R : B → Type 0) (S : C → Type 0) → ((x : A) (y : B) → Q x → R y → S (f x y)) → (a : Option A) (b : Option B) → IfSome a Q → IfSome b R →
    IfSome (of_both f a b) S
both f Q R S g None b h k = tt
both f Q R S g (Some x) None h k = tt
both f Q R S g (Some x) (Some y) h k = g x y h k

pub three : {A B C D : Type 0} (f : A → B → C → D) (Q : A → Type 0) (R : B → Type 0) (S : C → Type 0) (T : D → Type 0) → ((x : A) (y : B) (z : C) → Q x → R y → S z → T (f x y z)) →
    (a : Option A) (b : Option B) (c : Option C) → IfSome a Q → IfSome b R → IfSome c S → IfSome (of_three f a b c) T
three f Q R S T g None b c h k l = tt
three f Q R S T g (Some x) None c h k l = tt
three f Q R S T g (Some x) (Some y) None h k l = tt
three f Q R S T g (Some x) (Some y) (Some z) h k l = g x y z h k l
