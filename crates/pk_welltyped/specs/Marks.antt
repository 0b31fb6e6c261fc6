-- Labels, cases and defaults, each of which stands once where it belongs (C99 6.8.1), and jumps out of loops and switches.
use Rattle.std.specs.Prelude.{◌≡◌, ℕ, ◌+◌, ◌<◌, Bool, true, false, if◌then◌else◌, length, All, Option, Some, None}
use Rattle.pk_typed.specs.Trees.{StatementTree, ItemTrees, BodyTree, FunctionTree, UnitTree, no_items, declared_before, statement_before}
use Rattle.pk_typed.specs.Trees as tree
use Rattle.pk_meaning.specs.Steps.{Mark, labelled, numbered, otherwise, is_label, is_case, is_default}

abbrev pub one_if : Bool → ℕ
one_if b = if b then 1 else 0

-- the cases of an inner switch are its own
abbrev pub in_switch : Mark → ℕ → ℕ
in_switch (labelled l) n = n
in_switch (numbered i) n = 0
in_switch otherwise n = 0

unfoldable mutual
  -- how often a mark stands in a statement
  pub times : Mark → StatementTree → ℕ
  times m (tree.block at is) = times_in m is
  times m (tree.empty at) = 0
  times m (tree.effect at e) = 0
  times m (tree.label at l s) = one_if (is_label m l) + times m s
  times m (tree.case at i s) = one_if (is_case m i) + times m s
  times m (tree.default at s) = one_if (is_default m) + times m s
  times m (tree.if_then at c s) = times m s
  times m (tree.if_else at c s r) = times m s + times m r
  times m (tree.switch at t e zs b s) = in_switch m (times m s)
  times m (tree.while at c s) = times m s
  times m (tree.do_while at s c) = times m s
  times m (tree.for_loop at f c e s) = times m s
  times m (tree.goto at l) = 0
  times m (tree.continue at) = 0
  times m (tree.break at) = 0
  times m (tree.return at e) = 0

  pub times_in : Mark → ItemTrees → ℕ
  times_in m no_items = 0
  times_in m (declared_before d is) = times_in m is
  times_in m (statement_before s is) = times m s + times_in m is

-- so many cases, and a default if it has one
pub record IsSwitch (cases : ℕ) (has_default : Bool) (s : StatementTree) : Type 0 where
  pub each : (i : ℕ) → i < cases → times (numbered i) s ≡ 1
  pub default : times otherwise s ≡ one_if has_default

unfoldable mutual
  -- each switch in a statement has its cases
  pub HasCases : StatementTree → Type 0
  HasCases (tree.block at is) = HaveCases is
  HasCases (tree.empty at) = Unit {0}
  HasCases (tree.effect at e) = Unit {0}
  HasCases (tree.label at l s) = HasCases s
  HasCases (tree.case at i s) = HasCases s
  HasCases (tree.default at s) = HasCases s
  HasCases (tree.if_then at c s) = HasCases s
  HasCases (tree.if_else at c s r) = HasCases s × HasCases r
  HasCases (tree.switch at t e zs b s) = IsSwitch (length zs) b s × HasCases s
  HasCases (tree.while at c s) = HasCases s
  HasCases (tree.do_while at s c) = HasCases s
  HasCases (tree.for_loop at f c e s) = HasCases s
  HasCases (tree.goto at l) = Unit {0}
  HasCases (tree.continue at) = Unit {0}
  HasCases (tree.break at) = Unit {0}
  HasCases (tree.return at e) = Unit {0}

  pub HaveCases : ItemTrees → Type 0
  HaveCases no_items = Unit {0}
  HaveCases (declared_before d is) = HaveCases is
  HaveCases (statement_before s is) = HasCases s × HaveCases is

unfoldable mutual
  -- Each `break` has a loop or a switch around it, in the statement or outside, each `continue` a loop (C99 6.8.6.2, 6.8.6.3).
  pub HasTargets : (breaks continues : Bool) → StatementTree → Type 0
  HasTargets b c (tree.block at is) = HaveTargets b c is
  HasTargets b c (tree.empty at) = Unit {0}
  HasTargets b c (tree.effect at e) = Unit {0}
  HasTargets b c (tree.label at l s) = HasTargets b c s
  HasTargets b c (tree.case at i s) = HasTargets b c s
  HasTargets b c (tree.default at s) = HasTargets b c s
  HasTargets b c (tree.if_then at e s) = HasTargets b c s
  HasTargets b c (tree.if_else at e s r) = HasTargets b c s × HasTargets b c r
  HasTargets b c (tree.switch at t e zs d s) = HasTargets true c s
  HasTargets b c (tree.while at e s) = HasTargets true true s
  HasTargets b c (tree.do_while at s e) = HasTargets true true s
  HasTargets b c (tree.for_loop at f e i s) = HasTargets true true s
  HasTargets b c (tree.goto at l) = Unit {0}
  HasTargets b c (tree.continue at) = c ≡ true
  HasTargets b c (tree.break at) = b ≡ true
  HasTargets b c (tree.return at e) = Unit {0}

  pub HaveTargets : (breaks continues : Bool) → ItemTrees → Type 0
  HaveTargets b c no_items = Unit {0}
  HaveTargets b c (declared_before d is) = HaveTargets b c is
  HaveTargets b c (statement_before s is) = HasTargets b c s × HaveTargets b c is

pub record IsMarked (b : BodyTree) : Type 0 where
  pub labels : (l : ℕ) → l < b.labels → times_in (labelled l) b.items ≡ 1
  pub cases : HaveCases b.items
  pub targets : HaveTargets false false b.items

abbrev pub IsMarkedIf : Option BodyTree → Type 0
IsMarkedIf None = Unit {0}
IsMarkedIf (Some b) = IsMarked b

-- in each function
abbrev pub AreMarked : UnitTree → Type 0
AreMarked u = All (λ (f : FunctionTree). IsMarkedIf f.body) u.functions
