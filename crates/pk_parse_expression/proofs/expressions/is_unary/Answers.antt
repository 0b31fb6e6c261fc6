use Rattle.std.proofs.Common.{◌≡◌, ◌⊎◌, inl, inr, Bool, true, false, sym, ap}
use Rattle.pk_ast.specs.declared.expressions.Expression.{Expression}
use Rattle.pk_ast.specs.declared.expressions.Expression.TheVariants as variants
use Rattle.pk_ast.specs.Views.{expression_tree}
use Rattle.pk_grammar.specs.Machine.Steps as steps
use Rattle.pk_parse_expression.proofs.expressions.is_unary.Goals as goal

abbrev unary : Expression → Bool
unary e = steps.is_unary (expression_tree e)

-- the variants that stand on the left of an assignment, and those that don't
abbrev IsOne : Expression → Type 0
IsOne e =
    ((x : _) × (e ≡ variants.Name x))
    ⊎ ((x : _) × (xs : _) × (e ≡ variants.Call x xs))
    ⊎ ((x : _) × (at : _) × (a : _) × (e ≡ variants.Index x at a))
    ⊎ ((x : _) × (a : _) × (b : _) × (e ≡ variants.Element x a b))
    ⊎ ((at : _) × (t : _) × (v : _) × (e ≡ variants.Constant at t v))
    ⊎ ((at : _) × (v : _) × (e ≡ variants.Character at v))
    ⊎ ((at : _) × (a : _) × (e ≡ variants.Parenthesized at a))
    ⊎ ((o : _) × (at : _) × (a : _) × (e ≡ variants.Postfix o at a))
    ⊎ ((o : _) × (at : _) × (a : _) × (e ≡ variants.Prefix o at a))
    ⊎ ((o : _) × (at : _) × (a : _) × (e ≡ variants.Unary o at a))

abbrev IsOther : Expression → Type 0
IsOther e =
    ((at : _) × (s : _) × (a : _) × (e ≡ variants.Cast at s a))
    ⊎ ((o : _) × (at : _) × (a : _) × (b : _) × (e ≡ variants.Binary o at a b))
    ⊎ ((at : _) × (a : _) × (b : _) × (d : _) × (e ≡ variants.Conditional at a b d))
    ⊎ ((o : _) × (at : _) × (a : _) × (b : _) × (e ≡ variants.Assignment o at a b))
    ⊎ ((at : _) × (a : _) × (b : _) × (e ≡ variants.Comma at a b))

one : (e : Expression) → IsOne e → true ≡ unary e
unfolding expression_tree
one e (inl p) = ap unary (sym p.1)
one e (inr (inl p)) = ap unary (sym p.2)
one e (inr (inr (inl p))) = ap unary (sym p.3)
one e (inr (inr (inr (inl p)))) = ap unary (sym p.3)
one e (inr (inr (inr (inr (inl p))))) = ap unary (sym p.3)
one e (inr (inr (inr (inr (inr (inl p)))))) = ap unary (sym p.2)
one e (inr (inr (inr (inr (inr (inr (inl p))))))) = ap unary (sym p.2)
one e (inr (inr (inr (inr (inr (inr (inr (inl p)))))))) = ap unary (sym p.3)
one e (inr (inr (inr (inr (inr (inr (inr (inr (inl p))))))))) = ap unary (sym p.3)
one e (inr (inr (inr (inr (inr (inr (inr (inr (inr p))))))))) = ap unary (sym p.3)

other : (e : Expression) → IsOther e → false ≡ unary e
unfolding expression_tree
other e (inl p) = ap unary (sym p.3)
other e (inr (inl p)) = ap unary (sym p.4)
other e (inr (inr (inl p))) = ap unary (sym p.4)
other e (inr (inr (inr (inl p)))) = ap unary (sym p.4)
other e (inr (inr (inr (inr p)))) = ap unary (sym p.3)

pub returns-in-Name : goal.returns-in-Name
returns-in-Name c = one c.args.e.now c.in-Name.is

pub returns-in-Name-2 : goal.returns-in-Name-2
returns-in-Name-2 c = one c.args.e.now c.in-Name.is

pub returns-in-Name-3 : goal.returns-in-Name-3
returns-in-Name-3 c = one c.args.e.now c.in-Name.is

pub returns-in-Name-4 : goal.returns-in-Name-4
returns-in-Name-4 c = one c.args.e.now c.in-Name.is

pub returns-in-Name-5 : goal.returns-in-Name-5
returns-in-Name-5 c = one c.args.e.now c.in-Name.is

pub returns-in-Name-6 : goal.returns-in-Name-6
returns-in-Name-6 c = one c.args.e.now c.in-Name.is

pub returns-in-Name-7 : goal.returns-in-Name-7
returns-in-Name-7 c = one c.args.e.now c.in-Name.is

pub returns-in-Name-8 : goal.returns-in-Name-8
returns-in-Name-8 c = one c.args.e.now c.in-Name.is

pub returns-in-Name-9 : goal.returns-in-Name-9
returns-in-Name-9 c = one c.args.e.now c.in-Name.is

pub returns-in-Name-10 : goal.returns-in-Name-10
returns-in-Name-10 c = one c.args.e.now c.in-Name.is

pub returns-in-Cast : goal.returns-in-Cast
returns-in-Cast c = other c.args.e.now c.in-Cast.is

pub returns-in-Cast-2 : goal.returns-in-Cast-2
returns-in-Cast-2 c = other c.args.e.now c.in-Cast.is

pub returns-in-Cast-3 : goal.returns-in-Cast-3
returns-in-Cast-3 c = other c.args.e.now c.in-Cast.is

pub returns-in-Cast-4 : goal.returns-in-Cast-4
returns-in-Cast-4 c = other c.args.e.now c.in-Cast.is

pub returns-in-Cast-5 : goal.returns-in-Cast-5
returns-in-Cast-5 c = other c.args.e.now c.in-Cast.is
