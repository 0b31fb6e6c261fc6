-- Linear forms by the variables of one pack.
use Rattle.std.specs.Prelude.{◌≡◌, ℕ, zero, suc, ◌*◌, Bool, true, false, ◌&&◌, ◌||◌, if◌then◌else◌, pos, List, [], ◌∷◌, ◌++◌, Option, Some, None, is_some, option_map}
use Rattle.std.proofs.Common.{refl, ap, sym, ◌∙◌}
use Rattle.pk_ctypes.specs.declared.types.Op.TheVariants.{Add, Sub, Mul, Div, Rem, Shl, Shr, And, Or, Xor, Lt, Gt, Le, Ge, Eq, Ne, Neg, BitNot, Not}
use Rattle.pk_ctypes.specs.declared.types.Op.{Op}
use Rattle.pk_graph.specs.Trees.{TreeOf, constant, variable, converted, unary, binary}
use Rattle.pk_value.specs.Known.{Known}
use Rattle.pk_octagons.specs.Packs.{place_in, pack_at, is_chosen, is_over}
use Rattle.pk_transfer.specs.Trees.{tree_known}
use Rattle.pk_transfer.specs.Linear.{Linear, negative, sum, difference, both, where_known, where_both, is_inside, is_exact, if_negative, if_sum, variables_of, linear}

-- a variable of one pack is one of them
in_pack : (packs : List (List ℕ)) (p x k : ℕ) → place_in (pack_at packs p) x ≡ Some k → is_chosen packs x ≡ true
in_pack [] p x k e = absurd (cc)
in_pack (c ∷ packs) zero x k e = ap (λ o. is_some o || is_chosen packs x) e
in_pack (c ∷ packs) (suc p) x k e = by (is_some (place_in c x)) (in_pack packs p x k e)
  where
    by : (b : Bool) → is_chosen packs x ≡ true → (b || is_chosen packs x) ≡ true
    by true h = refl
    by false h = h

over_both : (xs ys c : List ℕ) → is_over (xs ++ ys) c ≡ (is_over xs c && is_over ys c)
over_both [] ys c = refl
over_both (x ∷ xs) ys c = by (is_some (place_in c x)) (over_both xs ys c)
  where
    by : (b : Bool) → is_over (xs ++ ys) c ≡ (is_over xs c && is_over ys c) → (b && is_over (xs ++ ys) c) ≡ ((b && is_over xs c) && is_over ys c)
    by true h = h
    by false h = refl

-- ---- nothing is made of no form

where_none : (o : Option Known) (f : Known → Bool) → where_known o f None ≡ None
where_none None f = refl
where_none (Some k) f = by (f k)
  where
    by : (b : Bool) → (let n : Option Linear = None in if b then n else None) ≡ None
    by true = refl
    by false = refl

where_both_none : (o n : Option Known) (f : Known → Known → Bool) → where_both o n f None ≡ None
where_both_none None n f = refl
where_both_none (Some j) n f = where_none n (f j)

both_none : (f : Linear → Linear → Linear) (l : Option Linear) → both f l None ≡ None
both_none f None = refl
both_none f (Some l) = refl

negative_none : (op : Op) → if_negative op None ≡ None
negative_none Add = refl
negative_none Sub = refl
negative_none Mul = refl
negative_none Div = refl
negative_none Rem = refl
negative_none Shl = refl
negative_none Shr = refl
negative_none And = refl
negative_none Or = refl
negative_none Xor = refl
negative_none Lt = refl
negative_none Gt = refl
negative_none Le = refl
negative_none Ge = refl
negative_none Eq = refl
negative_none Ne = refl
negative_none Neg = refl
negative_none BitNot = refl
negative_none Not = refl

sum_none : (op : Op) → if_sum op None None ≡ None
sum_none Add = refl
sum_none Sub = refl
sum_none Mul = refl
sum_none Div = refl
sum_none Rem = refl
sum_none Shl = refl
sum_none Shr = refl
sum_none And = refl
sum_none Or = refl
sum_none Xor = refl
sum_none Lt = refl
sum_none Gt = refl
sum_none Le = refl
sum_none Ge = refl
sum_none Eq = refl
sum_none Ne = refl
sum_none Neg = refl
sum_none BitNot = refl
sum_none Not = refl

-- ---- trees

pub by_pack : (packs : List (List ℕ)) (p : ℕ) (g : ℕ → Option Known) (e : TreeOf ℕ) → linear (pack_at packs p ∷ []) g e ≡ if is_over (variables_of e) (pack_at packs p) then linear packs g e else None
by_pack packs p g (constant t c) = refl
by_pack packs p g (variable x) = by (place_in (pack_at packs p) x) refl
  where
    form : Option Linear
    form = Some (record { constant = pos 0; places = 2 * x ∷ [] })

    by : (o : Option ℕ) → place_in (pack_at packs p) x ≡ o → (if is_some o || false then form else None) ≡ if is_some o && true then (if is_chosen packs x then form else None) else None
    by None e = refl
    by (Some k) e = sym (ap (λ b. if b then form else None) (in_pack packs p x k e))
by_pack packs p g (converted t e) = ap made (by_pack packs p g e) ∙ by (is_over (variables_of e) (pack_at packs p))
  where
    made : Option Linear → Option Linear
    made l = where_known (tree_known g e) (λ k. is_inside t k.range) l

    by : (b : Bool) → made (if b then linear packs g e else None) ≡ if b then made (linear packs g e) else None
    by true = refl
    by false = where_none (tree_known g e) (λ k. is_inside t k.range)
by_pack packs p g (unary op s t e) = ap made (by_pack packs p g e) ∙ by (is_over (variables_of e) (pack_at packs p))
  where
    made : Option Linear → Option Linear
    made l = if_negative op (where_known (tree_known g e) (λ k. is_exact Neg t k k) (option_map negative l))

    by : (b : Bool) → made (if b then linear packs g e else None) ≡ if b then made (linear packs g e) else None
    by true = refl
    by false = ap (if_negative op) (where_none (tree_known g e) (λ k. is_exact Neg t k k)) ∙ negative_none op
by_pack packs p g (binary op s t d e) =
    ap (λ l. made l (linear (c ∷ []) g e)) (by_pack packs p g d) ∙ ap (made (if is_over (variables_of d) c then linear packs g d else None)) (by_pack packs p g e)
    ∙ by (is_over (variables_of d) c) (is_over (variables_of e) c)
    ∙ sym (ap (λ b. if b then made (linear packs g d) (linear packs g e) else None) (over_both (variables_of d) (variables_of e) c))
  where
    c : List ℕ
    c = pack_at packs p

    made : Option Linear → Option Linear → Option Linear
    made l m = if_sum op (where_both (tree_known g d) (tree_known g e) (is_exact Add t) (both sum l m)) (where_both (tree_known g d) (tree_known g e) (is_exact Sub t) (both difference l m))

    nothing : (l m : Option Linear) → both sum l m ≡ None → both difference l m ≡ None → made l m ≡ None
    nothing l m i j =
        ap (λ o. if_sum op (where_both (tree_known g d) (tree_known g e) (is_exact Add t) o) (where_both (tree_known g d) (tree_known g e) (is_exact Sub t) (both difference l m))) i
        ∙ ap (λ o. if_sum op (where_both (tree_known g d) (tree_known g e) (is_exact Add t) None) (where_both (tree_known g d) (tree_known g e) (is_exact Sub t) o)) j
        ∙ ap (λ o. if_sum op o (where_both (tree_known g d) (tree_known g e) (is_exact Sub t) None)) (where_both_none (tree_known g d) (tree_known g e) (is_exact Add t))
        ∙ ap (if_sum op None) (where_both_none (tree_known g d) (tree_known g e) (is_exact Sub t))
        ∙ sum_none op

    by : (a b : Bool) → made (if a then linear packs g d else None) (if b then linear packs g e else None) ≡ if a && b then made (linear packs g d) (linear packs g e) else None
    by true true = refl
    by true false = nothing (linear packs g d) None (both_none sum (linear packs g d)) (both_none difference (linear packs g d))
    by false b = nothing None (if b then linear packs g e else None) refl refl
