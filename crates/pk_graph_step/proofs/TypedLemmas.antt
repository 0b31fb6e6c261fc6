-- A typed tree's number in a store lies in its type.
use Rattle.std.proofs.Common.{◌≡◌, ℕ, refl, ap, subst, Result, Ok, Err, arith}
use Rattle.std.specs.Prelude.{ℤ}
use Rattle.pk_ctypes.specs.declared.types.IntType.{IntType}
use Rattle.pk_ctypes.specs.declared.types.Op.{Op}
use Rattle.pk_ctypes.specs.declared.types.Op.TheVariants.{Add, Sub, Mul, Div, Rem, Shl, Shr, And, Or, Xor, Lt, Gt, Le, Ge, Eq, Ne, Neg, BitNot, Not}
use Rattle.pk_ctypes.specs.declared.faults.Fault.{Fault}
use Rattle.pk_ctypes.specs.Types.{InType, wrapped}
use Rattle.pk_ctypes.specs.Operators.{HasRight, value_of, result_type}
use Rattle.pk_ctypes.specs.Laws.{ValuesLieInTheirType}
use Rattle.std.specs.Prelude.{FitsSigned}
use Rattle.std.specs.Int.{w128, cast_signed, cast_unsigned}
use Rattle.std.proofs.lemmas.Int.{ints, to_z-of_z}
use Rattle.pk_ctypes.proofs.Wrapped.{conversion, sized}
use Rattle.pk_graph.specs.declared.trees.Site.{Site}
use Rattle.pk_graph.specs.Trees.{TreeOf, constant, variable, converted, unary, binary}
use Rattle.pk_graph.specs.Kinds.{Kinds, type_at, count_of, count_at, type_of, IsScalar, IsUnary, IsRight, IsTyped}
use Rattle.pk_graph.specs.Steps.{Failure, number_at, at_site, and_then, tree_value}
use Rattle.pk_graph.specs.Stores.{Stored, numbers_of, storing, IsStore}

pub scalar_count : (ks : Kinds) (x : ℕ) → IsScalar ks x → count_at ks x ≡ 1
scalar_count ks x h = ap count_of h.scalar

pub scalar_in : (ks : Kinds) (s : Stored) (x : ℕ) → IsStore ks s → IsScalar ks x → InType (type_at ks x) (number_at (numbers_of s x) 0)
scalar_in ks s x m h = m.fits x 0 h.there (omega (arith, scalar_count ks x h))

pub unary_right : (op : Op) (t : IntType) (z : ℤ) → IsUnary op → HasRight op t z
unary_right Neg t z h = tt
unary_right BitNot t z h = tt
unary_right Not t z h = tt
unary_right Add t z h = absurd h
unary_right Sub t z h = absurd h
unary_right Mul t z h = absurd h
unary_right Div t z h = absurd h
unary_right Rem t z h = absurd h
unary_right Shl t z h = absurd h
unary_right Shr t z h = absurd h
unary_right And t z h = absurd h
unary_right Or t z h = absurd h
unary_right Xor t z h = absurd h
unary_right Lt t z h = absurd h
unary_right Gt t z h = absurd h
unary_right Le t z h = absurd h
unary_right Ge t z h = absurd h
unary_right Eq t z h = absurd h
unary_right Ne t z h = absurd h

pub binary_right : (op : Op) (t u : IntType) (z : ℤ) → IsRight op t u → InType u z → HasRight op t z
binary_right Shl t u z h i = tt
binary_right Shr t u z h i = tt
binary_right Add t u z h i = h z i
binary_right Sub t u z h i = h z i
binary_right Mul t u z h i = h z i
binary_right Div t u z h i = h z i
binary_right Rem t u z h i = h z i
binary_right And t u z h i = h z i
binary_right Or t u z h i = h z i
binary_right Xor t u z h i = h z i
binary_right Lt t u z h i = h z i
binary_right Gt t u z h i = h z i
binary_right Le t u z h i = h z i
binary_right Ge t u z h i = h z i
binary_right Eq t u z h i = h z i
binary_right Ne t u z h i = h z i
binary_right Neg t u z h i = absurd h
binary_right BitNot t u z h i = absurd h
binary_right Not t u z h i = absurd h

ok_at : (s : Site) (r : Result ℤ Fault) (z : ℤ) → at_site s r ≡ Ok z → r ≡ Ok z
ok_at s (Ok v) z e = ap Ok (cc e)
ok_at s (Err f) z e = absurd (cc e)

converted_in : (t : IntType) (r : Result ℤ Failure) (z : ℤ) → and_then r (λ v. Ok (wrapped t v)) ≡ Ok z → InType t z
converted_in t (Ok v) z e = let same : wrapped t v ≡ z = cc e in subst (InType t) same (conversion.holds t v).inside
converted_in t (Err f) z e = absurd (cc e)

unary_in : ValuesLieInTheirType → (op : Op) (s : Site) (t u : IntType) (r : Result ℤ Failure) (z : ℤ) → IsUnary op → ((v : ℤ) → r ≡ Ok v → InType t v)
    → and_then r (λ v. at_site s (value_of op t v v)) ≡ Ok z → InType (result_type op t) z
unary_in law op s t u (Ok v) z h i e = law op t v v z (i v refl) (unary_right op t v h) (ok_at s (value_of op t v v) z e)
unary_in law op s t u (Err f) z h i e = absurd (cc e)

binary_in : ValuesLieInTheirType → (op : Op) (s : Site) (t : IntType) (r q : Result ℤ Failure) (z : ℤ) → ((v : ℤ) → r ≡ Ok v → InType t v) → ((w : ℤ) → q ≡ Ok w → HasRight op t w)
    → and_then r (λ v. and_then q (λ w. at_site s (value_of op t v w))) ≡ Ok z → InType (result_type op t) z
binary_in law op s t (Ok v) (Ok w) z i j e = law op t v w z (i v refl) (j w refl) (ok_at s (value_of op t v w) z e)
binary_in law op s t (Ok v) (Err g) z i j e = absurd (cc e)
binary_in law op s t (Err f) q z i j e = absurd (cc e)

pub typed_value : ValuesLieInTheirType → (ks : Kinds) (s : Stored) (e : TreeOf ℕ) (z : ℤ) → IsStore ks s → IsTyped ks e → tree_value storing e s ≡ Ok z → InType (type_of ks e) z
typed_value law ks s (constant t n) z m h e = let same : n ≡ z = cc e in subst (InType t) same h
typed_value law ks s (variable x) z m h e = let same : number_at (numbers_of s x) 0 ≡ z = cc e in subst (InType (type_at ks x)) same (scalar_in ks s x m h)
typed_value law ks s (converted t a) z m h e = converted_in t (tree_value storing a s) z e
typed_value law ks s (unary op at t a) z m h e =
    unary_in law op at t t (tree_value storing a s) z h.0 (λ v f. h.2 v (typed_value law ks s a v m h.1 f)) e
typed_value law ks s (binary op at t a b) z m h e =
    binary_in law op at t (tree_value storing a s) (tree_value storing b s) z (λ v f. h.2 v (typed_value law ks s a v m h.0 f))
    (λ w f. binary_right op t (type_of ks b) w h.3 (typed_value law ks s b w m h.1 f)) e

-- a number of a type as a machine word
pub word_is : (t : IntType) (z : ℤ) → InType t z → cast_signed w128 (cast_unsigned w128 z) ≡ z
word_is t z h =
    let bounds = sized t z h in
    let fits : FitsSigned w128 z = omega (arith, ints, bounds.0, bounds.1) in
    to_z-of_z w128 z fits
