-- How large the numbers of a point are that is begun by two of them, and that each variable gets one.
use Rattle.std.specs.Prelude.{◌≡◌, ◌≢◌, ℕ, ◌<◌, ◌≤◌, ◌+◌, ◌*◌, ◌/◌, ◌%◌, ◌^◌, ℤ, pos, neg_ℤ, ◌+ℤ◌, Option, Some, None, ◌⊎◌, List, length}
use Rattle.std.proofs.Common.{◌∙◌, ap, refl, sym, subst, arith, inl, inr}
use Rattle.std.proofs.lemmas.Bool.{cases_eq}
use Rattle.std.proofs.lemmas.Int.{ints}
use Rattle.std.proofs.Math.Nat.{mul-le-mul_right}
use Rattle.pk_octmat.specs.Bounds.{IsNear, halved, plus}
use Rattle.pk_octmat.specs.Octagon.{Octagon, IsOctagon, bar, entry}
use Rattle.pk_octpoints.specs.Parts.{lowered, part_side, wish}
use Rattle.pk_octpoints.specs.Points.{IsPart, IsThere, Keeps, number_at}
use Rattle.pk_octpoints.proofs.Attained.{nothing_meets}
use Rattle.pk_octpoints.proofs.Near.{half_near, lowered_near, near_more, opposite_near, plus_near, side_near}

-- a list of no numbers
pub none_part : (m : Octagon) (k : ℕ) (xs : List (Option ℤ)) → length xs ≡ m.vars → ((i : ℕ) → number_at xs i ≡ None) → IsPart m k xs
none_part m k xs size none = record {
  size = size;
  meets = nothing_meets (2 * m.vars) (entry m) (number_at xs) none;
  near = λ i. rw (none i) tt;
}

pub wish_near : (c : ℤ) (a b : Option ℤ) → IsNear (2 ^ 67) (Some c) → IsNear (2 ^ 66) a → IsNear (2 ^ 66) b → IsNear (2 ^ 68) (Some (wish c a b))
wish_near c a b h p q =
    let back : IsNear (2 ^ 67) (Some (neg_ℤ c)) = opposite_near (2 ^ 67) (Some c) h in
    let first : IsNear (2 ^ 68) (plus a (Some (neg_ℤ c))) = near_more (2 ^ 66 + 2 ^ 67) (2 ^ 68) (plus a (Some (neg_ℤ c))) (omega arith) (plus_near (2 ^ 66) (2 ^ 67) a (Some (neg_ℤ c)) p back) in
    let second : IsNear (2 ^ 68) (halved (plus b (Some (neg_ℤ c)))) = half_near (2 ^ 68) (plus b (Some (neg_ℤ c))) (near_more (2 ^ 66 + 2 ^ 67) (2 ^ 68) (plus b (Some (neg_ℤ c))) (omega arith) (plus_near (2 ^ 66) (2 ^ 67) b (Some (neg_ℤ c)) q back)) in
    lowered_near (2 ^ 68) (lowered (pos 0) (plus a (Some (neg_ℤ c)))) (halved (plus b (Some (neg_ℤ c)))) (lowered_near (2 ^ 68) (pos 0) (plus a (Some (neg_ℤ c))) (omega (arith, ints), omega (arith, ints)) first) second

-- how large the sum that V(j) is wished to be may be
pub sum_near : (m : Octagon) (k : ℕ) (xs : List (Option ℤ)) (i : ℕ) (v c : ℤ) → IsPart m k xs → part_side (number_at xs) i ≡ Some v → IsNear (2 ^ 67) (Some c) → IsNear ((k + 2) * 2 ^ 66) (Some (v +ℤ c))
sum_near m k xs i v c h e n =
    let near : IsNear (k * 2 ^ 66) (Some v) = subst (λ o. IsNear (k * 2 ^ 66) o) e (side_near (k * 2 ^ 66) (number_at xs) h.near i) in
    near_more (k * 2 ^ 66 + 2 ^ 67) ((k + 2) * 2 ^ 66) (Some (v +ℤ c)) (omega arith) (plus_near (k * 2 ^ 66) (2 ^ 67) (Some v) (Some c) near n)

pub part_more : (m : Octagon) (k l : ℕ) (xs : List (Option ℤ)) → k ≤ l → IsPart m k xs → IsPart m l xs
part_more m k l xs h p = record { size = p.size; meets = p.meets; near = λ i. near_more (k * 2 ^ 66) (l * 2 ^ 66) (number_at xs i) (mul-le-mul_right (2 ^ 66) h) (p.near i) }

pub wish_is : (m : Octagon) (i j a b : ℕ) (c nought one again two : ℤ) (far high over less first second half : Option ℤ) → a ≡ bar j → far ≡ entry m a j → high ≡ halved far → b ≡ bar i → over ≡ entry m b j → less ≡ Some (neg_ℤ c)
    → first ≡ plus high less → nought ≡ pos 0 → one ≡ lowered nought first → second ≡ plus over less → half ≡ halved second → again ≡ one → two ≡ lowered again half → two ≡ wish c (halved (entry m (bar j) j)) (entry m (bar i) j)
wish_is m i j a b c nought one again two far high over less first second half ea ef eh eb eo el e1 ez eone e2 eq eg etwo =
    let top : first ≡ plus (halved (entry m (bar j) j)) (Some (neg_ℤ c)) = e1 ∙ ap (λ o. plus high o) el ∙ ap (λ o. plus o (Some (neg_ℤ c))) (eh ∙ ap halved (ef ∙ ap (λ k. entry m k j) ea)) in
    let sum : half ≡ halved (plus (entry m (bar i) j) (Some (neg_ℤ c))) = eq ∙ ap halved (e2 ∙ ap (λ o. plus over o) el ∙ ap (λ o. plus o (Some (neg_ℤ c))) (eo ∙ ap (λ k. entry m k j) eb)) in
    etwo ∙ ap (λ z. lowered z half) (eg ∙ eone ∙ ap (λ z. lowered z first) ez) ∙ ap (λ o. lowered (lowered (pos 0) o) half) top ∙ ap (λ o. lowered (lowered (pos 0) (plus (halved (entry m (bar j) j)) (Some (neg_ℤ c)))) o) sum

pub back_near : (c : ℤ) → IsNear (2 ^ 67) (Some c) → IsNear (2 ^ 100) (Some (neg_ℤ c))
back_near c h = near_more (2 ^ 67) (2 ^ 100) (Some (neg_ℤ c)) (omega arith) (opposite_near (2 ^ 67) (Some c) h)

pub wish_room : (m : Octagon) (i j : ℕ) (c : ℤ) → IsOctagon m → IsNear (2 ^ 67) (Some c) → IsNear (2 ^ 68) (Some (wish c (halved (entry m (bar j) j)) (entry m (bar i) j)))
wish_room m i j c o h = wish_near c (halved (entry m (bar j) j)) (entry m (bar i) j) h (half_near (2 ^ 66) (entry m (bar j) j) (o.whole.near (bar j) j)) (o.whole.near (bar i) j)

pub even_side : (x : ℕ → Option ℤ) (k : ℕ) (v : ℤ) → part_side x (2 * k) ≡ Some v → x k ≡ Some v
even_side x k v h =
    let rest : (2 * k) % 2 ≡ 0 = omega arith in
    let half : (2 * k) / 2 ≡ k = omega arith in
    let side : part_side x (2 * k) ≡ x k = rw rest (rw half refl) in
    sym side ∙ h

pub there_more : (xs ys : List (Option ℤ)) (k : ℕ) → ((q : ℕ) → q < k → IsThere xs q) → Keeps xs ys → IsThere ys k → (q : ℕ) → q < k + 1 → IsThere ys q
there_more xs ys k h kept new q l = by (cases_eq q k)
  where
    by : (q ≡ k) ⊎ (q ≢ k) → IsThere ys q
    by (inl s) = subst (IsThere ys) (sym s) new
    by (inr n) = let w = h q (omega arith) in (w.0, kept q w.0 w.1)
