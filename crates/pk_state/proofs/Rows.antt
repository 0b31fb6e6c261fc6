-- Values row by row.
use Rattle.std.specs.Prelude.{◌≡◌, ℕ, ◌+◌, ◌-◌, ◌*◌, ◌<◌, ◌≤◌, List, length, slice_get, Some, None}
use Rattle.std.proofs.Common.{◌∙◌, ap, refl, sym, arith, subst, inl, inr}
use Rattle.std.proofs.lemmas.Bool.{cases_lt}
use Rattle.std.proofs.lemmas.Option.{slice_get-get_or}
use Rattle.pk_ctypes.specs.declared.types.IntType.TheVariants.{Int}
use Rattle.pk_value.specs.Known.{Known, any_of}
use Rattle.pk_octagons.specs.Values.{known_at}
use Rattle.pk_state.specs.Facts.{Facts}
use Rattle.pk_state.specs.Changes.{known_in, AreAlikeAt}
use Rattle.pk_octagons.proofs.Lists.{get_known}

-- a row has sixteen values of a list, from its place on
abbrev pub IsRow : List Known → List Known → ℕ → Type 0
IsRow row vs i = (r : ℕ) → r < 16 → i + r < length vs → slice_get row r ≡ slice_get vs (i + r)

pub row_known : (row vs : List Known) (i r : ℕ) → IsRow row vs i → r < 16 → i + r < length vs → known_at row r ≡ known_at vs (i + r)
row_known row vs i r h p q = get_known row r (known_at vs (i + r)) (h r p q ∙ slice_get-get_or vs (i + r) (any_of Int) q)

-- what holds of the values of a row holds of those of the list, and what held of those before
pub rows_more : (vs ws row raw : List Known) (p : Known → Known → Type 0) (k : ℕ) → length vs ≡ length ws → IsRow row vs (k * 16) → IsRow raw ws (k * 16)
    → ((y : ℕ) → y < k * 16 → y < length vs → p (known_at vs y) (known_at ws y)) → ((r : ℕ) → r < 16 → r < length vs - k * 16 → p (known_at row r) (known_at raw r))
    → (y : ℕ) → y < (k + 1) * 16 → y < length vs → p (known_at vs y) (known_at ws y)
rows_more vs ws row raw p k same h g before now y yk yv = elim (cases_lt y (k * 16)) [
  | inl first ↦ before y first yv
  | inr past ↦ here past
]
  where
    here : k * 16 ≤ y → p (known_at vs y) (known_at ws y)
    here past =
        let r : ℕ = y - k * 16 in
        let at : k * 16 + r ≡ y = omega (arith, past) in
        let small : r < 16 = omega (arith, past, yk) in
        let there : k * 16 + r < length vs = omega (arith, at, yv) in
        subst (λ j. p (known_at vs j) (known_at ws j)) at
        (subst (λ v. p v (known_at ws (k * 16 + r))) (row_known row vs (k * 16) r h small there)
        (subst (λ w. p (known_at row r) w) (row_known raw ws (k * 16) r g small (omega (arith, there, same))) (now r small (omega (arith, past, yv)))))

-- what holds of all values holds of those of a row
pub row_of_all : (vs ws row raw : List Known) (p : Known → Known → Type 0) (k : ℕ) → length vs ≡ length ws → IsRow row vs (k * 16) → IsRow raw ws (k * 16)
    → ((y : ℕ) → y < length vs → p (known_at vs y) (known_at ws y)) → (r : ℕ) → r < 16 → r < length vs - k * 16 → p (known_at row r) (known_at raw r)
row_of_all vs ws row raw p k same h g all r small left =
    let there : k * 16 + r < length vs = omega (arith, left) in
    subst (λ v. p v (known_at raw r)) (sym (row_known row vs (k * 16) r h small there))
    (subst (λ w. p (known_at vs (k * 16 + r)) w) (sym (row_known raw ws (k * 16) r g small (omega (arith, there, same)))) (all (k * 16 + r) there))

-- the values of two rows and those of the lists from their place on
pub alike_in : (vs ws row raw : List Known) (x : ℕ) → length vs ≡ length ws → IsRow row vs x → IsRow raw ws x → ((r : ℕ) → r < 16 → r < length vs - x → known_at row r ≡ known_at raw r)
    → (y : ℕ) → x ≤ y → y < x + 16 → y < length vs → known_at vs y ≡ known_at ws y
alike_in vs ws row raw x same h g is y from to yv =
    let r : ℕ = y - x in
    let at : x + r ≡ y = omega (arith, from) in
    let small : r < 16 = omega (arith, from, to) in
    let there : x + r < length vs = omega (arith, at, yv) in
    subst (λ j. known_at vs j ≡ known_at ws j) at
    (sym (row_known row vs x r h small there) ∙ is r small (omega (arith, from, yv)) ∙ row_known raw ws x r g small (omega (arith, there, same)))

pub alike_row : (vs ws row raw : List Known) (x : ℕ) → length vs ≡ length ws → IsRow row vs x → IsRow raw ws x → ((y : ℕ) → x ≤ y → y < x + 16 → y < length vs → known_at vs y ≡ known_at ws y)
    → (r : ℕ) → r < 16 → r < length vs - x → known_at row r ≡ known_at raw r
alike_row vs ws row raw x same h g all r small left =
    let there : x + r < length vs = omega (arith, left) in
    row_known row vs x r h small there ∙ all (x + r) (omega arith) (omega (arith, small)) there ∙ sym (row_known raw ws x r g small (omega (arith, there, same)))

-- ---- states

pub alike_none : (x n : ℕ) → AreAlikeAt None None x n
alike_none x n y from to yv = refl

pub apart_left : (f : Facts) (x n : ℕ) → x < n → AreAlikeAt None (Some f) x n → ⊥
apart_left f x n p h = let e : known_in None x ≡ known_in (Some f) x = h x (omega arith) (omega arith) p in absurd (cc)

pub apart_right : (f : Facts) (x n : ℕ) → x < n → AreAlikeAt (Some f) None x n → ⊥
apart_right f x n p h = let e : known_in (Some f) x ≡ known_in None x = h x (omega arith) (omega arith) p in absurd (cc)

pub alike_some : (f g : Facts) (x n : ℕ) → length f.values ≡ n → ((y : ℕ) → x ≤ y → y < x + 16 → y < length f.values → known_at f.values y ≡ known_at g.values y) → AreAlikeAt (Some f) (Some g) x n
alike_some f g x n size h y from to yv = ap (λ (v : Known). Some v) (h y from to (omega (arith, size, yv)))

pub alike_values : (f g : Facts) (x n : ℕ) → length f.values ≡ n → AreAlikeAt (Some f) (Some g) x n → (y : ℕ) → x ≤ y → y < x + 16 → y < length f.values → known_at f.values y ≡ known_at g.values y
alike_values f g x n size h y from to yv = let e : Some (known_at f.values y) ≡ Some (known_at g.values y) = h y from to (omega (arith, size, yv)) in cc
