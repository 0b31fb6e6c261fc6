-- Lists of values, each with a text that is told by its bytes: how they are read one behind the other.
use Rattle.std.specs.Prelude.{◌≡◌, ℕ, zero, suc, ◌+◌, ◌≤◌, List, [], ◌∷◌, ◌++◌, length, take, drop}
use Rattle.std.proofs.Common.{arith, refl, sym, ap, subst, ◌∙◌, append_assoc, take-append-drop}
use Rattle.std.proofs.lemmas.List.{append-nil, length-append, length-take-le, length-drop, drop-drop}
use Rattle.std.proofs.Math.Seq.{take-add, take-append_seam}
use Rattle.pk_cert.specs.Beginnings.{TextsOf, Begins, Leads, IsStop}
use Rattle.pk_cert.specs.Rows.{AreEach, text_of}
use Rattle.pk_cert.specs.Pieces.{AreFirst}
use Rattle.pk_cert.proofs.Stops.{stop_part, stop_behind}

-- the text of each value is told by its bytes, whatever stands behind it
abbrev pub AreTold : {A : Type 0} → (A → Type 0) → (A → List ℕ) → Type 0
AreTold {A} P text = (a b : A) (x y : List ℕ) → P a → P b → text a ++ x ≡ text b ++ y → (a ≡ b) × (x ≡ y)

-- texts of so many values
abbrev pub Texts : {A : Type 0} → (ℕ → A → Type 0) → (ℕ → A → List ℕ) → ℕ → List ℕ → Type 0
Texts P text n = TextsOf (AreEach n P) (text_of text)

-- The values of `done` were read, up to the byte `at`, and m of n are left.
pub record AreReading {A : Type 0} (P : ℕ → A → Type 0) (text : ℕ → A → List ℕ) (n m : ℕ) (bytes : List ℕ) (done : List A) (at : ℕ) : Type 0 where
  pub fits : at ≤ length bytes
  pub count : length done + m ≡ n
  pub joined : (more : List A) → AreEach m P more → AreEach n P (done ++ more)
  pub told : (more : List A) → length more ≡ m → text_of text (done ++ more) ≡ take at bytes ++ text_of text more
  pub stops : (k : ℕ) → IsStop (Texts P text m) (drop at bytes) k → IsStop (Texts P text n) bytes (at + k)

module _ {A : Type 0} (P : ℕ → A → Type 0) (text : ℕ → A → List ℕ) where
  pub begun : (n : ℕ) (bytes : List ℕ) → AreReading P text n n bytes [] 0
  begun n bytes = record {
    fits = omega arith;
    count = omega arith;
    joined = λ more h. h;
    told = λ more h. refl;
    stops = λ k s. subst (IsStop (Texts P text n) bytes) (omega arith) s;
  }

  pub ended : (n : ℕ) (bytes : List ℕ) (done : List A) (at : ℕ) → AreReading P text n 0 bytes done at → AreEach n P done × AreFirst (text_of text done) bytes at
  ended n bytes done at r =
      let all : done ++ [] ≡ done = append-nil done in
      let t : text_of text done ≡ take at bytes = ap (text_of text) (sym all) ∙ r.told [] refl ∙ append-nil (take at bytes) in (
        subst (AreEach n P) all (r.joined [] record { size = refl; each = tt }),
        record { size = sym (ap (length {A = ℕ}) t ∙ length-take-le at bytes r.fits); told = sym (take-append-drop at bytes) ∙ ap (λ (x : List ℕ). x ++ drop at bytes) (sym t) },
      )

  module _ (told : (m : ℕ) → AreTold (P m) (text m)) where
    later : (m : ℕ) (a : A) (rest : List ℕ) (k : ℕ) → P m a → IsStop (Texts P text m) rest k → IsStop (Texts P text (suc m)) (text m a ++ rest) (length (text m a) + k)
    later m a rest k is = stop_behind (Texts P text m) (Texts P text (suc m)) (text m a) rest k
        (λ x t. on x t.0 t.1 t.2) (λ x b. back x b.1 b.2.0 b.2.1 (b.3 ∙ ap (λ (y : List ℕ). y ++ b.1) b.2.2))
      where
        on : (x : List ℕ) (list : List A) → AreEach m P list → x ≡ text_of text list → Texts P text (suc m) (text m a ++ x)
        on x list each e = (a ∷ list, record { size = omega (arith, each.size); each = (subst (λ (j : ℕ). P j a) (sym each.size) is, each.each) }, ap (λ (j : ℕ). text j a ++ x) (sym each.size) ∙ ap (λ (y : List ℕ). text (length list) a ++ y) e)

        back : (x r : List ℕ) (list : List A) → AreEach (suc m) P list → text m a ++ x ≡ text_of text list ++ r → Leads (Texts P text m) x
        back x r [] each e = absurd (omega (arith, each.size))
        back x r (b ∷ list) each e =
            let same : length list ≡ m = omega (arith, each.size) in
            let is_b : P m b = subst (λ (j : ℕ). P j b) same each.each.0 in
            let q = told m a b x (text_of text list ++ r) is is_b (e ∙ append_assoc (text (length list) b) (text_of text list) r ∙ ap (λ (j : ℕ). text j b ++ (text_of text list ++ r)) same) in
            (text_of text list, r, (list, record { size = same; each = each.each.1 }, refl), q.1)

    pub next : (n m : ℕ) (bytes : List ℕ) (done : List A) (at : ℕ) (a : A) (k : ℕ) → AreReading P text n (suc m) bytes done at → P m a → AreFirst (text m a) (drop at bytes) k
        → AreReading P text n m bytes (done ++ a ∷ []) (at + k)
    next n m bytes done at a k r is first = record {
      fits = fits;
      count = omega (arith, length-append done (a ∷ []), r.count);
      joined = λ more h. subst (AreEach n P) (sym (append_assoc done (a ∷ []) more))
          (r.joined (a ∷ more) record { size = omega (arith, h.size); each = (subst (λ (j : ℕ). P j a) (sym h.size) is, h.each) });
      told = λ more h.
          ap (text_of text) (append_assoc done (a ∷ []) more) ∙ r.told (a ∷ more) (omega (arith, h))
          ∙ ap (λ (j : ℕ). take at bytes ++ (text j a ++ text_of text more)) h
          ∙ ap (λ (x : List ℕ). take at bytes ++ (x ++ text_of text more)) (sym front)
          ∙ sym (append_assoc (take at bytes) (take k (drop at bytes)) (text_of text more))
          ∙ ap (λ (x : List ℕ). x ++ text_of text more) (sym (take-add at k bytes));
      stops = λ j s.
          let there = r.stops (length (text m a) + j) (subst (λ (x : List ℕ). IsStop (Texts P text (suc m)) x (length (text m a) + j)) (sym first.told)
          (later m a (drop k (drop at bytes)) j is (subst (λ (x : List ℕ). IsStop (Texts P text m) x j) behind s))) in
          subst (IsStop (Texts P text n) bytes) (omega (arith, first.size)) there;
    }
      where
        behind : drop (at + k) bytes ≡ drop k (drop at bytes)
        behind = sym (drop-drop k at bytes)

        front : take k (drop at bytes) ≡ text m a
        front = ap (λ (x : List ℕ). take k x) first.told ∙ ap (λ (j : ℕ). take j (text m a ++ drop k (drop at bytes))) first.size ∙ take-append_seam (text m a) (drop k (drop at bytes))

        fits : at + k ≤ length bytes
        fits = omega (arith, r.fits, ap (length {A = ℕ}) first.told, length-append (text m a) (drop k (drop at bytes)), first.size, length-drop at bytes)

    module _ (some : (m : ℕ) → (a : A) × P m a) where
      filled : (n : ℕ) → (list : List A) × AreEach n P list
      filled zero = ([], record { size = refl; each = tt })
      filled (suc n) =
          let rest = filled n in
          let a = some n in
          (a.0 ∷ rest.0, record { size = omega (arith, rest.1.size); each = (subst (λ (j : ℕ). P j a.0) (sym rest.1.size) a.1, rest.1.each) })

      pub stopped : (n m : ℕ) (bytes : List ℕ) (done : List A) (at k : ℕ) → AreReading P text n (suc m) bytes done at
          → IsStop (TextsOf (P m) (text m)) (drop at bytes) k → IsStop (Texts P text n) bytes (at + k)
      stopped n m bytes done at k r s = r.stops k (stop_part (TextsOf (P m) (text m)) (Texts P text (suc m)) (drop at bytes) k
          (λ x t. on x t.0 t.1 t.2) (λ x b. back x b.1 b.2.0 b.2.1 (b.3 ∙ ap (λ (y : List ℕ). y ++ b.1) b.2.2)) s)
        where
          on : (x : List ℕ) (a : A) → P m a → x ≡ text m a → Begins (Texts P text (suc m)) x
          on x a is e =
              let rest = filled m in (
                text_of text rest.0,
                (
                  a ∷ rest.0,
                  record { size = omega (arith, rest.1.size); each = (subst (λ (j : ℕ). P j a) (sym rest.1.size) is, rest.1.each) },
                  (λ i. e i ++ text_of text rest.0) ∙ ap (λ (j : ℕ). text j a ++ text_of text rest.0) (sym rest.1.size),
                ),
              )

          back : (x r : List ℕ) (list : List A) → AreEach (suc m) P list → x ≡ text_of text list ++ r → Leads (TextsOf (P m) (text m)) x
          back x r [] each e = absurd (omega (arith, each.size))
          back x r (b ∷ list) each e =
              let same : length list ≡ m = omega (arith, each.size) in (
                text m b,
                text_of text list ++ r,
                (b, subst (λ (j : ℕ). P j b) same each.each.0, refl),
                e ∙ append_assoc (text (length list) b) (text_of text list) r ∙ ap (λ (j : ℕ). text j b ++ (text_of text list ++ r)) same,
              )

    -- so lists are told by their bytes
    pub lists_told : (n : ℕ) → AreTold (AreEach n P) (text_of text)
    lists_told n [] [] x y h k e = (refl, e)
    lists_told n [] (b ∷ bs) x y h k e = absurd (omega (arith, h.size, k.size))
    lists_told n (a ∷ list) [] x y h k e = absurd (omega (arith, h.size, k.size))
    lists_told zero (a ∷ list) (b ∷ bs) x y h k e = absurd (omega (arith, h.size))
    lists_told (suc n) (a ∷ list) (b ∷ bs) x y h k e =
        let p : length list ≡ n = omega (arith, h.size) in
        let q : length bs ≡ n = omega (arith, k.size) in
        let one = told n a b (text_of text list ++ x) (text_of text bs ++ y) (subst (λ (j : ℕ). P j a) p h.each.0) (subst (λ (j : ℕ). P j b) q k.each.0)
        (ap (λ (j : ℕ). text j a ++ (text_of text list ++ x)) (sym p) ∙ sym (append_assoc (text (length list) a) (text_of text list) x) ∙ e
        ∙ append_assoc (text (length bs) b) (text_of text bs) y ∙ ap (λ (j : ℕ). text j b ++ (text_of text bs ++ y)) q) in
        let more = lists_told n list bs x y record { size = p; each = h.each.1 } record { size = q; each = k.each.1 } one.1 in
        ((λ i. one.0 i ∷ more.0 i), more.1)
