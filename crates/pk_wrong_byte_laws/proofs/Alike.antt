-- Texts that begin alike.
use Rattle.std.proofs.Common.{◌≡◌, ◌⊎◌, inl, inr, ℕ, suc, ◌+◌, ◌≤◌, ◌==◌, List, [], ◌∷◌, ◌++◌, length, take, drop, refl, sym, ap, ◌∙◌, Bool, true, false, cond, arith, one-add}
use Rattle.std.specs.List.{prefix_len, list_all, zip}
use Rattle.std.proofs.lemmas.Bool.{and_parts, and_from, eq-eqb, eqb-true}

-- what stands there doesn't begin with such a byte
abbrev pub Apart : (ℕ → Bool) → List ℕ → Type 0
Apart test [] = Unit {0}
Apart test (b ∷ bytes) = test b ≡ false

-- the longer of two beginnings of a text has the shorter one in front
pub record Longer (a b same x : List ℕ) : Type 0 where
  pub more : List ℕ
  pub longer : same ≡ a ++ more
  pub rest : b ≡ more ++ x

pub longer_of : (a b same x : List ℕ) → a ++ b ≡ same ++ x → length a ≤ length same → Longer a b same x
longer_of [] b same x e h = record { more = same; longer = refl; rest = e }
longer_of (c ∷ a) b [] x e h = absurd (omega (arith, h))
longer_of (c ∷ a) b (d ∷ same) x e h =
    let heads : c ≡ d = cc e in
    let tails : a ++ b ≡ same ++ x = cc e in
    let s = longer_of a b same x tails (omega (arith, h)) in
    record { more = s.more; longer = ap (λ (n : ℕ). n ∷ same) (sym heads) ∙ ap (λ (l : List ℕ). c ∷ l) s.longer; rest = s.rest }

pub cancelled : (a b c : List ℕ) → a ++ b ≡ a ++ c → b ≡ c
cancelled [] b c e = e
cancelled (d ∷ a) b c e = cancelled a b c (cc e)

-- ---- the longest front that passes a test

passing_one : (p : ℕ → Bool) (t : ℕ) (text : List ℕ) → p t ≡ true → prefix_len p (t ∷ text) ≡ suc (prefix_len p text)
passing_one p t text e = rw (e, one-add) refl

stopped_one : (p : ℕ → Bool) (t : ℕ) (text : List ℕ) → p t ≡ false → prefix_len p (t ∷ text) ≡ 0
stopped_one p t text e = rw e refl

one_more : (p : ℕ → Bool) (t : ℕ) (u text same : List ℕ) → p t ≡ true →
    (length same ≤ prefix_len p text) ⊎ (u ≡ take (prefix_len p text) text) →
    (length (t ∷ same) ≤ prefix_len p (t ∷ text)) ⊎ (t ∷ u ≡ take (prefix_len p (t ∷ text)) (t ∷ text))
one_more p t u text same e (inl h) = inl (rw (passing_one p t text e) (omega (arith, h)))
one_more p t u text same e (inr h) = inr (rw (passing_one p t text e) (ap (λ (l : List ℕ). t ∷ l) h))

pub kept : (p : ℕ → Bool) (text : List ℕ) → list_all p (take (prefix_len p text) text) ≡ true
kept p [] = refl
kept p (t ∷ text) = by_test (p t) refl (kept p text)
  where
    by_test : (is_in : Bool) → is_in ≡ p t → list_all p (take (prefix_len p text) text) ≡ true →
        list_all p (take (cond is_in (1 + prefix_len p text) 0) (t ∷ text)) ≡ true
    by_test true e h = rw one-add (and_from (p t) (list_all p (take (prefix_len p text) text)) (sym e) h)
    by_test false e h = refl

-- A text of bytes that pass, with none that passes behind it, agrees with another one no longer than that passes.
pub munched : (p : ℕ → Bool) (u w text same x y : List ℕ) → list_all p u ≡ true → Apart p w → u ++ w ≡ same ++ x → text ≡ same ++ y →
    (length same ≤ prefix_len p text) ⊎ (u ≡ take (prefix_len p text) text)
munched p u w text [] x y all apart e f = inl (omega arith)
munched p u w [] (s ∷ same) x y all apart e f = absurd (cc f)
munched p [] [] (t ∷ text) (s ∷ same) x y all apart e f = absurd (cc e)
munched p [] (b ∷ w) (t ∷ text) (s ∷ same) x y all apart e f =
    let equal : b ≡ t = cc (e, f) in
    let stopped : p t ≡ false = ap p (sym equal) ∙ apart in
    inr (rw (stopped_one p t text stopped) refl)
munched p (b ∷ u) w (t ∷ text) (s ∷ same) x y all apart e f =
    let equal : b ≡ t = cc (e, f) in
    let both = and_parts (p b) (list_all p u) all in
    let tails : u ++ w ≡ same ++ x = cc e in
    let texts : text ≡ same ++ y = cc f in
    rw equal (one_more p t u text same (ap p (sym equal) ∙ both.0) (munched p u w text same x y both.1 apart tails texts))

-- ---- a literal

abbrev pub shared : List ℕ → List ℕ → ℕ
shared l text = prefix_len (λ p. p.0 == p.1) (zip text l)

pub shared_front : (l text : List ℕ) → take (shared l text) text ++ drop (shared l text) l ≡ l
shared_front l [] = refl
shared_front [] (t ∷ text) = refl
shared_front (c ∷ l) (t ∷ text) = by_test (t == c) refl (shared_front l text)
  where
    by_test : (is_same : Bool) → is_same ≡ (t == c) → take (shared l text) text ++ drop (shared l text) l ≡ l →
        take (cond is_same (1 + shared l text) 0) (t ∷ text) ++ drop (cond is_same (1 + shared l text) 0) (c ∷ l) ≡ c ∷ l
    by_test true e h =
        let equal : t ≡ c = eqb-true t c (sym e) in
        rw one-add (ap (λ (n : ℕ). n ∷ (take (shared l text) text ++ drop (shared l text) l)) equal ∙ ap (λ (m : List ℕ). c ∷ m) h)
    by_test false e h = refl

more_shared : (c : ℕ) (l text same : List ℕ) →
    (length same ≤ shared l text) ⊎ (l ≡ take (shared l text) text) →
    (length (c ∷ same) ≤ shared (c ∷ l) (c ∷ text)) ⊎ (c ∷ l ≡ take (shared (c ∷ l) (c ∷ text)) (c ∷ text))
more_shared c l text same (inl h) = inl (rw (eq-eqb c c refl, one-add) (omega (arith, h)))
more_shared c l text same (inr h) = inr (rw (eq-eqb c c refl, one-add) (ap (λ (m : List ℕ). c ∷ m) h))

pub shared_furthest : (l w text same x y : List ℕ) → l ++ w ≡ same ++ x → text ≡ same ++ y →
    (length same ≤ shared l text) ⊎ (l ≡ take (shared l text) text)
shared_furthest l w text [] x y e f = inl (omega arith)
shared_furthest l w [] (s ∷ same) x y e f = absurd (cc f)
shared_furthest [] w (t ∷ text) (s ∷ same) x y e f = inr refl
shared_furthest (c ∷ l) w (t ∷ text) (s ∷ same) x y e f =
    let heads : t ≡ c = cc (e, f) in
    let tails : l ++ w ≡ same ++ x = cc e in
    let texts : text ≡ same ++ y = cc f in
    rw heads (more_shared c l text same (shared_furthest l w text same x y tails texts))

pub shared_within : (l text : List ℕ) → shared l text ≤ length text
shared_within l [] = omega arith
shared_within [] (t ∷ text) = omega arith
shared_within (c ∷ l) (t ∷ text) = by_test (t == c) (shared_within l text)
  where
    by_test : (is_same : Bool) → shared l text ≤ length text → cond is_same (1 + shared l text) 0 ≤ length (t ∷ text)
    by_test true h = omega (arith, h)
    by_test false h = omega arith
