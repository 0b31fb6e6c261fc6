-- A stage of the lowering, and those of its parts.
use Rattle.std.proofs.Common.{◌≡◌, ℕ, ◌+◌, ◌<◌, ◌≤◌, ◌⊎◌, List, [], ◌∷◌, ◌++◌, length, refl, sym, ap, ◌∙◌, subst, inl, inr, arith}
use Rattle.std.specs.Prelude.{slice_set}
use Rattle.std.proofs.lemmas.List.{get_or-set_same, get_or-set_other, length-set}
use Rattle.pk_typed.specs.Trees.{ValueTree, EffectTree, ValueTrees}
use Rattle.pk_welltyped.specs.Listed.{Numbered, calls_in, calls_in_effect, calls_in_values}
use Rattle.pk_graph.specs.Graphs.{VariableOf}
use Rattle.pk_draft.specs.declared.drafts.Label.{Label}
use Rattle.pk_draft.specs.declared.drafts.Region.{Region}
use Rattle.pk_draft.specs.Drafts.{Names, no_label, emit, fresh}
use Rattle.pk_draft.specs.declared.drafts.Size.{Size}
use Rattle.pk_lower_row.specs.Contexts.{Context, callee, size_in}
use Rattle.pk_lower_expression.specs.Expressions.{ways, performed, passed}
use Rattle.pk_meaning.specs.Work.{Place}
use Rattle.pk_visits.proofs.Slots.{Slot, Edge, Scoping, Takes, KeepsBy, region_at, Draft, Instr, edge, Among, Keeps, Grows, label_at, front_among, last_among, Uncalled}
use Rattle.pk_visits.proofs.Grows.Rows.{WaysGrow, Makes, PassGrows}
use Rattle.pk_visits.proofs.Grows.Expressions.{AllCalled, values, effects, arguments}
use Rattle.pk_visits.proofs.Stands.{IsReserved, Whole, context_of, ShowsAt, Leads, led_to, Distinct, Stage, IsCalled}

-- ---- lists

pub back_among : {A : Type 0} (xs ys : List A) (x : A) → Among x ys → Among x (xs ++ ys)
back_among [] ys x h = h
back_among (z ∷ xs) ys x h = inr (back_among xs ys x h)

pub among_front : (xs ys : List ℕ) (m : ℕ) → Among m xs → Among m (xs ++ ys)
among_front [] ys m h = absurd h
among_front (x ∷ xs) ys m (inl e) = inl e
among_front (x ∷ xs) ys m (inr h) = inr (among_front xs ys m h)

pub among_back : (xs ys : List ℕ) (m : ℕ) → Among m ys → Among m (xs ++ ys)
among_back [] ys m h = h
among_back (x ∷ xs) ys m h = inr (among_back xs ys m h)

pub among_either : (xs ys : List ℕ) (m : ℕ) → Among m (xs ++ ys) → Among m xs ⊎ Among m ys
among_either [] ys m h = inr h
among_either (x ∷ xs) ys m (inl e) = inl (inl e)
among_either (x ∷ xs) ys m (inr h) = by (among_either xs ys m h) where
  by : Among m xs ⊎ Among m ys → Among m (x ∷ xs) ⊎ Among m ys
  by (inl k) = inl (inr k)
  by (inr k) = inr k

pub distinct_front : (xs ys : List ℕ) → Distinct (xs ++ ys) → Distinct xs
distinct_front [] ys h = tt
distinct_front (x ∷ xs) ys h = (λ k. h.0 (among_front xs ys x k), distinct_front xs ys h.1)

pub distinct_back : (xs ys : List ℕ) → Distinct (xs ++ ys) → Distinct ys
distinct_back [] ys h = h
distinct_back (x ∷ xs) ys h = distinct_back xs ys h.1

pub distinct_between : (xs ys : List ℕ) (m : ℕ) → Distinct (xs ++ ys) → Among m xs → Among m ys → ⊥
distinct_between [] ys m h a b = a
distinct_between (x ∷ xs) ys m h (inl e) b = h.0 (among_back xs ys x (subst (λ z. Among z ys) e b))
distinct_between (x ∷ xs) ys m h (inr a) b = distinct_between xs ys m h.1 a b

pub led_both : (c : Context) (xs ys : List Numbered) → led_to c (xs ++ ys) ≡ led_to c xs ++ led_to c ys
led_both c [] ys = refl
led_both c (x ∷ xs) ys = ap (λ zs. callee c x.number ∷ zs) (led_both c xs ys)

-- ---- what a tree's calls touch

abbrev pub In : List ℕ → ℕ → Type 0
In xs m = Among m xs

called_more : (c : Context) (ys : List Numbered) (y : Numbered) (xs : List Numbered) → AllCalled (IsCalled c ys) c xs → AllCalled (IsCalled c (y ∷ ys)) c xs
called_more c ys y [] h = tt
called_more c ys y (x ∷ xs) ((z, a, m, n), h) = ((z, inr a, m, n), called_more c ys y xs h)

pub all_called : (c : Context) (xs : List Numbered) → AllCalled (IsCalled c xs) c xs
all_called c [] = tt
all_called c (x ∷ xs) = ((x, inl refl, refl, refl), called_more c xs x xs (all_called c xs))

-- the path is one that calls lead to
pub led_called : (c : Context) (xs : List Numbered) (m : ℕ) (s : Size) → IsCalled c xs m s → Among m (led_to c xs)
led_called c xs m s (z, a, e, n) = subst (λ i. Among i (led_to c xs)) (sym e) (led_among xs z a) where
  led_among : (xs : List Numbered) (z : Numbered) → Among z xs → Among (callee c z.number) (led_to c xs)
  led_among [] z h = absurd h
  led_among (x ∷ xs) z (inl e) = inl (ap (λ (y : Numbered). callee c y.number) e)
  led_among (x ∷ xs) z (inr h) = inr (led_among xs z h)

pub ways_grow : (c : Context) (e : ValueTree) → WaysGrow (IsCalled c (calls_in e)) (ways c e)
ways_grow c e = values (IsCalled c (calls_in e)) c e (all_called c (calls_in e))

pub effect_grows : (c : Context) (e : EffectTree) → Makes (IsCalled c (calls_in_effect e)) (performed c e)
effect_grows c e = effects (IsCalled c (calls_in_effect e)) c e (all_called c (calls_in_effect e))

pub passed_grows : (c : Context) (es : ValueTrees) → PassGrows (IsCalled c (calls_in_values es)) (passed c es)
passed_grows c es = arguments (IsCalled c (calls_in_values es)) c es (all_called c (calls_in_values es))

-- the calls of a part are among those of the whole
pub first_called : (c : Context) (xs ys : List Numbered) (m : ℕ) (s : Size) → IsCalled c xs m s → IsCalled c (xs ++ ys) m s
first_called c xs ys m s (z, a, e, n) = (z, front_among xs ys z a, e, n)

pub second_called : (c : Context) (xs ys : List Numbered) (m : ℕ) (s : Size) → IsCalled c ys m s → IsCalled c (xs ++ ys) m s
second_called c xs ys m s (z, a, e, n) = (z, back_among xs ys z a, e, n)

-- ---- stages

composed : {A B : Type 0} {x y z : A} → ⊥ ⊎ (y ≡ x) → B ⊎ (z ≡ y) → B ⊎ (z ≡ x)
composed (inl h) b = absurd h
composed (inr a) (inl h) = inl h
composed (inr a) (inr b) = inr (b ∙ a)

regional : {B A : Type 0} {x y z : A} (xs ys : List ℕ) (m : ℕ) → (B → Among m xs) → B ⊎ (y ≡ x) → Among m ys ⊎ (z ≡ y) → Among m (xs ++ ys) ⊎ (z ≡ x)
regional xs ys m t (inl h) b = inl (among_front xs ys m (t h))
regional xs ys m t (inr a) (inl h) = inl (among_back xs ys m h)
regional xs ys m t (inr a) (inr b) = inr (b ∙ a)

-- an earlier stage leads to the graph too
pub leads_back : (g : Whole) (C : ℕ → Size → Type 0) (marks later cs : List ℕ) (d e : Draft) → ((m : ℕ) (z : Size) → C m z → In cs m) → Grows C d e → Leads g marks later e → Leads g marks (cs ++ later) d
leads_back g C marks later cs d e paths s l = record {
  edges = λ x h. l.edges x (s.edges x h);
  names = sym s.names ∙ l.names;
  room = let a = s.points in let b = l.room in let c = s.size in omega (arith, a, b, c);
  labels = λ q h. composed (s.labels q h) (l.labels q (let a = s.points in omega (arith, h, a)));
  regions = λ k. regional cs later k (λ t. paths k t.0 t.1) (s.regions k) (l.regions k);
  paths = sym s.paths ∙ l.paths;
  scopes = λ n z h. l.scopes n z (s.scopes n z h);
}

-- regions that are taken of p up to q are as large as the graph says
pub record ForthBy (g : Whole) (p q : ℕ) (rs ts : List Region) : Type 0 where
  pub points : p ≤ q
  pub regions : (m : ℕ) → ((p ≤ (region_at ts m).points) × ((region_at ts m).points + g.spans m ≤ q)) ⊎ (region_at ts m ≡ region_at rs m)

abbrev pub Forth : Whole → Draft → Draft → Type 0
Forth g d e = ForthBy g d.points e.points d.regions e.regions

abbrev pub Spanned : Whole → (ℕ → Size → Type 0) → Type 0
Spanned g C = (m : ℕ) (z : Size) → C m z → z.points ≡ g.spans m

pub forth : {R : Label → Label → Type 0} {M S : ℕ → Type 0} {C : ℕ → Size → Type 0} {es fs : List Edge} {ns ms : Names Slot} {v w p q : ℕ} {ls ks : List Label} {rs ts : List Region} {aa bb : Scoping} {h i : Label} {xs ys : List VariableOf} {ps qs : List ℕ} (g : Whole)
    → Spanned g C → KeepsBy R M S C es ns v p ls rs aa h xs ps fs ms w q ks ts bb i ys qs → ForthBy g p q rs ts
forth {p = p} {q = q} {rs = rs} {ts = ts} g spanned a = record { points = a.points; regions = λ m. by m (region_at ts m) (region_at rs m) (spanned m) (a.regions m) } where
  by : {C : Size → Type 0} {p q v w : ℕ} (m : ℕ) (r o : Region) → ((z : Size) → C z → z.points ≡ g.spans m) → Takes C p q v w r ⊎ (r ≡ o) → ((p ≤ r.points) × (r.points + g.spans m ≤ q)) ⊎ (r ≡ o)
  by m r o t (inl (z, c, from, to, x, y)) = inl (from, let e = t z c in omega (arith, to, e))
  by m r o t (inr e) = inr e

pub spanned : (g : Whole) (k : ℕ) (xs : List Numbered) → ((z : Numbered) → Among z xs → (size_in g.sizes z.call.function).points ≡ g.spans (callee (context_of g k) z.number)) → Spanned g (IsCalled (context_of g k) xs)
spanned g k xs t m y (z, a, e, n) = ap (λ (x : Size). x.points) n ∙ t z a ∙ ap g.spans (sym e)

-- where no path is called; where all calls of a stage may be made; those of its first part; of its last
pub forth_none : {R : Label → Label → Type 0} {M S : ℕ → Type 0} {es fs : List Edge} {ns ms : Names Slot} {v w p q : ℕ} {ls ks : List Label} {rs ts : List Region} {aa bb : Scoping} {h i : Label} {xs ys : List VariableOf} {ps qs : List ℕ} (g : Whole)
    → KeepsBy R M S Uncalled es ns v p ls rs aa h xs ps fs ms w q ks ts bb i ys qs → ForthBy g p q rs ts
forth_none g a = forth g (λ m z c. absurd c) a

pub forth_all : {R : Label → Label → Type 0} {M S : ℕ → Type 0} {es fs : List Edge} {ns ms : Names Slot} {v w p q : ℕ} {ls ks : List Label} {rs ts : List Region} {aa bb : Scoping} {h i : Label} {xs ys : List VariableOf} {ps qs : List ℕ}
    (g : Whole) (k : ℕ) (j : Place) (cs : List Numbered) (d f : Draft) → Stage g k j cs d f → KeepsBy R M S (IsCalled (context_of g k) cs) es ns v p ls rs aa h xs ps fs ms w q ks ts bb i ys qs → ForthBy g p q rs ts
forth_all g k j cs d f s a = forth g (spanned g k cs s.spans) a

pub forth_first : {R : Label → Label → Type 0} {M S : ℕ → Type 0} {es fs : List Edge} {ns ms : Names Slot} {v w p q : ℕ} {ls ks : List Label} {rs ts : List Region} {aa bb : Scoping} {h i : Label} {xs ys : List VariableOf} {ps qs : List ℕ}
    (g : Whole) (k : ℕ) (j : Place) (bs cs : List Numbered) (d f : Draft) → Stage g k j (bs ++ cs) d f → KeepsBy R M S (IsCalled (context_of g k) bs) es ns v p ls rs aa h xs ps fs ms w q ks ts bb i ys qs → ForthBy g p q rs ts
forth_first g k j bs cs d f s a = forth g (spanned g k bs (λ z b. s.spans z (front_among bs cs z b))) a

pub forth_second : {R : Label → Label → Type 0} {M S : ℕ → Type 0} {es fs : List Edge} {ns ms : Names Slot} {v w p q : ℕ} {ls ks : List Label} {rs ts : List Region} {aa bb : Scoping} {h i : Label} {xs ys : List VariableOf} {ps qs : List ℕ}
    (g : Whole) (k : ℕ) (j : Place) (bs cs : List Numbered) (d f : Draft) → Stage g k j (bs ++ cs) d f → KeepsBy R M S (IsCalled (context_of g k) cs) es ns v p ls rs aa h xs ps fs ms w q ks ts bb i ys qs → ForthBy g p q rs ts
forth_second g k j bs cs d f s a = forth g (spanned g k cs (λ z b. s.spans z (back_among bs cs z b))) a

pub forth_here : (g : Whole) (p : ℕ) (rs : List Region) → ForthBy g p p rs rs
forth_here g p rs = record { points = omega arith; regions = λ m. inr refl }

pub forth_then : {p q r : ℕ} {rs ts us : List Region} (g : Whole) → ForthBy g p q rs ts → ForthBy g q r ts us → ForthBy g p r rs us
forth_then {p} {q} {r} {rs} {ts} {us} g a b = record { points = (let x = a.points in let y = b.points in omega (arith, x, y)); regions = λ m. by m (a.regions m) (b.regions m) } where
  by : (m : ℕ) → ((p ≤ (region_at ts m).points) × ((region_at ts m).points + g.spans m ≤ q)) ⊎ (region_at ts m ≡ region_at rs m)
      → ((q ≤ (region_at us m).points) × ((region_at us m).points + g.spans m ≤ r)) ⊎ (region_at us m ≡ region_at ts m) → ((p ≤ (region_at us m).points) × ((region_at us m).points + g.spans m ≤ r)) ⊎ (region_at us m ≡ region_at rs m)
  by m x (inl (i, j)) = inl (let y = a.points in omega (arith, i, y), j)
  by m (inl (i, j)) (inr e) = let n = ap (λ (z : Region). z.points) e in inl (omega (arith, i, n), let y = b.points in omega (arith, j, n, y))
  by m (inr c) (inr e) = inr (e ∙ c)

-- regions behind a draft
abbrev pub Later : (p : ℕ) → (ts us : List Region) → Type 0
Later p ts us = (m : ℕ) → (p ≤ (region_at us m).points) ⊎ (region_at us m ≡ region_at ts m)

pub later_of : {C : ℕ → Size → Type 0} {p q v w : ℕ} (ts us : List Region) → ((m : ℕ) → Takes (C m) p q v w (region_at us m) ⊎ (region_at us m ≡ region_at ts m)) → Later p ts us
later_of ts us t m = by (region_at us m) (region_at ts m) (t m) where
  by : {C : Size → Type 0} {p q v w : ℕ} (r o : Region) → Takes C p q v w r ⊎ (r ≡ o) → (p ≤ r.points) ⊎ (r ≡ o)
  by r o (inl (z, c, from, to, x, y)) = inl from
  by r o (inr e) = inr e

-- marks up to an earlier draft
pub bounded_until : (g : Whole) (k : ℕ) (h : Place) (xs : List Numbered) (d f : Draft) (p : ℕ) (ts : List Region) (s : Stage g k h xs d f) → p ≤ f.points → Later p ts f.regions → (q : ℕ) → Among q s.marks → d.points ≤ q → q < p → IsReserved g k ts q
bounded_until g k h xs d f p ts s le later q a from to = by (s.bounded q a from (omega (arith, to, le))) where
  moved : (m : ℕ) → k < m → 0 < (region_at f.regions m).points → (region_at f.regions m).points ≤ q → q < (region_at f.regions m).points + g.spans m → (p ≤ (region_at f.regions m).points) ⊎ (region_at f.regions m ≡ region_at ts m) → IsReserved g k ts q
  moved m i z l u (inl x) = absurd (omega (arith, x, l, to))
  moved m i z l u (inr e) = let n = ap (λ (r : Region). r.points) e in (m, i, omega (arith, z, n), omega (arith, l, n), omega (arith, u, n))

  by : IsReserved g k f.regions q → IsReserved g k ts q
  by (m, i, z, l, u) = moved m i z l u (later m)

pub free_until : (g : Whole) (k : ℕ) (h : Place) (xs : List Numbered) (d f : Draft) (p : ℕ) → Stage g k h xs d f → p ≤ f.points
    → (m : ℕ) → k < m → ((region_at d.regions m).points ≡ 0) ⊎ ((region_at d.regions m).points + g.spans m ≤ d.points) ⊎ (p ≤ (region_at d.regions m).points)
free_until g k h xs d f p s le m i = by (s.free m i) where
  by : ((region_at d.regions m).points ≡ 0) ⊎ ((region_at d.regions m).points + g.spans m ≤ d.points) ⊎ (f.points ≤ (region_at d.regions m).points)
      → ((region_at d.regions m).points ≡ 0) ⊎ ((region_at d.regions m).points + g.spans m ≤ d.points) ⊎ (p ≤ (region_at d.regions m).points)
  by (inl z) = inl z
  by (inr (inl z)) = inr (inl z)
  by (inr (inr z)) = inr (inr (omega (arith, z, le)))

-- and from a later one
pub free_from : (g : Whole) (k : ℕ) (h : Place) (xs : List Numbered) (d f : Draft) (p : ℕ) (ts : List Region) → Stage g k h xs d f → ForthBy g d.points p d.regions ts
    → (m : ℕ) → k < m → ((region_at ts m).points ≡ 0) ⊎ ((region_at ts m).points + g.spans m ≤ p) ⊎ (f.points ≤ (region_at ts m).points)
free_from g k h xs d f p ts s t m i = by (t.regions m) (s.free m i) where
  by : ((d.points ≤ (region_at ts m).points) × ((region_at ts m).points + g.spans m ≤ p)) ⊎ (region_at ts m ≡ region_at d.regions m)
      → ((region_at d.regions m).points ≡ 0) ⊎ ((region_at d.regions m).points + g.spans m ≤ d.points) ⊎ (f.points ≤ (region_at d.regions m).points)
      → ((region_at ts m).points ≡ 0) ⊎ ((region_at ts m).points + g.spans m ≤ p) ⊎ (f.points ≤ (region_at ts m).points)
  by (inl x) y = inr (inl x.1)
  by (inr e) (inl y) = let n = ap (λ (r : Region). r.points) e in inl (omega (arith, y, n))
  by (inr e) (inr (inl y)) = let n = ap (λ (r : Region). r.points) e in let le = t.points in inr (inl (omega (arith, y, n, le)))
  by (inr e) (inr (inr y)) = let n = ap (λ (r : Region). r.points) e in inr (inr (omega (arith, y, n)))

-- a point that is made between two drafts with the same regions is no mark
pub made_unmarked : (g : Whole) (k : ℕ) (h : Place) (xs : List Numbered) (d f : Draft) (p n : ℕ) (ts : List Region) (q : ℕ) (s : Stage g k h xs d f) → ForthBy g d.points p d.regions ts → n ≤ f.points → Later n ts f.regions → p ≤ q → q < n → Among q s.marks → ⊥
made_unmarked g k h xs d f p n ts q s t le later from to a = by (bounded_until g k h xs d f n ts s le later q a (let x = t.points in omega (arith, x, from)) to) where
  no : (m : ℕ) → 0 < (region_at ts m).points → (region_at ts m).points ≤ q → q < (region_at ts m).points + g.spans m
      → ((region_at ts m).points ≡ 0) ⊎ ((region_at ts m).points + g.spans m ≤ p) ⊎ (f.points ≤ (region_at ts m).points) → ⊥
  no m z l u (inl x) = absurd (omega (arith, z, x))
  no m z l u (inr (inl x)) = absurd (omega (arith, u, x, from))
  no m z l u (inr (inr x)) = absurd (omega (arith, l, x, to, le))

  by : IsReserved g k ts q → ⊥
  by (m, i, z, l, u) = no m z l u (free_from g k h xs d f p ts s t m i)

pub stage_first : (g : Whole) (k : ℕ) (h : Place) (xs ys : List Numbered) (d e f : Draft) → Stage g k h (xs ++ ys) d f → Grows (IsCalled (context_of g k) ys) e f → Stage g k h xs d e
stage_first g k h xs ys d e f s t = record {
  marks = s.marks;
  later = led ys ++ s.later;
  leads = leads_back g (IsCalled (context_of g k) ys) s.marks s.later (led ys) e f (led_called (context_of g k) ys) t s.leads;
  bounded = bounded_until g k h (xs ++ ys) d f e.points e.regions s t.points (later_of e.regions f.regions t.regions);
  free = free_until g k h (xs ++ ys) d f e.points s t.points;
  spans = λ z a. s.spans z (front_among xs ys z a);
  here = s.here;
  apart = λ m a b. by m a (among_either (led ys) s.later m b);
  distinct = distinct_front (led xs) (led ys) both;
  path = s.path;
  noted = λ z a. s.noted z (front_among xs ys z a);
} where
  led : List Numbered → List ℕ
  led = led_to (context_of g k)

  both : Distinct (led_to (context_of g k) xs ++ led_to (context_of g k) ys)
  both = subst Distinct (led_both (context_of g k) xs ys) s.distinct

  by : (m : ℕ) → Among m (led_to (context_of g k) xs) → Among m (led_to (context_of g k) ys) ⊎ Among m s.later → ⊥
  by m a (inl b) = distinct_between (led_to (context_of g k) xs) (led_to (context_of g k) ys) m both a b
  by m a (inr b) = s.apart m (subst (Among m) (sym (led_both (context_of g k) xs ys)) (among_front (led_to (context_of g k) xs) (led_to (context_of g k) ys) m a)) b

pub stage_second : (g : Whole) (k : ℕ) (h : Place) (xs ys : List Numbered) (d e f : Draft) → Stage g k h (xs ++ ys) d f → Grows (IsCalled (context_of g k) xs) d e → Stage g k h ys e f
stage_second g k h xs ys d e f s t = record {
  marks = s.marks;
  later = s.later;
  leads = s.leads;
  bounded = λ q a from to. s.bounded q a (let c = t.points in omega (arith, c, from)) to;
  free = free_from g k h (xs ++ ys) d f e.points e.regions s (forth_first g k h xs ys d f s t);
  spans = λ z a. s.spans z (back_among xs ys z a);
  here = subst (λ (l : Label). g.shows l k h) (sym t.here) s.here;
  apart = λ m a b. s.apart m (subst (Among m) (sym (led_both (context_of g k) xs ys)) (among_back (led_to (context_of g k) xs) (led_to (context_of g k) ys) m a)) b;
  distinct = distinct_back (led_to (context_of g k) xs) (led_to (context_of g k) ys) (subst Distinct (led_both (context_of g k) xs ys) s.distinct);
  path = s.path;
  noted = λ z a. s.noted z (back_among xs ys z a);
}

-- up to a draft behind which the first calls are made
pub stage_last : (g : Whole) (k : ℕ) (h : Place) (xs ys : List Numbered) (d e f : Draft) → Stage g k h (xs ++ ys) d f → Grows (IsCalled (context_of g k) xs) e f → Stage g k h ys d e
stage_last g k h xs ys d e f s t = record {
  marks = s.marks;
  later = led_to (context_of g k) xs ++ s.later;
  leads = leads_back g (IsCalled (context_of g k) xs) s.marks s.later (led_to (context_of g k) xs) e f (led_called (context_of g k) xs) t s.leads;
  bounded = bounded_until g k h (xs ++ ys) d f e.points e.regions s t.points (later_of e.regions f.regions t.regions);
  free = free_until g k h (xs ++ ys) d f e.points s t.points;
  spans = λ z a. s.spans z (back_among xs ys z a);
  here = s.here;
  apart = λ m a b. by m a (among_either (led_to (context_of g k) xs) s.later m b);
  distinct = distinct_back (led_to (context_of g k) xs) (led_to (context_of g k) ys) both;
  path = s.path;
  noted = λ z a. s.noted z (back_among xs ys z a);
} where
  both : Distinct (led_to (context_of g k) xs ++ led_to (context_of g k) ys)
  both = subst Distinct (led_both (context_of g k) xs ys) s.distinct

  by : (m : ℕ) → Among m (led_to (context_of g k) ys) → Among m (led_to (context_of g k) xs) ⊎ Among m s.later → ⊥
  by m a (inl b) = distinct_between (led_to (context_of g k) xs) (led_to (context_of g k) ys) m both b a
  by m a (inr b) = s.apart m (subst (Among m) (sym (led_both (context_of g k) xs ys)) (among_back (led_to (context_of g k) xs) (led_to (context_of g k) ys) m a)) b

-- the same calls, up to an earlier draft; and from a later one
pub stage_until : (g : Whole) (k : ℕ) (h : Place) (xs : List Numbered) (d e f : Draft) → Stage g k h xs d f → Grows Uncalled e f → Stage g k h xs d e
stage_until g k h xs d e f s t = record {
  marks = s.marks;
  later = s.later;
  leads = leads_back g Uncalled s.marks s.later [] e f (λ m z h. h) t s.leads;
  bounded = bounded_until g k h xs d f e.points e.regions s t.points (later_of e.regions f.regions t.regions);
  free = free_until g k h xs d f e.points s t.points;
  spans = s.spans;
  here = s.here;
  apart = s.apart;
  distinct = s.distinct;
  path = s.path;
  noted = s.noted;
}

pub stage_from : (g : Whole) (k : ℕ) (h : Place) (xs : List Numbered) (d e f : Draft) → Stage g k h xs d f → Grows Uncalled d e → Stage g k h xs e f
stage_from g k h xs d e f s t = record {
  marks = s.marks;
  later = s.later;
  leads = s.leads;
  bounded = λ q a from to. s.bounded q a (let c = t.points in omega (arith, c, from)) to;
  free = free_from g k h xs d f e.points e.regions s (forth_none g t);
  spans = s.spans;
  here = subst (λ (l : Label). g.shows l k h) (sym t.here) s.here;
  apart = s.apart;
  distinct = s.distinct;
  path = s.path;
  noted = s.noted;
}

-- a point that a stage made is at its place
same_label : {P : Type 0} {x y z : Label} → (P → ⊥) → ⊥ ⊎ (y ≡ x) → P ⊎ (z ≡ y) → z ≡ x
same_label n (inl h) b = absurd h
same_label n (inr a) (inl h) = absurd (n h)
same_label n (inr a) (inr b) = b ∙ a

-- an edge that a stage made, with its end
pub stage_edge : (g : Whole) (k : ℕ) (h : Place) (E : ℕ → Size → Type 0) (xs : List Numbered) (d e f : Draft) (i : Instr) → Stage g k h xs d f → Grows (IsCalled (context_of g k) xs) d e → Grows E (emit i e) f
    → Among (edge e.point i e.points) g.edges × ShowsAt g e.points k h
stage_edge g k h E xs d e f i s t u = (there, shown) where
  there : Among (edge e.point i e.points) g.edges
  there = s.leads.edges _ (u.edges _ (last_among e.edges (edge e.point i e.points)))

  no_mark : Among e.points s.marks → ⊥
  no_mark = made_unmarked g k h xs d f e.points (e.points + 1) e.regions e.points s (forth_all g k h xs d f s t) u.points (later_of e.regions f.regions u.regions) (omega arith) (omega arith)

  room : e.points < length e.labels
  room = let a = u.points in let b = s.leads.room in let c = u.size in let z = length-set e.labels e.points e.here in omega (arith, a, b, c, z)

  label : label_at g.labels e.points ≡ label_at (emit i e).labels e.points
  label = same_label no_mark (u.labels e.points (omega arith)) (s.leads.labels e.points (let a = u.points in omega (arith, a)))

  shown : ShowsAt g e.points k h
  shown = subst (λ (l : Label). g.shows l k h) (sym (label ∙ get_or-set_same e.labels e.points e.here no_label room ∙ t.here)) s.here

-- ---- points

-- a point that was made at the stage's place shows it
pub stage_point : (g : Whole) (k : ℕ) (h : Place) (E : ℕ → Size → Type 0) (xs : List Numbered) (d e f : Draft) (q : ℕ) → Stage g k h xs d f → d.regions ≡ e.regions → Grows E e f → d.points ≤ q → q < e.points → label_at e.labels q ≡ d.here → ShowsAt g q k h
stage_point g k h E xs d e f q s same u from to is = subst (λ (l : Label). g.shows l k h) (sym (label ∙ is)) s.here where
  no_mark : Among q s.marks → ⊥
  no_mark = made_unmarked g k h xs d f d.points e.points e.regions q s (subst (ForthBy g d.points d.points d.regions) same (forth_here g d.points d.regions)) u.points (later_of e.regions f.regions u.regions) from to

  label : label_at g.labels q ≡ label_at e.labels q
  label = same_label no_mark (u.labels q to) (s.leads.labels q (let a = u.points in omega (arith, a, to)))

-- there is room for the points of a stage
pub stage_room : (g : Whole) (k : ℕ) (h : Place) (C : ℕ → Size → Type 0) (xs : List Numbered) (d e f : Draft) → Stage g k h xs d f → Grows C e f → e.points ≤ length e.labels
stage_room g k h C xs d e f s u = let a = u.points in let b = s.leads.room in let c = u.size in omega (arith, a, b, c)

pub set_same : (ls : List Label) (q : ℕ) (l : Label) → q < length ls → label_at (slice_set ls q l) q ≡ l
set_same ls q l h = get_or-set_same ls q l no_label h

set_other : (ls : List Label) (q n : ℕ) (l : Label) → (n ≡ q → ⊥) → label_at (slice_set ls q l) n ≡ label_at ls n
set_other ls q n l h = get_or-set_other ls q n l no_label h

-- of one new point, of two and of three
pub fresh_one : (d : Draft) → d.points + 1 ≤ length d.labels → label_at (fresh 1 d).labels d.points ≡ d.here
fresh_one d r = set_same d.labels d.points d.here (omega (arith, r))

pub fresh_first : (d : Draft) → d.points + 2 ≤ length d.labels → label_at (fresh 2 d).labels d.points ≡ d.here
fresh_first d r =
    set_other (slice_set d.labels d.points d.here) (d.points + 1) d.points d.here (λ e. absurd (omega (arith, e))) ∙ set_same d.labels d.points d.here (omega (arith, r))

pub fresh_second : (d : Draft) → d.points + 2 ≤ length d.labels → label_at (fresh 2 d).labels (d.points + 1) ≡ d.here
fresh_second d r = set_same (slice_set d.labels d.points d.here) (d.points + 1) d.here (let z = length-set d.labels d.points d.here in omega (arith, r, z))

pub three_first : (d : Draft) → d.points + 3 ≤ length d.labels → label_at (fresh 3 d).labels d.points ≡ d.here
three_first d r =
    set_other _ (d.points + 1 + 1) d.points d.here (λ e. absurd (omega (arith, e)))
    ∙ set_other (slice_set d.labels d.points d.here) (d.points + 1) d.points d.here (λ e. absurd (omega (arith, e))) ∙ set_same d.labels d.points d.here (omega (arith, r))

pub three_second : (d : Draft) → d.points + 3 ≤ length d.labels → label_at (fresh 3 d).labels (d.points + 1) ≡ d.here
three_second d r =
    set_other _ (d.points + 1 + 1) (d.points + 1) d.here (λ e. absurd (omega (arith, e)))
    ∙ set_same (slice_set d.labels d.points d.here) (d.points + 1) d.here (let z = length-set d.labels d.points d.here in omega (arith, r, z))

pub three_third : (d : Draft) → d.points + 3 ≤ length d.labels → label_at (fresh 3 d).labels (d.points + 1 + 1) ≡ d.here
three_third d r =
    set_same (slice_set (slice_set d.labels d.points d.here) (d.points + 1) d.here) (d.points + 1 + 1) d.here
    (let y = length-set d.labels d.points d.here in let z = length-set (slice_set d.labels d.points d.here) (d.points + 1) d.here in omega (arith, r, y, z))

-- ---- stages of statements

marked : {A B : Type 0} {x y z : A} → B ⊎ (y ≡ x) → B ⊎ (z ≡ y) → B ⊎ (z ≡ x)
marked (inl h) b = inl h
marked (inr a) (inl h) = inl h
marked (inr a) (inr b) = inr (b ∙ a)

pub leads_behind : (g : Whole) (R : Label → Label → Type 0) (S : ℕ → Type 0) (C : ℕ → Size → Type 0) (marks later cs : List ℕ) (d e : Draft) → ((m : ℕ) (z : Size) → C m z → In cs m) → Keeps R (In marks) S C d e → Leads g marks later e → Leads g marks (cs ++ later) d
leads_behind g R S C marks later cs d e paths s l = record {
  edges = λ x h. l.edges x (s.edges x h);
  names = sym s.names ∙ l.names;
  room = let a = s.points in let b = l.room in let c = s.size in omega (arith, a, b, c);
  labels = λ q h. marked (s.labels q h) (l.labels q (let a = s.points in omega (arith, h, a)));
  regions = λ k. regional cs later k (λ t. paths k t.0 t.1) (s.regions k) (l.regions k);
  paths = sym s.paths ∙ l.paths;
  scopes = λ n z h. l.scopes n z (s.scopes n z h);
}

-- up to a draft behind which the later calls are made
abbrev pub part_first : {S : ℕ → Type 0} (g : Whole) (R : Label → Label → Type 0) (k : ℕ) (h : Place) (xs ys : List Numbered) (d e f : Draft) (s : Stage g k h (xs ++ ys) d f) → Keeps R (In s.marks) S (IsCalled (context_of g k) ys) e f → Stage g k h xs d e
part_first {S} g R k h xs ys d e f s t = record {
  marks = s.marks;
  later = led_to (context_of g k) ys ++ s.later;
  leads = leads_behind g R S (IsCalled (context_of g k) ys) s.marks s.later (led_to (context_of g k) ys) e f (led_called (context_of g k) ys) t s.leads;
  bounded = bounded_until g k h (xs ++ ys) d f e.points e.regions s t.points (later_of e.regions f.regions t.regions);
  free = free_until g k h (xs ++ ys) d f e.points s t.points;
  spans = λ z a. s.spans z (front_among xs ys z a);
  here = s.here;
  apart = λ m a b. by m a (among_either (led_to (context_of g k) ys) s.later m b);
  distinct = distinct_front (led_to (context_of g k) xs) (led_to (context_of g k) ys) both;
  path = s.path;
  noted = λ z a. s.noted z (front_among xs ys z a);
} where
  both : Distinct (led_to (context_of g k) xs ++ led_to (context_of g k) ys)
  both = subst Distinct (led_both (context_of g k) xs ys) s.distinct

  by : (m : ℕ) → Among m (led_to (context_of g k) xs) → Among m (led_to (context_of g k) ys) ⊎ Among m s.later → ⊥
  by m a (inl b) = distinct_between (led_to (context_of g k) xs) (led_to (context_of g k) ys) m both a b
  by m a (inr b) = s.apart m (subst (Among m) (sym (led_both (context_of g k) xs ys)) (among_front (led_to (context_of g k) xs) (led_to (context_of g k) ys) m a)) b

-- from a later draft, at a place of its own
abbrev pub part_second : (g : Whole) (k : ℕ) (h j : Place) (xs ys : List Numbered) (d e f : Draft) → Stage g k h (xs ++ ys) d f → Forth g d e → g.shows e.here k j → Stage g k j ys e f
part_second g k h j xs ys d e f s le here = record {
  marks = s.marks;
  later = s.later;
  leads = s.leads;
  bounded = λ q a from to. s.bounded q a (let c = le.points in omega (arith, c, from)) to;
  free = free_from g k h (xs ++ ys) d f e.points e.regions s le;
  spans = λ z a. s.spans z (back_among xs ys z a);
  here = here;
  apart = λ m a b. s.apart m (subst (Among m) (sym (led_both (context_of g k) xs ys)) (among_back (led_to (context_of g k) xs) (led_to (context_of g k) ys) m a)) b;
  distinct = distinct_back (led_to (context_of g k) xs) (led_to (context_of g k) ys) (subst Distinct (led_both (context_of g k) xs ys) s.distinct);
  path = s.path;
  noted = λ z a. s.noted z (back_among xs ys z a);
}

-- the same calls at a place of their own
abbrev pub stage_at : (g : Whole) (k : ℕ) (h j : Place) (xs : List Numbered) (d e f : Draft) → Stage g k h xs d f → Forth g d e → g.shows e.here k j → Stage g k j xs e f
stage_at g k h j xs d e f s le here = part_second g k h j [] xs d e f s le here

-- up to a draft behind which no calls are made
abbrev pub part_until : {S : ℕ → Type 0} (g : Whole) (R : Label → Label → Type 0) (k : ℕ) (h : Place) (xs : List Numbered) (d e f : Draft) (s : Stage g k h xs d f) → Keeps R (In s.marks) S Uncalled e f → Stage g k h xs d e
part_until {S} g R k h xs d e f s t = record {
  marks = s.marks;
  later = s.later;
  leads = leads_behind g R S Uncalled s.marks s.later [] e f (λ m z h. h) t s.leads;
  bounded = bounded_until g k h xs d f e.points e.regions s t.points (later_of e.regions f.regions t.regions);
  free = free_until g k h xs d f e.points s t.points;
  spans = s.spans;
  here = s.here;
  apart = s.apart;
  distinct = s.distinct;
  path = s.path;
  noted = s.noted;
}

unless : {A : Type 0} {x y z : Label} → (A → ⊥) → A ⊎ (y ≡ x) → A ⊎ (z ≡ y) → z ≡ x
unless no_mark (inl a) b = absurd (no_mark a)
unless no_mark (inr a) (inl b) = absurd (no_mark b)
unless no_mark (inr a) (inr b) = b ∙ a

-- a point that was made at a draft in the stage shows what its label does
pub part_point : {S : ℕ → Type 0} (g : Whole) (R : Label → Label → Type 0) (C : ℕ → Size → Type 0) (k : ℕ) (h j : Place) (xs : List Numbered) (d b e f : Draft) (q : ℕ) (l : Label) (s : Stage g k h xs d f) → Forth g d b → b.regions ≡ e.regions → Keeps R (In s.marks) S C e f → b.points ≤ q → q < e.points
    → label_at e.labels q ≡ l → g.shows l k j → ShowsAt g q k j
part_point g R C k h j xs d b e f q l s before same u from to is shows = subst (λ (m : Label). g.shows m k j) (sym (label ∙ is)) shows where
  no_mark : Among q s.marks → ⊥
  no_mark = made_unmarked g k h xs d f b.points e.points e.regions q s (subst (ForthBy g d.points b.points d.regions) same before) u.points (later_of e.regions f.regions u.regions) from to

  label : label_at g.labels q ≡ label_at e.labels q
  label = unless no_mark (u.labels q to) (s.leads.labels q (let a = u.points in omega (arith, a, to)))

pub part_room : {S : ℕ → Type 0} (g : Whole) (R : Label → Label → Type 0) (M : ℕ → Type 0) (C : ℕ → Size → Type 0) (k : ℕ) (h : Place) (xs : List Numbered) (d e f : Draft) → Stage g k h xs d f → Keeps R M S C e f → e.points ≤ length e.labels
part_room g R M C k h xs d e f s u = let a = u.points in let b = s.leads.room in let c = u.size in omega (arith, a, b, c)
