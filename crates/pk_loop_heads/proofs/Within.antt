-- The loops of a statement: each into which nothing jumps is entered where it begins again, by all that the statement's lowering adds.
use Rattle.std.proofs.Common.{◌≡◌, ℕ, ◌+◌, ◌<◌, ◌≤◌, ◌⊎◌, List, [], ◌∷◌, ◌++◌, length, Bool, true, false, if◌then◌else◌, refl, sym, ap, subst, inl, inr, arith}
use Rattle.std.specs.List.{Contains}
use Rattle.std.proofs.lemmas.List.Elements.{Contains-append_left, Contains-append_right}
use Rattle.pk_ctypes.specs.declared.places.Pos.{Pos}
use Rattle.pk_typed.specs.Trees.{StatementTree, ItemTrees}
use Rattle.pk_typed.specs.Trees as tree
use Rattle.pk_typed.specs.Types.{type_of}
use Rattle.pk_welltyped.specs.Listed.{calls_in, calls_if, calls_in_effect_if, calls_in_declared, calls_at_start, calls_in_statement, calls_in_items}
use Rattle.pk_welltyped.specs.WellTyped as WellTyped
use Rattle.pk_welltyped.specs.WellTyped.{Around, Marks, IsStatement, AreItems}
use Rattle.pk_welltyped.specs.Marks.{one_if, times, times_in}
use Rattle.pk_meaning.specs.Steps.{Mark, labelled, numbered, otherwise, is_label, is_case, is_default}
use Rattle.pk_graph.specs.Trees.{Skip}
use Rattle.pk_draft.specs.Drafts.{EdgeFrom, DraftOf, at, on, in_scope, fresh, go, come}
use Rattle.pk_draft.specs.Folding.{conversion}
use Rattle.pk_lower_row.specs.declared.shapes.Waiting.TheVariants.{Strong}
use Rattle.pk_lower_row.specs.Shapes.{converted_shape, shape_of}
use Rattle.pk_lower_row.specs.Contexts.{Context, site}
use Rattle.pk_lower_row.specs.Rows.{operand}
use Rattle.pk_lower_expression.specs.Expressions.{ways}
use Rattle.pk_lower_statement.specs.declared.statements.Exits.{Exits}
use Rattle.pk_lower_statement.specs.Statements.{performed_if, for_start, for_test, inside, in_switch, branching, loop_begun, tested, switch_begun, case_tests, declared, lowered, lowered_items}
use Rattle.pk_visits.specs.Turns.{TurnPoint, turning, turns_in, turns_in_items}
use Rattle.pk_visits.proofs.Grows.Statements.{label_once}
use Rattle.pk_edge_laws.specs.Jumps.{gotos, gotos_in, HasNoCase}
use Rattle.pk_edge_laws.specs.Edges.{IsNew, region_at, NoPoint, IsOneOf, GoesOn, AreSized, IsInLoop, IsPartOf, IsEnteredAt}
use Rattle.pk_edge_laws.proofs.Goes.{goes_then, one_edge}
use Rattle.pk_edge_laws.proofs.Rows.{goes_trans, held_goes}
use Rattle.pk_edge_laws.proofs.Expressions.{front_sized, back_sized, values}
use Rattle.pk_edge_laws.proofs.Statements.{New, away_goes, come_goes, declared_goes, performed_goes, test_splits, start_goes, ends_of, default_new, from_fresh, cases_go, AreEnds, AreNamed, statement_goes, items_of, Labels, loops_are_entered}
use Rattle.pk_loop_heads.specs.Loops.{HasLoop, HasLoopIn}
use Rattle.pk_loop_heads.proofs.Enters.{IsEntry, IsBeside, Turns, AreBelow, IsFree, turns_behind, turns_before, edge_behind, more_told}

-- ---- jumps and labels outside of a loop

-- of the labels before n that stand in the body b, so many gotos and labels stand in it at least
abbrev pub KeepsBy : (n : ℕ) → (b : StatementTree) → (g t : ℕ → ℕ) → Type 0
KeepsBy n b g t = (l : ℕ) → l < n → (times (labelled l) b ≡ 0 → ⊥) → (g l ≤ gotos l b) × (t l ≤ times (labelled l) b)

-- b has all gotos and labels of a statement, or of items, that are of its labels
abbrev pub Keeps : (n : ℕ) → (b s : StatementTree) → Type 0
Keeps n b s = KeepsBy n b (λ l. gotos l s) (λ l. times (labelled l) s)

abbrev pub KeepsAll : (n : ℕ) → (b : StatementTree) → ItemTrees → Type 0
KeepsAll n b is = KeepsBy n b (λ l. gotos_in l is) (λ l. times_in (labelled l) is)

-- here are none
abbrev IsAwayBy : (n : ℕ) → (b : StatementTree) → (g t : ℕ → ℕ) → Type 0
IsAwayBy n b g t = (l : ℕ) → l < n → (times (labelled l) b ≡ 0 → ⊥) → (g l ≡ 0) × (t l ≡ 0)

abbrev IsAway : (n : ℕ) → (b s : StatementTree) → Type 0
IsAway n b s = IsAwayBy n b (λ l. gotos l s) (λ l. times (labelled l) s)

abbrev AllAway : (n : ℕ) → (b : StatementTree) → ItemTrees → Type 0
AllAway n b is = IsAwayBy n b (λ l. gotos_in l is) (λ l. times_in (labelled l) is)

-- a loop's body has no more of them than what is around it
abbrev HasMore : (b : StatementTree) → (g t : ℕ → ℕ) → Type 0
HasMore b g t = (l : ℕ) → (gotos l b ≤ g l) × (times (labelled l) b ≤ t l)

abbrev Encloses : (b s : StatementTree) → Type 0
Encloses b s = HasMore b (λ l. gotos l s) (λ l. times (labelled l) s)

itself_more : (b s : StatementTree) → b ≡ s → Encloses b s
itself_more b s e l = subst (λ (t : StatementTree). (gotos l b ≤ gotos l t) × (times (labelled l) b ≤ times (labelled l) t)) e (omega arith, omega arith)

mutual
  unfolding gotos gotos_in times times_in HasLoop HasLoopIn

  more_around : (at : Pos) (b s : StatementTree) → HasLoop at b s → Encloses b s
  more_around at b (tree.block p is) h = more_among at b is h
  more_around at b (tree.empty p) h = absurd h
  more_around at b (tree.effect p v) h = absurd h
  more_around at b (tree.label p i s) h = λ l. let r = more_around at b s h l in let u = r.1 in (r.0, omega (arith, u))
  more_around at b (tree.case p i s) h = λ l. let r = more_around at b s h l in let u = r.1 in (r.0, omega (arith, u))
  more_around at b (tree.default p s) h = λ l. let r = more_around at b s h l in let u = r.1 in (r.0, omega (arith, u))
  more_around at b (tree.if_then p v s) h = more_around at b s h
  more_around at b (tree.if_else p v s w) (inl h) = λ l. let r = more_around at b s h l in let u = r.0 in let v = r.1 in (omega (arith, u), omega (arith, v))
  more_around at b (tree.if_else p v s w) (inr h) = λ l. let r = more_around at b w h l in let u = r.0 in let v = r.1 in (omega (arith, u), omega (arith, v))
  more_around at b (tree.switch p t v zs d s) h = more_around at b s h
  more_around at b (tree.while p v s) (inl h) = itself_more b s h.1
  more_around at b (tree.while p v s) (inr h) = more_around at b s h
  more_around at b (tree.do_while p s v) (inl h) = itself_more b s h.1
  more_around at b (tree.do_while p s v) (inr h) = more_around at b s h
  more_around at b (tree.for_loop p g v third s) (inl h) = itself_more b s h.1
  more_around at b (tree.for_loop p g v third s) (inr h) = more_around at b s h
  more_around at b (tree.goto p i) h = absurd h
  more_around at b (tree.continue p) h = absurd h
  more_around at b (tree.break p) h = absurd h
  more_around at b (tree.return p v) h = absurd h

  more_among : (at : Pos) (b : StatementTree) (is : ItemTrees) → HasLoopIn at b is → HasMore b (λ l. gotos_in l is) (λ l. times_in (labelled l) is)
  more_among at b tree.no_items h = absurd h
  more_among at b (tree.declared_before v is) h = more_among at b is h
  more_among at b (tree.statement_before s is) (inl h) = λ l. let r = more_around at b s h l in let u = r.0 in let v = r.1 in (omega (arith, u), omega (arith, v))
  more_among at b (tree.statement_before s is) (inr h) = λ l. let r = more_among at b is h l in let u = r.0 in let v = r.1 in (omega (arith, u), omega (arith, v))

-- of two parts that b keeps, around one of which it stands, the other is away
other_away : (n : ℕ) (b : StatementTree) (g t i j : ℕ → ℕ) → KeepsBy n b (λ l. g l + i l) (λ l. t l + j l) → HasMore b g t → IsAwayBy n b i j
other_away n b g t i j keeps more l less some =
    let k = keeps l less some in
    let r = more l in
    let u = k.0 in
    let v = k.1 in
    let w = r.0 in
    let y = r.1 in
    (omega (arith, u, w), omega (arith, v, y))

first_away : (n : ℕ) (b : StatementTree) (g t i j : ℕ → ℕ) → KeepsBy n b (λ l. g l + i l) (λ l. t l + j l) → HasMore b i j → IsAwayBy n b g t
first_away n b g t i j keeps more l less some =
    let k = keeps l less some in
    let r = more l in
    let u = k.0 in
    let v = k.1 in
    let w = r.0 in
    let y = r.1 in
    (omega (arith, u, w), omega (arith, v, y))

keep_first : (n : ℕ) (b : StatementTree) (g t i j : ℕ → ℕ) → KeepsBy n b (λ l. g l + i l) (λ l. t l + j l) → KeepsBy n b g t
keep_first n b g t i j keeps l less some = let k = keeps l less some in let u = k.0 in let v = k.1 in (omega (arith, u), omega (arith, v))

keep_other : (n : ℕ) (b : StatementTree) (g t i j : ℕ → ℕ) → KeepsBy n b (λ l. g l + i l) (λ l. t l + j l) → KeepsBy n b i j
keep_other n b g t i j keeps l less some = let k = keeps l less some in let u = k.0 in let v = k.1 in (omega (arith, u), omega (arith, v))

-- under a label, a case or a default
keep_marked : (n : ℕ) (b : StatementTree) (g t j : ℕ → ℕ) → KeepsBy n b g (λ l. t l + j l) → KeepsBy n b g j
keep_marked n b g t j keeps l less some = let k = keeps l less some in let v = k.1 in (k.0, omega (arith, v))

-- whose label it is
its_label : (m : Marks) (x : Exits) (b : StatementTree) (l : ℕ) → Labels m x b (x.labels + l) → times (labelled l) b ≡ 0 → ⊥
its_label m x b l (k, less, some, e) none = some (subst (λ (i : ℕ). times (labelled i) b ≡ 0) (omega (arith, e)) none)

-- a label around a loop that b keeps is none of b's
label_free : (m : Marks) (x : Exits) (b s : StatementTree) (i : ℕ) (g : ℕ → ℕ) → i < m.labels → KeepsBy m.labels b g (λ l. one_if (is_label (labelled l) i) + times (labelled l) s) → Encloses b s → Labels m x b (x.labels + i) → ⊥
label_free m x b s i g less keeps more at =
    let k = keeps i less (its_label m x b i at) in
    let r = more i in
    let u = k.1 in
    let v = r.1 in
    let one = label_once i (times (labelled i) s) in
    absurd (omega (arith, u, v, one))

-- ---- exits and marks that were made before

abbrev pub IsLow : ℕ → ℕ → Type 0
IsLow n x = x < n

-- labels too, and of these K are a loop's
pub record AreLow (K : ℕ → Type 0) (m : Marks) (x : Exits) (n : ℕ) : Type 0 where
  pub below : AreBelow K n
  pub broken : IsFree K n x.broken
  pub continued : IsFree K n x.continued
  pub left : IsFree K n x.left
  pub labels : (l : ℕ) → l < m.labels → x.labels + l < n
  pub cases : (i : ℕ) → i < m.cases → IsFree K n (x.cases + i)
  pub default : m.has_default ≡ true → IsFree K n x.otherwise

below_more : {K : ℕ → Type 0} {n k : ℕ} → n ≤ k → AreBelow K n → AreBelow K k
below_more less b x h = let u = b x h in omega (arith, u, less)

free_more : (K : ℕ → Type 0) {n k : ℕ} (x : ℕ) → n ≤ k → IsFree K n x → IsFree K k x
free_more K x less h = let u = h.0 in (omega (arith, u, less), h.1)

-- a point that is made later
new_free : {K : ℕ → Type 0} {n k : ℕ} (x : ℕ) → AreBelow K n → n ≤ x → x < k → IsFree K k x
new_free x b low high = (high, λ h. let u = b x h in absurd (omega (arith, u, low)))

low_more : {K : ℕ → Type 0} (m : Marks) (x : Exits) (n k : ℕ) → n ≤ k → AreLow K m x n → AreLow K m x k
low_more {K} m x n k less a = record {
  below = below_more less a.below;
  broken = free_more K x.broken less a.broken;
  continued = free_more K x.continued less a.continued;
  left = free_more K x.left less a.left;
  labels = λ l h. let u = a.labels l h in omega (arith, u, less);
  cases = λ i h. free_more K (x.cases + i) less (a.cases i h);
  default = λ h. free_more K x.otherwise less (a.default h);
}

low_inside : {K : ℕ → Type 0} (m : Marks) (x : Exits) (n k i j : ℕ) → n ≤ k → IsFree K k i → IsFree K k j → AreLow K m x n → AreLow K m (inside i j x) k
low_inside m x n k i j less p q a =
    let b = low_more m x n k less a in
    record { below = b.below; broken = p; continued = q; left = b.left; labels = b.labels; cases = b.cases; default = b.default }

low_switch : {K : ℕ → Type 0} (m : Marks) (x : Exits) (n k e c : ℕ) (b : Bool) → n ≤ e → e + (1 + c + (if b then 1 else 0)) ≤ k → AreLow K m x n → AreLow K (WellTyped.in_switch c b m) (in_switch e c x) k
low_switch {K} m x n k e c b less room a =
    let g = low_more m x n k (omega (arith, less, room)) a in
    record {
      below = g.below;
      broken = new_free e a.below less (omega (arith, room));
      continued = g.continued;
      left = g.left;
      labels = g.labels;
      cases = λ i h. new_free (e + 1 + i) a.below (omega (arith, less)) (omega (arith, room, h));
      default = λ h. new_free (e + 1 + c) a.below (omega (arith, less)) (with_default b h room);
    }
  where
    with_default : (b : Bool) → b ≡ true → e + (1 + c + (if b then 1 else 0)) ≤ k → e + 1 + c < k
    with_default true h room = omega (arith, room)
    with_default false h room = absurd (cc h)

-- beside the loop no goto leads to its labels
low_ends : (m : Marks) (x : Exits) (b : StatementTree) (n : ℕ) (g t : ℕ → ℕ) → AreLow (Labels m x b) m x n → IsAwayBy m.labels b g t → AreEnds (IsFree (Labels m x b) n) m x g
low_ends m x b n g t a away = record {
  broken = a.broken;
  continued = a.continued;
  left = a.left;
  labels = λ l h some. (a.labels l h, λ k. some (away l h (its_label m x b l k)).0);
}

-- and none of them stands there
low_named : (m : Marks) (x : Exits) (b : StatementTree) (n : ℕ) (g : ℕ → ℕ) (t : Mark → ℕ) → AreLow (Labels m x b) m x n → IsAwayBy m.labels b g (λ l. t (labelled l)) → AreNamed (IsLow n) (IsFree (Labels m x b) n) x m t
low_named m x b n g t a away (labelled l) is some = (a.labels l is, (a.labels l is, λ k. some (away l is (its_label m x b l k)).1))
low_named m x b n g t a away (numbered i) is some = ((a.cases i is).0, a.cases i is)
low_named m x b n g t a away otherwise is some = ((a.default is).0, a.default is)

-- what a statement beside a loop makes then
made : (V : Type 0) (z : ℕ → ℕ) (c : Context) (a : Around) (m : Marks) (b s : StatementTree) (x : Exits) (n : ℕ) (d : DraftOf V) → IsStatement a m s → AreSized z c (calls_in_statement s) → AreLow (Labels m x b) m x n → IsAway m.labels b s → GoesOn z (IsLow n) (IsFree (Labels m x b) n) d (lowered c s x d)
made V z c a m b s x n d f called low away =
    statement_goes V z (IsLow n) (IsFree (Labels m x b) n) c a m s x d f called (low_ends m x b n (λ l. gotos l s) (λ l. times (labelled l) s) low away) (low_named m x b n (λ l. gotos l s) (λ q. times q s) low away)

made_all : (V : Type 0) (z : ℕ → ℕ) (c : Context) (a : Around) (m : Marks) (b : StatementTree) (is : ItemTrees) (x : Exits) (n : ℕ) (d : DraftOf V) → AreItems a m is → AreSized z c (calls_in_items is) → AreLow (Labels m x b) m x n → AllAway m.labels b is → GoesOn z (IsLow n) (IsFree (Labels m x b) n) d (lowered_items c is x d)
made_all V z c a m b is x n d f called low away =
    items_of V z (IsLow n) (IsFree (Labels m x b) n) c a m is x d f called (low_ends m x b n (λ l. gotos_in l is) (λ l. times_in (labelled l) is) low away) (low_named m x b n (λ l. gotos_in l is) (λ q. times_in q is) low away)

-- ---- forms around a loop

abbrev Within : {V : Type 0} → (z : ℕ → ℕ) → (K : ℕ → Type 0) → Pos → DraftOf V → DraftOf V → List TurnPoint → Type 0
Within z K p d e us = Turns z K p d.points d.edges d.regions e.points e.edges e.regions us

same_told : (us : List TurnPoint) (t : TurnPoint) → Contains us t → Contains us t
same_told us t h = h

later_told : (u : TurnPoint) (us : List TurnPoint) (t : TurnPoint) → Contains us t → Contains (u ∷ us) t
later_told u us t h = Contains-append_right (u ∷ []) us t h

first_told : (p q : Pos) (n : ℕ) (us : List TurnPoint) → p ≡ q → Contains (turning q n ∷ us) (turning p n)
first_told p q n us e = (0, omega arith, ap (λ (r : Pos). turning r n) (sym e))

no_named : (K : ℕ → Type 0) (n : ℕ) (x : ℕ) → NoPoint x → IsFree K n x
no_named K n x h = absurd h

one_of : {K : ℕ → Type 0} {m : ℕ} (p q n : ℕ) → AreBelow K m → m ≤ p → m ≤ q → p < n → q < n → (x : ℕ) → IsOneOf p q x → IsFree K n x
one_of {K} p q n b i j k l x (inl e) = subst (IsFree K n) (sym e) (new_free p b i k)
one_of {K} p q n b i j k l x (inr e) = subst (IsFree K n) (sym e) (new_free q b j l)

-- a loop that is begun
begun : {V : Type 0} (z : ℕ → ℕ) (K : ℕ → Type 0) (p : Pos) (d e : DraftOf V) (us vs : List TurnPoint) → AreBelow K d.points → ((t : TurnPoint) → Contains us t → Contains vs t) → Within z K p (loop_begun d) e us → Within z K p d e vs
begun z K p d e us vs below more t =
    turns_behind {N = λ x. x ≡ d.points} below (omega arith) (omega arith) (λ x e. subst (IsFree K (d.points + 3)) (sym e) (new_free d.points below (omega arith) (omega arith))) more
    (one_edge z NoPoint (λ x. x ≡ d.points) d.point (d.points + 3) (d.points + 3) Skip d.points d.edges d.regions (omega arith) (inl refl)) t

-- the loop itself
itself : {V : Type 0} (z : ℕ → ℕ) (K : ℕ → Type 0) (p q : Pos) (d e : DraftOf V) (s h : ℕ) (us : List TurnPoint) → AreBelow K d.points → p ≡ q → IsEnteredAt z K d e s h → Within z K p d e (turning q h ∷ us)
itself {V} z K p q d e s h us below same a = record {
  head = h;
  last = e.points;
  from = s;
  told = first_told p q h us same;
  low = a.behind;
  some = a.before;
  high = omega arith;
  enters = record {
    edges = λ f c. elim (a.edges f c) [ inl i ↦ inl i | inr i ↦ inr (edge f i) ];
    regions = λ j. elim (a.regions j) [ inl i ↦ inl i | inr i ↦ inr (region j i) ];
  };
} where
  S : ℕ → Type 0
  S = IsInLoop K h e.points

  before : (x : ℕ) → d.points ≤ x → x < h → S x → ⊥
  before x i j (inl k) = let u = below x k in absurd (omega (arith, u, i))
  before x i j (inr k) = let u = k.0 in absurd (omega (arith, u, j))

  edge : (f : EdgeFrom V) → (f.to ≡ 0) ⊎ (S f.from ⊎ (((f.from ≡ s) × (f.to ≡ h)) ⊎ IsNew d.points h f.to)) → IsEntry S s h f
  edge f (inl i) = inl i
  edge f (inr (inl i)) = inr (inl i)
  edge f (inr (inr (inl i))) = inr (inr (λ k. i))
  edge f (inr (inr (inr i))) = inr (inr (λ k. absurd (before f.to i.0 i.1 k)))

  region : (j : ℕ) → IsPartOf K d.points h e.points (z j) (region_at e.regions j) → IsBeside S (z j) (region_at e.regions j)
  region j (inl i) = inl (λ x n. let u = i.0 in let v = i.1 in let w = n.0 in let y = n.1 in before x (omega (arith, u, w)) (omega (arith, v, y)))
  region j (inr i) = inr (i.0, λ x n. let u = i.1 in let v = i.2 in let w = n.0 in let y = n.1 in inr (omega (arith, u, w), omega (arith, v, y)))

-- whose body is s
whose : {V : Type 0} (z : ℕ → ℕ) (m : Marks) (x : Exits) (b s : StatementTree) (p q : Pos) (d e : DraftOf V) (r h : ℕ) (us : List TurnPoint) → AreBelow (Labels m x b) d.points → HasNoCase b → (p ≡ q) × (b ≡ s) → (HasNoCase s → IsEnteredAt z (Labels m x s) d e r h)
    → Within z (Labels m x b) p d e (turning q h ∷ us)
whose z m x b s p q d e r h us below none is a =
    subst (λ (t : StatementTree). Within z (Labels m x t) p d e (turning q h ∷ us)) (sym is.1)
    (itself z (Labels m x s) p q d e r h us (subst (λ (t : StatementTree). AreBelow (Labels m x t) d.points) is.1 below) is.0 (a (subst HasNoCase is.1 none)))

-- ---- statements

mutual
  unfolding lowered lowered_items IsStatement AreItems calls_in_statement calls_in_items times times_in gotos gotos_in turns_in turns_in_items HasLoop HasLoopIn

  pub loop_within : (V : Type 0) (z : ℕ → ℕ) (l : Pos) (b : StatementTree) (c : Context) (a : Around) (m : Marks) (s : StatementTree) (x : Exits) (d : DraftOf V) → HasNoCase b → IsStatement a m s → AreSized z c (calls_in_statement s) → AreLow (Labels m x b) m x d.points → Keeps m.labels b s → HasLoop l b s
      → Within z (Labels m x b) l d (lowered c s x d) (turns_in c s x d)
  loop_within V z l b c a m (tree.block p is) x d none f called low keeps has = loop_among V z l b c a m is x d none f called low keeps has
  loop_within V z l b c a m (tree.empty p) x d none f called low keeps has = absurd has
  loop_within V z l b c a m (tree.effect p v) x d none f called low keeps has = absurd has
  loop_within V z l b c a m (tree.label p i s) x d none f called low keeps has =
      let n = d.points in
      let K = Labels m x b in
      let q = x.labels + i in
      let at = low.labels i f.0 in
      let free = label_free m x b s i (λ k. gotos k s) f.0 keeps (more_around l b s has) in
      turns_behind {K = K} {N = IsFree K n} low.below (omega arith) (omega arith) (λ y k. k) (same_told _) (come_goes {z = z} (IsLow n) (IsFree K n) q (on p d) at (at, free)).splits
      (loop_within V z l b c a m s x (come q (on p d)) none f.1 called low (keep_marked m.labels b (λ k. gotos k s) (λ k. one_if (is_label (labelled k) i)) (λ k. times (labelled k) s) keeps) has)
  loop_within V z l b c a m (tree.case p i s) x d none f called low keeps has =
      let n = d.points in
      let K = Labels m x b in
      let q = x.cases + i in
      let at = low.cases i f.0 in
      turns_behind {K = K} {N = IsFree K n} low.below (omega arith) (omega arith) (λ y k. k) (same_told _) (come_goes {z = z} (IsLow n) (IsFree K n) q (on p d) at.0 at).splits
      (loop_within V z l b c a m s x (come q (on p d)) none f.1 called low (keep_marked m.labels b (λ k. gotos k s) (λ k. one_if (is_case (labelled k) i)) (λ k. times (labelled k) s) keeps) has)
  loop_within V z l b c a m (tree.default p s) x d none f called low keeps has =
      let n = d.points in
      let K = Labels m x b in
      let at = low.default f.0 in
      turns_behind {K = K} {N = IsFree K n} low.below (omega arith) (omega arith) (λ y k. k) (same_told _) (come_goes {z = z} (IsLow n) (IsFree K n) x.otherwise (on p d) at.0 at).splits
      (loop_within V z l b c a m s x (come x.otherwise (on p d)) none f.1 called low (keep_marked m.labels b (λ k. gotos k s) (λ k. one_if (is_default (labelled k))) (λ k. times (labelled k) s) keeps) has)
  loop_within V z l b c a m (tree.if_then p v s) x d none f called low keeps has =
      let n = d.points in
      let K = Labels m x b in
      let split = (values V z c v (front_sized z c (calls_in v) (calls_in_statement s) called)).choice n (n + 1) (fresh 2 (on p d)) in
      let r = branching p (ways c v) d in
      let i = split.points in
      let e = lowered c s x r in
      let lows = low_more m x n r.points (omega (arith, i)) low in
      let t = loop_within V z l b c a m s x r none f.1 (back_sized z c (calls_in v) (calls_in_statement s) called) lows keeps has in
      turns_behind {K = K} {N = IsOneOf n (n + 1)} low.below (omega arith) (omega (arith, i)) (one_of n (n + 1) r.points low.below (omega arith) (omega arith) (omega (arith, i)) (omega (arith, i))) (same_told _) split
      (edge_behind (e.points + 1) (n + 1) Skip e.points lows.below (inr (omega arith)) (omega arith) (edge_behind e.points e.point Skip e.points lows.below (inr (omega arith)) (omega arith) t))
  loop_within V z l b c a m (tree.if_else p v s w) x d none f called low keeps has =
      let n = d.points in
      let K = Labels m x b in
      let k1 = front_sized z c (calls_in v ++ calls_in_statement s) (calls_in_statement w) called in
      let split = (values V z c v (front_sized z c (calls_in v) (calls_in_statement s) k1)).choice n (n + 1) (fresh 2 (on p d)) in
      let r = branching p (ways c v) d in
      let i = split.points in
      let y = lowered c s x r in
      let g = at (n + 1) y in
      let e = lowered c w x g in
      let lows = low_more m x n r.points (omega (arith, i)) low in
      let gs = λ (k : ℕ). gotos k s in
      let ts = λ (k : ℕ). times (labelled k) s in
      let gw = λ (k : ℕ). gotos k w in
      let tw = λ (k : ℕ). times (labelled k) w in
      let inner : Within z K l r e (turns_in c s x r ++ turns_in c w x g) = elim has [
        | inl here ↦ (let second = made V z c _ m b w x r.points g f.2 (back_sized z c (calls_in v ++ calls_in_statement s) (calls_in_statement w) called) lows (other_away m.labels b gs ts gw tw keeps (more_around l b s here)) in
            turns_before {K = K} {N = IsFree K r.points} lows.below (λ y u. inl u) (omega arith) second.splits
            (more_told (λ t h. Contains-append_left (turns_in c s x r) (turns_in c w x g) t h) (loop_within V z l b c a m s x r none f.1 (back_sized z c (calls_in v) (calls_in_statement s) k1) lows (keep_first m.labels b gs ts gw tw keeps) here)))
        | inr here ↦ (let first = made V z c a m b s x r.points r f.1 (back_sized z c (calls_in v) (calls_in_statement s) k1) lows (first_away m.labels b gs ts gw tw keeps (more_around l b w here)) in
            let j = first.splits.points in
            turns_behind {K = K} {N = IsFree K r.points} lows.below (omega arith) j (λ y u. free_more K y j u) (λ t h. Contains-append_right (turns_in c s x r) (turns_in c w x g) t h) first.splits
            (loop_within V z l b c _ m w x g none f.2 (back_sized z c (calls_in v ++ calls_in_statement s) (calls_in_statement w) called) (low_more m x n y.points (omega (arith, i, j)) low) (keep_other m.labels b gs ts gw tw keeps) here))
      ] in
      turns_behind {K = K} {N = IsOneOf n (n + 1)} low.below (omega arith) (omega (arith, i)) (one_of n (n + 1) r.points low.below (omega arith) (omega arith) (omega (arith, i)) (omega (arith, i))) (same_told _) split
      (edge_behind (e.points + 1) e.point Skip e.points lows.below (inr (omega arith)) (omega arith) (edge_behind e.points y.point Skip e.points lows.below (inr (omega arith)) (omega arith) inner))
  loop_within V z l b c a m (tree.switch p t v zs q s) x d none f called low keeps has =
      let o = on p d in
      let K = Labels m x b in
      let r = (ways c v).value o in
      let k = tested t (operand v (ways c v)) o in
      let n = k.1.points in
      let N = New NoPoint n (ends_of zs q) in
      let valued = goes_trans ((values V z c v (front_sized z c (calls_in v) (calls_in_statement s) called)).value o) (held_goes Strong (converted_shape (type_of v) t (shape_of v)) t (conversion (type_of v) t r.0, r.1)) in
      let i = valued.splits.points in
      let u = switch_begun (site c p) t zs q k in
      let g = fresh (ends_of zs q) k.1 in
      let tests = cases_go {z = z} N N (site c p) t k.0 zs (n + 1) g (λ j h. inr (omega arith, omega (arith, h))) in
      let to = if q then n + 1 + length zs else n in
      let go_away = away_goes {z = z} N N to (case_tests (site c p) t k.0 zs (n + 1) g) (inr (default_new n (length zs) q)) in
      let start = from_fresh {z = z} N N (ends_of zs q) k.1 u (goes_then tests go_away).splits in
      let j = start.points in
      let below : AreBelow K n = below_more i low.below in
      let under : AreBelow K u.points = below_more (omega (arith, j)) below in
      let inner = loop_within V z l b c a (WellTyped.in_switch (length zs) q m) s (in_switch n (length zs) x) u none f.2 (back_sized z c (calls_in v) (calls_in_statement s) called) (low_switch m x d.points u.points n (length zs) q i j low) keeps has in
      let e = lowered c s (in_switch n (length zs) x) u in
      turns_behind {K = K} {N = NoPoint} low.below (omega arith) i (no_named K n) (same_told _) valued.splits
      (turns_behind {K = K} {N = N} below (omega arith) (omega (arith, j)) (λ y h. elim h [ inl never ↦ absurd never | inr q ↦ (let w = q.1 in new_free y below q.0 (omega (arith, w, j))) ]) (same_told _) start
      (edge_behind e.points e.point Skip n under (inl (new_free n below (omega arith) (omega (arith, j)))) (omega arith) inner))
  loop_within V z l b c a m (tree.while p v s) x d none f called low keeps has =
      let n = d.points in
      let K = Labels m x b in
      let o = on p d in
      let d1 = loop_begun o in
      let split = (values V z c v (front_sized z c (calls_in v) (calls_in_statement s) called)).choice (n + 1) (n + 2) d1 in
      let r = at (n + 1) ((ways c v).choice (n + 1) (n + 2) d1) in
      let i = split.points in
      let y = inside (n + 2) n x in
      let e = lowered c s y r in
      let us = turns_in c s y r in
      let free : (k : ℕ) → n ≤ k → k < r.points → IsFree K r.points k = λ k g h. new_free k low.below g h in
      elim has [
        | inl here ↦ whose z m x b s l p d (lowered c (tree.while p v s) x d) d.point n us low.below none here (λ own. (loops_are_entered {V = V}).while z c a m p v s x d f called own)
        | inr here ↦ begun z K l o (lowered c (tree.while p v s) x d) us (turning p n ∷ us) low.below (later_told (turning p n) us)
            (turns_behind {K = K} {N = IsOneOf (n + 1) (n + 2)} (below_more (omega arith) low.below) (omega arith) i (one_of (n + 1) (n + 2) r.points low.below (omega arith) (omega arith) (omega (arith, i)) (omega (arith, i))) (same_told us) split
            (edge_behind e.points e.point Skip n (below_more (omega (arith, i)) low.below) (inl (free n (omega arith) (omega (arith, i)))) (omega arith)
            (loop_within V z l b c a m s y r none f.1 (back_sized z c (calls_in v) (calls_in_statement s) called) (low_inside m x n r.points (n + 2) n (omega (arith, i)) (free (n + 2) (omega arith) (omega (arith, i))) (free n (omega arith) (omega (arith, i))) low) keeps here)))
      ]
  loop_within V z l b c a m (tree.do_while p s v) x d none f called low keeps has =
      let n = d.points in
      let K = Labels m x b in
      let o = on p d in
      let r = at n (loop_begun o) in
      let y = inside (n + 2) (n + 1) x in
      let e = lowered c s y r in
      let w = on p (go Skip (n + 1) e) in
      let split = (values V z c v (back_sized z c (calls_in_statement s) (calls_in v) called)).choice n (n + 2) w in
      let us = turns_in c s y r in
      let below : AreBelow K (n + 3) = below_more (omega arith) low.below in
      let free : (k : ℕ) → n ≤ k → k < n + 3 → IsFree K (n + 3) k = λ k g h. new_free k low.below g h in
      elim has [
        | inl here ↦ whose z m x b s l p d (lowered c (tree.do_while p s v) x d) d.point n us low.below none here (λ own. (loops_are_entered {V = V}).do_while z c a m p s v x d f called own)
        | inr here ↦ begun z K l o (lowered c (tree.do_while p s v) x d) us (turning p n ∷ us) low.below (later_told (turning p n) us)
            (turns_before {K = K} {N = IsOneOf n (n + 2)} below (λ q h. inl (one_of n (n + 2) (n + 3) low.below (omega arith) (omega arith) (omega arith) (omega arith) q h)) (omega arith) split
            (edge_behind e.points e.point Skip (n + 1) below (inl (free (n + 1) (omega arith) (omega arith))) (omega arith)
            (loop_within V z l b c a m s y r none f.0 (front_sized z c (calls_in_statement s) (calls_in v) called) (low_inside m x n (n + 3) (n + 2) (n + 1) (omega arith) (free (n + 2) (omega arith) (omega arith)) (free (n + 1) (omega arith) (omega arith)) low) keeps here)))
      ]
  loop_within V z l b c a m (tree.for_loop p g v third s) x d none f called low keeps has =
      let n = d.points in
      let K = Labels m x b in
      let o = on p d in
      let k1 = front_sized z c (calls_at_start g ++ calls_if v ++ calls_in_effect_if third) (calls_in_statement s) called in
      let k2 = front_sized z c (calls_at_start g ++ calls_if v) (calls_in_effect_if third) k1 in
      let start = start_goes z c g (front_sized z c (calls_at_start g) (calls_if v) k2) (fresh 1 o) in
      let h = on p (for_start c g (fresh 1 o)) in
      let q = h.points in
      let k = start.splits.points in
      let d1 = loop_begun h in
      let split = test_splits z c v (back_sized z c (calls_at_start g) (calls_if v) k2) (q + 1) n d1 in
      let r = at (q + 1) (for_test c v (q + 1) n d1) in
      let i = split.points in
      let y = inside n (q + 2) x in
      let e = lowered c s y r in
      let w = in_scope d1.here.scope (on p (go Skip (q + 2) e)) in
      let more = performed_goes z c third (back_sized z c (calls_at_start g ++ calls_if v) (calls_in_effect_if third) k1) w in
      let t = performed_if c third w in
      let us = turns_in c s y r in
      let under : AreBelow K q = below_more (omega (arith, k)) low.below in
      let below : AreBelow K r.points = below_more (omega (arith, i)) under in
      let free : (k : ℕ) → n ≤ k → k < r.points → IsFree K r.points k = λ k g h. new_free k low.below g h in
      elim has [
        | inl here ↦ whose z m x b s l p d (lowered c (tree.for_loop p g v third s) x d) h.point q us low.below none here (λ own. (loops_are_entered {V = V}).for_loop z c a m p g v third s x d f called own)
        | inr here ↦ turns_behind {K = K} {N = NoPoint} low.below (omega arith) (omega (arith, k)) (no_named K q) (same_told (turning p q ∷ us)) start.splits
            (begun z K l h (lowered c (tree.for_loop p g v third s) x d) us (turning p q ∷ us) under (later_told (turning p q) us)
            (turns_behind {K = K} {N = IsOneOf (q + 1) n} (below_more (omega arith) under) (omega arith) i (one_of (q + 1) n r.points low.below (omega (arith, k)) (omega arith) (omega (arith, i)) (omega (arith, i, k))) (same_told us) split
            (edge_behind t.points t.point Skip q below (inl (free q (omega (arith, k)) (omega (arith, i)))) (omega arith)
            (turns_before {K = K} {N = NoPoint} below (λ u none. absurd none) (omega arith) more.splits
            (edge_behind e.points e.point Skip (q + 2) below (inl (free (q + 2) (omega (arith, k)) (omega (arith, i)))) (omega arith)
            (loop_within V z l b c _ m s y r none f.3 (back_sized z c (calls_at_start g ++ calls_if v ++ calls_in_effect_if third) (calls_in_statement s) called) (low_inside m x n r.points n (q + 2) (omega (arith, i, k)) (free n (omega arith) (omega (arith, i, k))) (free (q + 2) (omega (arith, k)) (omega (arith, i))) low) keeps here))))))
      ]
  loop_within V z l b c a m (tree.goto p i) x d none f called low keeps has = absurd has
  loop_within V z l b c a m (tree.continue p) x d none f called low keeps has = absurd has
  loop_within V z l b c a m (tree.break p) x d none f called low keeps has = absurd has
  loop_within V z l b c a m (tree.return p v) x d none f called low keeps has = absurd has

  pub loop_among : (V : Type 0) (z : ℕ → ℕ) (l : Pos) (b : StatementTree) (c : Context) (a : Around) (m : Marks) (is : ItemTrees) (x : Exits) (d : DraftOf V) → HasNoCase b → AreItems a m is → AreSized z c (calls_in_items is) → AreLow (Labels m x b) m x d.points → KeepsAll m.labels b is → HasLoopIn l b is
      → Within z (Labels m x b) l d (lowered_items c is x d) (turns_in_items c is x d)
  loop_among V z l b c a m tree.no_items x d none f called low keeps has = absurd has
  loop_among V z l b c a m (tree.declared_before v is) x d none f called low keeps has =
      let n = d.points in
      let K = Labels m x b in
      let e = declared c v d in
      let first = declared_goes z c v d (front_sized z c (calls_in_declared v) (calls_in_items is) called) in
      let i = first.splits.points in
      turns_behind {K = K} {N = NoPoint} low.below (omega arith) i (no_named K e.points) (same_told _) first.splits
      (loop_among V z l b c _ m is x e none f.1 (back_sized z c (calls_in_declared v) (calls_in_items is) called) (low_more m x n e.points i low) keeps has)
  loop_among V z l b c a m (tree.statement_before s is) x d none f called low keeps has =
      let n = d.points in
      let K = Labels m x b in
      let e = lowered c s x d in
      let gs = λ (k : ℕ). gotos k s in
      let ts = λ (k : ℕ). times (labelled k) s in
      let gi = λ (k : ℕ). gotos_in k is in
      let ti = λ (k : ℕ). times_in (labelled k) is in
      elim has [
        | inl here ↦ (let rest = made_all V z c _ m b is x n e f.1 (back_sized z c (calls_in_statement s) (calls_in_items is) called) low (other_away m.labels b gs ts gi ti keeps (more_around l b s here)) in
            turns_before {K = K} {N = IsFree K n} low.below (λ y u. inl u) (omega arith) rest.splits
            (more_told (λ t h. Contains-append_left (turns_in c s x d) (turns_in_items c is x e) t h) (loop_within V z l b c a m s x d none f.0 (front_sized z c (calls_in_statement s) (calls_in_items is) called) low (keep_first m.labels b gs ts gi ti keeps) here)))
        | inr here ↦ (let first = made V z c a m b s x n d f.0 (front_sized z c (calls_in_statement s) (calls_in_items is) called) low (first_away m.labels b gs ts gi ti keeps (more_among l b is here)) in
            let i = first.splits.points in
            turns_behind {K = K} {N = IsFree K n} low.below (omega arith) i (λ y u. free_more K y i u) (λ t h. Contains-append_right (turns_in c s x d) (turns_in_items c is x e) t h) first.splits
            (loop_among V z l b c _ m is x e none f.1 (back_sized z c (calls_in_statement s) (calls_in_items is) called) (low_more m x n e.points i low) (keep_other m.labels b gs ts gi ti keeps) here))
      ]
