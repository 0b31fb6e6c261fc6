-- The way to a mark in a statement that is laid is laid.
use Rattle.std.proofs.Common.{◌≡◌, ℕ, ◌+◌, ◌<◌, List, ◌∷◌, Bool, true, false, if◌then◌else◌, refl, sym, ap, ◌∙◌, subst, arith, eqb-true, ℤ}
use Rattle.pk_ctypes.specs.declared.types.IntType.{IntType}
use Rattle.pk_typed.specs.Trees.{StatementTree, ItemTrees}
use Rattle.pk_typed.specs.Trees as tree
use Rattle.pk_lower_statement.specs.declared.statements.Exits.{Exits}
use Rattle.pk_lower_statement.specs.Statements.{inside, in_switch, declared}
use Rattle.pk_welltyped.specs.Marks.{one_if, times, times_in}
use Rattle.pk_meaning.specs.Objects.{Scope}
use Rattle.pk_meaning.specs.Programs.{block_of, with_declared, body_scope}
use Rattle.pk_meaning.specs.Work as work
use Rattle.pk_meaning.specs.Work.{Place, Ahead, Way, Onward}
use Rattle.pk_meaning.specs.Steps as meaning
use Rattle.pk_meaning.specs.Steps.{Mark, labelled, numbered, otherwise, is_label, is_case, is_default, place, found, found_in, caller_of}
use Rattle.pk_visits.proofs.Stands.{Whole, Proper, context_of, Held, LaidWay, LaidAhead, Laid}
use Rattle.pk_visits.proofs.Settled.Trees.{mark_point}
use Rattle.pk_visits.proofs.Grows.Statements.{point_inside}
use Rattle.pk_visits.proofs.Doom.{calm_plain}
use Rattle.pk_visits.proofs.Steps.Statements.{block_laid, next_laid}
use Rattle.pk_visits.proofs.Steps.Branches.{if_else_laid, if_then_laid}
use Rattle.pk_visits.proofs.Steps.Marked.{ComesTo, label_laid, case_laid, default_laid}
use Rattle.pk_visits.proofs.Steps.Rounds.{while_round, do_round}
use Rattle.pk_visits.proofs.Steps.Starts.{for_round}
use Rattle.pk_visits.proofs.Switches.{choose_body, switch_body}
use Rattle.pk_visits.proofs.Steps.Declared.{rest_declared}

label_point : (m : Mark) (l : ℕ) (x : Exits) → is_label m l ≡ true → x.labels + l ≡ mark_point m x
label_point (labelled n) l x is = ap (λ i. x.labels + i) (sym (eqb-true n l is))
label_point (numbered i) l x is = absurd (grind (arith, is))
label_point otherwise l x is = absurd (grind (arith, is))

case_point : (m : Mark) (i : ℕ) (x : Exits) → is_case m i ≡ true → x.cases + i ≡ mark_point m x
case_point (labelled l) i x is = absurd (grind (arith, is))
case_point (numbered n) i x is = ap (λ j. x.cases + j) (sym (eqb-true n i is))
case_point otherwise i x is = absurd (grind (arith, is))

default_point : (m : Mark) (x : Exits) → is_default m ≡ true → x.otherwise ≡ mark_point m x
default_point (labelled l) x is = absurd (grind (arith, is))
default_point (numbered i) x is = absurd (grind (arith, is))
default_point otherwise x is = refl

none_here : (b : Bool) (n : ℕ) → b ≡ false → n ≡ 0 → one_if b + n ≡ 0
none_here true n e z = absurd (cc e)
none_here false n e z = omega (arith, z)

-- a mark, where it is what is looked for
either_way : (g : Whole) (k : ℕ) (h : Place) (x : Exits) (s : StatementTree) (a : Ahead) (p q t : ℕ) (hs : List Held) (b : Bool) (w : Way) → ComesTo g k h x (work.Do s a) p q hs → (b ≡ true → q ≡ t) → (b ≡ false → LaidWay g k w t hs)
    → LaidWay g k (if b then Onward h (work.Do s a) else w) t hs
either_way g k h x s a p q t hs true w y at' l = subst (λ i. LaidWay g k (Onward h (work.Do s a)) i hs) (at' refl) (y.1, (x, y.2))
either_way g k h x s a p q t hs false w y at' l = l refl

mutual
  unfolding times times_in

  pub found_laid : (s : StatementTree) (g : Whole) (proper : Proper g) (k : ℕ) (m : Mark) (h : Place) (x : Exits) (a : Ahead) (p t : ℕ) (hs : List Held) (o : Way) → mark_point m x ≡ t → Laid g k h x (work.Do s a) p hs → (times m s ≡ 0 → LaidWay g k o t hs)
      → LaidWay g k (found g.program k m h.scope s a o) t hs
  found_laid (tree.block q is) g proper k m h x a p t hs o at' l w = found_in_laid is g proper k m h x h.scope a p t hs o at' (block_laid g k h x q is a p hs l) w
  found_laid (tree.empty q) g proper k m h x a p t hs o at' l w = w refl
  found_laid (tree.effect q e) g proper k m h x a p t hs o at' l w = w refl
  found_laid (tree.label q i s) g proper k m h x a p t hs o at' l w =
      let j = place q h.scope in
      let y = label_laid g proper k h x q i s a p hs l in
      either_way g k j x s a p (x.labels + i) t hs (is_label m i) (found g.program k m h.scope s a o) y (λ e. label_point m i x e ∙ at') (λ e. found_laid s g proper k m j x a (x.labels + i) t hs o at' y.2 (λ z. w (none_here (is_label m i) (times m s) e z)))
  found_laid (tree.case q i s) g proper k m h x a p t hs o at' l w =
      let j = place q h.scope in
      let y = case_laid g proper k h x q i s a p hs l in
      either_way g k j x s a p (x.cases + i) t hs (is_case m i) (found g.program k m h.scope s a o) y (λ e. case_point m i x e ∙ at') (λ e. found_laid s g proper k m j x a (x.cases + i) t hs o at' y.2 (λ z. w (none_here (is_case m i) (times m s) e z)))
  found_laid (tree.default q s) g proper k m h x a p t hs o at' l w =
      let j = place q h.scope in
      let y = default_laid g proper k h x q s a p hs l in
      either_way g k j x s a p x.otherwise t hs (is_default m) (found g.program k m h.scope s a o) y (λ e. default_point m x e ∙ at') (λ e. found_laid s g proper k m j x a x.otherwise t hs o at' y.2 (λ z. w (none_here (is_default m) (times m s) e z)))
  found_laid (tree.if_then q e s) g proper k m h x a p t hs o at' l w =
      let j = place q h.scope in
      let y = if_then_laid g proper k h x q e s a p hs l in found_laid s g proper k m j x (work.Join j a) y.2 t hs o at' y.9 w
  found_laid (tree.if_else q e s r) g proper k m h x a p t hs o at' l w =
      let j = place q h.scope in
      let y = if_else_laid g proper k h x q e s r a p hs l in
      found_laid s g proper k m j x (work.Join j a) y.2 t hs (found g.program k m h.scope r (work.Join j a) o) at' y.9 (λ z. found_laid r g proper k m j x (work.Join j a) y.3 t hs o at' y.11 (λ u. w (omega (arith, z, u))))
  found_laid (tree.switch q u e zs b s) g proper k (labelled n) h x a p t hs o at' l w =
      let j = place q h.scope in
      let y = switch_body g proper k h x q u e zs b s a p hs l in found_laid s g proper k (labelled n) j (in_switch y.0 y.1 x) (work.Close j a) y.2 t hs o at' y.3 w
  found_laid (tree.switch q u e zs b s) g proper k (numbered i) h x a p t hs o at' l w = w refl
  found_laid (tree.switch q u e zs b s) g proper k otherwise h x a p t hs o at' l w = w refl
  found_laid (tree.while q e s) g proper k m h x a p t hs o at' l w =
      let j = place q h.scope in
      let y = while_round g proper k h x q e s a p hs l in
      found_laid s g proper k m j (inside y.0 y.1 x) (work.Again j (work.While e s) j a) y.2 t hs o (point_inside m y.0 y.1 x ∙ at') y.3 w
  found_laid (tree.do_while q s e) g proper k m h x a p t hs o at' l w =
      let j = place q h.scope in
      let y = do_round g proper k h x q s e a p hs l in
      found_laid s g proper k m j (inside y.0 y.1 x) (work.Again j (work.DoWhile s e) j a) y.2 t hs o (point_inside m y.0 y.1 x ∙ at') y.3 w
  found_laid (tree.for_loop q start e third s) g proper k m h x a p t hs o at' l w =
      let j = place q (meaning.for_scope g.program k start h.scope) in
      let y = for_round g proper k h x q start e third s a p hs l in
      found_laid s g proper k m j (inside y.0 y.1 x) (work.Again j (work.For e third s) (place q h.scope) a) y.2 t hs o (point_inside m y.0 y.1 x ∙ at') y.3 w
  found_laid (tree.goto q i) g proper k m h x a p t hs o at' l w = w refl
  found_laid (tree.continue q) g proper k m h x a p t hs o at' l w = w refl
  found_laid (tree.break q) g proper k m h x a p t hs o at' l w = w refl
  found_laid (tree.return q e) g proper k m h x a p t hs o at' l w = w refl

  pub found_in_laid : (is : ItemTrees) (g : Whole) (proper : Proper g) (k : ℕ) (m : Mark) (h : Place) (x : Exits) (xs : Scope) (a : Ahead) (p t : ℕ) (hs : List Held) (o : Way) → mark_point m x ≡ t → Laid g k h x (work.Go (work.Rest xs is a)) p hs
      → (times_in m is ≡ 0 → LaidWay g k o t hs) → LaidWay g k (found_in g.program k m xs is a o) t hs
  found_in_laid tree.no_items g proper k m h x xs a p t hs o at' l w = w refl
  found_in_laid (tree.declared_before v is) g proper k m h x xs a p t hs o at' (plain, (d, n, mark, is', fits, calm, st, marking, settled, l)) w =
      found_in_laid is g proper k m h x (with_declared g.program k v xs) a (declared (context_of g k) v d).point t hs o at' (rest_declared g proper k h x xs v is a hs d n mark fits calm st marking settled l).2 w
  found_in_laid (tree.statement_before s is) g proper k m h x xs a p t hs o at' l w =
      let j = place h.at xs in
      let y = next_laid g proper k h x xs s is a p hs h.at l in
      found_laid s g proper k m j x (work.Rest xs is a) p t hs (found_in g.program k m xs is a o) at' y (λ z. found_in_laid is g proper k m h x xs a _ t hs o at' (l.0, y.9) (λ u. w (omega (arith, z, u))))

-- ---- labels of the function

-- the function's items, from any place among them
body_laid : (g : Whole) (k : ℕ) (h : Place) (x : Exits) (a : Ahead) (p : ℕ) (hs : List Held) → LaidAhead g k x a p hs
    → (y : Exits) × (q : ℕ) × (y.labels ≡ x.labels) × Laid g k h y (work.Go (work.Rest (body_scope g.program k) (block_of g.program k).items (work.End (caller_of a)))) q hs
body_laid g k h x (work.Rest xs is a) p hs (d, n, m, is', fits, calm, s, marking, settled, l) = body_laid g k h x a _ hs l
body_laid g k h x (work.Join j a) p hs (q, there, shown, l) = body_laid g k h x a q hs l
body_laid g k h x (work.Again j loop e a) p hs (y, b, there, shown, same, loops, cont, behind, l) =
    let r = body_laid g k h y a x.broken hs l in (r.0, r.1, r.2 ∙ sym (ap (λ (z : Exits). z.labels) same), r.3)
body_laid g k h x (work.Close j a) p hs (y, there, shown, same, l) =
    let r = body_laid g k h y a x.broken hs l in (r.0, r.1, r.2 ∙ sym (ap (λ (z : Exits). z.labels) same), r.3)
body_laid g k h x (work.End c) p hs (ended, body, caller, bare) = (
  x,
  body.draft.point,
  refl,
  (calm_plain body.draft.variables hs body.calm, (body.draft, body.objects, body.mark, refl, body.fits, body.calm, body.stage, body.marking, body.settled, (body.ended, body, caller, bare))),
)

pub gone_laid : (g : Whole) (proper : Proper g) (k : ℕ) (h : Place) (x : Exits) (n : ℕ) (a : Ahead) (p : ℕ) (hs : List Held) → times_in (labelled n) (block_of g.program k).items ≡ 1 → LaidAhead g k x a p hs → LaidWay g k (meaning.gone_to g.program k n a) (x.labels + n) hs
gone_laid g proper k h x n a p hs once l =
    let r = body_laid g k h x a p hs l in
    found_in_laid (block_of g.program k).items g proper k (labelled n) h r.0 (body_scope g.program k) (work.End (caller_of a)) r.1 (x.labels + n) hs work.Lost (ap (λ i. i + n) r.2) r.3 (λ z. absurd (omega (arith, z, once)))

-- ---- cases and the default of a switch

-- a case of a switch, by its number; its default
pub case_found : (g : Whole) (proper : Proper g) (k : ℕ) (h j : Place) (x : Exits) (t : IntType) (zs : List ℤ) (i n : ℕ) (b : Bool) (s : StatementTree) (a : Ahead) (p : ℕ) (v : Held) (hs : List Held)
    → (l : Laid g k h x (work.Choose t zs i b s j a) p (v ∷ hs)) → n < l.4 → LaidWay g k (found g.program k (numbered n) j.scope s (work.Close j a) work.Lost) (l.5 + 1 + n) hs
case_found g proper k h j x t zs i n b s a p v hs l low =
    let y = choose_body g proper k h j x t zs i b s a p v hs l in found_laid s g proper k (numbered n) j (in_switch l.5 l.4 x) (work.Close j a) y.0 (l.5 + 1 + n) hs work.Lost refl y.1 (λ z. absurd (omega (arith, z, l.16.each n low)))

pub default_found : (g : Whole) (proper : Proper g) (k : ℕ) (h j : Place) (x : Exits) (t : IntType) (zs : List ℤ) (i : ℕ) (s : StatementTree) (a : Ahead) (p : ℕ) (v : Held) (hs : List Held)
    → (l : Laid g k h x (work.Choose t zs i true s j a) p (v ∷ hs)) → LaidWay g k (found g.program k otherwise j.scope s (work.Close j a) work.Lost) (l.5 + 1 + l.4) hs
default_found g proper k h j x t zs i s a p v hs l =
    let y = choose_body g proper k h j x t zs i true s a p v hs l in found_laid s g proper k otherwise j (in_switch l.5 l.4 x) (work.Close j a) y.0 (l.5 + 1 + l.4) hs work.Lost refl y.1 (λ z. absurd (omega (arith, z, l.16.default)))
